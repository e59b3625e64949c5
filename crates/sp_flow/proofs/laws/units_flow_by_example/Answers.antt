use Rattle.sp_flow.proofs.ExampleLemmas.{carry, carry_listed, second_cell, both_cells, area_not_listed, port, port_listed}
use Rattle.sp_flow.proofs.laws.units_flow_by_example.Goals as goal

pub returns : goal.returns
returns c = record {
  carry = carry;
  carry_listed = carry_listed;
  second_cell = second_cell;
  both_cells = both_cells;
  area_not_listed = area_not_listed;
  port = port;
  port_listed = port_listed;
}
