-- Areas that have cells.
use Rattle.std.specs.Prelude.{◌≤◌, ◌+◌}
use Rattle.sp_prog.specs.declared.area.Area.{Area}

-- an area has a cell, and ends in memory
pub record HasCells (area : Area) : Type 0 where
  pub some : 1 ≤ area.len
  pub within : area.addr + area.len ≤ 65536
