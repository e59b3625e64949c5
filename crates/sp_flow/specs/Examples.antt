-- Units of one instruction that break a rule on flow, and twins that keep all rules.
use Rattle.std.specs.Prelude.{ℕ, false, List, [], ◌∷◌, codes}
use Rattle.std.specs.FinMap as maps
use Rattle.sp_base.specs.declared.location.Loc.TheVariants as loc
use Rattle.sp_base.specs.declared.locs.Locs.{Locs}
use Rattle.sp_base.specs.Locs.{none, only}
use Rattle.sp_flow.specs.declared.refusal.FlowKind.TheVariants as kind
use Rattle.sp_flow.specs.declared.refusal.Spot.TheVariants as spot
use Rattle.sp_flow.specs.Flow.{IsBroken, IsFlowing, IsRefusedAt}
use Rattle.sp_isa.specs.declared.instr.Instr.{Instr}
use Rattle.sp_isa.specs.declared.instr.Instr.TheVariants.{Lhld, Sta, Cmc, In}
use Rattle.sp_prog.specs.declared.area.Area.{Area}
use Rattle.sp_prog.specs.declared.area.AreaKind.TheVariants as area
use Rattle.sp_prog.specs.declared.routine.Lists.{Lists}
use Rattle.sp_prog.specs.declared.routine.Routine.{Routine}
use Rattle.sp_prog.specs.Program.{Program, program}

abbrev pub lists : Locs → List ℕ → Lists
lists locs places = record { locs = locs; areas = places }

-- one instruction on line 6, with these locations and areas in `reads` and these ports in `ins`
abbrev pub routine : Instr → Locs → List ℕ → List ℕ → Routine
routine i locs places ports = record {
  name = codes "LOAD";
  line = record { 0 = 2 };
  start = false;
  pre = [];
  post = [];
  reads = lists locs places;
  changes = lists none [];
  ins = ports;
  outs = [];
  depth = 0;
  code = record { line = record { 0 = 6 }; addr = 0; instr = i; asserts = [] } ∷ [];
}

-- an area at 2000H
abbrev pub cells : ℕ → Area
cells len = record { name = codes "CELLS"; kind = area.Bytes; addr = 0x2000; len = len }

abbrev pub unit : Instr → ℕ → Locs → List ℕ → List ℕ → Program
unit i len locs places ports = program maps.empty 0x2300 0x23FF (cells len ∷ []) (routine i locs places ports ∷ [])

-- CMC uses CY, which nothing sets, unless CY is in `reads`; LHLD reads two cells; IN takes from its port
pub record FlowsByExample : Type 0 where
  pub carry : IsBroken (unit Cmc 1 none [] []) 6 (kind.Uses (spot.Loc loc.Cy))
  pub carry_listed : IsFlowing (unit Cmc 1 (only loc.Cy) [] [])
  pub second_cell : IsBroken (unit (Lhld 0x2000) 1 none (0 ∷ []) []) 6 (kind.Uses (spot.Cell 0x2001))
  pub both_cells : IsFlowing (unit (Lhld 0x2000) 2 none (0 ∷ []) [])
  pub area_not_listed : IsBroken (unit (Lhld 0x2000) 2 none [] []) 6 (kind.Uses (spot.Cell 0x2000))
  pub port : IsBroken (unit (In 5) 1 none [] (4 ∷ [])) 6 (kind.Port 5)
  pub port_listed : IsFlowing (unit (In 5) 1 none [] (5 ∷ []))

-- STA of a cell that isn't listed: A counts before the cell, where A isn't in `reads`
pub record KindsComeInOrder : Type 0 where
  pub uses : IsRefusedAt (unit (Sta 0x2000) 1 none [] []) 6 (kind.Uses (spot.Loc loc.A))
  pub writes : IsRefusedAt (unit (Sta 0x2000) 1 (only loc.A) [] []) 6 (kind.Writes 0x2000)
