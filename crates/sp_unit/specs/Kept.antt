-- What each unit of a source keeps.
use Rattle.std.specs.Prelude.{List}
use Rattle.sp_base.specs.Image.{IsInMemory}
use Rattle.sp_asm.specs.declared.listing.Listing.{Listing}
use Rattle.sp_note.specs.declared.part.NoteLine.{NoteLine}
use Rattle.sp_prog.specs.Program.{Program}
use Rattle.sp_prog.specs.Rules.{IsUnit}
use Rattle.sp_unit.specs.Origin.{AreOfOneSource, IsJoined}

-- the unit of a listing and of annotation lines of one source keeps the rules of units
abbrev pub UnitsOfSourcesKeepTheRules : Type 0
UnitsOfSourcesKeepTheRules = (listing : Listing) (notes : List NoteLine) (p : Program) → AreOfOneSource listing notes → IsInMemory listing.image → IsJoined listing notes p → IsUnit p
