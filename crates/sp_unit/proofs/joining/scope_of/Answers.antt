use Rattle.std.proofs.Common.{List, sym, ap}
use Rattle.sp_note.specs.declared.part.NoteLine.{NoteLine}
use Rattle.sp_note.specs.Parts.{lines_of}
use Rattle.sp_unit.specs.Sources.{source}
use Rattle.sp_unit.proofs.joining.scope_of.Goals as goal

pub returns : goal.returns
returns c = record {
  known = record {
    areas = λ name. sym (c.in_ok-areas_of.ensures name);
    stack = sym (c.stack_region.ensures c.args.listing.now.image);
  };
  source = ap (λ (n : List NoteLine). source c.args.listing.now.image c.args.listing.now.names.entries (lines_of n)) c.as_slice-notes.ensures;
}
