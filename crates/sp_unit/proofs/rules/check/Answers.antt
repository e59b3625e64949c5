use Rattle.std.proofs.Common.{◌≡◌, List, is_some, sym, ap, subst, ◌∙◌, Err}
use Rattle.sp_base.specs.Refused.{Answers, at_line}
use Rattle.sp_note.specs.Parts.{lines_of}
use Rattle.sp_note.specs.declared.part.NoteLine.{NoteLine}
use Rattle.sp_unit.specs.declared.refusal.UnitKind.TheVariants.{NoStack}
use Rattle.sp_unit.specs.Faults.{AreRight, IsFirstFault, stack_line}
use Rattle.sp_unit.specs.Lines.{Entry, merged}
use Rattle.sp_unit.specs.Sources.{source}
use Rattle.sp_unit.specs.code.Entries.{entries_of}
use Rattle.sp_unit.proofs.CauseLemmas.{answered, is_complete, without_stack}
use Rattle.sp_unit.proofs.rules.check.Goals as goal

pub returns-then-not-has_stack-clause-right : goal.returns-then-not-has_stack-clause-right
returns-then-not-has_stack-clause-right c =
    let image = c.args.listing.now.image in
    let names = c.args.listing.now.names.entries in
    without_stack (source image names (lines_of c.args.notes.now)) (merged c.args.listing.now.items (lines_of c.args.notes.now))
    (sym (ap (λ (n : List NoteLine). is_some (stack_line (source image names (lines_of n)))) c.as_slice-notes.ensures) ∙ sym (c.has_stack.ensures image) ∙ c.if-not-has_stack.true)

pub returns-then-not-has_stack-clause-complete : goal.returns-then-not-has_stack-clause-complete
returns-then-not-has_stack-clause-complete c =
    let image = c.args.listing.now.image in
    let names = c.args.listing.now.names.entries in
    let s = source image names (lines_of c.args.notes.now) in
    let lines = merged c.args.listing.now.items (lines_of c.args.notes.now) in
    is_complete s lines (Err (at_line 0 NoStack))
    (without_stack s lines
    (sym (ap (λ (n : List NoteLine). is_some (stack_line (source image names (lines_of n)))) c.as_slice-notes.ensures) ∙ sym (c.has_stack.ensures image) ∙ c.if-not-has_stack.true))

pub first_fault-requires : goal.first_fault-requires
first_fault-requires c = record {
  areas = λ name. sym (c.in_ok-areas_of.ensures name);
  stack = sym (c.stack_region.ensures c.args.listing.now.image);
}

pub returns-clause-right : goal.returns-clause-right
returns-clause-right c =
    let image = c.args.listing.now.image in
    let names = c.args.listing.now.names.entries in
    let s = source image names (lines_of c.args.notes.now) in
    let lines = merged c.args.listing.now.items (lines_of c.args.notes.now) in
    let same = c.as_slice-notes.ensures in
    let whole : entries_of c.deref.result.now ≡ lines =
    ap entries_of c.deref.ensures.value ∙ c.in_ok-lines.ensures
    ∙ ap (λ i. merged i (lines_of c.as_slice-notes.result.now)) c.as_slice.ensures ∙ ap (λ (n : List NoteLine). merged c.args.listing.now.items (lines_of n)) same in
    answered s lines
    (sym (ap (λ (n : List NoteLine). is_some (stack_line (source image names (lines_of n)))) same) ∙ sym (c.has_stack.ensures image) ∙ c.if-not-has_stack.false)
    c.first_fault.result
    (subst (λ (n : List NoteLine). Answers (λ _. AreRight (source image names (lines_of n)) lines) (IsFirstFault (source image names (lines_of n)) lines) c.first_fault.result) same
    (subst (λ (l : List Entry). Answers (λ _. AreRight (source image names (lines_of c.as_slice-notes.result.now)) l) (IsFirstFault (source image names (lines_of c.as_slice-notes.result.now)) l) c.first_fault.result) whole
    c.first_fault.ensures))

pub returns-clause-complete : goal.returns-clause-complete
returns-clause-complete c =
    is_complete (source c.args.listing.now.image c.args.listing.now.names.entries (lines_of c.args.notes.now)) (merged c.args.listing.now.items (lines_of c.args.notes.now))
    c.first_fault.result (returns-clause-right c)
