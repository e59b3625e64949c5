use Rattle.std.proofs.Common.{rules, ◌≡◌, ◌+◌, suc, arith, ◌++◌, ◌∷◌, [], List, sym, ap, subst, ◌∙◌, take}
use Rattle.std.specs.List.{list_all}
use Rattle.sp_note.specs.declared.part.Listed.{Listed}
use Rattle.sp_unit.specs.Lines.{Entry}
use Rattle.sp_unit.specs.SourceUnits.{named_in}
use Rattle.sp_unit.specs.code.Building.{IsMentioned, IsPlacedLine, is_placed}
use Rattle.sp_unit.specs.code.Entries.{entry_of, entries_of}
use Rattle.sp_unit.specs.code.Sounds.{listed_by}
use Rattle.sp_unit.proofs.CheckLemmas.{take_next, take_all}
use Rattle.sp_unit.proofs.SoundLemmas.{each_read, named_append}
use Rattle.sp_unit.proofs.ListedLemmas.{mentioned_none, listed_all}
use Rattle.sp_unit.proofs.lists.lists.Goals as goal

pub loop-e-init : goal.loop-e-init
loop-e-init c areas places = mentioned_none areas _ (search rules) (search rules) (λ name. search rules)

pub with_items-requires : goal.with_items-requires
with_items-requires c =
    ap (list_all (is_placed c.args.places.now.entries)) c.listed_at.ensures
    ∙ each_read entry_of (IsPlacedLine c.args.places.now.entries c.args.access) c.args.lines.now c.loop-e.e-index c.e-item.result c.loop-e-test.true c.e-item.is c.requires

pub loop-e-preserved : goal.loop-e-preserved
loop-e-preserved c areas places =
    let named = listed_by c.args.access in
    let lines = c.args.lines.now in
    let i = c.loop-e.e-index in
    let next : i + 1 ≡ suc i = omega arith in
    let more : named_in named (entries_of (take (i + 1) lines)) ≡ named_in named (entries_of (take i lines)) ++ named_in named (entry_of c.e-item.result ∷ []) =
    ap (λ (l : List Entry). named_in named l) (take_next entry_of lines i (i + 1) c.e-item.result next c.loop-e-test.true c.e-item.is)
    ∙ named_append named (entries_of (take i lines)) (entry_of c.e-item.result ∷ []) in
    subst (λ (l : List Listed). IsMentioned areas l c.in_ok-all.all) (ap (λ l. named_in named (entries_of (take i lines)) ++ l) c.listed_at.ensures ∙ sym more)
    (c.in_ok-all.ensures areas (named_in named (entries_of (take i lines))) places (c.loop-e.invariant areas places))

pub returns : goal.returns
returns c areas places =
    listed_all areas (named_in (listed_by c.args.access) (entries_of c.args.lines.now)) c.loop-e.all _
    (subst (λ (l : List Entry). IsMentioned areas (named_in (listed_by c.args.access) l) c.loop-e.all) (take_all entry_of c.args.lines.now c.loop-e.e-index c.loop-e-test.false) (c.loop-e.invariant areas places))
    (search rules) (search rules)
