-- The bytes of an image that are put into memory by rising address.
use Rattle.std.proofs.Common.{◌≡◌, ◌≢◌, ℕ, ◌+◌, ◌%◌, ◌<◌, length, set, get_or, refl, sym, ap, ◌∙◌, inl, inr, Option, List, Some, None, arith}
use Rattle.std.proofs.Math.ListN.{length-set}
use Rattle.std.proofs.lemmas.Bool.{cases_lt, cases_eq}
use Rattle.std.proofs.lemmas.List.{get_or-set_other, ext_get_or}
use Rattle.std.proofs.lemmas.Grind.{get_or-set_at}
use Rattle.std.specs.FinMap as maps
use Rattle.sp_base.specs.Image.{ImageMap, NextByte, NoByteFrom}
use Rattle.sp_isa.specs.Core.{Core, cell, with_cell}
use Rattle.sp_hex.specs.Load.{IsLoaded}
use Rattle.sp_base.proofs.FindLaws.{some_is_not_none}
use Rattle.sp_hex.proofs.RowLaws.{some_is}

-- the image's bytes below an address are loaded, and no others
pub record IsLoadedBelow (image : ImageMap) (from : ℕ) (old new : Core) : Type 0 where
  pub there : (a byte : ℕ) → a < from → maps.get image a ≡ Some byte → cell a new ≡ byte
  pub kept : (a : ℕ) → a < 65536 → (a < from → maps.get image a ≡ None) → cell a new ≡ cell a old
  pub same_length : length new.cells ≡ length old.cells
  pub others : new ≡ record old { cells = new.cells }

pub nothing_below : (image : ImageMap) (old : Core) → IsLoadedBelow image 0 old old
nothing_below image old = record {
  there = λ a byte lt got. absurd (omega arith);
  kept = λ a lt none. refl;
  same_length = refl;
  others = refl;
}

cell_here : (a byte : ℕ) (core : Core) → a < 65536 → length core.cells ≡ 65536 → cell a (with_cell a byte core) ≡ byte
unfolding with_cell
cell_here a byte core low len = get_or-set_at core.cells (a % 65536) (a % 65536) byte 0 refl (omega arith)

cell_other : (a at byte : ℕ) (core : Core) → a < 65536 → at < 65536 → a ≢ at → cell a (with_cell at byte core) ≡ cell a core
unfolding with_cell
cell_other a at byte core low at_low ne =
    let apart : a % 65536 ≢ at % 65536 = λ e. ne (omega arith) in
    get_or-set_other core.cells (at % 65536) (a % 65536) byte 0 apart

length_with : (at byte : ℕ) (core : Core) → length (with_cell at byte core).cells ≡ length core.cells
unfolding with_cell
length_with at byte core = length-set core.cells (at % 65536) byte

others_with : (at byte : ℕ) (old new : Core) → new ≡ record old { cells = new.cells } → with_cell at byte new ≡ record old { cells = (with_cell at byte new).cells }
unfolding with_cell
others_with at byte old new others = ap (λ (core : Core). record core { cells = set new.cells (at % 65536) byte }) others

pub one_more_loaded : (image : ImageMap) (from : ℕ) (next : ℕ × ℕ) (old new : Core) → NextByte image from next → next.0 < 65536 → length old.cells ≡ 65536
    → IsLoadedBelow image from old new → IsLoadedBelow image (next.0 + 1) old (with_cell next.0 next.1 new)
one_more_loaded image from next old new h low len below = record {
  there = λ a byte lt got. elim (cases_eq a next.0) [
    | inl same ↦
        ap (λ k. cell k (with_cell next.0 next.1 new)) same
        ∙ cell_here next.0 next.1 new low (below.same_length ∙ len)
        ∙ some_is (sym h.there ∙ ap (maps.get image) (sym same) ∙ got)
    | inr ne ↦ elim (cases_lt a from) [
      | inl before ↦ cell_other a next.0 next.1 new (omega arith) low ne ∙ below.there a byte before got
      | inr from_there ↦ absurd (some_is_not_none byte _ got (h.least a from_there (omega arith)))
    ]
  ];
  kept = λ a lt none. elim (cases_eq a next.0) [
    | inl same ↦ absurd (some_is_not_none next.1 _ h.there (ap (maps.get image) (sym same) ∙ none (omega arith)))
    | inr ne ↦ cell_other a next.0 next.1 new lt low ne ∙ below.kept a lt (λ before. none (omega (arith, h.from_there)))
  ];
  same_length = length_with next.0 next.1 new ∙ below.same_length;
  others = others_with next.0 next.1 old new below.others;
}

pub all_loaded : (image : ImageMap) (from : ℕ) (old new : Core) → NoByteFrom image from → IsLoadedBelow image from old new → IsLoaded image old new
all_loaded image from old new none below = record {
  there = λ a byte got. elim (cases_lt a from) [
    | inl before ↦ below.there a byte before got
    | inr from_there ↦ absurd (some_is_not_none byte _ got (none a from_there))
  ];
  kept = λ a lt empty. below.kept a lt (λ before. empty);
  same_length = below.same_length;
  others = below.others;
}

-- ---- One core alone

cell_at : (a : ℕ) (core : Core) → a < 65536 → get_or core.cells a 0 ≡ cell a core
cell_at a core low = ap (λ k. get_or core.cells k 0) (omega arith)

same_cell : (image : ImageMap) (old one other : Core) → IsLoaded image old one → IsLoaded image old other → (a : ℕ) → a < 65536 → (o : Option ℕ) → maps.get image a ≡ o → cell a one ≡ cell a other
same_cell image old one other h g a low None empty = h.kept a low empty ∙ sym (g.kept a low empty)
same_cell image old one other h g a low (Some byte) got = h.there a byte got ∙ sym (g.there a byte got)

same_cells : (image : ImageMap) (old one other : Core) → length old.cells ≡ 65536 → IsLoaded image old one → IsLoaded image old other → one.cells ≡ other.cells
same_cells image old one other len h g =
    ext_get_or 0 one.cells other.cells (h.same_length ∙ sym g.same_length) (λ a lt.
    let low : a < 65536 = omega (arith, h.same_length) in
    cell_at a one low ∙ same_cell image old one other h g a low (maps.get image a) refl ∙ sym (cell_at a other low))

pub one_core : (image : ImageMap) (old one other : Core) → length old.cells ≡ 65536 → IsLoaded image old one → IsLoaded image old other → one ≡ other
one_core image old one other len h g = h.others ∙ ap (λ (cells : List ℕ). record old { cells = cells }) (same_cells image old one other len h g) ∙ sym g.others
