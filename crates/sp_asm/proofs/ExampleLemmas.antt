-- Small assemblies and refusals, written out.
use Rattle.std.proofs.Common.{◌≡◌, ℕ, ◌<◌, ◌≤◌, ◌%◌, true, false, List, [], ◌∷◌, ◌++◌, map, Option, Some, None, refl, inl, inr, arith, rules, IsTrue, lit<, lit≤}
use Rattle.std.specs.Prelude.{codes, nat_eq, IsSome, Contains}
use Rattle.std.specs.List.{IsDistinct}
use Rattle.sp_expr.specs.declared.word.Word.{Word}
use Rattle.sp_expr.specs.declared.word.Word.TheVariants as words
use Rattle.sp_expr.specs.Trees.{Tree, Spells, spelling}
use Rattle.sp_expr.specs.Trees as tree
use Rattle.sp_expr.specs.Undefined.{first_undefined}
use Rattle.sp_stmt.specs.declared.operand.Operand.{Operand}
use Rattle.sp_stmt.specs.declared.operand.Operand.TheVariants as operand
use Rattle.sp_stmt.specs.declared.statement.Code.TheVariants as code
use Rattle.sp_stmt.specs.declared.statement.Statement.{Statement}
use Rattle.sp_asm.specs.declared.refusal.AsmKind.TheVariants.{Duplicate, Later, Undefined, Range, PastEnd, Overlap}
use Rattle.sp_asm.specs.Assembly.{Place, HasRoom, IsPlaced, ArePlaced, Row, IsRow, IsAssembly, names_above, names_at, places_of, address_after, addresses_of, size_of_item}
use Rattle.sp_asm.specs.Examples.{byte, word, mvi, nop, x, place, statement, row, number, named, org, words_of, rows}
use Rattle.sp_asm.specs.Refusals.{IsMissing, FirstRound, SecondRound}
use Rattle.sp_asm.specs.Values.{HasValue, are_in_range}
use Rattle.sp_asm.proofs.SplitLaws.{AllSplits, splits_empty, splits_more}

-- ---- Values

number_value : (names : List ℕ → Option ℕ) (here n : ℕ) → n % 65536 ≡ n → HasValue names here (words.Number n ∷ []) n
unfolding first_undefined spelling
number_value names here n small = record { defined = refl; tree = tree.Number n; spells = record { grammar = tt; whole = refl }; value_is = λ i. Some (small i) }

here_value : (names : List ℕ → Option ℕ) (here : ℕ) → here % 65536 ≡ here → HasValue names here (words.Here ∷ []) here
unfolding first_undefined spelling
here_value names here small = record { defined = refl; tree = tree.Here; spells = record { grammar = tt; whole = refl }; value_is = λ i. Some (small i) }

missing : (names : List ℕ → Option ℕ) → names (codes "X") ≡ None → IsMissing names (named ∷ []) (codes "X")
missing names none = record { operand = named; among = (0, lit< tt, refl); used = (0, lit< tt, refl); missing = none }

-- ---- Places

no_label : (a : ℕ) → IsSome {T = List ℕ} None → a < 65536
no_label a h = absurd cc

abbrev org_place : ℕ → ℕ → Place
org_place n value = record { statement = statement n None code.Org (number value ∷ []); address = 0; value = value }

at_org : (above : List Place) (line address value : ℕ) → address ≡ address_after above → value % 65536 ≡ value → value ≤ 65536
    → IsPlaced above (record { statement = statement line None code.Org (number value ∷ []); address = address; value = value })
at_org above line address value at small within = record {
  address = at;
  apart = refl;
  value = (value ∷ [], (number_value (names_above above) (address % 65536) value small, tt), refl);
  room = record { label = no_label address; behind = within };
}

one : (p : Place) → IsPlaced [] p → ArePlaced (p ∷ [])
one p h = splits_more IsPlaced [] p h (splits_empty IsPlaced)

-- ---- An assembly

abbrev first : Place
first = record { statement = org; address = 0; value = 16 }

abbrev second : Place
second = record { statement = words_of; address = 16; value = 0 }

example_places : ArePlaced (first ∷ second ∷ [])
example_places =
    splits_more IsPlaced (first ∷ []) second
    (record { address = refl; apart = refl; value = refl; room = record { label = λ h. lit< tt; behind = lit≤ tt } })
    (one first (at_org [] 1 0 16 refl refl (lit≤ tt)))

name_value : HasValue (names_at (first ∷ second ∷ []) (first ∷ [])) 16 (words.Name (codes "X") ∷ []) 16
unfolding first_undefined spelling
name_value = record { defined = refl; tree = tree.Name (codes "X"); spells = record { grammar = tt; whole = refl }; value_is = refl }

abbrev RowAt : List Row → Row → Type 0
RowAt above r = IsRow (first ∷ second ∷ []) (places_of above) r

example_rows : AllSplits RowAt rows
unfolding are_in_range
example_rows =
    splits_more RowAt (row org 0 16 [] ∷ []) (row words_of 16 0 (16 ∷ 16 ∷ []))
    ((name_value, (here_value (names_at (first ∷ second ∷ []) (first ∷ [])) 16 refl, tt)), refl)
    (splits_more RowAt [] (row org 0 16 []) refl (splits_empty RowAt))

example_apart : IsDistinct nat_eq (16 ∷ 17 ∷ 18 ∷ 19 ∷ [])
unfolding IsDistinct
example_apart = ((refl, (refl, (refl, tt))), ((refl, (refl, tt)), ((refl, tt), (tt, tt))))

pub example_assembly : IsAssembly (org ∷ words_of ∷ []) rows
example_assembly = record { whole = refl; places = example_places; each = example_rows; apart = example_apart }

-- ---- Refusals

pub example_twice : FirstRound (statement 1 x code.Nothing [] ∷ statement 2 x code.Nothing [] ∷ []) 2 Duplicate
example_twice =
    let p : Place = record { statement = statement 1 x code.Nothing []; address = 0; value = 0 } in
    record {
      above = p ∷ [];
      broken = statement 2 x code.Nothing [];
      below = [];
      whole = refl;
      placed = one p (record { address = refl; apart = refl; value = refl; room = record { label = λ h. lit< tt; behind = lit≤ tt } });
      at = refl;
      breaks = refl;
    }

pub example_later : FirstRound (statement 1 None code.Org (named ∷ []) ∷ statement 2 x code.Nothing [] ∷ []) 1 Later
example_later = record {
  above = [];
  broken = statement 1 None code.Org (named ∷ []);
  below = statement 2 x code.Nothing [] ∷ [];
  whole = refl;
  placed = splits_empty IsPlaced;
  at = refl;
  breaks = (refl, refl, (codes "X", missing (names_above []) refl, refl));
}

pub example_undefined : FirstRound (statement 1 None code.Org (named ∷ []) ∷ []) 1 Undefined
example_undefined = record {
  above = [];
  broken = statement 1 None code.Org (named ∷ []);
  below = [];
  whole = refl;
  placed = splits_empty IsPlaced;
  at = refl;
  breaks = (refl, refl, record { none_later = λ h. let defined : false ≡ true = h.2 in cc; name = codes "X"; missing = missing (names_above []) refl });
}

abbrev mvi_place : Place
mvi_place = record { statement = statement 2 None mvi (byte ∷ []); address = 65535; value = 0 }

pub example_past_end : FirstRound (statement 1 None code.Org (number 65535 ∷ []) ∷ statement 2 None mvi (byte ∷ []) ∷ []) 2 PastEnd
example_past_end = record {
  above = org_place 1 65535 ∷ [];
  broken = statement 2 None mvi (byte ∷ []);
  below = [];
  whole = refl;
  placed = one (org_place 1 65535) (at_org [] 1 0 65535 refl refl (lit≤ tt));
  at = refl;
  breaks = (mvi_place, refl, refl, refl, refl, λ room. let le : 65537 ≤ 65536 = room.behind in omega arith);
}

-- ---- Refusals of the second round

abbrev place_at : Statement → ℕ → Place
place_at s address = record { statement = s; address = address; value = 0 }

abbrev item : Operand → Statement
item o = statement 1 None code.Data (o ∷ [])

item_placed : (o : Operand) → size_of_item o ≤ 65536 → ArePlaced (place_at (item o) 0 ∷ [])
item_placed o small = one (place_at (item o) 0) (record { address = refl; apart = refl; value = refl; room = record { label = no_label 0; behind = omega arith } })

none_above : (all : List Place) (first later : List Row) (r : Row) → [] ≡ first ++ r ∷ later → IsRow all (places_of first) r
none_above all = splits_empty (λ above r. IsRow all (places_of above) r)

no_bytes : IsDistinct nat_eq (addresses_of [])
unfolding IsDistinct
no_bytes = tt

pub example_undefined_item : SecondRound (item named ∷ []) 1 Undefined
example_undefined_item = record {
  all = place_at (item named) 0 ∷ [];
  whole = refl;
  placed = item_placed named (lit≤ tt);
  above = [];
  broken = place_at (item named) 0;
  below = [];
  parts = refl;
  rows = none_above (place_at (item named) 0 ∷ []);
  apart = no_bytes;
  at = refl;
  breaks = (refl, record { none_later = λ h. let defined : false ≡ true = h.2 in cc; name = codes "X"; missing = missing (names_at (place_at (item named) 0 ∷ []) []) refl });
}

abbrev large : Operand
large = operand.Byte (words.Number 256 ∷ [])

pub example_range : SecondRound (item large ∷ []) 1 Range
unfolding are_in_range
example_range = record {
  all = place_at (item large) 0 ∷ [];
  whole = refl;
  placed = item_placed large (lit≤ tt);
  above = [];
  broken = place_at (item large) 0;
  below = [];
  parts = refl;
  rows = none_above (place_at (item large) 0 ∷ []);
  apart = no_bytes;
  at = refl;
  breaks = (refl, (256 ∷ [], (number_value (names_at (place_at (item large) 0 ∷ []) []) 0 256 refl, tt), λ h. let outside : false ≡ true = h in cc));
}

abbrev nop_one : Place
nop_one = place_at (statement 1 None nop []) 0

abbrev back : Place
back = record { statement = statement 2 None code.Org (number 0 ∷ []); address = 1; value = 0 }

abbrev nop_two : Place
nop_two = place_at (statement 3 None nop []) 0

abbrev three : List Place
three = nop_one ∷ back ∷ nop_two ∷ []

nop_placed : (above : List Place) (line : ℕ) → 0 ≡ address_after above → IsPlaced above (place_at (statement line None nop []) 0)
nop_placed above line at = record { address = at; apart = refl; value = refl; room = record { label = no_label 0; behind = lit≤ tt } }

three_placed : ArePlaced three
three_placed =
    splits_more IsPlaced (nop_one ∷ back ∷ []) nop_two (nop_placed (nop_one ∷ back ∷ []) 3 refl)
    (splits_more IsPlaced (nop_one ∷ []) back (at_org (nop_one ∷ []) 2 1 0 refl refl (lit≤ tt)) (one nop_one (nop_placed [] 1 refl)))

abbrev row_of : Place → Row
row_of p = record { place = p; values = [] }

abbrev ThreeAt : List Row → Row → Type 0
ThreeAt above r = IsRow three (places_of above) r

two_rows : AllSplits ThreeAt (row_of nop_one ∷ row_of back ∷ [])
unfolding are_in_range
two_rows = splits_more ThreeAt (row_of nop_one ∷ []) (row_of back) refl (splits_more ThreeAt [] (row_of nop_one) (tt, refl) (splits_empty ThreeAt))

one_byte : IsDistinct nat_eq (0 ∷ [])
unfolding IsDistinct
one_byte = (tt, tt)

same_byte : IsDistinct nat_eq (0 ∷ 0 ∷ []) → ⊥
unfolding IsDistinct
same_byte h = let apart : true ≡ false = h.0.0 in cc

pub example_overlap : SecondRound (statement 1 None nop [] ∷ statement 2 None code.Org (number 0 ∷ []) ∷ statement 3 None nop [] ∷ []) 3 Overlap
unfolding are_in_range
example_overlap = record {
  all = three;
  whole = refl;
  placed = three_placed;
  above = row_of nop_one ∷ row_of back ∷ [];
  broken = nop_two;
  below = [];
  parts = refl;
  rows = two_rows;
  apart = one_byte;
  at = refl;
  breaks = (row_of nop_two, refl, (tt, refl), same_byte);
}
