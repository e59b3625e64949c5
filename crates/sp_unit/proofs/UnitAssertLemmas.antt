-- The instructions of a routine: their addresses follow on, and their assertions are few.
use Rattle.std.proofs.Common.{◌≡◌, ℕ, suc, ◌+◌, ◌<◌, ◌≤◌, Bool, true, false, cond, not, ◌&&◌, ◌||◌, List, [], ◌∷◌, ◌++◌, length, Option, Some, None, is_some, refl, sym, ap, subst, ◌∙◌, arith, append-nil, append_assoc, length-append}
use Rattle.std.specs.Prelude.{filter, nat_le}
use Rattle.std.specs.Option.{option_map}
use Rattle.std.specs.List.{list_any, filter_map, cons_option, AllZip}
use Rattle.std.proofs.lemmas.Bool.Decides.{nat_tests}
use Rattle.std.proofs.lemmas.List.Folds.{list_any-append}
use Rattle.std.proofs.lemmas.List.Sums.{fold-append}
use Rattle.sp_isa.specs.Code.{code}
use Rattle.sp_asm.specs.declared.listing.Item.{Item}
use Rattle.sp_asm.specs.declared.listing.ItemKind.{ItemKind}
use Rattle.sp_asm.specs.declared.listing.ItemKind.TheVariants as kind
use Rattle.sp_note.specs.Parts as parts
use Rattle.sp_note.specs.Parts.{NoteLine, Part}
use Rattle.sp_note.specs.RawNotes.{RawNote}
use Rattle.sp_prog.specs.declared.routine.Stmt.{Stmt}
use Rattle.sp_prog.specs.Rules.{AreLaidOut, size_of, first_address, first_asserts}
use Rattle.sp_unit.specs.Lines.{Entry, Statement, Annotation, item_in, is_note, is_instr, is_instruction, is_routine, is_routine_part, is_end, is_end_part, is_start, is_assert_part, ends_header, header, inside, Place, Outside, InHeader, InBody, grown, next_place, place_after}
use Rattle.sp_unit.specs.Faults.{Source, AreRight, is_outside, is_not_here, is_too_many, is_first_in_start, is_data, count, after_instruction, count_asserts}
use Rattle.sp_unit.specs.SourceUnits.{Raw, raws, assert_in, Coded, instr_in, coded, IsNoted, IsCoded, Begun}
use Rattle.sp_unit.proofs.UnitListLemmas.{Each, Pairwise, each_append, pairwise_front, pairwise_back}
use Rattle.sp_unit.proofs.UnitFaultLemmas.{statement_right, after_more, more_outside}
use Rattle.sp_unit.proofs.UnitAreaLemmas.{line_right}
use Rattle.sp_unit.proofs.UnitBodyLemmas.{raws_append}
use Rattle.sp_unit.proofs.UnitFoundLemmas.{BeginsAt, routine_outside, IsBegunRight}
use Rattle.sp_unit.proofs.UnitSourceLemmas.{size_by, Expects, FollowOn}

-- ---- What an instruction's assertions keep, wherever it stands

module _ (P : Raw → Type 0) where
  instr_each : (item : Item) (k : ItemKind) (acc : List Raw) → Each P acc → Each (λ (c : Coded). Each P c.asserts) (instr_in item k acc)
  instr_each item (kind.Instr i) acc h = (h, tt)
  instr_each item kind.Label acc h = tt
  instr_each item kind.Bytes acc h = tt
  instr_each item kind.Space acc h = tt
  instr_each item kind.Org acc h = tt
  instr_each item kind.Other acc h = tt

  kept_each : (b : Bool) (acc : List Raw) → Each P acc → Each P (cond b [] (acc ++ []))
  kept_each true acc h = tt
  kept_each false acc h = subst (Each P) (sym (append-nil acc)) h

  -- of the lines of a routine, with these assertions above them
  pub coded_each : (acc : List Raw) (lines : List Entry) → Each P acc → Each P (raws assert_in lines) → Each (λ (c : Coded). Each P c.asserts) (coded acc lines)
  coded_each acc [] h k = tt
  coded_each acc (Statement item ∷ lines) h k =
      each_append (λ (c : Coded). Each P c.asserts) (instr_in item item.kind acc) (coded (cond (is_instr item.kind) [] (acc ++ [])) lines) (instr_each item item.kind acc h)
      (coded_each (cond (is_instr item.kind) [] (acc ++ [])) lines (kept_each (is_instr item.kind) acc h) k)
  coded_each acc (Annotation n ∷ lines) h k =
      let both = subst (Each P) (raws_append assert_in (Annotation n ∷ []) lines) k in
      let here = raws assert_in (Annotation n ∷ []) in
      coded_each (acc ++ raws assert_in (Annotation n ∷ [])) lines (each_append P acc (raws assert_in (Annotation n ∷ [])) h (first here (raws assert_in lines) both)) (last here (raws assert_in lines) both)
    where
      first : (xs ys : List Raw) → Each P (xs ++ ys) → Each P xs
      first [] ys e = tt
      first (x ∷ xs) ys e = (e.0, first xs ys e.1)

      last : (xs ys : List Raw) → Each P (xs ++ ys) → Each P ys
      last [] ys e = e
      last (x ∷ xs) ys e = last xs ys e.1

module _ (R : Raw → Raw → Type 0) where
  instr_pairs : (item : Item) (k : ItemKind) (acc : List Raw) → Pairwise R acc → Each (λ (c : Coded). Pairwise R c.asserts) (instr_in item k acc)
  instr_pairs item (kind.Instr i) acc h = (h, tt)
  instr_pairs item kind.Label acc h = tt
  instr_pairs item kind.Bytes acc h = tt
  instr_pairs item kind.Space acc h = tt
  instr_pairs item kind.Org acc h = tt
  instr_pairs item kind.Other acc h = tt

  kept_pairs : (b : Bool) (acc more : List Raw) → Pairwise R (acc ++ more) → Pairwise R (cond b [] (acc ++ []) ++ more)
  kept_pairs true acc more h = pairwise_back R acc more h
  kept_pairs false acc more h = subst (λ l. Pairwise R (l ++ more)) (sym (append-nil acc)) h

  pub coded_pairs : (acc : List Raw) (lines : List Entry) → Pairwise R (acc ++ raws assert_in lines) → Each (λ (c : Coded). Pairwise R c.asserts) (coded acc lines)
  coded_pairs acc [] h = tt
  coded_pairs acc (Statement item ∷ lines) h =
      each_append (λ (c : Coded). Pairwise R c.asserts) (instr_in item item.kind acc) (coded (cond (is_instr item.kind) [] (acc ++ [])) lines)
      (instr_pairs item item.kind acc (pairwise_front R acc (raws assert_in lines) h))
      (coded_pairs (cond (is_instr item.kind) [] (acc ++ [])) lines (kept_pairs (is_instr item.kind) acc (raws assert_in lines) h))
  coded_pairs acc (Annotation n ∷ lines) h =
      coded_pairs (acc ++ raws assert_in (Annotation n ∷ [])) lines
      (subst (Pairwise R) (ap (λ l. acc ++ l) (raws_append assert_in (Annotation n ∷ []) lines) ∙ sym (append_assoc acc (raws assert_in (Annotation n ∷ [])) (raws assert_in lines))) h)

-- ---- How many assertions stand above the next instruction

-- these assertions stand above, at this place
abbrev Stand : Place → List Raw → Type 0
Stand Outside acc = ⊥
Stand (InHeader lines) acc = acc ≡ []
Stand (InBody lines more) acc = acc ≡ raws assert_in (after_instruction more)

assert_note : (part : Part) → is_assert_part part ≡ true → (note : RawNote) × (part ≡ parts.Assert note)
assert_note (parts.Assert note) h = (note, refl)
assert_note _ h = absurd cc

one_raw : (n : NoteLine) → is_assert_part n.part ≡ true → length (raws assert_in (Annotation n ∷ [])) ≡ 1
one_raw n h = let is = assert_note n.part h in ap (λ p. length {A = Raw} (cons_option (option_map (λ note. record { line = n.line; note = note }) (assert_in p)) [])) is.1

no_raw : (n : NoteLine) → is_assert_part n.part ≡ false → raws assert_in (Annotation n ∷ []) ≡ []
no_raw n h = by n.part refl h
  where
    by : (part : Part) → n.part ≡ part → is_assert_part part ≡ false → raws assert_in (Annotation n ∷ []) ≡ []
    by (parts.Assert note) e k = absurd cc
    by (parts.Stack first last) e k = ap (λ p. cons_option (option_map (λ note. record { line = n.line; note = note }) (assert_in p)) []) e
    by (parts.Byte name addr) e k = ap (λ p. cons_option (option_map (λ note. record { line = n.line; note = note }) (assert_in p)) []) e
    by (parts.Word name addr) e k = ap (λ p. cons_option (option_map (λ note. record { line = n.line; note = note }) (assert_in p)) []) e
    by (parts.Bytes name addr len) e k = ap (λ p. cons_option (option_map (λ note. record { line = n.line; note = note }) (assert_in p)) []) e
    by (parts.Routine name) e k = ap (λ p. cons_option (option_map (λ note. record { line = n.line; note = note }) (assert_in p)) []) e
    by parts.Start e k = ap (λ p. cons_option (option_map (λ note. record { line = n.line; note = note }) (assert_in p)) []) e
    by (parts.Pre note) e k = ap (λ p. cons_option (option_map (λ r. record { line = n.line; note = r }) (assert_in p)) []) e
    by (parts.Post note) e k = ap (λ p. cons_option (option_map (λ r. record { line = n.line; note = r }) (assert_in p)) []) e
    by (parts.Reads items) e k = ap (λ p. cons_option (option_map (λ note. record { line = n.line; note = note }) (assert_in p)) []) e
    by (parts.Changes items) e k = ap (λ p. cons_option (option_map (λ note. record { line = n.line; note = note }) (assert_in p)) []) e
    by (parts.Ins ports) e k = ap (λ p. cons_option (option_map (λ note. record { line = n.line; note = note }) (assert_in p)) []) e
    by (parts.Outs ports) e k = ap (λ p. cons_option (option_map (λ note. record { line = n.line; note = note }) (assert_in p)) []) e
    by (parts.Depth n') e k = ap (λ p. cons_option (option_map (λ note. record { line = n.line; note = note }) (assert_in p)) []) e
    by parts.End e k = ap (λ p. cons_option (option_map (λ note. record { line = n.line; note = note }) (assert_in p)) []) e

says_assert : (part : Part) → is_some (assert_in part) ≡ is_assert_part part
says_assert (parts.Assert note) = refl
says_assert _ = refl

after_last : (more : List Entry) (e : Entry) → after_instruction (more ++ e ∷ []) ≡ cond (is_instruction e) [] (after_instruction more ++ e ∷ [])
after_last more e = fold-append (λ (kept : List Entry) (x : Entry). cond (is_instruction x) [] (kept ++ x ∷ [])) [] more (e ∷ [])

raws_if : (b : Bool) (xs : List Entry) (e : Entry) → raws assert_in (cond b [] (xs ++ e ∷ [])) ≡ cond b [] (raws assert_in xs ++ raws assert_in (e ∷ []))
raws_if true xs e = refl
raws_if false xs e = raws_append assert_in xs (e ∷ [])

or_false : (a b : Bool) → (a || b) ≡ false → (a ≡ false) × (b ≡ false)
or_false true b h = absurd cc
or_false false b h = (refl, h)

-- a line that ends no header has no assertion, and is no instruction
quiet : (e : Entry) → ends_header e ≡ false → (raws assert_in (e ∷ []) ≡ []) × (is_instruction e ≡ false)
quiet (Statement item) h = absurd cc
quiet (Annotation n) h = (no_raw n (or_false (is_assert_part n.part) (is_end_part n.part || is_routine_part n.part) h).0, refl)

next_acc : (e : Entry) (acc : List Raw) → List Raw
next_acc e acc = cond (is_instruction e) [] (acc ++ raws assert_in (e ∷ []))

grows : (place : Place) (e : Entry) (acc : List Raw) → Stand place acc → Stand (grown place e) (cond (is_instruction e) [] (acc ++ raws assert_in (e ∷ [])))
grows Outside e acc h = absurd h
grows (InHeader lines) e acc h = by (ends_header e) refl
  where
    by : (b : Bool) → ends_header e ≡ b → Stand (cond b (InBody lines (e ∷ [])) (InHeader (lines ++ e ∷ []))) (cond (is_instruction e) [] (acc ++ raws assert_in (e ∷ [])))
    by true is = ap (λ l. cond (is_instruction e) [] (l ++ raws assert_in (e ∷ []))) h ∙ sym (raws_if (is_instruction e) [] e)
    by false is =
        let none = quiet e is in
        ap (λ t. cond t [] (acc ++ raws assert_in (e ∷ []))) none.1 ∙ ap (λ l. acc ++ l) none.0 ∙ append-nil acc ∙ h
grows (InBody lines more) e acc h =
    ap (λ l. cond (is_instruction e) [] (l ++ raws assert_in (e ∷ []))) h ∙ sym (raws_if (is_instruction e) (after_instruction more) e) ∙ ap (raws assert_in) (sym (after_last more e))

next_is : (place : Place) (e : Entry) → is_routine e ≡ false → is_end e ≡ false → next_place place e ≡ grown place e
next_is place e r d = ap (λ t. cond t (InHeader []) (cond (is_end e) Outside (grown place e))) r ∙ ap (λ t. cond t Outside (grown place e)) d

stands_more : (above : List Entry) (e : Entry) (acc : List Raw) → is_routine e ≡ false → is_end e ≡ false → Stand (place_after above) acc
    → Stand (place_after (above ++ e ∷ [])) (cond (is_instruction e) [] (acc ++ raws assert_in (e ∷ [])))
stands_more above e acc r d h =
    subst (λ place. Stand place (cond (is_instruction e) [] (acc ++ raws assert_in (e ∷ [])))) (sym (after_more above e ∙ next_is (place_after above) e r d)) (grows (place_after above) e acc h)

not_outside : (place : Place) (acc : List Raw) → Stand place acc → is_outside place ≡ false
not_outside Outside acc h = absurd h
not_outside (InHeader lines) acc h = refl
not_outside (InBody lines more) acc h = refl

count_raws : (lines : List Entry) → length (raws assert_in lines) ≡ count is_assert_part lines
count_raws [] = refl
count_raws (Statement item ∷ lines) = count_raws lines
count_raws (Annotation n ∷ lines) = by (assert_in n.part) (is_assert_part n.part) (says_assert n.part) (count_raws lines)
  where
    by : (o : Option RawNote) (b : Bool) → is_some o ≡ b → length (raws assert_in lines) ≡ count is_assert_part lines
        → length (cons_option (option_map (λ note. record { line = n.line; note = note }) o) (raws assert_in lines)) ≡ length (cond b (Annotation n ∷ filter (is_note is_assert_part) lines) (filter (is_note is_assert_part) lines))
    by None false e k = k
    by (Some note) true e k = ap suc k
    by None true e k = absurd cc
    by (Some note) false e k = absurd cc

stand_count : (place : Place) (acc : List Raw) → Stand place acc → length acc ≡ count_asserts place
stand_count Outside acc h = absurd h
stand_count (InHeader lines) acc h = ap length h
stand_count (InBody lines more) acc h = ap length h ∙ count_raws (after_instruction more)

le_false : (a b : ℕ) → nat_le a b ≡ false → b < a
le_false a b h = grind (arith, nat_tests)

routine_name : (part : Part) → is_routine_part part ≡ true → (name : List ℕ) × (part ≡ parts.Routine name)
routine_name (parts.Routine name) h = (name, refl)
routine_name _ h = absurd cc

abbrev IsFew : Coded → Type 0
IsFew c = length c.asserts ≤ 64

few_instr : (item : Item) (k : ItemKind) (acc : List Raw) → length acc ≤ 64 → Each IsFew (instr_in item k acc)
few_instr item (kind.Instr i) acc h = (h, tt)
few_instr item kind.Label acc h = tt
few_instr item kind.Bytes acc h = tt
few_instr item kind.Space acc h = tt
few_instr item kind.Org acc h = tt
few_instr item kind.Other acc h = tt

few_kept : (b : Bool) (acc : List Raw) → length acc ≤ 64 → length (cond b [] (acc ++ [])) ≤ 64
few_kept true acc h = omega arith
few_kept false acc h = subst (λ l. length l ≤ 64) (sym (append-nil acc)) h

module _ (s : Source) (es : List Entry) (right : AreRight s es) where
  -- no `routine` line stands in a routine
  not_routine : (above below : List Entry) (n : NoteLine) → es ≡ above ++ Annotation n ∷ below → is_outside (place_after above) ≡ false → is_routine_part n.part ≡ false
  not_routine above below n whole out = by (is_routine_part n.part) refl
    where
      by : (b : Bool) → is_routine_part n.part ≡ b → is_routine_part n.part ≡ false
      by false e = e
      by true e = let is = routine_name n.part e in absurd (routine_outside s es right above below n is.0 whole is.1 out)

  few_more : (above below : List Entry) (n : NoteLine) (acc : List Raw) → es ≡ above ++ Annotation n ∷ below → Stand (place_after above) acc → length acc ≤ 64 → length (acc ++ raws assert_in (Annotation n ∷ [])) ≤ 64
  few_more above below n acc whole stand le = by (is_assert_part n.part) refl
    where
      by : (b : Bool) → is_assert_part n.part ≡ b → length (acc ++ raws assert_in (Annotation n ∷ [])) ≤ 64
      by false e = subst (λ l. length (acc ++ l) ≤ 64) (sym (no_raw n e)) (subst (λ l. length l ≤ 64) (sym (append-nil acc)) le)
      by true e =
          let is = assert_note n.part e in
          let many = subst (λ part. is_too_many above (place_after above) part ≡ false) is.1 (line_right s es right above below n whole).many in
          let lt = le_false 64 (count_asserts (place_after above)) many in
          let same = stand_count (place_after above) acc stand in
          let long = length-append acc (raws assert_in (Annotation n ∷ [])) in
          let one = one_raw n e in
          omega (arith, lt, same, long, one)

  few_from : (rest above : List Entry) (acc : List Raw) → es ≡ above ++ rest → Stand (place_after above) acc → length acc ≤ 64 → Each IsFew (coded acc (inside rest))
  few_from [] above acc whole stand le = tt
  few_from (Statement item ∷ below) above acc whole stand le =
      let next = cond (is_instr item.kind) [] (acc ++ []) in
      each_append IsFew (instr_in item item.kind acc) (coded next (inside below)) (few_instr item item.kind acc le)
      (few_from below (above ++ Statement item ∷ []) next (whole ∙ sym (append_assoc above (Statement item ∷ []) below)) (stands_more above (Statement item) acc refl refl stand) (few_kept (is_instr item.kind) acc le))
  few_from (Annotation n ∷ below) above acc whole stand le =
      by (is_end_part n.part) refl (few_from below (above ++ Annotation n ∷ []) (acc ++ raws assert_in (Annotation n ∷ [])) (whole ∙ sym (append_assoc above (Annotation n ∷ []) below)))
    where
      by : (b : Bool) → is_end_part n.part ≡ b
          → (Stand (place_after (above ++ Annotation n ∷ [])) (acc ++ raws assert_in (Annotation n ∷ [])) → length (acc ++ raws assert_in (Annotation n ∷ [])) ≤ 64 → Each IsFew (coded (acc ++ raws assert_in (Annotation n ∷ [])) (inside below)))
          → Each IsFew (coded acc (cond b [] (Annotation n ∷ inside below)))
      by true e again = tt
      by false e again =
          again (stands_more above (Annotation n) acc (not_routine above below n whole (not_outside (place_after above) acc stand)) e stand) (few_more above below n acc whole stand le)

  -- ---- Addresses

  abbrev pub AreCodedFrom : ℕ → List Coded → Type 0
  AreCodedFrom a [] = Unit {0}
  AreCodedFrom a (c ∷ cs) = (c.item.addr ≡ a) × AreCodedFrom (a + length (code c.instr)) cs

  -- no data and no space stands in a routine
  plain_item : (above below : List Entry) (item : Item) → es ≡ above ++ Statement item ∷ below → is_outside (place_after above) ≡ false → is_data item.kind ≡ false
  plain_item above below item whole out =
      let keeps = statement_right (is_outside (place_after above)) item.kind (right above below (Statement item) whole) in
      by (is_data item.kind) (ap (λ o. is_data item.kind && not o) (sym out) ∙ keeps.1)
    where
      by : (b : Bool) → (b && true) ≡ false → b ≡ false
      by true h = absurd cc
      by false h = refl

  more_inside : (above : List Entry) (e : Entry) → is_routine e ≡ false → is_end e ≡ false → is_outside (place_after above) ≡ false → is_outside (place_after (above ++ e ∷ [])) ≡ false
  more_inside above e r d out = more_outside above e false out ∙ ap (λ t. cond t false (cond (is_end e) true false)) r ∙ ap (λ t. cond t true false) d

  laid_instr : (item : Item) (k : ItemKind) (acc : List Raw) (a : ℕ) (cs : List Coded) → item.addr ≡ a → (is_data k ≡ false → AreCodedFrom (a + size_by k) cs) → is_data k ≡ false → AreCodedFrom a (instr_in item k acc ++ cs)
  laid_instr item (kind.Instr i) acc a cs e rest plain = (e, rest plain)
  laid_instr item kind.Label acc a cs e rest plain = subst (λ n. AreCodedFrom n cs) (omega arith) (rest plain)
  laid_instr item kind.Bytes acc a cs e rest plain = absurd cc
  laid_instr item kind.Space acc a cs e rest plain = absurd cc
  laid_instr item kind.Org acc a cs e rest plain = absurd cc
  laid_instr item kind.Other acc a cs e rest plain = subst (λ n. AreCodedFrom n cs) (omega arith) (rest plain)

  laid_from : (rest above : List Entry) (acc : List Raw) (a : ℕ) → es ≡ above ++ rest → is_outside (place_after above) ≡ false → FollowOn (filter_map item_in rest) → Expects a (filter_map item_in rest) → AreCodedFrom a (coded acc (inside rest))
  laid_from [] above acc a whole out follow expect = tt
  laid_from (Statement item ∷ below) above acc a whole out follow expect =
      let next = cond (is_instr item.kind) [] (acc ++ []) in
      let plain = plain_item above below item whole out in
      laid_instr item item.kind acc a (coded next (inside below)) expect
      (λ is. laid_from below (above ++ Statement item ∷ []) next (a + size_by item.kind) (whole ∙ sym (append_assoc above (Statement item ∷ []) below)) (more_inside above (Statement item) refl refl out) follow.1
      (subst (λ n. Expects (n + size_by item.kind) (filter_map item_in below)) expect (follow.0 is))) plain
  laid_from (Annotation n ∷ below) above acc a whole out follow expect =
      by (is_end_part n.part) refl (λ still. laid_from below (above ++ Annotation n ∷ []) (acc ++ raws assert_in (Annotation n ∷ [])) a (whole ∙ sym (append_assoc above (Annotation n ∷ []) below)) still follow expect)
    where
      by : (b : Bool) → is_end_part n.part ≡ b → (is_outside (place_after (above ++ Annotation n ∷ [])) ≡ false → AreCodedFrom a (coded (acc ++ raws assert_in (Annotation n ∷ [])) (inside below)))
          → AreCodedFrom a (coded acc (cond b [] (Annotation n ∷ inside below)))
      by true e again = tt
      by false e again = again (more_inside above (Annotation n) (not_routine above below n whole out) e out)

  -- from the first instruction on
  abbrev FollowFromFirst : List Coded → Type 0
  FollowFromFirst [] = Unit {0}
  FollowFromFirst (c ∷ cs) = AreCodedFrom (c.item.addr + length (code c.instr)) cs

  first_instr : (item : Item) (k : ItemKind) (acc : List Raw) (cs : List Coded) → (is_data k ≡ false → AreCodedFrom (item.addr + size_by k) cs) → FollowFromFirst cs → is_data k ≡ false → FollowFromFirst (instr_in item k acc ++ cs)
  first_instr item (kind.Instr i) acc cs rest first plain = rest plain
  first_instr item kind.Label acc cs rest first plain = first
  first_instr item kind.Bytes acc cs rest first plain = absurd cc
  first_instr item kind.Space acc cs rest first plain = absurd cc
  first_instr item kind.Org acc cs rest first plain = absurd cc
  first_instr item kind.Other acc cs rest first plain = first

  first_from : (rest above : List Entry) (acc : List Raw) → es ≡ above ++ rest → is_outside (place_after above) ≡ false → FollowOn (filter_map item_in rest) → FollowFromFirst (coded acc (inside rest))
  first_from [] above acc whole out follow = tt
  first_from (Statement item ∷ below) above acc whole out follow =
      let next = cond (is_instr item.kind) [] (acc ++ []) in
      let plain = plain_item above below item whole out in
      let there = whole ∙ sym (append_assoc above (Statement item ∷ []) below) in
      let still = more_inside above (Statement item) refl refl out in
      first_instr item item.kind acc (coded next (inside below)) (λ is. laid_from below (above ++ Statement item ∷ []) next (item.addr + size_by item.kind) there still follow.1 (follow.0 is))
      (first_from below (above ++ Statement item ∷ []) next there still follow.1) plain
  first_from (Annotation n ∷ below) above acc whole out follow =
      by (is_end_part n.part) refl (λ still. first_from below (above ++ Annotation n ∷ []) (acc ++ raws assert_in (Annotation n ∷ [])) (whole ∙ sym (append_assoc above (Annotation n ∷ []) below)) still follow)
    where
      by : (b : Bool) → is_end_part n.part ≡ b → (is_outside (place_after (above ++ Annotation n ∷ [])) ≡ false → FollowFromFirst (coded (acc ++ raws assert_in (Annotation n ∷ [])) (inside below)))
          → FollowFromFirst (coded acc (cond b [] (Annotation n ∷ inside below)))
      by true e again = tt
      by false e again = again (more_inside above (Annotation n) (not_routine above below n whole out) e out)

  coded_laid : (cs : List Coded) (stmts : List Stmt) (a : ℕ) → AllZip (IsCoded s) cs stmts → AreCodedFrom a cs → AreLaidOut a stmts
  coded_laid [] [] a z h = tt
  coded_laid [] (stmt ∷ stmts) a z h = absurd z
  coded_laid (c ∷ cs) [] a z h = absurd z
  coded_laid (c ∷ cs) (stmt ∷ stmts) a z h = (
    z.0.address ∙ h.0,
    coded_laid cs stmts (a + size_of stmt) z.1 (subst (λ i. AreCodedFrom (a + length (code i)) cs) (sym z.0.instr) h.1),
  )

  first_laid : (cs : List Coded) (stmts : List Stmt) → AllZip (IsCoded s) cs stmts → FollowFromFirst cs → AreLaidOut (first_address stmts) stmts
  first_laid [] [] z h = tt
  first_laid [] (stmt ∷ stmts) z h = absurd z
  first_laid (c ∷ cs) [] z h = absurd z
  first_laid (c ∷ cs) (stmt ∷ stmts) z h = (
    refl,
    coded_laid cs stmts (stmt.addr + size_of stmt) z.1
        (subst (λ a. AreCodedFrom (a + size_of stmt) cs) (sym z.0.address) (subst (λ i. AreCodedFrom (c.item.addr + length (code i)) cs) (sym z.0.instr) h)),
  )

  -- ---- A start routine

  -- a start routine of which no instruction stands above
  abbrev Waits : Place → List Entry → Type 0
  Waits Outside rest = ⊥
  Waits (InHeader lines) rest = (list_any is_start lines || list_any is_start (header rest)) ≡ true
  Waits (InBody lines more) rest = (list_any is_start lines ≡ true) × (list_any is_instruction more ≡ false)

  abbrev IsBare : List Coded → Type 0
  IsBare [] = Unit {0}
  IsBare (c ∷ cs) = c.asserts ≡ []

  waiting : (place : Place) (rest : List Entry) → Waits place rest → is_outside place ≡ false
  waiting Outside rest h = absurd h
  waiting (InHeader lines) rest h = refl
  waiting (InBody lines more) rest h = refl

  or_right : (a : Bool) → (a || false) ≡ true → a ≡ true
  or_right true h = refl
  or_right false h = h

  or_assoc : (a b c : Bool) → (a || (b || c)) ≡ ((a || (b || false)) || c)
  or_assoc true b c = refl
  or_assoc false true c = refl
  or_assoc false false c = refl

  waits_grown : (place : Place) (e : Entry) (below : List Entry) → is_instruction e ≡ false → Waits place (e ∷ below) → Waits (grown place e) below
  waits_grown Outside e below plain h = absurd h
  waits_grown (InHeader lines) e below plain h = by (ends_header e) refl h
    where
      by : (b : Bool) → ends_header e ≡ b → (list_any is_start lines || list_any is_start (cond b [] (e ∷ header below))) ≡ true → Waits (cond b (InBody lines (e ∷ [])) (InHeader (lines ++ e ∷ []))) below
      by true is k = (or_right (list_any is_start lines) k, ap (λ t. t || false) plain)
      by false is k =
          ap (λ t. t || list_any is_start (header below)) (list_any-append is_start lines (e ∷ [])) ∙ sym (or_assoc (list_any is_start lines) (is_start e) (list_any is_start (header below))) ∙ k
  waits_grown (InBody lines more) e below plain h = (h.0, list_any-append is_instruction more (e ∷ []) ∙ ap (λ t. t || (is_instruction e || false)) h.1 ∙ ap (λ t. t || false) plain)

  waits_more : (above : List Entry) (e : Entry) (below : List Entry) → is_routine e ≡ false → is_end e ≡ false → is_instruction e ≡ false → Waits (place_after above) (e ∷ below) → Waits (place_after (above ++ e ∷ [])) below
  waits_more above e below r d plain h =
      subst (λ place. Waits place below) (sym (after_more above e ∙ next_is (place_after above) e r d)) (waits_grown (place_after above) e below plain h)

  -- an assertion there breaks a rule
  first_there : (place : Place) (n : NoteLine) (below : List Entry) → is_assert_part n.part ≡ true → Waits place (Annotation n ∷ below) → is_first_in_start place ≡ true
  first_there Outside n below is h = absurd h
  first_there (InHeader lines) n below is h =
      or_right (list_any is_start lines)
      (ap (λ t. list_any is_start lines || list_any is_start (cond (t || (is_end_part n.part || is_routine_part n.part)) [] (Annotation n ∷ header below))) (sym is) ∙ h)
  first_there (InBody lines more) n below is h = (λ i. h.0 i && not (h.1 i))

  not_assert : (above below : List Entry) (n : NoteLine) → es ≡ above ++ Annotation n ∷ below → Waits (place_after above) (Annotation n ∷ below) → is_assert_part n.part ≡ false
  not_assert above below n whole waits = by (is_assert_part n.part) refl
    where
      by : (b : Bool) → is_assert_part n.part ≡ b → is_assert_part n.part ≡ false
      by false e = e
      by true e =
          let is = assert_note n.part e in
          let here = subst (λ part. is_not_here (place_after above) part below ≡ false) is.1 (line_right s es right above below n whole).here in
          let wrong : true ≡ false = sym (first_there (place_after above) n below e waits) ∙ here in
          absurd cc

  bare_instr : (item : Item) (k : ItemKind) (acc : List Raw) (cs : List Coded) → acc ≡ [] → (is_instr k ≡ false → IsBare cs) → IsBare (instr_in item k acc ++ cs)
  bare_instr item (kind.Instr i) acc cs e rest = e
  bare_instr item kind.Label acc cs e rest = rest refl
  bare_instr item kind.Bytes acc cs e rest = rest refl
  bare_instr item kind.Space acc cs e rest = rest refl
  bare_instr item kind.Org acc cs e rest = rest refl
  bare_instr item kind.Other acc cs e rest = rest refl

  bare_from : (rest above : List Entry) (acc : List Raw) → es ≡ above ++ rest → Waits (place_after above) rest → acc ≡ [] → IsBare (coded acc (inside rest))
  bare_from [] above acc whole waits none = tt
  bare_from (Statement item ∷ below) above acc whole waits none =
      bare_instr item item.kind acc (coded (cond (is_instr item.kind) [] (acc ++ [])) (inside below)) none
      (λ plain. bare_from below (above ++ Statement item ∷ []) (cond (is_instr item.kind) [] (acc ++ [])) (whole ∙ sym (append_assoc above (Statement item ∷ []) below))
      (waits_more above (Statement item) below refl refl plain waits) (ap (λ t. cond t [] (acc ++ [])) plain ∙ append-nil acc ∙ none))
  bare_from (Annotation n ∷ below) above acc whole waits none =
      by (is_end_part n.part) refl (bare_from below (above ++ Annotation n ∷ []) (acc ++ raws assert_in (Annotation n ∷ [])) (whole ∙ sym (append_assoc above (Annotation n ∷ []) below)))
    where
      by : (b : Bool) → is_end_part n.part ≡ b → (Waits (place_after (above ++ Annotation n ∷ [])) below → (acc ++ raws assert_in (Annotation n ∷ [])) ≡ [] → IsBare (coded (acc ++ raws assert_in (Annotation n ∷ [])) (inside below)))
          → IsBare (coded acc (cond b [] (Annotation n ∷ inside below)))
      by true e again = tt
      by false e again =
          again (waits_more above (Annotation n) below (not_routine above below n whole (waiting (place_after above) (Annotation n ∷ below) waits)) e refl waits)
          (ap (λ l. acc ++ l) (no_raw n (not_assert above below n whole waits)) ∙ append-nil acc ∙ none)

  first_bare : (cs : List Coded) (stmts : List Stmt) → AllZip (IsCoded s) cs stmts → IsBare cs → first_asserts stmts ≡ []
  first_bare [] [] z h = refl
  first_bare [] (stmt ∷ stmts) z h = absurd z
  first_bare (c ∷ cs) [] z h = absurd z
  first_bare (c ∷ cs) (stmt ∷ stmts) z h = by c.asserts stmt.asserts h z.0.asserts
    where
      by : (rs : List Raw) (ns : List _) → rs ≡ [] → AllZip (IsNoted s) rs ns → ns ≡ []
      by [] [] e k = refl
      by [] (n ∷ ns) e k = absurd k
      by (r ∷ rs) ns e k = absurd cc

  -- ---- A routine that begins there

  module _ (b : Begun) (at : BeginsAt es b) (begun : IsBegunRight at.front b.below b.name) where
    there : es ≡ (at.front ++ Annotation at.note ∷ []) ++ b.below
    there = at.whole ∙ sym (append_assoc at.front (Annotation at.note ∷ []) b.below)

    begins : is_routine (Annotation at.note) ≡ true
    begins = ap is_routine_part at.part

    place : place_after (at.front ++ Annotation at.note ∷ []) ≡ InHeader []
    place = after_more at.front (Annotation at.note) ∙ ap (λ t. cond t (InHeader []) (cond (is_end (Annotation at.note)) Outside (grown (place_after at.front) (Annotation at.note)))) begins

    pub few_asserts : Each IsFew (coded [] (inside b.below))
    few_asserts = few_from b.below (at.front ++ Annotation at.note ∷ []) [] there (subst (λ p. Stand p []) (sym place) refl) (omega arith)

    pub laid_out : (stmts : List Stmt) → AllZip (IsCoded s) (coded [] (inside b.below)) stmts → FollowOn (filter_map item_in b.below) → AreLaidOut (first_address stmts) stmts
    laid_out stmts z follow = first_laid (coded [] (inside b.below)) stmts z (first_from b.below (at.front ++ Annotation at.note ∷ []) [] there (ap is_outside place) follow)

    pub start_bare : (stmts : List Stmt) → AllZip (IsCoded s) (coded [] (inside b.below)) stmts → list_any is_start (header b.below) ≡ true → first_asserts stmts ≡ []
    start_bare stmts z starts =
        first_bare (coded [] (inside b.below)) stmts z (bare_from b.below (at.front ++ Annotation at.note ∷ []) [] there (subst (λ p. Waits p b.below) (sym place) starts) refl)
