-- The example is the unit of its source, and each twin isn't.
use Rattle.std.proofs.Common.{◌≡◌, ℕ, zero, suc, ◌<◌, List, [], ◌∷◌, ◌++◌, length, Option, Some, None, refl, sym, ap, ◌∙◌, arith, append_assoc, lit<}
use Rattle.std.specs.List.Sorted.{IsStrictlyIncreasing}
use Rattle.std.specs.Ordering.{nat_cmp}
use Rattle.std.specs.FinMap as maps
use Rattle.std.proofs.lemmas.List.Sorted.{length_permutation}
use Rattle.sp_base.specs.Locs as locations
use Rattle.sp_isa.specs.declared.instr.Instr.TheVariants as instr
use Rattle.sp_asm.specs.declared.listing.ItemKind.TheVariants as kind
use Rattle.sp_prog.specs.Program.{Program}
use Rattle.sp_unit.specs.declared.refusal.UnitKind.TheVariants.{OutsideRoutine}
use Rattle.sp_unit.specs.Faults.{Source, fault, AreRight}
use Rattle.sp_unit.specs.Lines.{Entry, Statement}
use Rattle.sp_unit.specs.SourceUnits.{IsRoutineOf, begun}
use Rattle.sp_unit.proofs.UnitListLemmas.{zip_length}
use Rattle.sp_unit_laws.specs.Breaks.{cells, source}
use Rattle.sp_unit_laws.specs.Routines.{at, areas, routine}
use Rattle.sp_unit_laws.specs.Units.{entries, halts, with, IsOurs, UnitsByExample}
use Rattle.sp_unit_laws.proofs.RoutineLemmas.{goes_on}

held : maps.entries (maps.from_sorted {R = nat_cmp} cells) ≡ cells
held = maps.entries-from_sorted nat_cmp cells tt

-- ---- No line breaks a rule

-- each of these lines, after those, breaks none
abbrev Passes : Source → List Entry → List Entry → Type 0
Passes s above [] = Unit {0}
Passes s above (e ∷ below) = (fault s above e below ≡ None) × Passes s (above ++ e ∷ []) below

none_is : (front back : List Entry) (e : Entry) → [] ≡ front ++ e ∷ back → ⊥
none_is [] back e h = cc
none_is (x ∷ front) back e h = cc

passed : (s : Source) (front rest : List Entry) → Passes s front rest → (above below : List Entry) (e : Entry) → rest ≡ above ++ e ∷ below → fault s (front ++ above) e below ≡ None
passed s front [] h above below e whole = absurd (none_is above below e whole)
passed s front (x ∷ rest) h [] below e whole =
    let first : x ≡ e = cc in
    let last : rest ≡ below = cc in
    ap (λ l. fault s l e below) (nothing front) ∙ ap (λ z. fault s front z below) (sym first) ∙ ap (fault s front x) (sym last) ∙ h.0
  where
    nothing : (xs : List Entry) → xs ++ [] ≡ xs
    nothing [] = refl
    nothing (y ∷ xs) = ap (λ l. y ∷ l) (nothing xs)
passed s front (x ∷ rest) h (y ∷ above) below e whole =
    let first : x ≡ y = cc in
    let last : rest ≡ above ++ e ∷ below = cc in
    ap (λ l. fault s l e below) (ap (λ z. front ++ z ∷ above) (sym first) ∙ sym (append_assoc front (x ∷ []) above)) ∙ passed s (front ++ x ∷ []) rest h.1 above below e last

right : AreRight source entries
right above below e whole =
    passed source [] entries
    (rw held refl, (refl, (refl, (refl, (refl, (refl, (refl, (rw held refl, (refl, (refl, (refl, (refl, (refl, (refl, (refl, (refl, (refl, (refl, (refl, (refl, (refl, (refl, tt)))))))))))))))))))))) above below e whole

whole : IsOurs (with 100 200 (halts ∷ routine ∷ []))
unfolding locations.both locations.only locations.none
whole = record {
  rules = record { has_stack = refl; right = right };
  image = refl;
  stack = refl;
  areas = refl;
  found = routine ∷ halts ∷ [];
  each = (
    goes_on _,
    (
      record {
        name = refl;
        line = refl;
        start = refl;
        pre = tt;
        post = tt;
        reads = record { locs = refl; places = tt };
        changes = record { locs = refl; places = tt };
        ins = refl;
        outs = refl;
        depth = refl;
        code = (record { line = refl; address = refl; instr = refl; asserts = tt }, tt);
      },
      tt,
    ),
  );
  routines = record { moves = (0, 1) ∷ []; below = (lit< tt, lit< tt, tt); is = refl };
  rising = rises;
}
  where
    rises : IsStrictlyIncreasing (2 ∷ 5 ∷ [])
    rises zero lt = lit< tt
    rises (suc k) lt = absurd (omega arith)

-- it has as many routines as its source has `routine` lines
many : (p : Program) → IsOurs p → length p.routines ≡ 2
many p h =
    let long = length_permutation h.found p.routines h.routines in
    let same = zip_length (IsRoutineOf source p.areas) (begun entries) h.found h.each in
    long ∙ sym same

abbrev pair : ℕ → ℕ → ℕ × ℕ
pair a b = (a, b)

abbrev region : ℕ → ℕ → Option (ℕ × ℕ)
region a b = Some (a, b)

ends : (a b c d : ℕ) → region a b ≡ region c d → (a ≡ c) × (b ≡ d)
ends a b c d e = let is : pair a b ≡ pair c d = cc in (ap (λ (q : ℕ × ℕ). q.0) is, ap (λ (q : ℕ × ℕ). q.1) is)

pub units_by_example : UnitsByExample
units_by_example = record {
  whole = whole;
  source_order = λ h. let wrong : 5 < 2 = h.rising 0 (lit< tt) in omega arith;
  one_routine = λ h. let wrong : 1 ≡ 2 = many (with 100 200 (halts ∷ [])) h in omega arith;
  twice = λ h. let wrong : 3 ≡ 2 = many (with 100 200 (halts ∷ routine ∷ routine ∷ [])) h in omega arith;
  other_first = λ h. let wrong : 100 ≡ 99 = (ends 100 200 99 200 h.stack).0 in omega arith;
  other_last = λ h. let wrong : 200 ≡ 201 = (ends 100 200 100 201 h.stack).1 in omega arith;
  no_area = λ h. let wrong : [] ≡ areas = h.areas in cc;
  instruction_outside = λ p h.
      let wrong : Some OutsideRoutine ≡ None = h.rules.right entries [] (Statement (record { line = at 22; addr = 3; label = None; kind = kind.Instr instr.Hlt })) refl in
      cc;
}
