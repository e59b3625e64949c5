-- A source has one unit, apart from where its annotations lie in memory.
use Rattle.std.proofs.Common.{◌≡◌, ℕ, List, [], ◌∷◌, map, Some, refl, sym, subst, ◌∙◌}
use Rattle.std.specs.Prelude.{IsPermutation, Contains}
use Rattle.std.specs.List.{AllZip, filter_map}
use Rattle.std.specs.List.Sorted.{IsStrictlyIncreasing}
use Rattle.std.proofs.lemmas.List.Sorted.{Contains-permutation, IsPermutation-sym}
use Rattle.sp_logic.specs.View.{note_of}
use Rattle.sp_model.specs.Note.{Note}
use Rattle.sp_note.specs.declared.part.Listed.{Listed}
use Rattle.sp_prog.specs.declared.area.Area.{Area}
use Rattle.sp_prog.specs.declared.routine.Lists.{Lists}
use Rattle.sp_prog.specs.declared.routine.Noted.{Noted}
use Rattle.sp_prog.specs.declared.routine.Routine.{Routine}
use Rattle.sp_prog.specs.declared.routine.Stmt.{Stmt}
use Rattle.sp_prog.specs.Program.{Program}
use Rattle.sp_prog.specs.Rules.{address_of, first_address}
use Rattle.sp_unit.specs.Faults.{Source}
use Rattle.sp_unit.specs.Lines.{Entry, note_in}
use Rattle.sp_unit.specs.SourceUnits.{Raw, IsNoted, AreLists, StandsAt, Coded, IsCoded, Begun, begun, IsRoutineOf, IsUnitOf}
use Rattle.sp_check.specs.Plain.{PlainStmt, PlainRoutine, plain_note, plain_stmt, plain_routine, plain}
use Rattle.sp_prog.proofs.MemberLemmas.{mapped, in_map}
use Rattle.sp_check.proofs.AreaLemmas.{AreFresh, areas_fresh, one_place}
use Rattle.sp_check.proofs.SortedLemmas.{one_sorted}

-- ---- Lists that stand for one list

some_note : (a b : Note) → Some a ≡ Some b → a ≡ b
some_note a b e = cc

one_note : (s : Source) (raw : Raw) (n m : Noted) → IsNoted s raw n → IsNoted s raw m → plain_note n ≡ plain_note m
one_note s raw n m h g =
    let line = h.line ∙ sym g.line in
    let note = some_note (note_of n.note) (note_of m.note) (sym h.note ∙ g.note) in
    λ i. record { line = record { 0 = line i }; note = note i }

one_notes : (s : Source) (raws : List Raw) (ns ms : List Noted) → AllZip (IsNoted s) raws ns → AllZip (IsNoted s) raws ms → map plain_note ns ≡ map plain_note ms
one_notes s [] [] [] h g = refl
one_notes s [] (n ∷ ns) ms h g = absurd h
one_notes s [] [] (m ∷ ms) h g = absurd g
one_notes s (raw ∷ raws) [] ms h g = absurd h
one_notes s (raw ∷ raws) (n ∷ ns) [] h g = absurd g
one_notes s (raw ∷ raws) (n ∷ ns) (m ∷ ms) h g =
    let first = one_note s raw n m h.0 g.0 in
    let rest = one_notes s raws ns ms h.1 g.1 in
    λ i. first i ∷ rest i

one_stmt : (s : Source) (c : Coded) (a b : Stmt) → IsCoded s c a → IsCoded s c b → plain_stmt a ≡ plain_stmt b
one_stmt s c a b h g =
    let line = h.line ∙ sym g.line in
    let addr = h.address ∙ sym g.address in
    let instr = h.instr ∙ sym g.instr in
    let asserts = one_notes s c.asserts a.asserts b.asserts h.asserts g.asserts in
    λ i. record { line = line i; addr = addr i; instr = instr i; asserts = asserts i }

one_code : (s : Source) (cs : List Coded) (xs ys : List Stmt) → AllZip (IsCoded s) cs xs → AllZip (IsCoded s) cs ys → map plain_stmt xs ≡ map plain_stmt ys
one_code s [] [] [] h g = refl
one_code s [] (a ∷ xs) ys h g = absurd h
one_code s [] [] (b ∷ ys) h g = absurd g
one_code s (c ∷ cs) [] ys h g = absurd h
one_code s (c ∷ cs) (a ∷ xs) [] h g = absurd g
one_code s (c ∷ cs) (a ∷ xs) (b ∷ ys) h g =
    let first = one_stmt s c a b h.0 g.0 in
    let rest = one_code s cs xs ys h.1 g.1 in
    λ i. first i ∷ rest i

one_places : (areas : List Area) → AreFresh [] areas → (names : List (List ℕ)) (xs ys : List ℕ) → AllZip (StandsAt areas) names xs → AllZip (StandsAt areas) names ys → xs ≡ ys
one_places areas fresh [] [] [] h g = refl
one_places areas fresh [] (a ∷ xs) ys h g = absurd h
one_places areas fresh [] [] (b ∷ ys) h g = absurd g
one_places areas fresh (name ∷ names) [] ys h g = absurd h
one_places areas fresh (name ∷ names) (a ∷ xs) [] h g = absurd g
one_places areas fresh (name ∷ names) (a ∷ xs) (b ∷ ys) h g =
    let first = one_place [] areas name a b fresh h.0 g.0 in
    let rest = one_places areas fresh names xs ys h.1 g.1 in
    λ i. first i ∷ rest i

one_list : (areas : List Area) → AreFresh [] areas → (items : List Listed) (a b : Lists) → AreLists areas items a → AreLists areas items b → a ≡ b
one_list areas fresh items a b h g =
    let locs = h.locs ∙ sym g.locs in
    let places = one_places areas fresh _ a.areas b.areas h.places g.places in
    λ i. record { locs = locs i; areas = places i }

-- ---- Routines

module _ (s : Source) (areas : List Area) (fresh : AreFresh [] areas) where
  one_routine : (b : Begun) (r t : Routine) → IsRoutineOf s areas b r → IsRoutineOf s areas b t → plain_routine r ≡ plain_routine t
  one_routine b r t h g =
      let name = h.name ∙ sym g.name in
      let line = h.line ∙ sym g.line in
      let start = h.start ∙ sym g.start in
      let pre = one_notes s _ r.pre t.pre h.pre g.pre in
      let post = one_notes s _ r.post t.post h.post g.post in
      let reads = one_list areas fresh _ r.reads t.reads h.reads g.reads in
      let changes = one_list areas fresh _ r.changes t.changes h.changes g.changes in
      let ins = h.ins ∙ sym g.ins in
      let outs = h.outs ∙ sym g.outs in
      let depth = h.depth ∙ sym g.depth in
      let code = one_code s _ r.code t.code h.code g.code in
      λ i. record {
        name = name i;
        line = record { 0 = line i };
        start = start i;
        pre = pre i;
        post = post i;
        reads = reads i;
        changes = changes i;
        ins = ins i;
        outs = outs i;
        depth = depth i;
        code = code i;
      }

  pub one_found : (bs : List Begun) (rs ts : List Routine) → AllZip (IsRoutineOf s areas) bs rs → AllZip (IsRoutineOf s areas) bs ts
      → map plain_routine rs ≡ map plain_routine ts
  one_found [] [] [] h g = refl
  one_found [] (r ∷ rs) ts h g = absurd h
  one_found [] [] (t ∷ ts) h g = absurd g
  one_found (b ∷ bs) [] ts h g = absurd h
  one_found (b ∷ bs) (r ∷ rs) [] h g = absurd g
  one_found (b ∷ bs) (r ∷ rs) (t ∷ ts) h g =
      let first = one_routine b r t h.0 g.0 in
      let rest = one_found bs rs ts h.1 g.1 in
      λ i. first i ∷ rest i

-- ---- Units

-- the address at which a routine begins
abbrev first_of : List PlainStmt → ℕ
first_of [] = 0
first_of (s ∷ stmts) = s.addr

abbrev plain_address : PlainRoutine → ℕ
plain_address r = first_of r.code

same_first : (code : List Stmt) → first_of (map plain_stmt code) ≡ first_address code
same_first [] = refl
same_first (s ∷ code) = refl

same_addresses : (rs : List Routine) → map plain_address (map plain_routine rs) ≡ map address_of rs
same_addresses [] = refl
same_addresses (r ∷ rs) =
    let first = same_first r.code in
    let rest = same_addresses rs in
    λ i. first i ∷ rest i

-- what one list has, in some order, and another that is like it
moved : (found given other sorted : List Routine) → IsPermutation found given → IsPermutation other sorted → map plain_routine found ≡ map plain_routine other
    → (z : PlainRoutine) → Contains (map plain_routine given) z → Contains (map plain_routine sorted) z
moved found given other sorted h g same z c =
    let r = mapped plain_routine given z c in
    let back = Contains-permutation given found r.0 (IsPermutation-sym found given h) r.1 in
    let across = subst (λ l. Contains l (plain_routine r.0)) same (in_map plain_routine found r.0 back) in
    let t = mapped plain_routine other (plain_routine r.0) across in
    subst (Contains (map plain_routine sorted)) (t.2 ∙ r.2) (in_map plain_routine sorted t.0 (Contains-permutation other sorted t.0 g t.1))

pair_is : (a b : ℕ × ℕ) → Some a ≡ Some b → a ≡ b
pair_is a b e = cc

-- two units of the lines of one source
pub one_unit : (s : Source) (entries : List Entry) → filter_map note_in entries ≡ s.notes → (p q : Program) → IsUnitOf s entries p → IsUnitOf s entries q → plain p ≡ plain q
one_unit s entries are p q h g =
    let image = h.image ∙ sym g.image in
    let stack = pair_is (p.first, p.last) (q.first, q.last) (sym h.stack ∙ g.stack) in
    let areas = h.areas ∙ sym g.areas in
    let fresh = subst (AreFresh []) (sym g.areas) (areas_fresh s entries are h.rules.right) in
    let each = subst (λ l. AllZip (IsRoutineOf s l) (begun entries) h.found) areas h.each in
    let same = one_found s q.areas fresh (begun entries) h.found g.found each g.each in
    let routines = one_sorted plain_address (map plain_routine p.routines) (map plain_routine q.routines)
    (subst IsStrictlyIncreasing (sym (same_addresses p.routines)) h.rising)
    (subst IsStrictlyIncreasing (sym (same_addresses q.routines)) g.rising)
    (moved h.found p.routines g.found q.routines h.routines g.routines same)
    (moved g.found q.routines h.found p.routines g.routines h.routines (sym same)) in
    λ i. record { image = image i; first = (stack i).0; last = (stack i).1; areas = areas i; routines = routines i }
