-- What the definitions of runs ask of a program, for units.
use Rattle.std.proofs.Common.{◌≡◌, inl, inr, ℕ, ◌+◌, ◌<◌, List, [], ◌∷◌, length, map, Some, refl, sym, ap, subst, ◌∙◌, arith, lit<, ◌⊎◌, cond, filter, Bool, true, false}
use Rattle.std.specs.Prelude.{Contains, AllPairs, slice_get, flat_map, IsTrue}
use Rattle.std.proofs.lemmas.List.Elements.{filter_passes, All-contains, Contains-append_left, Contains-append_right}
use Rattle.sp_base.specs.declared.location.Loc.{Loc}
use Rattle.sp_base.specs.declared.location.Loc.TheVariants as loc
use Rattle.sp_base.specs.Locs.{has}
use Rattle.sp_isa.specs.Code.{code, valid}
use Rattle.sp_model.specs.Good.{InArea}
use Rattle.sp_model.specs.Unit as runs
use Rattle.sp_prog.specs.declared.area.Area.{Area}
use Rattle.sp_prog.specs.declared.routine.Routine.{Routine}
use Rattle.sp_prog.specs.declared.routine.Stmt.{Stmt}
use Rattle.sp_prog.specs.Program.{Program}
use Rattle.sp_prog.specs.Rules.{first_address, size_of, HasBytes, HaveNoCommonByte, IsArea, IsInArea, IsFree, IsUnit, IsRoutine, IsStmt}
use Rattle.sp_prog.specs.View.{all_locs, locs_of, area_of, listed_areas, stmt_of, routine_of, unit_of}
use Rattle.sp_prog.specs.Laws.{InStack, HasNoByte, IsApart, IsOf, HasCode, UnitsArePrograms, ListsHaveTheirLocations}
use Rattle.sp_prog.proofs.MemberLemmas.{later, first_or_later, none, first, found, mapped, in_map, kept, across, of_first, of_second, same}

-- ---- Instructions of routines

begins_by : (stmts : List Stmt) → 0 < length stmts → (s : Stmt) × Contains stmts s × (s.addr ≡ first_address stmts)
begins_by [] h = absurd (omega (arith, h))
begins_by (s ∷ stmts) h = (s, first s stmts, refl)

-- the routine and the instruction of a unit that those of its program come from
record Origin (p : Program) (r : runs.Routine) (i : runs.Stmt) : Type 0 where
  routine : Routine
  stmt : Stmt
  among : Contains p.routines routine
  within : Contains routine.code stmt
  is_routine : routine_of p.areas routine ≡ r
  is_stmt : stmt_of stmt ≡ i

abbrev code_of : Routine → List Stmt
code_of r = r.code

in_all : (routines : List Routine) (r : Routine) (s : Stmt) → Contains routines r → Contains r.code s → Contains (flat_map code_of routines) s
in_all [] r s of_r at_s = absurd (none r of_r)
in_all (f ∷ routines) r s of_r at_s =
    elim (first_or_later f r routines of_r) [
      | inl e ↦ Contains-append_left f.code (flat_map code_of routines) s (subst (λ (x : Routine). Contains x.code s) (sym e) at_s)
      | inr rest ↦ Contains-append_right f.code (flat_map code_of routines) s (in_all routines r s rest at_s)
    ]

-- two instructions of these routines that share a byte's address are one, in one routine
one_of : (routines : List Routine) → AllPairs HaveNoCommonByte (flat_map code_of routines)
    → (r q : Routine) (i j : Stmt) → Contains routines r → Contains routines q → Contains r.code i → Contains q.code j
    → ¬ HaveNoCommonByte i j → ¬ HaveNoCommonByte j i → (r ≡ q) × (i ≡ j)
one_of [] h r q i j of_r of_q at_i at_j unlike back = absurd (none r of_r)
one_of (f ∷ routines) h r q i j of_r of_q at_i at_j unlike back =
    let R = HaveNoCommonByte in
    let more = flat_map code_of routines in
    elim (first_or_later f r routines of_r) [
      | inl e ↦
          let i_first = subst (λ (x : Routine). Contains x.code i) (sym e) at_i in
          elim (first_or_later f q routines of_q) [
            | inl also ↦ (sym e ∙ also, same R f.code (of_first R f.code more h) i j i_first (subst (λ (x : Routine). Contains x.code j) (sym also) at_j) unlike back)
            | inr rest ↦ absurd (unlike (across R f.code more h i j i_first (in_all routines q j rest at_j)))
          ]
      | inr above ↦
          elim (first_or_later f q routines of_q) [
            | inl also ↦ absurd (back (across R f.code more h j i (subst (λ (x : Routine). Contains x.code j) (sym also) at_j) (in_all routines r i above at_i)))
            | inr rest ↦ one_of routines (of_second R f.code more h) r q i j above rest at_i at_j unlike back
          ]
    ]

-- ---- Areas

-- a listed area is one of the areas, at one of the places of the list
listed : (areas : List Area) (places : List ℕ) (area : runs.Area) → Contains (map area_of (listed_areas areas places)) area
    → (a : Area) × (place : ℕ) × Contains places place × (slice_get areas place ≡ Some a) × (area_of a ≡ area)
listed areas places area h =
    let m = mapped area_of (listed_areas areas places) area h in
    let k = kept (slice_get areas) places m.0 m.1 in
    (m.0, k.0, k.1, k.2, m.2)

module _ (p : Program) (u : IsUnit p) where
  -- the routine that a routine of the program comes from
  from : (r : runs.Routine) → Contains (unit_of p).routines r → (q : Routine) × Contains p.routines q × (routine_of p.areas q ≡ r)
  from r h = mapped (routine_of p.areas) p.routines r h

  rules : (q : Routine) → Contains p.routines q → IsRoutine p q
  rules q h = All-contains (IsRoutine p) p.routines q u.routines h

  areas_apart : (area : runs.Area) → Contains (unit_of p).areas area → (a : ℕ) → InArea a area → ¬ InStack (unit_of p) a
  areas_apart area h a within inside =
      let m = mapped area_of p.areas area h in
      (All-contains (IsArea p) p.areas m.0 u.areas m.1).apart a (subst (InArea a) (sym m.2) within) inside

  are_areas : (places : List ℕ) (area : runs.Area) → Contains (map area_of (listed_areas p.areas places)) area → Contains (map area_of p.areas) area
  are_areas places area h =
      let l = listed p.areas places area h in
      subst (Contains (map area_of p.areas)) l.4 (in_map area_of p.areas l.0 (found p.areas l.1 l.0 l.3))

  changed : (r : runs.Routine) (area : runs.Area) → Contains (unit_of p).routines r → Contains r.changes.areas area → (a : ℕ) → InArea a area → HasNoByte (unit_of p) a
  changed r area h c a within =
      let f = from r h in
      let l = listed p.areas f.0.changes.areas area (subst (λ (x : runs.Routine). Contains x.changes.areas area) (sym f.2) c) in
      All-contains (λ place. (x : Area) → slice_get p.areas place ≡ Some x → (b : ℕ) → IsInArea x b → IsFree p.image b) f.0.changes.areas l.1 (rules f.0 f.1).changes_free l.2 l.0 l.3 a (subst (InArea a) (sym l.4) within)

  pub is_apart : IsApart (unit_of p)
  is_apart = record {
    ordered = u.stack_ordered;
    last = u.stack_end;
    stack = u.stack_free;
    areas = areas_apart;
    changed = changed;
    read_areas = λ r area h c. let f = from r h in are_areas f.0.reads.areas area (subst (λ (x : runs.Routine). Contains x.reads.areas area) (sym f.2) c);
    changed_areas = λ r area h c. let f = from r h in are_areas f.0.changes.areas area (subst (λ (x : runs.Routine). Contains x.changes.areas area) (sym f.2) c);
  }

  -- ---- Instructions

  begins : (r : runs.Routine) → Contains (unit_of p).routines r → (i : runs.Stmt) × Contains r.code i × (i.address ≡ r.address)
  begins r h =
      let f = from r h in
      let b = begins_by f.0.code (rules f.0 f.1).some in
      (stmt_of b.0, subst (λ (x : runs.Routine). Contains x.code (stmt_of b.0)) f.2 (in_map stmt_of f.0.code b.0 b.1), b.2 ∙ ap (λ (x : runs.Routine). x.address) f.2)

  -- the instruction that an instruction of the program comes from
  comes_from : (r : runs.Routine) (i : runs.Stmt) → IsOf (unit_of p) r i → Origin p r i
  comes_from r i h =
      let f = from r h.0 in
      let m = mapped stmt_of f.0.code i (subst (λ (x : runs.Routine). Contains x.code i) (sym f.2) h.1) in
      record { routine = f.0; stmt = m.0; among = f.1; within = m.1; is_routine = f.2; is_stmt = m.2 }

  codes : (r : runs.Routine) (i : runs.Stmt) → IsOf (unit_of p) r i → IsTrue (valid i.instr) × HasBytes p.image i.address (code i.instr)
  codes r i h =
      let o = comes_from r i h in
      let s = All-contains (IsStmt p.image) o.routine.code o.stmt (rules o.routine o.among).code o.within in
      subst (λ (x : runs.Stmt). IsTrue (valid x.instr) × HasBytes p.image x.address (code x.instr)) o.is_stmt (s.valid, s.code)

  one : (r q : runs.Routine) (i j : runs.Stmt) → IsOf (unit_of p) r i → IsOf (unit_of p) q j → (k m : ℕ) → k < length (code i.instr) → m < length (code j.instr)
      → i.address + k ≡ j.address + m → (r ≡ q) × (i ≡ j)
  one r q i j of_r of_q k m low high e =
      let a = comes_from r i of_r in
      let b = comes_from q j of_q in
      let within_a : k < size_of a.stmt = subst (λ (x : runs.Stmt). k < length (code x.instr)) (sym a.is_stmt) low in
      let within_b : m < size_of b.stmt = subst (λ (x : runs.Stmt). m < length (code x.instr)) (sym b.is_stmt) high in
      let meet : a.stmt.addr + k ≡ b.stmt.addr + m =
      ap (λ (x : runs.Stmt). x.address + k) a.is_stmt ∙ e ∙ sym (ap (λ (x : runs.Stmt). x.address + m) b.is_stmt) in
      let both = one_of p.routines u.apart a.routine b.routine a.stmt b.stmt a.among b.among a.within b.within
      (λ h. h k m within_a within_b meet) (λ h. h m k within_b within_a (sym meet)) in
      (sym a.is_routine ∙ ap (routine_of p.areas) both.0 ∙ b.is_routine, sym a.is_stmt ∙ ap stmt_of both.1 ∙ b.is_stmt)

  pub has_code : HasCode (unit_of p)
  has_code = record { begins = begins; codes = codes; one = one }

pub units_are_programs : UnitsArePrograms
units_are_programs = record { apart = is_apart; code = has_code }

-- ---- Locations

module _ {A : Type 0} (test : A → Bool) where
  stays_by : (x y : A) (xs : List A) (t : Bool) → test y ≡ t → Contains xs x ⊎ (y ≡ x) → test x ≡ true → (Contains xs x → Contains (filter test xs) x)
      → Contains (cond t (y ∷ filter test xs) (filter test xs)) x
  stays_by x y xs true e (inl rest) passes more = later y x (filter test xs) (more rest)
  stays_by x y xs false e (inl rest) passes more = more rest
  stays_by x y xs true e (inr same) passes more = subst (λ z. Contains (z ∷ filter test xs) x) (sym same) (first x (filter test xs))
  stays_by x y xs false e (inr same) passes more = let wrong : true ≡ false = sym passes ∙ ap test (sym same) ∙ e in cc

  -- what passes the test stays
  stays : (xs : List A) (x : A) → Contains xs x → test x ≡ true → Contains (filter test xs) x
  stays [] x h passes = absurd (none x h)
  stays (y ∷ xs) x h passes = stays_by x y xs (test y) refl (elim (first_or_later y x xs h) [ inl e ↦ inr e | inr rest ↦ inl rest ]) passes (λ rest. stays xs x rest passes)

every_loc : (x : Loc) → Contains all_locs x
every_loc loc.A = (0, lit< tt, refl)
every_loc loc.B = (1, lit< tt, refl)
every_loc loc.C = (2, lit< tt, refl)
every_loc loc.D = (3, lit< tt, refl)
every_loc loc.E = (4, lit< tt, refl)
every_loc loc.H = (5, lit< tt, refl)
every_loc loc.L = (6, lit< tt, refl)
every_loc loc.S = (7, lit< tt, refl)
every_loc loc.Z = (8, lit< tt, refl)
every_loc loc.Ac = (9, lit< tt, refl)
every_loc loc.P = (10, lit< tt, refl)
every_loc loc.Cy = (11, lit< tt, refl)

pub lists_have_their_locations : ListsHaveTheirLocations
lists_have_their_locations locs x = (
  (λ h. All-contains (λ y. has y locs ≡ true) (locs_of locs) x (filter_passes (λ y. has y locs) all_locs) h),
  (λ h. stays (λ y. has y locs) all_locs x (every_loc x) h),
)
