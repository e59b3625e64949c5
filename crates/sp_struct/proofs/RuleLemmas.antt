-- What the tests of the rules say.
use Rattle.std.proofs.Common.{◌≡◌, ◌≢◌, ◌<◌, ◌+◌, ℕ, ◌⊎◌, inl, inr, arith, Bool, true, false, List, [], ◌∷◌, Option, None, Some, slice_get, length, get_or, refl, sym, ap, ◌∙◌}
use Rattle.std.specs.Prelude.{not, ◌&&◌, ◌||◌, nat_eq, Contains}
use Rattle.std.specs.FinMap as maps
use Rattle.std.proofs.lemmas.Bool.{eqb-true, eq-eqb}
use Rattle.std.proofs.lemmas.List.Quantifiers.{position-Some}
use Rattle.std.proofs.lemmas.List.{get_or_default}
use Rattle.std.proofs.lemmas.List.Elements.{Contains-from_at, at_from_Contains}
use Rattle.std.proofs.lemmas.List.Folds.{Any-from_list_any, list_any_at}
use Rattle.std.proofs.lemmas.Option.{slice_get-get_or}
use Rattle.sp_base.specs.Image.{ImageMap}
use Rattle.sp_base.specs.declared.line.Line.{Line}
use Rattle.sp_isa.specs.declared.instr.Instr.{Instr}
use Rattle.sp_graph.specs.Control.{control_of}
use Rattle.sp_graph.specs.Routines.{callee_at}
use Rattle.sp_graph.specs.Structure.{IsNoCallee, MisusesPointer, jump_target, call_target, ends, returns, moves_pointer, loaded_pointer, stored}
use Rattle.sp_graph.specs.Successors.{place_of, routine_at}
use Rattle.sp_prog.specs.declared.routine.Routine.{Routine}
use Rattle.sp_prog.specs.declared.routine.Stmt.{Stmt}
use Rattle.sp_prog.specs.Program.{Program}
use Rattle.sp_prog.specs.Rules.{address_of}
use Rattle.sp_graph.specs.Routines.{graph_of}
use Rattle.sp_graph.specs.Structure.{IsAt, Takes, takes_word, is_push}
use Rattle.sp_isa.specs.declared.instr.Instr.TheVariants.{Push}
use Rattle.std.specs.Prelude.{ℤ, pos, ◌<ℤ◌, ◌+ℤ◌, ◌-ℤ◌, int_lt, if◌then◌else◌}
use Rattle.std.proofs.Common.{tests}
use Rattle.std.proofs.lemmas.Int.{ints}
use Rattle.std.proofs.lemmas.Option.{slice_get_within}
use Rattle.sp_struct.specs.code.Depths.{depth_at, is_seen}
use Rattle.sp_struct.specs.code.Levels.{AreLevels}
use Rattle.sp_struct.specs.declared.stack.Levels.{Levels}
use Rattle.sp_struct.proofs.LeastLemmas.{one_depth}
use Rattle.sp_struct.specs.Kinds.{IsBroken, IsLowestLine}
use Rattle.sp_struct.specs.code.Lowest.{Breaks, IsLowest}
use Rattle.sp_struct.specs.code.Rules.{is_missing, jump_misses, is_no_callee, call_misses, loads_elsewhere, loads_other, is_entry, jumps_to_entry, misuses_pointer, is_byte, writes_code, callee_bytes, call_bytes, bytes_taken, passes}
use Rattle.sp_struct.specs.declared.rules.Rule.{Rule}
use Rattle.sp_struct.specs.declared.rules.Rule.TheVariants as rule

pub both : (a b : Bool) → (a && b) ≡ true → (a ≡ true) × (b ≡ true)
both true true e = (refl, refl)
both true false e = absurd cc
both false b e = absurd cc

pub join : (a b : Bool) → a ≡ true → b ≡ true → (a && b) ≡ true
join a b e f = rw (e, f) refl

either : (a b : Bool) → (a || b) ≡ true → (a ≡ true) ⊎ (b ≡ true)
either true b e = inl refl
either false b e = inr e

left : (a b : Bool) → a ≡ true → (a || b) ≡ true
left a b e = rw e refl

right : (a b : Bool) → b ≡ true → (a || b) ≡ true
right true b e = refl
right false b e = e

falls : (b : Bool) → not b ≡ true → b ≡ false
falls true e = absurd cc
falls false e = refl

lifts : (b : Bool) → b ≡ false → not b ≡ true
lifts b e = rw e refl

truth : (b : Bool) → (b ≡ true → ⊥) → b ≡ false
truth true n = absurd (n refl)
truth false n = refl

-- ---- Jumps

missing : (o : Option ℕ) → is_missing o ≡ true → o ≡ None
missing None e = refl
missing (Some x) e = absurd cc

jump_out : (code : List Stmt) (t : Option ℕ) → jump_misses code t ≡ true → (a : ℕ) × (t ≡ Some a) × (place_of code a ≡ None)
jump_out code None e = absurd cc
jump_out code (Some a) e = (a, refl, missing (place_of code a) e)

jump_out_back : (code : List Stmt) (t : Option ℕ) (a : ℕ) → t ≡ Some a → place_of code a ≡ None → jump_misses code t ≡ true
jump_out_back code t a e n = rw (e, n) refl

-- ---- Calls

pub routine_within : (routines : List Routine) (a c : ℕ) → routine_at routines a ≡ Some c → c < length routines
routine_within [] a c e = absurd cc
routine_within (r ∷ routines) a c e = (position-Some (λ x. nat_eq (address_of x) a) (r ∷ routines) c r e).0

there : (routines : List Routine) (c : ℕ) → c < length routines → (r : Routine) × (slice_get routines c ≡ Some r)
there [] c l = absurd (omega arith)
there (r ∷ routines) c l = (get_or (r ∷ routines) c r, slice_get-get_or (r ∷ routines) c r l)

no_callee : (p : Program) (o : Option ℕ) → ((c : ℕ) → o ≡ Some c → c < length p.routines) → is_no_callee (callee_at p.routines o) ≡ true → IsNoCallee p o
no_callee p None within e = tt
no_callee p (Some c) within e =
    let r = there p.routines c (within c refl) in
    (r.0, r.1, rw r.1 at e)

no_callee_back : (p : Program) (o : Option ℕ) → IsNoCallee p o → is_no_callee (callee_at p.routines o) ≡ true
no_callee_back p None h = refl
no_callee_back p (Some c) h = rw h.1 h.2

call_out : (p : Program) (t : Option ℕ) → call_misses p.routines t ≡ true → (a : ℕ) × (t ≡ Some a) × IsNoCallee p (routine_at p.routines a)
call_out p None e = absurd cc
call_out p (Some a) e = (a, refl, no_callee p (routine_at p.routines a) (λ c h. routine_within p.routines a c h) e)

call_out_back : (p : Program) (t : Option ℕ) (a : ℕ) → t ≡ Some a → IsNoCallee p (routine_at p.routines a) → call_misses p.routines t ≡ true
call_out_back p t a e h = rw e (no_callee_back p (routine_at p.routines a) h)

-- ---- The stack pointer

elsewhere : (first : Bool) (l : Option ℕ) → loads_elsewhere first l ≡ true → (w : ℕ) × (l ≡ Some w) × (first ≡ false)
elsewhere first None e = absurd cc
elsewhere first (Some w) e = (w, refl, falls first e)

elsewhere_back : (first : Bool) (l : Option ℕ) (w : ℕ) → l ≡ Some w → first ≡ false → loads_elsewhere first l ≡ true
elsewhere_back first l w e f = rw (e, f) refl

other_word : (base : ℕ) (l : Option ℕ) → loads_other base l ≡ true → l ≢ Some base
other_word base None e = λ h. cc
other_word base (Some w) e = λ h. let same : w ≡ base = cc in let t = eq-eqb w base same in let f = falls (nat_eq w base) e in cc (t, f)

other_word_back : (base : ℕ) (l : Option ℕ) → l ≢ Some base → loads_other base l ≡ true
other_word_back base None ne = refl
other_word_back base (Some w) ne = lifts (nat_eq w base) (truth (nat_eq w base) (λ t. ne (ap (λ x. Some x) (eqb-true w base t))))

entry_is : (o : Option ℕ) → is_entry o ≡ true → o ≡ Some 0
entry_is None e = absurd cc
entry_is (Some place) e = ap (λ x. Some x) (eqb-true place 0 e)

to_entry : (code : List Stmt) (t : Option ℕ) → jumps_to_entry code t ≡ true → (a : ℕ) × (t ≡ Some a) × (place_of code a ≡ Some 0)
to_entry code None e = absurd cc
to_entry code (Some a) e = (a, refl, entry_is (place_of code a) e)

to_entry_back : (code : List Stmt) (t : Option ℕ) (a : ℕ) → t ≡ Some a → place_of code a ≡ Some 0 → jumps_to_entry code t ≡ true
to_entry_back code t a e f = rw (e, f) refl

module _ (p : Program) (routine : Routine) (k : ℕ) (s : Stmt) where
  at_entry : (routine.start && nat_eq k 0) ≡ true → (routine.start ≡ true) × (k ≡ 0)
  at_entry e = let b = both routine.start (nat_eq k 0) e in (b.0, eqb-true k 0 b.1)

  from_entry : (routine.start ≡ true) × (k ≡ 0) → (routine.start && nat_eq k 0) ≡ true
  from_entry h = join routine.start (nat_eq k 0) h.0 (eq-eqb k 0 h.1)

  abbrev elsewhere_here : Bool
  elsewhere_here = loads_elsewhere (routine.start && nat_eq k 0) (loaded_pointer s.instr)

  abbrev other_here : Bool
  other_here = (routine.start && nat_eq k 0) && loads_other (p.last + 1) (loaded_pointer s.instr)

  abbrev back_here : Bool
  back_here = routine.start && jumps_to_entry routine.code (jump_target (control_of s.instr))

  pub pointer : misuses_pointer p routine k s ≡ true → MisusesPointer p routine k s
  pointer e = elim (either (moves_pointer s.instr) (elsewhere_here || (other_here || back_here)) e) as (λ o. MisusesPointer p routine k s) [
    | inl m ↦ inl m
    | inr rest ↦ elim (either elsewhere_here (other_here || back_here) rest) as (λ o. MisusesPointer p routine k s) [
      | inl l ↦
          let w = elsewhere (routine.start && nat_eq k 0) (loaded_pointer s.instr) l in
          inr (inl (w.0, w.1, λ first. let t = from_entry first in let f = w.2 in cc (t, f)))
      | inr more ↦ elim (either other_here back_here more) as (λ o. MisusesPointer p routine k s) [
        | inl o ↦
            let parts = both (routine.start && nat_eq k 0) (loads_other (p.last + 1) (loaded_pointer s.instr)) o in
            let first = at_entry parts.0 in
            inr (inr (inl (first.0, first.1, other_word (p.last + 1) (loaded_pointer s.instr) parts.1)))
        | inr j ↦
            let parts = both routine.start (jumps_to_entry routine.code (jump_target (control_of s.instr))) j in
            inr (inr (inr (parts.0, to_entry routine.code (jump_target (control_of s.instr)) parts.1)))
      ]
    ]
  ]

  pub pointer_back : MisusesPointer p routine k s → misuses_pointer p routine k s ≡ true
  pointer_back (inl m) = left (moves_pointer s.instr) (elsewhere_here || (other_here || back_here)) m
  pointer_back (inr (inl w)) =
      right (moves_pointer s.instr) (elsewhere_here || (other_here || back_here)) (left elsewhere_here (other_here || back_here)
      (elsewhere_back (routine.start && nat_eq k 0) (loaded_pointer s.instr) w.0 w.1 (truth (routine.start && nat_eq k 0) (λ t. w.2 (at_entry t)))))
  pointer_back (inr (inr (inl o))) =
      right (moves_pointer s.instr) (elsewhere_here || (other_here || back_here)) (right elsewhere_here (other_here || back_here)
      (left other_here back_here
      (join (routine.start && nat_eq k 0) (loads_other (p.last + 1) (loaded_pointer s.instr)) (from_entry (o.0, o.1)) (other_word_back (p.last + 1) (loaded_pointer s.instr) o.2))))
  pointer_back (inr (inr (inr j))) =
      right (moves_pointer s.instr) (elsewhere_here || (other_here || back_here)) (right elsewhere_here (other_here || back_here)
      (right other_here back_here
      (join routine.start (jumps_to_entry routine.code (jump_target (control_of s.instr))) j.0
      (to_entry_back routine.code (jump_target (control_of s.instr)) j.1.0 j.1.1 j.1.2))))

-- ---- Stores

byte_is : (o : Option ℕ) → is_byte o ≡ true → (b : ℕ) × (o ≡ Some b)
byte_is None e = absurd cc
byte_is (Some b) e = (b, refl)

write_out : (image : ImageMap) (i : Instr) → writes_code image i ≡ true → (cell : ℕ) × (byte : ℕ) × Contains (stored i) cell × (maps.get image cell ≡ Some byte)
write_out image i e =
    let found = Any-from_list_any (λ cell. is_byte (maps.get image cell)) (stored i) e in
    let b = byte_is (maps.get image found.1) found.4 in
    (found.1, b.0, Contains-from_at (stored i) found.1 (found.0, found.2, λ d. get_or_default (stored i) found.0 d found.1 found.2 ∙ found.3), b.1)

write_back : (image : ImageMap) (i : Instr) (cell byte : ℕ) → Contains (stored i) cell → maps.get image cell ≡ Some byte → writes_code image i ≡ true
write_back image i cell byte h e =
    let at = at_from_Contains (stored i) cell h in
    list_any_at (λ c. is_byte (maps.get image c)) (stored i) at.0 cell at.1 (rw (at.2 cell, e) refl)

-- ---- Depths

seen_by : (b : Bool) → (b ≡ false → ⊥) → b ≡ true
seen_by true n = refl
seen_by false n = absurd (n refl)

below : (x y : ℤ) → int_lt x y ≡ true → x <ℤ y
below x y e = grind (arith, ints, tests)

above : (x y : ℤ) → x <ℤ y → int_lt x y ≡ true
above x y e = grind (arith, ints, tests)

-- ---- Bytes of stack

push_calls_none : (i : Instr) → is_push i ≡ true → call_target (control_of i) ≡ None
push_calls_none (Push pair) e = refl
push_calls_none _ e = absurd cc

call_takes : (p : Program) (s : Stmt) (t : Option ℕ) (n : ℕ) → call_target (control_of s.instr) ≡ t → call_bytes p.routines t ≡ Some n → Takes p s n
call_takes p s None n h e = absurd cc
call_takes p s (Some a) n h e = by_place (routine_at p.routines a) refl e
  where
    by_callee : (c : ℕ) (o : Option Routine) → routine_at p.routines a ≡ Some c → slice_get p.routines c ≡ o → callee_bytes o ≡ Some n → Takes p s n
    by_callee c None at g e = absurd cc
    by_callee c (Some callee) at g e = inr (c, callee, (a, h, at), g, (let same : 2 + callee.depth ≡ n = cc in sym same))

    by_place : (o : Option ℕ) → routine_at p.routines a ≡ o → callee_bytes (callee_at p.routines o) ≡ Some n → Takes p s n
    by_place None at e = absurd cc
    by_place (Some c) at e = by_callee c (slice_get p.routines c) at refl e

takes_by : (p : Program) (s : Stmt) (n : ℕ) (b : Bool) → is_push s.instr ≡ b →
    (if b then Some 2 else call_bytes p.routines (call_target (control_of s.instr))) ≡ Some n → Takes p s n
takes_by p s n true h e = inl (h, (let same : 2 ≡ n = cc in sym same))
takes_by p s n false h e = call_takes p s (call_target (control_of s.instr)) n refl e

takes_of : (p : Program) (s : Stmt) (n : ℕ) → Takes p s n → bytes_taken p.routines s.instr ≡ Some n
takes_of p s n (inl (h, e)) = rw (h, e) refl
takes_of p s n (inr (c, callee, call, g, e)) = by_push (is_push s.instr) refl
  where
    by_push : (b : Bool) → is_push s.instr ≡ b → (if b then Some 2 else call_bytes p.routines (call_target (control_of s.instr))) ≡ Some n
    by_push true h = let none = push_calls_none s.instr h in let some = call.1 in cc (none, some)
    by_push false h = rw (call.1, call.2, g, e) refl

passed : (o : Option ℕ) (limit : ℕ) (d : ℤ) → passes o limit d ≡ true → (n : ℕ) × (o ≡ Some n) × (pos limit <ℤ (d +ℤ pos n))
passed None limit d e = absurd cc
passed (Some n) limit d e = let l = below (pos limit -ℤ pos n) d e in (n, refl, omega (arith, ints, l))

passed_back : (o : Option ℕ) (limit n : ℕ) (d : ℤ) → o ≡ Some n → pos limit <ℤ (d +ℤ pos n) → passes o limit d ≡ true
passed_back o limit n d e l = rw e (above (pos limit -ℤ pos n) d (omega (arith, ints, l)))

-- ---- Each rule

module _ (p : Program) (all : List Levels) (levels : AreLevels p all) where
  levels_at : (r : ℕ) → r < length all → (v : Levels) × (slice_get all r ≡ Some v)
  levels_at r l = at_place all r l
    where
      at_place : (xs : List Levels) (r : ℕ) → r < length xs → (v : Levels) × (slice_get xs r ≡ Some v)
      at_place [] r l = absurd (omega arith)
      at_place (x ∷ xs) r l = (get_or (x ∷ xs) r x, slice_get-get_or (x ∷ xs) r x l)

  levels_of : {r k : ℕ} {routine : Routine} {s : Stmt} → IsAt p r k routine s → (v : Levels) × (slice_get all r ≡ Some v)
  levels_of {r} {k} {routine} at =
      levels_at r (let size = levels.size in let low = slice_get_within p.routines r routine at.among in omega (arith, size, low))

  pub tells : (rule : Rule) (r k line : ℕ) → Breaks p all rule r k line → IsBroken p rule line
  tells rule.JumpOut r k line (routine, s, v, at, there, l, b) = (r, k, routine, s, at, l, jump_out routine.code (jump_target (control_of s.instr)) b)
  tells rule.FallsOff r k line (routine, s, v, at, there, l, b) =
      let parts = both (nat_eq (k + 1) (length routine.code)) (not (ends (control_of s.instr))) b in
      (r, k, routine, s, at, l, (eqb-true (k + 1) (length routine.code) parts.0, falls (ends (control_of s.instr)) parts.1))
  tells rule.CallOut r k line (routine, s, v, at, there, l, b) = (r, k, routine, s, at, l, call_out p (call_target (control_of s.instr)) b)
  tells rule.Computed r k line (routine, s, v, at, there, l, b) = (r, k, routine, s, at, l, b)
  tells rule.StackPointer r k line (routine, s, v, at, there, l, b) = (r, k, routine, s, at, l, pointer p routine k s b)
  tells rule.Unreached r k line (routine, s, v, at, there, l, b) =
      (r, k, routine, s, at, l, (levels.each r routine v at.among there).none k (falls (is_seen v.reached.items k) b))
  tells rule.PopsReturn r k line (routine, s, v, at, there, l, b) =
      let parts = both (is_seen v.reached.items k) (takes_word s.instr && int_lt (depth_at v.depths.items k) (pos 2)) b in
      let takes = both (takes_word s.instr) (int_lt (depth_at v.depths.items k) (pos 2)) parts.1 in
      (r, k, routine, s, at, l, (takes.0, (depth_at v.depths.items k, (levels.each r routine v at.among there).some k parts.0, below (depth_at v.depths.items k) (pos 2) takes.1)))
  tells rule.OverDepth r k line (routine, s, v, at, there, l, b) =
      let parts = both (is_seen v.reached.items k) (passes (bytes_taken p.routines s.instr) routine.depth (depth_at v.depths.items k)) b in
      let over = passed (bytes_taken p.routines s.instr) routine.depth (depth_at v.depths.items k) parts.1 in (
        r,
        k,
        routine,
        s,
        at,
        l,
        (
          over.0,
          depth_at v.depths.items k,
          takes_by p s over.0 (is_push s.instr) refl over.1,
          (levels.each r routine v at.among there).some k parts.0,
          over.2,
        ),
      )
  tells rule.ReturnInStart r k line (routine, s, v, at, there, l, b) = (r, k, routine, s, at, l, both routine.start (returns (control_of s.instr)) b)
  tells rule.CodeWritten r k line (routine, s, v, at, there, l, b) = (r, k, routine, s, at, l, write_out p.image s.instr b)

  pub told : (rule : Rule) (line : ℕ) → IsBroken p rule line → (r : ℕ) × (k : ℕ) × Breaks p all rule r k line
  told rule.JumpOut line (r, k, routine, s, at, l, (a, e, n)) = (r, k, (routine, s, (levels_of at).0, at, (levels_of at).1, l, jump_out_back routine.code (jump_target (control_of s.instr)) a e n))
  told rule.FallsOff line (r, k, routine, s, at, l, (e, n)) =
      (r, k, (routine, s, (levels_of at).0, at, (levels_of at).1, l, join (nat_eq (k + 1) (length routine.code)) (not (ends (control_of s.instr))) (eq-eqb (k + 1) (length routine.code) e) (lifts (ends (control_of s.instr)) n)))
  told rule.CallOut line (r, k, routine, s, at, l, (a, e, n)) = (r, k, (routine, s, (levels_of at).0, at, (levels_of at).1, l, call_out_back p (call_target (control_of s.instr)) a e n))
  told rule.Computed line (r, k, routine, s, at, l, b) = (r, k, (routine, s, (levels_of at).0, at, (levels_of at).1, l, b))
  told rule.StackPointer line (r, k, routine, s, at, l, m) = (r, k, (routine, s, (levels_of at).0, at, (levels_of at).1, l, pointer_back p routine k s m))
  told rule.Unreached line (r, k, routine, s, at, l, none) =
      let v = levels_of at in (
        r,
        k,
        (
          routine,
          s,
          v.0,
          at,
          v.1,
          l,
          lifts (is_seen v.0.reached.items k) (truth (is_seen v.0.reached.items k)
              (λ t. let d = (levels.each r routine v.0 at.among v.1).some k t in none d.0 d.1.walk)),
        ),
      )
  told rule.PopsReturn line (r, k, routine, s, at, l, (takes, (depth, d, low))) =
      let v = levels_of at in
      let t = levels.each r routine v.0 at.among v.1 in
      let seen : is_seen v.0.reached.items k ≡ true = seen_by (is_seen v.0.reached.items k) (λ f. t.none k f d.0 d.1.walk) in
      let same : depth_at v.0.depths.items k ≡ depth = one_depth (graph_of p r) routine.code k (depth_at v.0.depths.items k) depth (t.some k seen) d in (
        r,
        k,
        (
          routine,
          s,
          v.0,
          at,
          v.1,
          l,
          join (is_seen v.0.reached.items k) (takes_word s.instr && int_lt (depth_at v.0.depths.items k) (pos 2)) seen
              (join (takes_word s.instr) (int_lt (depth_at v.0.depths.items k) (pos 2)) takes (rw same (above depth (pos 2) low))),
        ),
      )
  told rule.OverDepth line (r, k, routine, s, at, l, (n, depth, takes, d, over)) =
      let v = levels_of at in
      let t = levels.each r routine v.0 at.among v.1 in
      let seen : is_seen v.0.reached.items k ≡ true = seen_by (is_seen v.0.reached.items k) (λ f. t.none k f d.0 d.1.walk) in
      let same : depth_at v.0.depths.items k ≡ depth = one_depth (graph_of p r) routine.code k (depth_at v.0.depths.items k) depth (t.some k seen) d in (
        r,
        k,
        (
          routine,
          s,
          v.0,
          at,
          v.1,
          l,
          join (is_seen v.0.reached.items k) (passes (bytes_taken p.routines s.instr) routine.depth (depth_at v.0.depths.items k)) seen
              (rw same (passed_back (bytes_taken p.routines s.instr) routine.depth n depth (takes_of p s n takes) over)),
        ),
      )
  told rule.ReturnInStart line (r, k, routine, s, at, l, (e, n)) = (r, k, (routine, s, (levels_of at).0, at, (levels_of at).1, l, join routine.start (returns (control_of s.instr)) e n))
  told rule.CodeWritten line (r, k, routine, s, at, l, (cell, byte, c, e)) = (r, k, (routine, s, (levels_of at).0, at, (levels_of at).1, l, write_back p.image s.instr cell byte c e))

  pub lowest_line : (rule : Rule) (best : Option Line) → IsLowest (Breaks p all rule) best → IsLowestLine (IsBroken p rule) best
  lowest_line rule best h = record {
    found = λ line e. let f = h.found line e in tells rule f.0 f.1 line.0 f.2;
    least = λ line b. let t = told rule line b in h.least t.0 t.1 line t.2;
  }
