-- Rows of the routines that routines call, and to which calls lead.
use Rattle.std.proofs.Common.{◌≡◌, ◌<◌, ◌+◌, ℕ, zero, suc, inl, inr, arith, true, false, List, [], ◌∷◌, ◌++◌, Option, None, Some, slice_get, length, length-append, get_or, refl, sym, ap, ◌∙◌}
use Rattle.std.specs.Prelude.{◌||◌}
use Rattle.std.proofs.lemmas.Bool.{cases_order, eqb-true, eq-eqb, or_left, or_right, or_cases}
use Rattle.std.proofs.lemmas.List.{get_or_append_left, get_or_push}
use Rattle.std.proofs.lemmas.Option.{slice_get_within}
use Rattle.sp_graph.specs.Control.{control_of}
use Rattle.sp_graph.specs.Structure.{IsCallOf, Calls, CallsLead, call_target}
use Rattle.sp_graph.specs.Structure.CallsLead.{one, more}
use Rattle.sp_graph.specs.Successors.{routine_at}
use Rattle.sp_prog.specs.declared.routine.Routine.{Routine}
use Rattle.sp_prog.specs.declared.routine.Stmt.{Stmt}
use Rattle.sp_prog.specs.Program.{Program}
use Rattle.sp_struct.specs.code.Bits.{has}
use Rattle.sp_struct.specs.code.Ways.{leads, way_through}
use Rattle.sp_struct.specs.code.Calls.{called_at, callee_of, is_place, is_call_in, calls_first, calls_by, calls, words_for, TellCalls, TellLeads}
use Rattle.sp_struct.proofs.WayLemmas.{way_of_step, joined_ways, ways_are, same_ways}

-- ---- Calls

called_by_option : (routines : List Routine) (o : Option ℕ) (c : ℕ) → called_at routines o ≡ Some c → (a : ℕ) × (o ≡ Some a) × (routine_at routines a ≡ Some c)
called_by_option routines None c e = absurd cc
called_by_option routines (Some a) c e = (a, refl, e)

pub call_is : (p : Program) (s : Stmt) (c : ℕ) → callee_of p.routines s.instr ≡ Some c → IsCallOf p s c
call_is p s c e = called_by_option p.routines (call_target (control_of s.instr)) c e

pub is_call : (p : Program) (s : Stmt) (c : ℕ) → IsCallOf p s c → callee_of p.routines s.instr ≡ Some c
is_call p s c (a, target, at) = ap (called_at p.routines) target ∙ at

place_is : (o : Option ℕ) (c : ℕ) → is_place o c ≡ true → o ≡ Some c
place_is None c e = absurd cc
place_is (Some place) c e = ap (λ x. Some x) (sym (eqb-true c place e))

is_the_place : (o : Option ℕ) (c : ℕ) → o ≡ Some c → is_place o c ≡ true
is_the_place o c e = rw e (eq-eqb c c refl)

module _ (routines : List Routine) (code : List Stmt) (c : ℕ) where
  abbrev Call : ℕ → ℕ → Stmt → Type 0
  Call count k s = (k < count) × (slice_get code k ≡ Some s) × (callee_of routines s.instr ≡ Some c)

  call_here : (count : ℕ) (o : Option Stmt) → slice_get code count ≡ o → is_call_in routines o c ≡ true → (k : ℕ) × (s : Stmt) × Call (suc count) k s
  call_here count None e h = absurd cc
  call_here count (Some s) e h = (count, s, (omega arith, e, place_is (callee_of routines s.instr) c h))

  pub call_among : (count : ℕ) → calls_first routines code count c ≡ true → (k : ℕ) × (s : Stmt) × Call count k s
  unfolding calls_first
  call_among zero h = absurd cc
  call_among (suc count) h =
      elim (or_cases (calls_first routines code count c) (is_call_in routines (slice_get code count) c) h) as (λ o. (k : ℕ) × (s : Stmt) × Call (suc count) k s) [
        | inl a ↦ let k = call_among count a in let l = k.2.0 in (k.0, k.1, (omega (arith, l), k.2.1, k.2.2))
        | inr b ↦ call_here count (slice_get code count) refl b
      ]

  pub among_calls : (count k : ℕ) (s : Stmt) → k < count → slice_get code k ≡ Some s → callee_of routines s.instr ≡ Some c → calls_first routines code count c ≡ true
  unfolding calls_first
  among_calls zero k s l e h = absurd (omega arith)
  among_calls (suc count) k s l e h = elim (cases_order k count) as (λ o. calls_first routines code (suc count) c ≡ true) [
    | inl same ↦
        let here : slice_get code count ≡ Some s = rw same at e in
        or_right (calls_first routines code count c) (is_call_in routines (slice_get code count) c) (rw here (is_the_place (callee_of routines s.instr) c h))
    | inr o ↦ elim o as (λ o. calls_first routines code (suc count) c ≡ true) [
      | inl low ↦ or_left (calls_first routines code count c) (is_call_in routines (slice_get code count) c) (among_calls count k s low e h)
      | inr high ↦ absurd (omega (arith, l, high))
    ]
  ]

pub no_calls_first : (routines : List Routine) (code : List Stmt) (c : ℕ) → calls_first routines code 0 c ≡ false
unfolding calls_first
no_calls_first routines code c = refl

pub calls_next : (routines : List Routine) (code : List Stmt) (count c : ℕ) (s : Stmt) → slice_get code count ≡ Some s →
    calls_first routines code (count + 1) c ≡ (calls_first routines code count c || is_place (callee_of routines s.instr) c)
unfolding calls_first
calls_next routines code count c s e = let is : count + 1 ≡ suc count = omega arith in rw is (ap (λ o. calls_first routines code count c || is_call_in routines o c) e)

module _ (p : Program) where
  by_routine : (r c : ℕ) (o : Option Routine) → slice_get p.routines r ≡ o → calls_by p.routines o c ≡ true → Calls p r c
  by_routine r c None e h = absurd cc
  by_routine r c (Some routine) e h =
      let k = call_among p.routines routine.code c (length routine.code) h in
      (k.0, routine, k.1, record { among = e; within = k.2.1 }, call_is p k.1 c k.2.2)

  pub calls_are : (r c : ℕ) → calls p r c ≡ true → Calls p r c
  calls_are r c h = by_routine r c (slice_get p.routines r) refl h

  pub are_calls : (r c : ℕ) → Calls p r c → calls p r c ≡ true
  are_calls r c (k, routine, s, at, call) =
      rw at.among (among_calls p.routines routine.code c (length routine.code) k s (slice_get_within routine.code k s at.within) at.within (is_call p s c call))

  -- ---- Ways of calls

  pub leads_joined : (a b c : ℕ) → CallsLead p a b → CallsLead p b c → CallsLead p a c
  leads_joined a _ _ l (one b c h) = more a b c l h
  leads_joined a _ _ l (more b m c k h) = more a m c (leads_joined a b m l k) h

  pub caller_within : (r c : ℕ) → Calls p r c → r < length p.routines
  caller_within r c (k, routine, s, at, call) = slice_get_within p.routines r routine at.among

  pub way_leads : (k r c : ℕ) → way_through (calls p) k r c ≡ true → CallsLead p r c
  way_leads = ways_are (calls p) (CallsLead p) (λ i j e. one i j (calls_are i j e)) leads_joined

  pub leads_way : (r c : ℕ) → CallsLead p r c → way_through (calls p) (length p.routines) r c ≡ true
  leads_way _ _ (one r c h) = way_of_step (calls p) (length p.routines) r c (are_calls r c h)
  leads_way _ _ (more r m c l h) =
      joined_ways (calls p) (length p.routines) r m c (caller_within m c h) (leads_way r m l) (way_of_step (calls p) (length p.routines) m c (are_calls m c h))

  -- ---- Rows

  pub no_rows : TellCalls p 0 []
  no_rows = record { size = refl; words = λ i l. absurd (omega arith); told = λ r c l. absurd (omega arith) }

  pub row_more : (count : ℕ) (rows : List (List ℕ)) (row : List ℕ) → TellCalls p count rows → length row ≡ words_for p.routines →
      ((c : ℕ) → has row c ≡ calls p count c) → TellCalls p (count + 1) (rows ++ row ∷ [])
  row_more count rows row t size h =
      let n = t.size in
      record {
        size = omega (arith, n, length-append rows (row ∷ []));
        words = λ i l. elim (cases_order i count) as (λ o. length (get_or (rows ++ row ∷ []) i []) ≡ words_for p.routines) [
          | inl same ↦ ap length (get_or_push rows row [] i (omega (arith, n, same))) ∙ size
          | inr o ↦ elim o as (λ o. length (get_or (rows ++ row ∷ []) i []) ≡ words_for p.routines) [
            | inl low ↦ ap length (get_or_append_left rows (row ∷ []) [] i (omega (arith, n, low))) ∙ t.words i (omega (arith, n, low))
            | inr high ↦ absurd (omega (arith, n, high, l, length-append rows (row ∷ [])))
          ]
        ];
        told = λ r c l. elim (cases_order r count) as (λ o. leads (rows ++ row ∷ []) r c ≡ calls p r c) [
          | inl same ↦ ap (λ x. has x c) (get_or_push rows row [] r (omega (arith, n, same))) ∙ h c ∙ ap (λ x. calls p x c) (sym same)
          | inr o ↦ elim o as (λ o. leads (rows ++ row ∷ []) r c ≡ calls p r c) [
            | inl low ↦ ap (λ x. has x c) (get_or_append_left rows (row ∷ []) [] r (omega (arith, n, low))) ∙ t.told r c low
            | inr high ↦ absurd (omega (arith, l, high))
          ]
        ];
      }

  pub leads_told : (old new : List (List ℕ)) → TellCalls p (length p.routines) old → length new ≡ length old →
      ((i j : ℕ) → i < length old → leads new i j ≡ way_through (leads old) (length old) i j) → TellLeads p new
  leads_told old new t size ways =
      let n = t.size in
      let way : (r c : ℕ) → r < length p.routines → leads new r c ≡ way_through (calls p) (length p.routines) r c =
      λ r c l. ways r c (omega (arith, n, l))
      ∙ ap (λ k. way_through (leads old) k r c) n
      ∙ same_ways (leads old) (calls p) (length p.routines) t.told (length p.routines) r c (omega arith) l in
      record {
        size = size ∙ t.size;
        told = λ r c l. ((λ e. way_leads (length p.routines) r c (sym (way r c l) ∙ e)), (λ h. way r c l ∙ leads_way r c h));
      }
