-- What the rules on structure and flow give of an instruction.
use Rattle.std.proofs.Common.{◌≡◌, ◌≢◌, inl, inr, ℕ, zero, suc, ◌+◌, ◌*◌, ◌≤◌, pos, Bool, true, false, List, Option, None, Some, slice_get, refl, sym, ap, subst, ◌∙◌, arith}
use Rattle.std.specs.Prelude.{slice_index, ◌+ℤ◌, ◌<ℤ◌}
use Rattle.std.proofs.lemmas.Bool.{cases_order}
use Rattle.std.proofs.lemmas.Int.{ints}
use Rattle.std.proofs.lemmas.Option.{slice_get_within}
use Rattle.sp_base.specs.declared.pair.Pair.{Pair}
use Rattle.sp_base.specs.declared.pair.Pair.TheVariants as pair
use Rattle.sp_isa.specs.Core.{Core}
use Rattle.sp_isa.specs.declared.instr.Instr.{Instr}
use Rattle.sp_isa.specs.declared.instr.Instr.TheVariants.{Lxi, Inx, Dcx, Dad, Push, Pop, Call, Ccc, Ret, Rcc, Rst, Pchl, Sphl}
use Rattle.sp_prog.specs.Program.{Program}
use Rattle.sp_prog.specs.declared.routine.Routine.{Routine}
use Rattle.sp_prog.specs.declared.routine.Stmt.{Stmt}
use Rattle.sp_graph.specs.Control.{control_of}
use Rattle.sp_graph.specs.Depths.{effect}
use Rattle.sp_graph.specs.Graph.{LeadsTo}
use Rattle.sp_graph.specs.Least.{Successor}
use Rattle.sp_graph.specs.Routines.{graph_of}
use Rattle.sp_graph.specs.Structure.{DepthAt, MisusesPointer, IsCallOf, returns, loaded_pointer, is_computed, moves_pointer, takes_word, is_push}
use Rattle.sp_struct.proofs.StructuredLemmas as structured
use Rattle.sp_trans.specs.Meaning.{HasForm}
use Rattle.sp_trans.proofs.PointerLemmas.{words_after}
use Rattle.sp_facts.specs.Theorems.{MayPass}
use Rattle.sp_safety.specs.Calls.{On, way_of}
use Rattle.sp_safety.proofs.AreaLemmas.{same_or_not}
use Rattle.sp_safety.proofs.GivenLemmas.{Given, graph, graph_is, is_at}

module _ (p : Program) (r : ℕ) (routine : Routine) (depths : List ℕ) (given : Given p r routine depths) (at : ℕ) (s : Stmt) (here : slice_get routine.code at ≡ Some s) where
  -- ---- the stack pointer

  no_misuse : MisusesPointer p routine at s → ⊥
  no_misuse h = given.structured.pointer s.line.0 (r, at, routine, s, is_at p r routine depths given at s here, refl, h)

  not_moved : (i : Instr) → s.instr ≡ i → moves_pointer i ≡ true → ⊥
  not_moved i e h = no_misuse (inl (ap moves_pointer e ∙ h))

  form_of_dad : (q : Pair) → s.instr ≡ Dad q → HasForm (Dad q)
  form_of_dad pair.B e = tt
  form_of_dad pair.D e = tt
  form_of_dad pair.H e = tt
  form_of_dad pair.Sp e = absurd (not_moved (Dad pair.Sp) e refl)

  form_of_inx : (q : Pair) → s.instr ≡ Inx q → HasForm (Inx q)
  form_of_inx pair.B e = tt
  form_of_inx pair.D e = tt
  form_of_inx pair.H e = tt
  form_of_inx pair.Sp e = absurd (not_moved (Inx pair.Sp) e refl)

  form_of_dcx : (q : Pair) → s.instr ≡ Dcx q → HasForm (Dcx q)
  form_of_dcx pair.B e = tt
  form_of_dcx pair.D e = tt
  form_of_dcx pair.H e = tt
  form_of_dcx pair.Sp e = absurd (not_moved (Dcx pair.Sp) e refl)

  -- an instruction that goes on, but Ccc and Rcc, is translated
  pub form : (core : Core) (i : Instr) → s.instr ≡ i → way_of i core ≡ On → (MayPass i → ⊥) → HasForm i
  form core (Call w) e on strict = cc
  form core (Ccc c w) e on strict = absurd (strict tt)
  form core Ret e on strict = cc
  form core (Rcc c) e on strict = absurd (strict tt)
  form core (Rst n) e on strict = cc
  form core Pchl e on strict = absurd (given.structured.computed s.line.0 (r, at, routine, s, is_at p r routine depths given at s here, refl, ap is_computed e))
  form core Sphl e on strict = absurd (not_moved Sphl e refl)
  form core (Dad q) e on strict = form_of_dad q e
  form core (Inx q) e on strict = form_of_inx q e
  form core (Dcx q) e on strict = form_of_dcx q e
  form core i e on strict = tt

  same_option : (o : Option ℕ) (n : ℕ) → ((o ≢ Some n) → ⊥) → o ≡ Some n
  same_option None n h = absurd (h (λ e. cc))
  same_option (Some m) n h = elim (same_or_not m n) [ inl e ↦ ap Some e | inr other ↦ absurd (h (λ e. other (let same : m ≡ n = cc in same))) ]

  -- a start routine sets the stack pointer first
  pub loads_first : routine.start ≡ true → at ≡ 0 → loaded_pointer s.instr ≡ Some (p.last + 1)
  loads_first starts zero_at = same_option (loaded_pointer s.instr) (p.last + 1) (λ other. no_misuse (inr (inr (inl (starts, zero_at, other)))))

  pub sets : (i : Instr) (w : ℕ) → loaded_pointer i ≡ Some w → i ≡ Lxi pair.Sp w
  sets (Lxi pair.Sp v) w h = let same : v ≡ w = cc in ap (Lxi pair.Sp) same
  sets (Lxi pair.B v) w h = cc
  sets (Lxi pair.D v) w h = cc
  sets (Lxi pair.H v) w h = cc
  sets i w h = cc

  -- only there is it set
  pub sets_only : (w : ℕ) → s.instr ≡ Lxi pair.Sp w → (routine.start ≡ true) × (at ≡ 0)
  sets_only w e = by routine.start at refl refl
    where
      wrong : ((routine.start ≡ true) × (at ≡ 0) → ⊥) → ⊥
      wrong other = no_misuse (inr (inl (w, ap loaded_pointer e, other)))

      by : (b : Bool) (k : ℕ) → routine.start ≡ b → at ≡ k → (routine.start ≡ true) × (at ≡ 0)
      by true zero starts first = (starts, first)
      by true (suc k) starts first = absurd (wrong (λ h. let same = h.1 in omega (arith, same, first)))
      by false k starts first = absurd (wrong (λ h. let clash : true ≡ false = sym h.0 ∙ starts in cc))

  -- ---- depths

  pub depth_at : DepthAt p r routine at (pos (slice_index depths at))
  depth_at = given.depths_are.each at (slice_get_within routine.code at s here)

  pub effect_words : (i : Instr) (n d e : ℕ) → 2 * n ≡ d → pos e ≡ pos d +ℤ effect i → (takes_word i ≡ true → 1 ≤ n) → 2 * words_after i n ≡ e
  effect_words (Push q) n d e same next some = let more : e ≡ d + 2 = grind (arith, ints) in omega arith
  effect_words (Pop q) n d e same next some = let least = some refl in let less : e + 2 ≡ d = grind (arith, ints) in omega arith
  effect_words i n d e same next some = let level : e ≡ d = grind (arith, ints) in omega arith

  not_below : (a b : ℕ) → (pos a <ℤ pos b → ⊥) → b ≤ a
  not_below a b h = elim (cases_order a b) [ inl e ↦ omega (arith, e) | inr (inl l) ↦ absurd (h (grind (arith, ints))) | inr (inr l) ↦ omega (arith, l) ]

  -- POP and XTHL have a word to take
  pub some_word : (n : ℕ) → 2 * n ≡ slice_index depths at → takes_word s.instr ≡ true → 1 ≤ n
  some_word n same takes =
      let most = not_below (slice_index depths at) 2 (λ less. given.structured.pops s.line.0 (r, at, routine, s, is_at p r routine depths given at s here, refl, (takes, (pos (slice_index depths at), depth_at, less)))) in
      omega (arith, same, most)

  -- PUSH has room
  pub room_for_push : (n : ℕ) → 2 * n ≡ slice_index depths at → is_push s.instr ≡ true → 2 * n + 2 ≤ routine.depth
  room_for_push n same pushes =
      let most = not_below routine.depth (slice_index depths at + 2) (λ less. given.structured.over s.line.0 (inl (r, at, routine, s, is_at p r routine depths given at s here, refl, (2, pos (slice_index depths at), inl (pushes, refl), depth_at, less)))) in
      omega (arith, same, most)

  -- and so has a call
  pub room_for_call : (n c : ℕ) (callee : Routine) → 2 * n ≡ slice_index depths at → IsCallOf p s c → slice_get p.routines c ≡ Some callee → 2 * n + (2 + callee.depth) ≤ routine.depth
  room_for_call n c callee same call there =
      let most = not_below routine.depth (slice_index depths at + (2 + callee.depth)) (λ less. given.structured.over s.line.0 (inl (r, at, routine, s, is_at p r routine depths given at s here, refl, (2 + callee.depth, pos (slice_index depths at), inr (c, callee, call, there, refl), depth_at, less)))) in
      omega (arith, same, most)

  -- a return has no word
  pub no_word : (n : ℕ) → 2 * n ≡ slice_index depths at → returns (control_of s.instr) ≡ true → n ≡ 0
  no_word n same ret =
      let flat = structured.home p given.structured r at routine s (is_at p r routine depths given at s here) (pos (slice_index depths at)) ret depth_at in
      let none : slice_index depths at ≡ 0 = cc in
      omega (arith, same, none)

  -- and isn't in a start routine
  pub no_start : returns (control_of s.instr) ≡ true → routine.start ≡ false
  no_start ret = by routine.start refl
    where
      by : (b : Bool) → routine.start ≡ b → b ≡ false
      by true starts = absurd (given.structured.start s.line.0 (r, at, routine, s, is_at p r routine depths given at s here, refl, (starts, ret)))
      by false starts = refl

  is_successor : (taken : Bool) (to : ℕ) → LeadsTo (graph_of p r) at taken to → Successor (graph_of p r) at to
  is_successor false to h = inl h
  is_successor true to h = inr h

  -- the depth where a choice leads
  pub depth_onward : (taken : Bool) (to : ℕ) (next : Stmt) → LeadsTo (graph p routine) at taken to → slice_get routine.code to ≡ Some next → pos (slice_index depths to) ≡ pos (slice_index depths at) +ℤ effect s.instr
  depth_onward taken to next leads there =
      structured.onward p given.structured r at routine s (is_at p r routine depths given at s here) to (pos (slice_index depths at)) (pos (slice_index depths to)) depth_at
      (is_successor taken to (subst (λ g. LeadsTo g at taken to) (sym (graph_is p r routine depths given)) leads))
      (given.depths_are.each to (slice_get_within routine.code to next there))
