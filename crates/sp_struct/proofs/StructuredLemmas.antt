-- What follows where no rule is broken.
use Rattle.std.proofs.Common.{◌≡◌, ◌≢◌, ◌<◌, ◌≤◌, ℕ, zero, suc, ◌⊎◌, inl, inr, arith, true, List, Some, slice_get, length, refl, ap, ◌∙◌}
use Rattle.std.specs.Prelude.{ℤ, pos, negsuc, ◌+ℤ◌}
use Rattle.std.proofs.lemmas.Bool.{cases_order}
use Rattle.sp_graph.specs.Control.{control_of}
use Rattle.sp_graph.specs.Cycles.{HasNoCycle, Reaches, IsHighestOfCycle}
use Rattle.sp_graph.specs.Depths.{effect}
use Rattle.sp_graph.specs.Least.{Successor}
use Rattle.sp_graph.specs.Routines.{graph_of, graph_of_code, graph_of_routine}
use Rattle.sp_graph.specs.Structure.{IsStructured, IsAt, DepthAt, ReturnsDeep, DiffersAt, returns}
use Rattle.sp_graph.specs.declared.graph.Node.{Node}
use Rattle.sp_graph.proofs.CycleLemmas.{none_below_zero, found_highest}
use Rattle.sp_graph.proofs.NodeLemmas.{length_graph, stmt_at}
use Rattle.sp_prog.specs.declared.routine.Routine.{Routine}
use Rattle.sp_prog.specs.declared.routine.Stmt.{Stmt}
use Rattle.sp_prog.specs.Program.{Program}

-- ---- Depths

same_nat : (m n : ℕ) → (m ≡ n) ⊎ (m ≢ n)
same_nat m n = elim (cases_order m n) as (λ o. (m ≡ n) ⊎ (m ≢ n))
    [ inl e ↦ inl e | inr o ↦ inr (λ e. elim o [ inl l ↦ omega arith | inr l ↦ omega arith ]) ]

same_int : (a b : ℤ) → (a ≡ b) ⊎ (a ≢ b)
same_int (pos m) (pos n) = elim (same_nat m n) as (λ o. (pos m ≡ pos n) ⊎ (pos m ≢ pos n))
    [ inl e ↦ inl (ap (λ x. pos x) e) | inr ne ↦ inr (λ e. ne (let q : m ≡ n = cc in q)) ]
same_int (pos m) (negsuc n) = inr (λ e. absurd cc)
same_int (negsuc m) (pos n) = inr (λ e. absurd cc)
same_int (negsuc m) (negsuc n) = elim (same_nat m n) as (λ o. (negsuc m ≡ negsuc n) ⊎ (negsuc m ≢ negsuc n))
    [ inl e ↦ inl (ap (λ x. negsuc x) e) | inr ne ↦ inr (λ e. ne (let q : m ≡ n = cc in q)) ]

stable : (a b : ℤ) → ((a ≢ b) → ⊥) → a ≡ b
stable a b n = elim (same_int a b) as (λ o. a ≡ b) [ inl e ↦ e | inr ne ↦ absurd (n ne) ]

-- an instruction has at most two successors
one_of_two : (graph : List Node) (k a b c : ℕ) → a < b → Successor graph k a → Successor graph k b → Successor graph k c → a ≤ c
one_of_two graph k a b c l (inl x) (inl y) z = absurd (let same : a ≡ b = cc (x, y) in omega (arith, same))
one_of_two graph k a b c l (inl x) (inr y) (inl z) = let same : a ≡ c = cc (x, z) in omega (arith, same)
one_of_two graph k a b c l (inl x) (inr y) (inr z) = let same : b ≡ c = cc (y, z) in omega (arith, same)
one_of_two graph k a b c l (inr x) (inl y) (inl z) = let same : b ≡ c = cc (y, z) in omega (arith, same)
one_of_two graph k a b c l (inr x) (inl y) (inr z) = let same : a ≡ c = cc (x, z) in omega (arith, same)
one_of_two graph k a b c l (inr x) (inr y) z = absurd (let same : a ≡ b = cc (x, y) in omega (arith, same))

module _ (p : Program) (good : IsStructured p) (r k : ℕ) (routine : Routine) (s : Stmt) (at : IsAt p r k routine s) where
  not_deep : (x : ℤ) → ReturnsDeep p r routine k s x → ⊥
  not_deep x deep = good.depths s.line.0 x (pos 0) (r, k, routine, s, at, refl, inl (deep, refl))

  pub home : (d : ℤ) → returns (control_of s.instr) ≡ true → DepthAt p r routine k d → d ≡ pos 0
  home d ret has = stable d (pos 0) (λ ne. not_deep d (ret, has, ne))

  agree : (a b : ℤ) → DiffersAt p r routine k s a b → ⊥
  agree a b d = good.depths s.line.0 a b (r, k, routine, s, at, refl, inr (not_deep, d))

  pub onward : (to : ℕ) (d e : ℤ) → DepthAt p r routine k d → Successor (graph_of p r) k to → DepthAt p r routine to e → e ≡ d +ℤ effect s.instr
  onward to d e here step there = stable e (d +ℤ effect s.instr) (λ ne.
      agree (d +ℤ effect s.instr) e (record {
        before = d;
        depth = here;
        after = refl;
        to = to;
        successor = step;
        other = there;
        differs = ne;
        lowest = λ lower f next has away. elim (cases_order to lower) as (λ o. to ≤ lower) [
          | inl same ↦ omega (arith, same)
          | inr o ↦ elim o as (λ o. to ≤ lower) [
            | inl less ↦ omega arith
            | inr more ↦ absurd (agree (d +ℤ effect s.instr) f (record {
              before = d;
              depth = here;
              after = refl;
              to = lower;
              successor = next;
              other = has;
              differs = away;
              lowest = λ other g last holds differs. one_of_two (graph_of p r) k lower to other more next step last;
            }))
          ]
        ];
      }))

-- ---- Cycles

no_cycle_below : (graph : List Node) (n : ℕ) → ((h : ℕ) → h < n → IsHighestOfCycle graph h → ⊥) → (v : ℕ) → Reaches graph n v v → ⊥
no_cycle_below graph zero none v c = none_below_zero graph v c
no_cycle_below graph (suc n) none v c =
    none n (omega arith) (found_highest graph n (suc n) (omega arith) (no_cycle_below graph n (λ h l. none h (omega arith))) v c)

pub loops_cut : (p : Program) (r : ℕ) (routine : Routine) → IsStructured p → slice_get p.routines r ≡ Some routine → HasNoCycle (graph_of p r)
loops_cut p r routine good among at c =
    let graph : graph_of p r ≡ graph_of_code p.routines routine.code = ap (graph_of_routine p.routines) among in
    let size : length (graph_of p r) ≡ length routine.code = ap (length {A = Node}) graph ∙ length_graph p.routines routine.code in
    no_cycle_below (graph_of p r) (length (graph_of p r)) (λ h l high.
    let s = stmt_at routine.code h (omega (arith, l, size)) in
    good.cut s.0.line.0 (r, h, routine, s.0, record { among = among; within = s.1 }, refl, high)) at c
