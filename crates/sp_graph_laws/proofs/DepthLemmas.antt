-- Depths in routines of three instructions.
use Rattle.std.proofs.Common.{◌≡◌, ◌≤◌, length, ℕ, zero, suc, ◌⊎◌, inl, inr, arith, refl, sym, ◌∙◌, ◌≢◌, Bool, false, true, List, [], ◌∷◌, ◌++◌, ap, None, Some, slice_get, subst}
use Rattle.std.specs.Prelude.{ℤ, pos, negsuc, ◌+ℤ◌, Option}
use Rattle.sp_graph.specs.Control.{control_of}
use Rattle.sp_graph.specs.Depths.{HasDepth, depth_along, effect}
use Rattle.sp_graph.specs.Graph.{LeadsTo}
use Rattle.sp_graph.specs.Laws.{to_place, return_node}
use Rattle.sp_graph.specs.Least.{WalkTo, Before, Successor}
use Rattle.sp_graph.specs.Least.WalkTo.{entry, onward}
use Rattle.sp_graph.specs.Routines.{graph_of, nodes_from}
use Rattle.sp_graph.specs.Structure.{returns, DepthAt, DiffersAt}
use Rattle.sp_graph.specs.declared.graph.Branch.{Branch}
use Rattle.sp_graph.specs.declared.graph.Node.{Node}
use Rattle.sp_graph_laws.specs.Depths.{three, routine_of_three, last, IsEven}
use Rattle.sp_isa.specs.declared.instr.Cond.TheVariants as when
use Rattle.sp_isa.specs.declared.instr.Instr.{Instr}
use Rattle.sp_isa.specs.declared.instr.Instr.TheVariants.{Jcc, Push, Pop, Cmc}
use Rattle.sp_isa.specs.declared.instr.StackPair.TheVariants as stack
use Rattle.sp_prog.specs.declared.routine.Routine.{Routine}
use Rattle.sp_prog.specs.declared.routine.Stmt.{Stmt}
use Rattle.sp_struct.specs.Examples.{second, stmt}
use Rattle.sp_struct.specs.Refusals.{BreaksRule}
use Rattle.sp_struct.specs.declared.refusal.StructKind.TheVariants as kind

-- an instruction that goes on at the second one, and by a choice elsewhere; then one that goes on at the third, a return
abbrev chain : Option Branch → List Node
chain taken =
    record { asserted = false; access = false; untaken = to_place 1; taken = taken }
    ∷ record { asserted = false; access = false; untaken = to_place 2; taken = None }
    ∷ return_node false
    ∷ []

-- ---- One way through all three

-- the only steps
abbrev Onward : ℕ → ℕ → Type 0
Onward at to = ((at ≡ 0) × (to ≡ 1)) ⊎ ((at ≡ 1) × (to ≡ 2))

steps : (at : ℕ) (taken : Bool) (to : ℕ) → LeadsTo (chain None) at taken to → Onward at to
steps zero false to e = inl (refl, let t : 1 ≡ to = cc e in sym t)
steps zero true to e = absurd cc
steps (suc zero) false to e = inr (refl, let t : 2 ≡ to = cc e in sym t)
steps (suc zero) true to e = absurd cc
steps (suc (suc zero)) false to e = absurd cc
steps (suc (suc zero)) true to e = absurd cc
steps (suc (suc (suc at))) false to e = absurd cc
steps (suc (suc (suc at))) true to e = absurd cc

step : (at to : ℕ) → Successor (chain None) at to → Onward at to
step at to (inl e) = steps at false to e
step at to (inr e) = steps at true to e

-- the only walks
abbrev Walked : ℕ → List ℕ → Type 0
Walked at places = ((at ≡ 0) × (places ≡ [])) ⊎ (((at ≡ 1) × (places ≡ 0 ∷ [])) ⊎ ((at ≡ 2) × (places ≡ 0 ∷ 1 ∷ [])))

longer : (places known : List ℕ) (at n : ℕ) → places ≡ known → at ≡ n → places ++ at ∷ [] ≡ known ++ n ∷ []
longer places known at n e f = cc (e, f)

gone : (places : List ℕ) (at to : ℕ) → Walked at places → Onward at to → Walked to (places ++ at ∷ [])
gone places at to (inl (a, e)) (inl (b, t)) = inr (inl (t, longer places [] at 0 e a))
gone places at to (inl (a, e)) (inr (b, t)) = absurd (omega (arith, a, b))
gone places at to (inr (inl (a, e))) (inl (b, t)) = absurd (omega (arith, a, b))
gone places at to (inr (inl (a, e))) (inr (b, t)) = inr (inr (t, longer places (0 ∷ []) at 1 e a))
gone places at to (inr (inr (a, e))) (inl (b, t)) = absurd (omega (arith, a, b))
gone places at to (inr (inr (a, e))) (inr (b, t)) = absurd (omega (arith, a, b))

walked : (places : List ℕ) (at : ℕ) → WalkTo (chain None) places at → Walked at places
walked _ _ entry = inl (refl, refl)
walked _ _ (onward places at to w s) = gone places at to (walked places at w) (step at to s)

-- the walk to each instruction
abbrev way : ℕ → List ℕ
way zero = []
way (suc zero) = 0 ∷ []
way (suc (suc at)) = 0 ∷ 1 ∷ []

way_is : (at : ℕ) (places : List ℕ) → Walked at places → places ≡ way at
way_is at places (inl (a, e)) = rw a e
way_is at places (inr (inl (a, e))) = rw a e
way_is at places (inr (inr (a, e))) = rw a e

depth_is : (code : List Stmt) (at : ℕ) (d : ℤ) → HasDepth (chain None) code at d → d ≡ depth_along code (way at)
depth_is code at d (places, least, e) = let p = way_is at places (walked places at least.walk) in rw (← p) e

-- ---- Two ways to the third

-- the first and the second of two instructions that go on at the third; which walks lead there
abbrev branched : List Node
branched = chain (to_place 2)

abbrev Either : ℕ → ℕ → Type 0
Either at to = Onward at to ⊎ ((at ≡ 0) × (to ≡ 2))

choices : (at : ℕ) (taken : Bool) (to : ℕ) → LeadsTo branched at taken to → Either at to
choices zero false to e = inl (inl (refl, let t : 1 ≡ to = cc e in sym t))
choices zero true to e = inr (refl, let t : 2 ≡ to = cc e in sym t)
choices (suc zero) false to e = inl (inr (refl, let t : 2 ≡ to = cc e in sym t))
choices (suc zero) true to e = absurd cc
choices (suc (suc zero)) false to e = absurd cc
choices (suc (suc zero)) true to e = absurd cc
choices (suc (suc (suc at))) false to e = absurd cc
choices (suc (suc (suc at))) true to e = absurd cc

choice : (at to : ℕ) → Successor branched at to → Either at to
choice at to (inl e) = choices at false to e
choice at to (inr e) = choices at true to e

abbrev Forked : ℕ → List ℕ → Type 0
Forked at places = Walked at places ⊎ ((at ≡ 2) × (places ≡ 0 ∷ []))

split : (places : List ℕ) (at to : ℕ) → Forked at places → Either at to → Forked to (places ++ at ∷ [])
split places at to (inl w) (inl o) = inl (gone places at to w o)
split places at to (inl (inl (a, e))) (inr (b, t)) = inr (t, longer places [] at 0 e a)
split places at to (inl (inr (inl (a, e)))) (inr (b, t)) = absurd (omega (arith, a, b))
split places at to (inl (inr (inr (a, e)))) (inr (b, t)) = absurd (omega (arith, a, b))
split places at to (inr (a, e)) (inl (inl (b, t))) = absurd (omega (arith, a, b))
split places at to (inr (a, e)) (inl (inr (b, t))) = absurd (omega (arith, a, b))
split places at to (inr (a, e)) (inr (b, t)) = absurd (omega (arith, a, b))

forked : (places : List ℕ) (at : ℕ) → WalkTo branched places at → Forked at places
forked _ _ entry = inl (inl (refl, refl))
forked _ _ (onward places at to w s) = split places at to (forked places at w) (choice at to s)

-- ---- What the units have of this

only_one : {A : Type 0} (x y : A) (k : ℕ) → slice_get (x ∷ []) k ≡ Some y → (k ≡ 0) × (x ≡ y)
only_one x y zero e = (refl, cc)
only_one x y (suc k) e = absurd cc

-- where each instruction has its own depth, and the next ones have the depth that it leaves, no depths differ
module _ (i j : Instr) (level : ℕ → ℤ)
    (known : (at : ℕ) (d : ℤ) → HasDepth (graph_of (three i j) 0) (routine_of_three i j).code at d → d ≡ level at)
    (follows : (at to : ℕ) (s : Stmt) → slice_get (routine_of_three i j).code at ≡ Some s → Successor (graph_of (three i j) 0) at to → level to ≡ level at +ℤ effect s.instr)
    (home : (at : ℕ) (s : Stmt) → slice_get (routine_of_three i j).code at ≡ Some s → returns (control_of s.instr) ≡ true → level at ≡ pos 0) where
  not_deep :
      (k : ℕ) (s : Stmt) (a : ℤ) → slice_get (routine_of_three i j).code k ≡ Some s → returns (control_of s.instr) ≡ true →
      DepthAt (three i j) 0 (routine_of_three i j) k a → a ≢ pos 0 → ⊥
  not_deep k s a within ret depth other = other (known k a depth ∙ home k s within ret)

  not_other : (k : ℕ) (s : Stmt) (a b : ℤ) → slice_get (routine_of_three i j).code k ≡ Some s → DiffersAt (three i j) 0 (routine_of_three i j) k s a b → ⊥
  not_other k s a b within d =
      let there : b ≡ level d.to = known d.to b d.other in
      let here : d.before ≡ level k = known k d.before d.depth in
      let next : level d.to ≡ level k +ℤ effect s.instr = follows k d.to s within d.successor in
      let left : d.before +ℤ effect s.instr ≡ level k +ℤ effect s.instr = ap (λ (x : ℤ). x +ℤ effect s.instr) here in
      d.differs (there ∙ next ∙ sym left ∙ sym d.after)

  even : IsEven (three i j)
  even line a b (r, k, q, s, is, on, breaks) =
      let first = only_one (routine_of_three i j) q r is.among in
      let within : slice_get (routine_of_three i j).code k ≡ Some s =
      subst (λ (v : Routine). slice_get v.code k ≡ Some s) (sym first.1) is.within in
      elim breaks [
        | inl deep ↦
            (let of_q : DepthAt (three i j) r (routine_of_three i j) k a = subst (λ (v : Routine). DepthAt (three i j) r v k a) (sym first.1) deep.0.1 in
            let of_r : DepthAt (three i j) 0 (routine_of_three i j) k a = subst (λ (n : ℕ). DepthAt (three i j) n (routine_of_three i j) k a) first.0 of_q in
            not_deep k s a within deep.0.0 of_r deep.0.2)
        | inr d ↦
            (let of_q : DiffersAt (three i j) r (routine_of_three i j) k s a b = subst (λ (v : Routine). DiffersAt (three i j) r v k s a b) (sym first.1) d.1 in
            let of_r : DiffersAt (three i j) 0 (routine_of_three i j) k s a b = subst (λ (n : ℕ). DiffersAt (three i j) n (routine_of_three i j) k s a b) first.0 of_q in
            not_other k s a b within of_r)
      ]

-- ---- PUSH and POP

pushes_and_pops : graph_of (three (Push stack.B) (Pop stack.B)) 0 ≡ chain None
unfolding nodes_from
pushes_and_pops = refl

abbrev level : ℕ → ℤ
level at = depth_along (routine_of_three (Push stack.B) (Pop stack.B)).code (way at)

level_known : (at : ℕ) (d : ℤ) → HasDepth (graph_of (three (Push stack.B) (Pop stack.B)) 0) (routine_of_three (Push stack.B) (Pop stack.B)).code at d → d ≡ level at
level_known at d h =
    depth_is (routine_of_three (Push stack.B) (Pop stack.B)).code at d
    (subst (λ (g : List Node). HasDepth g (routine_of_three (Push stack.B) (Pop stack.B)).code at d) pushes_and_pops h)

level_onward :
    (at to : ℕ) (s : Stmt) → slice_get (routine_of_three (Push stack.B) (Pop stack.B)).code at ≡ Some s → Onward at to →
    level to ≡ level at +ℤ effect s.instr
level_onward zero to s w (inl (a, t)) =
    let same : stmt (Push stack.B) [] ≡ s = cc w in
    let left : effect s.instr ≡ pos 2 = ap (λ (x : Stmt). effect x.instr) (sym same) in
    let there : level to ≡ pos 2 = ap level t in
    there ∙ sym (ap (λ (x : ℤ). pos 0 +ℤ x) left)
level_onward (suc zero) to s w (inr (a, t)) =
    let same : second (Pop stack.B) ≡ s = cc w in
    let left : effect s.instr ≡ negsuc 1 = ap (λ (x : Stmt). effect x.instr) (sym same) in
    let there : level to ≡ pos 0 = ap level t in
    there ∙ sym (ap (λ (x : ℤ). pos 2 +ℤ x) left)
level_onward zero to s w (inr (a, t)) = absurd (omega (arith, a))
level_onward (suc at) to s w (inl (a, t)) = absurd (omega (arith, a))
level_onward (suc (suc at)) to s w (inr (a, t)) = absurd (omega (arith, a))

level_follows :
    (at to : ℕ) (s : Stmt) → slice_get (routine_of_three (Push stack.B) (Pop stack.B)).code at ≡ Some s →
    Successor (graph_of (three (Push stack.B) (Pop stack.B)) 0) at to → level to ≡ level at +ℤ effect s.instr
level_follows at to s w h = level_onward at to s w (step at to (subst (λ (g : List Node). Successor g at to) pushes_and_pops h))

level_home :
    (at : ℕ) (s : Stmt) → slice_get (routine_of_three (Push stack.B) (Pop stack.B)).code at ≡ Some s →
    returns (control_of s.instr) ≡ true → level at ≡ pos 0
level_home zero s w ret = refl
level_home (suc zero) s w ret =
    let same : second (Pop stack.B) ≡ s = cc w in
    let left : returns (control_of s.instr) ≡ false = ap (λ (x : Stmt). returns (control_of x.instr)) (sym same) in
    absurd cc (left, ret)
level_home (suc (suc at)) s w ret = refl

pub balanced : IsEven (three (Push stack.B) (Pop stack.B))
balanced = even (Push stack.B) (Pop stack.B) level level_known level_follows level_home

-- ---- PUSH alone

pushes : graph_of (three (Push stack.B) Cmc) 0 ≡ chain None
unfolding nodes_from
pushes = refl

alone : (others : List ℕ) → WalkTo (chain None) others 2 → (0 ∷ 1 ∷ [] ≡ others) ⊎ Before (0 ∷ 1 ∷ []) others
alone others w = inl (sym (way_is 2 others (walked others 2 w)))

depth_of_return : HasDepth (chain None) (routine_of_three (Push stack.B) Cmc).code 2 (pos 2)
depth_of_return = (
  0 ∷ 1 ∷ [],
  record { walk = onward (0 ∷ []) 1 2 (onward [] 0 1 entry (inl refl)) (inl refl); least = alone },
  refl,
)

not_zero : pos 2 ≡ pos 0 → ⊥
not_zero e = absurd cc

pub pushed : BreaksRule (three (Push stack.B) Cmc) (kind.Depth (pos 2) (pos 0)) 8
pushed = (
  0,
  2,
  routine_of_three (Push stack.B) Cmc,
  last,
  record { among = refl; within = refl },
  refl,
  inl (
    (
      refl,
      subst (λ (g : List Node). HasDepth g (routine_of_three (Push stack.B) Cmc).code 2 (pos 2)) (sym pushes) depth_of_return,
      not_zero,
    ),
    refl,
  ),
)

-- ---- A jump past CMC, and past PUSH

jumps : graph_of (three (Jcc when.Z 2) Cmc) 0 ≡ branched
unfolding nodes_from
jumps = refl

none_deep : (places : List ℕ) (at : ℕ) → Forked at places → depth_along (routine_of_three (Jcc when.Z 2) Cmc).code places ≡ pos 0
none_deep places at (inl (inl (a, e))) = ap (depth_along (routine_of_three (Jcc when.Z 2) Cmc).code) e
none_deep places at (inl (inr (inl (a, e)))) = ap (depth_along (routine_of_three (Jcc when.Z 2) Cmc).code) e
none_deep places at (inl (inr (inr (a, e)))) = ap (depth_along (routine_of_three (Jcc when.Z 2) Cmc).code) e
none_deep places at (inr (a, e)) = ap (depth_along (routine_of_three (Jcc when.Z 2) Cmc).code) e

flat_known :
    (at : ℕ) (d : ℤ) → HasDepth (graph_of (three (Jcc when.Z 2) Cmc) 0) (routine_of_three (Jcc when.Z 2) Cmc).code at d → d ≡ pos 0
flat_known at d (places, least, e) =
    e ∙ none_deep places at (forked places at (subst (λ (g : List Node). WalkTo g places at) jumps least.walk))

flat_effect : (at : ℕ) (s : Stmt) → slice_get (routine_of_three (Jcc when.Z 2) Cmc).code at ≡ Some s → effect s.instr ≡ pos 0
flat_effect zero s w = let same : stmt (Jcc when.Z 2) [] ≡ s = cc w in ap (λ (x : Stmt). effect x.instr) (sym same)
flat_effect (suc zero) s w = let same : second Cmc ≡ s = cc w in ap (λ (x : Stmt). effect x.instr) (sym same)
flat_effect (suc (suc zero)) s w = let same : last ≡ s = cc w in ap (λ (x : Stmt). effect x.instr) (sym same)
flat_effect (suc (suc (suc at))) s w = absurd cc

pub passed : IsEven (three (Jcc when.Z 2) Cmc)
passed =
    even (Jcc when.Z 2) Cmc (λ at. pos 0) flat_known
    (λ at to s w h. sym (ap (λ (x : ℤ). pos 0 +ℤ x) (flat_effect at s w)))
    (λ at s w ret. refl)

jumps_past : graph_of (three (Jcc when.Z 2) (Push stack.B)) 0 ≡ branched
unfolding nodes_from
jumps_past = refl

first_way : (others : List ℕ) → Forked 1 others → (0 ∷ [] ≡ others) ⊎ Before (0 ∷ []) others
first_way others (inl (inl (a, e))) = absurd (omega (arith, a))
first_way others (inl (inr (inl (a, e)))) = inl (sym e)
first_way others (inl (inr (inr (a, e)))) = absurd (omega (arith, a))
first_way others (inr (a, e)) = absurd (omega (arith, a))

short_way : (others : List ℕ) → Forked 2 others → (0 ∷ [] ≡ others) ⊎ Before (0 ∷ []) others
short_way others (inl (inl (a, e))) = absurd (omega (arith, a))
short_way others (inl (inr (inl (a, e)))) = absurd (omega (arith, a))
short_way others (inl (inr (inr (a, e)))) = inr (inl (let n : length others ≡ 2 = ap length e in omega (arith, n)))
short_way others (inr (a, e)) = inl (sym e)

depth_of_push : HasDepth branched (routine_of_three (Jcc when.Z 2) (Push stack.B)).code 1 (pos 0)
depth_of_push = (
  0 ∷ [],
  record { walk = onward [] 0 1 entry (inl refl); least = λ others w. first_way others (forked others 1 w) },
  refl,
)

depth_after_jump : HasDepth branched (routine_of_three (Jcc when.Z 2) (Push stack.B)).code 2 (pos 0)
depth_after_jump = (
  0 ∷ [],
  record { walk = onward [] 0 2 entry (inr refl); least = λ others w. short_way others (forked others 2 w) },
  refl,
)

only_third : (lower : ℕ) → Either 1 lower → 2 ≤ lower
only_third lower (inl (inl (a, t))) = absurd (omega (arith, a))
only_third lower (inl (inr (a, t))) = omega (arith, t)
only_third lower (inr (a, t)) = absurd (omega (arith, a))

differs : DiffersAt (three (Jcc when.Z 2) (Push stack.B)) 0 (routine_of_three (Jcc when.Z 2) (Push stack.B)) 1 (second (Push stack.B)) (pos 2) (pos 0)
differs = record {
  before = pos 0;
  depth = subst (λ (g : List Node). HasDepth g (routine_of_three (Jcc when.Z 2) (Push stack.B)).code 1 (pos 0)) (sym jumps_past) depth_of_push;
  after = refl;
  to = 2;
  successor = subst (λ (g : List Node). Successor g 1 2) (sym jumps_past) (inl refl);
  other = subst (λ (g : List Node). HasDepth g (routine_of_three (Jcc when.Z 2) (Push stack.B)).code 2 (pos 0)) (sym jumps_past) depth_after_jump;
  differs = λ e. not_zero (sym e);
  lowest = λ lower d h has ne. only_third lower (choice 1 lower (subst (λ (g : List Node). Successor g 1 lower) jumps_past h));
}

pub pushed_on_one_way : BreaksRule (three (Jcc when.Z 2) (Push stack.B)) (kind.Depth (pos 2) (pos 0)) 7
pushed_on_one_way = (
  0,
  1,
  routine_of_three (Jcc when.Z 2) (Push stack.B),
  second (Push stack.B),
  record { among = refl; within = refl },
  refl,
  inr (λ d h. absurd (let t = h.0 in cc t), differs),
)
