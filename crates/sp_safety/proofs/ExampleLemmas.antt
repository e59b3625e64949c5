-- The unit of a RET is settled.
use Rattle.std.proofs.Common.{◌≡◌, ◌≢◌, ◌⊎◌, inl, inr, ℕ, zero, suc, ◌<◌, ◌≤◌, ℤ, pos, Bool, true, false, cond, List, [], ◌∷◌, map, Some, None, slice_get, refl, sym, ap, subst, ◌∙◌, arith, rules, lit<, lit≤}
use Rattle.std.specs.Prelude.{Contains, slice_index}
use Rattle.std.specs.List.{AllByRecursion, IsDistinct}
use Rattle.std.specs.Ordering.{nat_cmp, eq_by_cmp, int_eq}
use Rattle.std.specs.FinMap as maps
use Rattle.std.specs.FinMap.{find}
use Rattle.std.proofs.lemmas.List.Elements.{All-from_recursion, All-nil}
use Rattle.std.specs.Cmp.{signed_Decides}
use Rattle.sp_base.specs.declared.location.Loc.{Loc}
use Rattle.sp_base.specs.declared.location.Loc.TheVariants as loc
use Rattle.sp_base.specs.Image.{AreCells}
use Rattle.sp_base.specs.Locs.{has, none}
use Rattle.sp_base.proofs.LocsLaws.{has_none}
use Rattle.sp_isa.specs.Code.{code}
use Rattle.sp_isa.specs.declared.instr.Instr.TheVariants.{Ret}
use Rattle.sp_prog.specs.Rules.{AreListed, AreNotes, HasBytes, IsArea, IsEvaluable, IsFree, IsRoutine, IsStmt, IsUnit}
use Rattle.sp_prog.specs.declared.routine.Routine.{Routine}
use Rattle.sp_prog.specs.declared.routine.Stmt.{Stmt}
use Rattle.sp_prog.proofs.MemberLemmas.{first_or_later}
use Rattle.sp_flow.specs.declared.refusal.FlowKind.TheVariants as kind
use Rattle.sp_flow.specs.declared.refusal.Spot.TheVariants as spot
use Rattle.sp_flow.specs.Flow.{IsCallee, IsFlowing}
use Rattle.sp_graph.specs.Cycles.{Reaches}
use Rattle.sp_graph.specs.Cycles.Reaches.{one as reach_one, more as reach_more}
use Rattle.sp_graph.specs.Depths.{HasDepth}
use Rattle.sp_graph.specs.Graph.{LeadsTo}
use Rattle.sp_graph.specs.Least.{Before, Successor}
use Rattle.sp_graph.specs.Least.WalkTo.{entry}
use Rattle.sp_graph.specs.Routines.{graph_of, nodes_from}
use Rattle.sp_graph.specs.SoundUnits.{AreDepthsOf, IsSoundOf}
use Rattle.sp_graph.specs.Structure.{HasNoSlot, IsCallOf, IsStructured, MisusesPointer, OnLine, Takes}
use Rattle.sp_graph.specs.Walks.{ends, walks, walks_on}
use Rattle.sp_graph.specs.declared.graph.End.TheVariants as end
use Rattle.sp_graph.specs.declared.walk.Walk.{Walk}
use Rattle.sp_struct.proofs.LeastLemmas.{one_depth}
use Rattle.sp_term.specs.declared.var.Var.TheVariants as var
use Rattle.sp_term.specs.Admissible.{IsValid}
use Rattle.sp_term.specs.Value.{Env, IsTrueIn}
use Rattle.sp_cond.specs.WalkConditions.{condition}
use Rattle.sp_safety.specs.Examples.{cells, depths, lists, ret, returning, unit}
use Rattle.sp_safety.specs.Settled.{IsSettled, region_of}

none_in : {A : Type 0} (y : A) → Contains [] y → ⊥
none_in y c = omega (arith, c.1)

only_one : {A : Type 0} (x y : A) (k : ℕ) → slice_get (x ∷ []) k ≡ Some y → (k ≡ 0) × (x ≡ y)
only_one x y zero e = (refl, cc)
only_one x y (suc k) e = absurd cc

pub only_element : {A : Type 0} (x y : A) → Contains (x ∷ []) y → x ≡ y
only_element x y h = elim (first_or_later x y [] h) [ inl e ↦ e | inr below ↦ absurd (none_in y below) ]

-- ---- The rules of units

pub get_is : (q : ℕ) → maps.get (maps.from_sorted {R = nat_cmp} cells) q ≡ find nat_cmp q cells
get_is q = maps.get-from_sorted nat_cmp cells q tt

tied : (x y : ℕ) → eq_by_cmp nat_cmp x y ≡ true → x ≡ y
tied x y h = search rules

pub untied : (x y : ℕ) → x ≢ y → eq_by_cmp nat_cmp x y ≡ false
untied x y differ = by (eq_by_cmp nat_cmp x y) refl
  where
    by : (t : Bool) → eq_by_cmp nat_cmp x y ≡ t → t ≡ false
    by true e = absurd (differ (tied x y e))
    by false e = refl

pub free : (q : ℕ) → q ≢ 0 → IsFree (maps.from_sorted cells) q
free q other = get_is q ∙ ap (λ t. cond t (Some 0xC9) None) (untied q 0 other)

image_cells : AreCells cells
image_cells = record {
  addresses = All-from_recursion (λ q. q < 65536) (map (λ c. c.0) cells) (lit< tt, tt);
  bytes = All-from_recursion (λ b. b < 256) (map (λ c. c.1) cells) (lit< tt, tt);
}

no_notes : AreNotes []
no_notes = record { few = lit≤ tt; each = All-nil IsEvaluable; rising = λ k lt. omega (arith, lt) }

is_ret : IsStmt (maps.from_sorted cells) ret
is_ret = record { valid = refl; code = there; asserts = no_notes }
  where
    there : HasBytes (maps.from_sorted cells) 0 (code Ret)
    there zero lt = get_is 0
    there (suc k) lt = absurd (omega (arith, lt))

none_listed : AreListed 0 lists
unfolding IsDistinct
none_listed = record { areas = All-nil (λ place. place < 0); once = tt }

is_routine : IsRoutine unit returning
is_routine = record {
  some = lit< tt;
  laid_out = (refl, tt);
  code = All-from_recursion (IsStmt (maps.from_sorted cells)) returning.code (is_ret, tt);
  pre = no_notes;
  pre_words = All-nil _;
  post = no_notes;
  post_words = All-nil _;
  reads = none_listed;
  changes = none_listed;
  changes_free = All-nil _;
  start = λ h. cc;
}

is_unit : IsUnit unit
unfolding IsDistinct
is_unit = record {
  image = subst AreCells (sym (maps.entries-from_sorted nat_cmp cells tt)) image_cells;
  stack_ordered = lit≤ tt;
  stack_end = lit≤ tt;
  stack_free = λ q inside. let low : 0x2300 ≤ q = inside.0 in free q (λ e. omega (arith, low, e));
  areas = All-nil (IsArea unit);
  area_names = tt;
  few_areas = lit≤ tt;
  routines = All-from_recursion (IsRoutine unit) (returning ∷ []) (is_routine, tt);
  routine_names = (tt, tt);
  few_routines = lit≤ tt;
  rising = λ k lt. omega (arith, lt);
  apart = λ i j d lt within. absurd (omega (arith, lt, within));
  lines = (tt, tt);
}

-- ---- The rules of structure

at_first : (line : ℕ) (Breaks : ℕ → Routine → ℕ → Stmt → Type 0) → OnLine unit line Breaks → Breaks 0 returning 0 ret
at_first line Breaks (r, k, q, s, is, on, breaks) =
    let first = only_one returning q r is.among in
    let within : slice_get returning.code k ≡ Some s = subst (λ (v : Routine). slice_get v.code k ≡ Some s) (sym first.1) is.within in
    let here = only_one ret s k within in
    let at_k : Breaks r q 0 s = subst (λ (n : ℕ). Breaks r q n s) here.0 breaks in
    let of_q : Breaks r returning 0 s = subst (λ (v : Routine). Breaks r v 0 s) (sym first.1) at_k in
    let of_s : Breaks r returning 0 ret = subst (λ (x : Stmt). Breaks r returning 0 x) (sym here.1) of_q in
    subst (λ (n : ℕ). Breaks n returning 0 ret) first.0 of_s

first_least : (others : List ℕ) → ([] ≡ others) ⊎ Before [] others
first_least [] = inl refl
first_least (x ∷ xs) = inr (inl (omega arith))

first_depth : HasDepth (graph_of unit 0) returning.code 0 (pos 0)
first_depth = ([], record { walk = entry; least = λ others w. first_least others }, refl)

no_way : (at : ℕ) (taken : Bool) (to : ℕ) → LeadsTo (graph_of unit 0) at taken to → ⊥
unfolding nodes_from
no_way zero false to e = absurd cc
no_way zero true to e = absurd cc
no_way (suc at) false to e = absurd cc
no_way (suc at) true to e = absurd cc

no_successor : (to : ℕ) → Successor (graph_of unit 0) 0 to → ⊥
no_successor to (inl e) = no_way 0 false to e
no_successor to (inr e) = no_way 0 true to e

no_cycle : (limit from to : ℕ) → Reaches (graph_of unit 0) limit from to → ⊥
no_cycle limit _ _ (reach_one at taken to l e) = no_way at taken to e.0.0
no_cycle limit _ _ (reach_more from at taken to r e) = no_way at taken to e.0.0

not_misused : MisusesPointer unit returning 0 ret → ⊥
not_misused (inl e) = absurd cc
not_misused (inr (inl (w, e, n))) = absurd cc
not_misused (inr (inr (inl (e, k, n)))) = absurd cc
not_misused (inr (inr (inr (e, a)))) = absurd cc

no_call : (c : ℕ) → IsCallOf unit ret c → ⊥
no_call c (a, target, at) = cc

no_takes : (n : ℕ) → Takes unit ret n → ⊥
no_takes n (inl (pushes, two)) = absurd cc
no_takes n (inr (c, callee, call, there, e)) = no_call c call

no_slot : (line : ℕ) → HasNoSlot unit line → ⊥
no_slot line (r, k, routine, s, is, (n, depth, w, c, l, has_depth, among, less)) =
    let first = only_one returning routine r is.among in
    let within : slice_get returning.code k ≡ Some s = subst (λ (v : Routine). slice_get v.code k ≡ Some s) (sym first.1) is.within in
    let here = only_one ret s k within in
    let asserts : s.asserts ≡ [] = ap (λ (x : Stmt). x.asserts) (sym here.1) in
    none_in n (subst (λ l. Contains l n) asserts c)

is_structured : IsStructured unit
is_structured = record {
  jumps = λ line b. let f = at_first line _ b in let t = f.1 in cc;
  falls = λ line b. let f = at_first line _ b in let t = f.1 in cc;
  calls = λ line b. let f = at_first line _ b in let t = f.1 in cc;
  recursion = λ line b. let f = at_first line _ b in no_call f.0 f.1;
  computed = λ line b. let f = at_first line _ b in cc f;
  pointer = λ line b. not_misused (at_first line _ b);
  reached = λ line b. at_first line _ b [] entry;
  depths = λ line a b h. elim (at_first line _ h) [
    | inl deep ↦ deep.0.2 (one_depth (graph_of unit 0) returning.code 0 a (pos 0) deep.0.1 first_depth)
    | inr other ↦ no_successor other.1.to other.1.successor
  ];
  pops = λ line b. let f = at_first line _ b in let t = f.0 in cc;
  over = λ line b. elim b [
    | inl t ↦ let f = at_first line _ t in no_takes f.0 f.2
    | inr past ↦ let same = only_element returning past.0 past.1 in let starts = past.3 in let t : false ≡ true = ap (λ (x : Routine). x.start) same ∙ starts in cc
  ];
  slots = no_slot;
  cut = λ line b. no_cycle 1 0 0 (at_first line _ b);
  start = λ line b. let f = at_first line _ b in let t = f.0 in cc;
  code = λ line b. let f = at_first line _ b in none_in f.0 f.2;
}

depths_are : (r : ℕ) (routine : Routine) (ds : List ℕ) → slice_get unit.routines r ≡ Some routine → slice_get depths.depths r ≡ Some ds → AreDepthsOf unit r routine ds
depths_are zero routine ds among has_depths =
    let first : returning ≡ routine = cc in
    let list : 0 ∷ [] ≡ ds = cc in
    subst (λ (q : Routine). AreDepthsOf unit 0 q ds) first (subst (λ l. AreDepthsOf unit 0 returning l) list (record { size = refl; each = each }))
  where
    each : (k : ℕ) → k < 1 → HasDepth (graph_of unit 0) returning.code k (pos (slice_index (0 ∷ []) k))
    each zero less = first_depth
    each (suc k) less = absurd (omega (arith, less))
depths_are (suc r) routine ds among has_depths = absurd cc

is_sound : IsSoundOf unit depths
is_sound = record { structured = is_structured; size = refl; each = depths_are }

-- ---- The rules of flow

no_callee : (callee : Routine) → IsCallee unit ret callee → ⊥
no_callee callee (c, call, there) = no_call c call

not_read : (x : Loc) → has x none ≡ true → ⊥
not_read x h = let clash : true ≡ false = sym h ∙ has_none x in absurd cc

is_flowing : IsFlowing unit
is_flowing line (kind.Uses (spot.Loc x)) b = not_read x (at_first line _ b).0
is_flowing line (kind.Uses (spot.Cell cell)) b = none_in cell (at_first line _ b).0
is_flowing line (kind.Writes cell) b = elim (at_first line _ b).0 [ inl c ↦ none_in cell c | inr c ↦ no_callee c.0 c.1 ]
is_flowing line (kind.Port port) b =
    elim (at_first line _ b) [
      | inl taken ↦ elim taken.0 [ inl c ↦ none_in port c | inr c ↦ no_callee c.0 c.1 ]
      | inr put ↦ elim put.0 [ inl c ↦ none_in port c | inr c ↦ no_callee c.0 c.1 ]
    ]
is_flowing line (kind.CallsReads (spot.Loc x)) b = let f = at_first line _ b in no_callee f.0 f.1
is_flowing line (kind.CallsReads (spot.Cell cell)) b = let f = at_first line _ b in no_callee f.0 f.1

-- ---- Its condition

abbrev only_walk : Walk
only_walk = ends None [] end.Return 0

walks_are : walks (graph_of unit 0) ≡ only_walk ∷ []
unfolding walks_on nodes_from
walks_are = refl

no_walks : (r : ℕ) → walks (graph_of unit (suc r)) ≡ []
unfolding walks_on nodes_from
no_walks r = refl

itself : (z : ℤ) → int_eq z z ≡ true
itself z = (signed_Decides z z).1 refl

-- each location is as at the entry
is_true : (e : Env) → AllByRecursion (IsTrueIn e) (condition unit depths 0 only_walk).goals
unfolding has none
is_true e =
    (itself (e.int (var.Entry loc.A)), (itself (e.int (var.Entry loc.B)), (itself (e.int (var.Entry loc.C)), (itself (e.int (var.Entry loc.D)), (itself (e.int (var.Entry loc.E)), (itself (e.int (var.Entry loc.H)), (itself (e.int (var.Entry loc.L)), (itself (e.int (var.Entry loc.S)), (itself (e.int (var.Entry loc.Z)), (itself (e.int (var.Entry loc.Ac)), (itself (e.int (var.Entry loc.P)), (itself (e.int (var.Entry loc.Cy)), tt))))))))))))

conditions : (r : ℕ) (w : Walk) → Contains (walks (graph_of unit r)) w → IsValid unit.image (region_of unit) (condition unit depths r w)
conditions zero w h =
    let same = only_element only_walk w (subst (λ ws. Contains ws w) walks_are h) in
    subst (λ v. IsValid unit.image (region_of unit) (condition unit depths 0 v)) same
    (λ e admissible given. All-from_recursion (IsTrueIn e) (condition unit depths 0 only_walk).goals (is_true e))
conditions (suc r) w h = absurd (none_in w (subst (λ ws. Contains ws w) (no_walks r) h))

pub is_settled : IsSettled unit depths
is_settled = record { unit = is_unit; structure = is_sound; flow = is_flowing; conditions = conditions }
