-- Small units that break a rule, or keep it.
use Rattle.std.proofs.Common.{◌≡◌, ℕ, zero, suc, ◌⊎◌, inl, inr, arith, refl, sym, Bool, false, true, List, [], ◌∷◌, ◌++◌, length-append, ap, None, Some, slice_get, subst}
use Rattle.std.specs.Prelude.{ℤ, pos, ◌+ℤ◌, ◌<ℤ◌, Contains}
use Rattle.std.specs.FinMap as maps
use Rattle.std.specs.FinMap.{find}
use Rattle.std.specs.Ordering.{nat_cmp}
use Rattle.std.proofs.lemmas.Int.{ints}
use Rattle.std.proofs.lemmas.List.Elements.{Contains-from_at, at_from_Contains}
use Rattle.sp_base.specs.declared.pair.Pair.TheVariants as pair
use Rattle.sp_graph.specs.Cycles.{Reaches}
use Rattle.sp_graph.specs.Cycles.Reaches.{one as reach_one, more as reach_more}
use Rattle.sp_graph.specs.Depths.{HasDepth}
use Rattle.sp_graph.specs.Least.{WalkTo, Before}
use Rattle.sp_graph.specs.Least.WalkTo.{entry, onward}
use Rattle.sp_graph.specs.Graph.{LeadsTo, asserted_in}
use Rattle.sp_graph.specs.Routines.{graph_of, nodes_from}
use Rattle.sp_graph.specs.Structure.{OnLine, IsAt, Calls, MisusesPointer, Takes, note_words}
use Rattle.sp_graph.specs.Structure.CallsLead.{one as lead_one}
use Rattle.sp_isa.specs.declared.instr.Instr.{Instr}
use Rattle.sp_isa.specs.declared.instr.Instr.TheVariants.{Jmp, Call, Ret, Pchl, Xchg, Sphl, Lxi, Push, Pop, Sta, Cmc}
use Rattle.sp_isa.specs.declared.instr.StackPair.TheVariants as stack
use Rattle.sp_logic.specs.View.{note_of}
use Rattle.sp_logic.specs.declared.note.Note.TheVariants.{Constant}
use Rattle.sp_prog.specs.declared.routine.Noted.{Noted}
use Rattle.sp_prog.specs.declared.routine.Routine.{Routine}
use Rattle.sp_prog.specs.declared.routine.Stmt.{Stmt}
use Rattle.sp_struct.specs.Examples.{cells, second, word, two, routine_of_two, stmt, noted, routine, unit, one, IsKept, RulesByExample}
use Rattle.sp_struct.specs.declared.refusal.StructKind.TheVariants as kind
use Rattle.sp_struct.proofs.LeastLemmas.{one_depth}

-- the only element of a list of one
only_one : {A : Type 0} (x y : A) (k : ℕ) → slice_get (x ∷ []) k ≡ Some y → (k ≡ 0) × (x ≡ y)
only_one x y zero e = (refl, cc)
only_one x y (suc k) e = absurd cc

module _ (start : Bool) (depth : ℕ) (i : Instr) (asserts : List Noted) where
  -- what breaks a rule in such a unit is its instruction
  at_first :
      (line : ℕ) (Breaks : ℕ → Routine → ℕ → Stmt → Type 0) → OnLine (unit start depth i asserts) line Breaks →
      Breaks 0 (routine start depth i asserts) 0 (stmt i asserts)
  at_first line Breaks (r, k, q, s, is, on, breaks) =
      let first = only_one (routine start depth i asserts) q r is.among in
      let within : slice_get (routine start depth i asserts).code k ≡ Some s =
      subst (λ (v : Routine). slice_get v.code k ≡ Some s) (sym first.1) is.within in
      let here = only_one (stmt i asserts) s k within in
      let at_k : Breaks r q 0 s = subst (λ (n : ℕ). Breaks r q n s) here.0 breaks in
      let of_q : Breaks r (routine start depth i asserts) 0 s = subst (λ (v : Routine). Breaks r v 0 s) (sym first.1) at_k in
      let of_s : Breaks r (routine start depth i asserts) 0 (stmt i asserts) = subst (λ (x : Stmt). Breaks r (routine start depth i asserts) 0 x) (sym here.1) of_q in
      subst (λ (n : ℕ). Breaks n (routine start depth i asserts) 0 (stmt i asserts)) first.0 of_s

  out : (Breaks : ℕ → Routine → ℕ → Stmt → Type 0) → Breaks 0 (routine start depth i asserts) 0 (stmt i asserts) → OnLine (unit start depth i asserts) 6 Breaks
  out Breaks b = (0, 0, routine start depth i asserts, stmt i asserts, record { among = refl; within = refl }, refl, b)

  first_least : (others : List ℕ) → ([] ≡ others) ⊎ Before [] others
  first_least [] = inl refl
  first_least (x ∷ xs) = inr (inl (omega arith))

  first_depth : HasDepth (graph_of (unit start depth i asserts) 0) (routine start depth i asserts).code 0 (pos 0)
  first_depth = ([], record { walk = entry; least = λ others w. first_least others }, refl)

jump_inside : IsKept (one (Jmp 0)) kind.JumpOut
jump_inside line b = let f = at_first false 0 (Jmp 0) [] line _ b in let same : 0 ≡ f.0 = let t = f.1 in cc t in absurd (let n = rw (← same) at f.2 in cc n)

call_of_routine : IsKept (one (Call 0)) kind.CallOut
call_of_routine line b = let f = at_first false 0 (Call 0) [] line _ b in let same : 0 ≡ f.0 = let t = f.1 in cc t in absurd (let n = rw (← same) at f.2 in let v = n.1 in cc (v, n.2))

no_recursion : IsKept (one (Call 5)) kind.Recursion
no_recursion line b = let f = at_first false 0 (Call 5) [] line _ b in let same : 5 ≡ f.1.0 = let t = f.1.1 in cc t in absurd (let n = rw (← same) at f.1.2 in cc n)

call_itself : Calls (one (Call 0)) 0 0
call_itself = (0, routine false 0 (Call 0) [], stmt (Call 0) [], record { among = refl; within = refl }, (0, refl, refl))

not_misused : MisusesPointer (one Xchg) (routine false 0 Xchg []) 0 (stmt Xchg []) → ⊥
not_misused (inl e) = absurd cc
not_misused (inr (inl (w, e, n))) = absurd cc
not_misused (inr (inr (inl (e, k, n)))) = absurd cc
not_misused (inr (inr (inr (e, a)))) = absurd cc

loads_rightly : MisusesPointer (unit true 0 (Lxi pair.Sp 0x2400) []) (routine true 0 (Lxi pair.Sp 0x2400) []) 0 (stmt (Lxi pair.Sp 0x2400) []) → ⊥
loads_rightly (inl e) = absurd cc
loads_rightly (inr (inl (w, e, n))) = n (refl, refl)
loads_rightly (inr (inr (inl (e, k, n)))) = n refl
loads_rightly (inr (inr (inr (e, (a, t, p))))) = absurd cc

-- ---- Loops

asserted_first : asserted_in (slice_get (graph_of (unit false 0 (Jmp 0) noted) 0) 0) ≡ true
unfolding nodes_from
asserted_first = refl

plain_first : asserted_in (slice_get (graph_of (one (Jmp 0)) 0) 0) ≡ false
unfolding nodes_from
plain_first = refl

goes_back : LeadsTo (graph_of (one (Jmp 0)) 0) 0 false 0
unfolding nodes_from
goes_back = refl

-- the first instruction is asserted, so no way leads there
no_way : (from to : ℕ) → Reaches (graph_of (unit false 0 (Jmp 0) noted) 0) 1 from to → to ≡ 0 → ⊥
no_way _ _ (reach_one at taken to l e) is = let a = rw is at e.0.1 in absurd cc (a, asserted_first)
no_way _ _ (reach_more from at taken to r e) is = let a = rw is at e.0.1 in absurd cc (a, asserted_first)

only_element : {A : Type 0} (x y : A) → Contains (x ∷ []) y → y ≡ x
only_element x y c =
    let f = at_from_Contains (x ∷ []) y c in
    let first : f.0 ≡ 0 = let l = f.1 in omega (arith, l) in
    let read = rw first at f.2 in sym (read x)

none_in : {A : Type 0} (y : A) → Contains [] y → ⊥
none_in y c = omega (arith, c.1)

get_is : (q : ℕ) → maps.get (maps.from_sorted {R = nat_cmp} cells) q ≡ find nat_cmp q cells
get_is q = maps.get-from_sorted nat_cmp cells q tt

no_byte : maps.get (maps.from_sorted {R = nat_cmp} cells) 1 ≡ None
no_byte = get_is 1

stored_elsewhere : IsKept (one (Sta 1)) kind.CodeWritten
stored_elsewhere line b =
    let f = at_first false 0 (Sta 1) [] line _ b in
    let same = only_element 1 f.0 f.2 in
    absurd (let n = rw same at f.3 in cc (n, no_byte))

-- ---- Room on the stack

too_deep : (d : ℤ) (n : ℕ) → d ≡ pos 0 → n ≡ 2 → pos 2 <ℤ (d +ℤ pos n) → ⊥
too_deep d n e f l = omega (arith, ints, e, f, l)

has_room : (n : ℕ) (d : ℤ) → Takes (unit false 2 (Push stack.B) []) (stmt (Push stack.B) []) n →
    HasDepth (graph_of (unit false 2 (Push stack.B) []) 0) (routine false 2 (Push stack.B) []).code 0 d → pos 2 <ℤ (d +ℤ pos n) → ⊥
has_room n d (inl (e, two)) has less =
    too_deep d n
    (one_depth (graph_of (unit false 2 (Push stack.B) []) 0) (routine false 2 (Push stack.B) []).code 0 d (pos 0) has (first_depth false 2 (Push stack.B) []))
    two less
has_room n d (inr (c, callee, (a, target, at), r, e)) has less = absurd cc

not_pushed : IsKept (unit false 2 (Push stack.B) []) kind.OverDepth
not_pushed line (inl t) = let f = at_first false 2 (Push stack.B) [] line _ t in has_room f.0 f.1 f.2 f.3 f.4
not_pushed line (inr (r, c, l, starts, past)) =
    let same = only_element (routine false 2 (Push stack.B) []) r c in
    absurd (let t = rw same at starts in cc t)

-- ---- Two instructions

return_stops : (taken : Bool) (to : ℕ) → LeadsTo (graph_of (two Ret Cmc) 0) 0 taken to → ⊥
unfolding nodes_from
return_stops false to e = absurd cc
return_stops true to e = absurd cc

past_the_end : (at : ℕ) (taken : Bool) (to : ℕ) → LeadsTo (graph_of (two Ret Cmc) 0) (suc (suc at)) taken to → ⊥
unfolding nodes_from
past_the_end at false to e = absurd cc
past_the_end at true to e = absurd cc

no_walk : (places : List ℕ) (v : ℕ) → WalkTo (graph_of (two Ret Cmc) 0) places v → v ≡ 1 → ⊥
no_walk _ _ entry e = omega (arith, e)
no_walk _ _ (onward places zero to w (inl h)) e = return_stops false to h
no_walk _ _ (onward places zero to w (inr h)) e = return_stops true to h
no_walk _ _ (onward places (suc zero) to w s) e = no_walk places 1 w refl
no_walk _ _ (onward places (suc (suc at)) to w (inl h)) e = past_the_end at false to h
no_walk _ _ (onward places (suc (suc at)) to w (inr h)) e = past_the_end at true to h

goes_on : LeadsTo (graph_of (two Cmc Ret) 0) 0 false 1
unfolding nodes_from
goes_on = refl

both_reached : (k : ℕ) (routine : Routine) (s : Stmt) → IsAt (two Cmc Ret) 0 k routine s → (places : List ℕ) × WalkTo (graph_of (two Cmc Ret) 0) places k
both_reached zero routine s is = ([], entry)
both_reached (suc zero) routine s is = ([] ++ 0 ∷ [], onward [] 0 1 entry (inl goes_on))
both_reached (suc (suc k)) routine s is =
    let same : routine_of_two Cmc Ret ≡ routine = let a = is.among in cc a in
    absurd (let n = rw (← same) at is.within in cc n)

reached : IsKept (two Cmc Ret) kind.Unreached
reached line (r, k, routine, s, is, on, none) =
    let first = only_one (routine_of_two Cmc Ret) routine r is.among in
    let w = both_reached k routine s (rw first.0 at is) in
    let stops = rw first.0 at none in stops w.0 w.1

-- ---- A depth

pushes_on : LeadsTo (graph_of (two (Push stack.B) Ret) 0) 0 false 1
unfolding nodes_from
pushes_on = refl

least_by : (places : List ℕ) (at : ℕ) → (0 ∷ [] ≡ places ++ at ∷ []) ⊎ Before (0 ∷ []) (places ++ at ∷ [])
least_by [] zero = inl refl
least_by [] (suc at) = inr (inr (refl, inl (omega arith)))
least_by (x ∷ places) at = inr (inl (omega (arith, length-append places (at ∷ []))))

least_of_one : (others : List ℕ) (v : ℕ) → WalkTo (graph_of (two (Push stack.B) Ret) 0) others v → v ≡ 1 → (0 ∷ [] ≡ others) ⊎ Before (0 ∷ []) others
least_of_one _ _ entry e = absurd (omega (arith, e))
least_of_one _ _ (onward places at to w s) e = least_by places at

depth_of_return : HasDepth (graph_of (two (Push stack.B) Ret) 0) (routine_of_two (Push stack.B) Ret).code 1 (pos 2)
depth_of_return = (
  [] ++ 0 ∷ [],
  record { walk = onward [] 0 1 entry (inl pushes_on); least = λ others w. least_of_one others 1 w refl },
  refl,
)

not_zero : pos 2 ≡ pos 0 → ⊥
not_zero e = absurd cc

-- ---- Words of the stack

no_word : IsKept (unit false 0 Ret noted) kind.NoSlot
no_word line (r, k, routine', s, is, (n, depth, w, c, l, has, among, less)) =
    let first = only_one (routine false 0 Ret noted) routine' r is.among in
    let within : slice_get (routine false 0 Ret noted).code k ≡ Some s =
    subst (λ (v : Routine). slice_get v.code k ≡ Some s) (sym first.1) is.within in
    let here = only_one (stmt Ret noted) s k within in
    let asserts : s.asserts ≡ noted = ap (λ (x : Stmt). x.asserts) (sym here.1) in
    let mine : Contains noted n = rw asserts at c in
    let same = only_element (record { line = record { 0 = 5 }; note = Constant true }) n mine in
    none_in w (subst (λ (x : Noted). Contains (note_words (note_of x.note)) w) same among)

pub by_example : RulesByExample
by_example = record {
  jump = out false 0 (Jmp 5) [] _ (5, refl, refl);
  jump_inside = jump_inside;
  end = out false 0 Cmc [] _ (refl, refl);
  end_by_return = λ line b. let f = at_first false 0 Ret [] line _ b in absurd (let t = f.1 in cc t);
  call = out false 0 (Call 5) [] _ (5, refl, tt);
  call_of_start = out true 0 (Call 0) [] _ (0, refl, (routine true 0 (Call 0) [], refl, refl));
  call_of_routine = call_of_routine;
  recursion = out false 0 (Call 0) [] _ (0, (0, refl, refl), lead_one 0 0 call_itself);
  no_recursion = no_recursion;
  computed = out false 0 Pchl [] _ refl;
  not_computed = λ line b. let f = at_first false 0 Xchg [] line _ b in absurd cc f;
  moved = out false 0 Sphl [] _ (inl refl);
  not_moved = λ line b. not_misused (at_first false 0 Xchg [] line _ b);
  loaded = out false 0 (Lxi pair.Sp 0x2400) [] _ (inr (inl (0x2400, refl, λ h. absurd (let e = h.0 in cc e))));
  loaded_at_start = λ line b. loads_rightly (at_first true 0 (Lxi pair.Sp 0x2400) [] line _ b);
  loaded_otherwise = out true 0 (Lxi pair.Sp 0x23FF) [] _ (inr (inr (inl (refl, refl, λ e. absurd (let same : ◌≡◌ {A = ℕ} 0x23FF 0x2400 = cc e in omega (arith, same))))));
  popped = out false 0 (Pop stack.B) [] _ (refl, (pos 0, first_depth false 0 (Pop stack.B) [], omega (arith, ints)));
  not_popped = λ line b. let f = at_first false 0 (Push stack.B) [] line _ b in absurd (let t = f.0 in cc t);
  pushed = inl (out false 0 (Push stack.B) [] _ (2, pos 0, inl (refl, refl), first_depth false 0 (Push stack.B) [], omega (arith, ints)));
  not_pushed = not_pushed;
  unreached = (0, 1, routine_of_two Ret Cmc, second Cmc, record { among = refl; within = refl }, refl, λ places w. no_walk places 1 w refl);
  reached = reached;
  deep = (
    0,
    1,
    routine_of_two (Push stack.B) Ret,
    second Ret,
    record { among = refl; within = refl },
    refl,
    inl ((refl, depth_of_return, not_zero), refl),
  );
  no_slot = (
    0,
    0,
    routine false 0 Ret (word ∷ []),
    stmt Ret (word ∷ []),
    record { among = refl; within = refl },
    (
      word,
      pos 0,
      1,
      Contains-from_at (word ∷ []) word (0, omega arith, λ d. refl),
      refl,
      first_depth false 0 Ret (word ∷ []),
      Contains-from_at (1 ∷ []) 1 (0, omega arith, λ d. refl),
      omega (arith, ints),
    ),
  );
  no_word = no_word;
  looped = out false 0 (Jmp 0) [] _ (reach_one 0 false 0 (omega arith) ((goes_back, plain_first), omega arith));
  cut = λ line b. no_way 0 0 (at_first false 0 (Jmp 0) noted line _ b) refl;
  returned = out true 0 Ret [] _ (refl, refl);
  returned_elsewhere = λ line b. let f = at_first false 0 Ret [] line _ b in absurd (let t = f.0 in cc t);
  stored = out false 0 (Sta 0) [] _ (0, 0, Contains-from_at (0 ∷ []) 0 (0, omega arith, λ d. refl), get_is 0);
  stored_elsewhere = stored_elsewhere;
}
