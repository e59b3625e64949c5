-- Where no rule is broken, all instructions are reached and no depth is negative.
use Rattle.std.proofs.Common.{◌≡◌, ◌<◌, ◌≤◌, ◌+◌, ℕ, ◌⊎◌, inl, inr, arith, Bool, true, false, List, [], ◌∷◌, ◌++◌, Some, slice_get, length, length-append, get_or, refl, sym, ap, ◌∙◌}
use Rattle.std.specs.Prelude.{ℤ, pos, negsuc, ◌+ℤ◌, ◌<ℤ◌, ◌≤ℤ◌}
use Rattle.std.proofs.lemmas.Bool.{cases_lt, cases_order, cases_Bool}
use Rattle.std.proofs.lemmas.Int.{ints}
use Rattle.std.proofs.lemmas.List.{get_or_past, get_or_append_left, get_or_push}
use Rattle.std.proofs.lemmas.Option.{slice_get_within, slice_get-get_or, get_or_from_slice_get}
use Rattle.sp_isa.specs.declared.instr.Instr.{Instr}
use Rattle.sp_isa.specs.declared.instr.Instr.TheVariants.{Push, Pop}
use Rattle.sp_graph.specs.Depths.{HasDepth, effect, depth_along}
use Rattle.sp_graph.specs.Least.{WalkTo, Before}
use Rattle.sp_graph.specs.Least.WalkTo.{entry, onward}
use Rattle.sp_graph.specs.Routines.{graph_of}
use Rattle.sp_graph.specs.SoundUnits.{AreDepthsOf, IsSoundOf}
use Rattle.sp_graph.specs.Structure.{IsStructured, IsAt, takes_word}
use Rattle.sp_graph.proofs.NodeLemmas.{stmt_at}
use Rattle.sp_prog.specs.declared.routine.Routine.{Routine}
use Rattle.sp_prog.specs.declared.routine.Stmt.{Stmt}
use Rattle.sp_prog.specs.Program.{Program}
use Rattle.sp_struct.specs.code.Depths.{TellsDepths, depth_at, is_seen}
use Rattle.sp_struct.specs.code.Kept.{AreNaturals, AreSoundFirst}
use Rattle.sp_struct.specs.code.Levels.{AreLevels}
use Rattle.sp_struct.specs.declared.stack.Levels.{Levels}
use Rattle.sp_struct.proofs.StructuredLemmas as structured

-- the effects that there are
effects : (i : Instr) → (pos 0 ≤ℤ effect i) ⊎ ((effect i ≡ negsuc 1) × (takes_word i ≡ true))
effects (Push pair) = inl (omega (arith, ints))
effects (Pop pair) = inr (refl, refl)
effects _ = inl (omega (arith, ints))

below_two : (d : ℤ) → (d <ℤ pos 2) ⊎ (pos 2 ≤ℤ d)
below_two (pos m) = elim (cases_lt m 2) as (λ o. (pos m <ℤ pos 2) ⊎ (pos 2 ≤ℤ pos m)) [ inl l ↦ inl (omega (arith, ints, l)) | inr l ↦ inr (omega (arith, ints, l)) ]
below_two (negsuc m) = inl (omega (arith, ints))

stays_natural : (d e : ℤ) → pos 0 ≤ℤ d → pos 0 ≤ℤ e → pos 0 ≤ℤ (d +ℤ e)
stays_natural d e l m = omega (arith, ints, l, m)

two_less : (d e : ℤ) → pos 2 ≤ℤ d → e ≡ negsuc 1 → pos 0 ≤ℤ (d +ℤ e)
two_less d e l is = omega (arith, ints, l, is)

seen_within : (seen : List Bool) (k : ℕ) → is_seen seen k ≡ true → k < length seen
seen_within seen k e = elim (cases_lt k (length seen)) as (λ o. k < length seen) [
  | inl l ↦ l
  | inr l ↦ absurd (let past = get_or_past seen k false l in cc (e, past))
]

no_walk_before : (places : List ℕ) → (places ≡ []) ⊎ Before places [] → places ≡ []
no_walk_before places (inl e) = e
no_walk_before places (inr (inl l)) = absurd (omega arith)
no_walk_before [] (inr (inr (e, l))) = refl
no_walk_before (x ∷ xs) (inr (inr (e, l))) = absurd l

module _ (p : Program) (good : IsStructured p) (r : ℕ) (routine : Routine) (among : slice_get p.routines r ≡ Some routine) (seen : List Bool) (depths : List ℤ)
    (t : TellsDepths (graph_of p r) routine.code seen depths) where
  pub all_seen : (k : ℕ) → k < length routine.code → is_seen seen k ≡ true
  all_seen k l = elim (cases_Bool (is_seen seen k)) as (λ o. is_seen seen k ≡ true) [
    | inl e ↦ e
    | inr e ↦
        let s = stmt_at routine.code k l in
        absurd (good.reached s.0.line.0 (r, k, routine, s.0, record { among = among; within = s.1 }, refl, λ places w. t.none k e places w))
  ]

  walked_seen : (places : List ℕ) (k : ℕ) → WalkTo (graph_of p r) places k → is_seen seen k ≡ true
  walked_seen places k w = elim (cases_Bool (is_seen seen k)) as (λ o. is_seen seen k ≡ true) [ inl e ↦ e | inr e ↦ absurd (t.none k e places w) ]

  first_depth : (d : ℤ) → HasDepth (graph_of p r) routine.code 0 d → d ≡ pos 0
  first_depth d (places, least, e) = e ∙ ap (depth_along routine.code) (no_walk_before places (least.least [] entry))

  after : (k : ℕ) (s : Stmt) → IsAt p r k routine s → (d : ℤ) → HasDepth (graph_of p r) routine.code k d → pos 0 ≤ℤ d → pos 0 ≤ℤ (d +ℤ effect s.instr)
  after k s at d has l = elim (effects s.instr) as (λ o. pos 0 ≤ℤ (d +ℤ effect s.instr)) [
    | inl up ↦ stays_natural d (effect s.instr) l up
    | inr (is, takes) ↦ elim (below_two d) as (λ o. pos 0 ≤ℤ (d +ℤ effect s.instr)) [
      | inl low ↦ absurd (good.pops s.line.0 (r, k, routine, s, at, refl, (takes, (d, has, low))))
      | inr high ↦ two_less d (effect s.instr) high is
    ]
  ]

  natural : (places : List ℕ) (k : ℕ) → WalkTo (graph_of p r) places k → pos 0 ≤ℤ depth_at depths k
  natural _ _ entry =
      let is = first_depth (depth_at depths 0) (t.some 0 (walked_seen [] 0 entry)) in rw is (omega (arith, ints))
  natural _ _ (onward places at to w step) =
      let here = walked_seen places at w in
      let s = stmt_at routine.code at (let l = seen_within seen at here in let n = t.marks in omega (arith, l, n)) in
      let stands : IsAt p r at routine s.0 = record { among = among; within = s.1 } in
      let e = structured.onward p good r at routine s.0 stands to (depth_at depths at) (depth_at depths to) (t.some at here) step
      (t.some to (walked_seen (places ++ at ∷ []) to (onward places at to w step))) in
      rw e (after at s.0 stands (depth_at depths at) (t.some at here) (natural places at w))

  pub not_negative : (k : ℕ) → k < length routine.code → pos 0 ≤ℤ depth_at depths k
  not_negative k l = let has = t.some k (all_seen k l) in natural has.0 k has.1.walk

-- ---- The depths as numbers

pub no_naturals : (depths : List ℤ) → AreNaturals depths 0 []
no_naturals depths = record { size = refl; each = λ k l. absurd (omega arith) }

pub natural_more : (depths : List ℤ) (count : ℕ) (given : List ℕ) (d : ℕ) → AreNaturals depths count given → pos d ≡ depth_at depths count →
    AreNaturals depths (count + 1) (given ++ d ∷ [])
natural_more depths count given d n e =
    let size = n.size in
    record {
      size = omega (arith, size, length-append given (d ∷ []));
      each = λ k l. elim (cases_order k count) as (λ o. pos (get_or (given ++ d ∷ []) k 0) ≡ depth_at depths k) [
        | inl same ↦ ap (λ x. pos x) (get_or_push given d 0 k (omega (arith, size, same))) ∙ e ∙ ap (depth_at depths) (sym same)
        | inr o ↦ elim o as (λ o. pos (get_or (given ++ d ∷ []) k 0) ≡ depth_at depths k) [
          | inl low ↦ ap (λ x. pos x) (get_or_append_left given (d ∷ []) 0 k (omega (arith, size, low))) ∙ n.each k low
          | inr high ↦ absurd (omega (arith, l, high))
        ]
      ];
    }

pub no_sound : (p : Program) → AreSoundFirst p 0 []
no_sound p = record { within = omega arith; size = refl; each = λ r routine given among e. absurd cc }

module _ (p : Program) (count : ℕ) (all : List (List ℕ)) (first : AreSoundFirst p count all) (routine : Routine) (among : slice_get p.routines count ≡ Some routine)
    (seen : List Bool) (depths : List ℤ) (t : TellsDepths (graph_of p count) routine.code seen depths) (good : IsStructured p) (new : List ℕ)
    (natural : AreNaturals depths (length depths) new) where
  given_depths : AreDepthsOf p count routine new
  given_depths =
      let size = t.size in
      record {
        size = natural.size ∙ t.size;
        each = λ k l. rw (natural.each k (omega (arith, l, size))) (t.some k (all_seen p good count routine among seen depths t k l));
      }

  pub sound_more : AreSoundFirst p (count + 1) (all ++ new ∷ [])
  sound_more =
      let size = first.size in
      record {
        within = let l = slice_get_within p.routines count routine among in omega (arith, l);
        size = omega (arith, size, length-append all (new ∷ []));
        each = λ r other given there e.
            let l = slice_get_within (all ++ new ∷ []) r given e in
            let read = get_or_from_slice_get (all ++ new ∷ []) r given new e in
            elim (cases_order r count) as (λ o. AreDepthsOf p r other given) [
              | inl same ↦
                  let is : new ≡ given = sym (get_or_push all new new r (omega (arith, same, size))) ∙ read in
                  let one : routine ≡ other = let m = rw same at there in cc (among, m) in
                  rw (← is, ← one, same) given_depths
              | inr o ↦ elim o as (λ o. AreDepthsOf p r other given) [
                | inl low ↦
                    let inside : r < length all = omega (arith, size, low) in
                    let old = sym (get_or_append_left all (new ∷ []) new r inside) ∙ read in
                    first.each r other given there (slice_get-get_or all r new inside ∙ ap (λ v. Some v) old)
                | inr high ↦ absurd (omega (arith, l, size, high, length-append all (new ∷ [])))
              ]
            ];
      }

-- each place of a list has an element
pub at_place : (routines : List Routine) (r : ℕ) → r < length routines → (routine : Routine) × (slice_get routines r ≡ Some routine)
at_place [] r l = absurd (omega arith)
at_place (x ∷ xs) r l = (get_or (x ∷ xs) r x, slice_get-get_or (x ∷ xs) r x l)

module _ (p : Program) (good : IsStructured p) (all : List Levels) (are : AreLevels p all) (place : ℕ) (low : place < length p.routines) (l : Levels)
    (there : slice_get all place ≡ Some l) where
  abbrev found : (routine : Routine) × (slice_get p.routines place ≡ Some routine)
  found = at_place p.routines place low

  told : TellsDepths (graph_of p place) found.0.code l.reached.items l.depths.items
  told = are.each place found.0 l found.1 there

  pub low_at : (k : ℕ) → k < length l.depths.items → pos 0 ≤ℤ depth_at l.depths.items k
  low_at k less =
      let size = told.size in
      not_negative p good place found.0 found.1 l.reached.items l.depths.items told k (omega (arith, less, size))

  pub high_at : (k : ℕ) → k < length l.depths.items → depth_at l.depths.items k ≤ℤ pos 131072
  high_at k less =
      let size = told.size in
      (told.small k (all_seen p good place found.0 found.1 l.reached.items l.depths.items told k (omega (arith, less, size)))).1

  pub sound_next : (given : List (List ℕ)) (new : List ℕ) → AreSoundFirst p place given → AreNaturals l.depths.items (length l.depths.items) new →
      AreSoundFirst p (place + 1) (given ++ new ∷ [])
  sound_next given new first natural = sound_more p place given first found.0 found.1 l.reached.items l.depths.items told good new natural

pub all_sound : (p : Program) (count : ℕ) (all : List (List ℕ)) → IsStructured p → AreSoundFirst p count all → length p.routines ≤ count → IsSoundOf p (record { depths = all })
all_sound p count all good first past =
    let size = first.size in
    let within = first.within in
    record { structured = good; size = omega (arith, size, within, past); each = first.each }
