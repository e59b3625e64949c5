-- What is read is written: where words are read as a condition, they are the words of a tree of the grammar.
use Rattle.std.proofs.Common.{◌≡◌, ℕ, ◌+◌, ◌<◌, ◌≤◌, Bool, true, false, cond, List, [], ◌∷◌, ◌++◌, Option, Some, None, refl, sym, ap, subst, ◌∙◌, inl, inr, append_assoc, arith}
use Rattle.std.specs.Prelude.{nat_le, nat_lt, ⊤}
use Rattle.std.specs.Option.{option_map, option_and_then}
use Rattle.std.proofs.lemmas.Bool.{cases_Bool}
use Rattle.std.proofs.lemmas.Bool.Decides.{nat_tests}
use Rattle.std.proofs.lemmas.List.{append-nil}
use Rattle.sp_logic.specs.declared.note.Moment.{Moment}
use Rattle.sp_logic.specs.declared.note.Moment.TheVariants.{Now, AtEntry}
use Rattle.sp_logic.specs.declared.note.Quantifier.{Quantifier}
use Rattle.sp_note.specs.declared.head.Head.{Head}
use Rattle.sp_note.specs.declared.head.Head.TheVariants as head
use Rattle.sp_note.specs.declared.head.Tail.{Tail}
use Rattle.sp_note.specs.declared.head.Tail.TheVariants as tail
use Rattle.sp_note.specs.declared.word.Infix.{Infix}
use Rattle.sp_note.specs.declared.word.Infix.TheVariants as op
use Rattle.sp_note.specs.declared.word.Word.{Word}
use Rattle.sp_note.specs.declared.word.Word.TheVariants as words
use Rattle.sp_note.specs.Grammar as grammar
use Rattle.sp_note.specs.Grammar.{Tree, rank_of, left_rank, right_rank, rank_of_tree, ends_open, IsCondition, mark, spelling}
use Rattle.sp_note.specs.code.Frames as frames
use Rattle.sp_note.specs.code.Frames.{Frame, tightness, room, room_in, completed, reduced}
use Rattle.sp_note.specs.code.Heads.{Place, Start, After, Within, turned}
use Rattle.sp_note.specs.code.Operands.{Known}
use Rattle.sp_note.specs.code.Parser as parser
use Rattle.sp_note.specs.code.Parser.{State, state, start_step, after_step, step, run}
use Rattle.sp_note.proofs.TakeLemmas.{infix_rank, reduced-on, reduced-at}

-- ---- what waits on a stack, as it is written

-- the words of a part that is begun
abbrev pub Opens : Frame → List Word → Type 0
Opens (frames.Join i x) own =
    (t : Tree) × IsCondition t × (rank_of_tree t ≤ left_rank i) × (ends_open t ≡ false) × (own ≡ spelling t ++ words.Infix i ∷ [])
Opens frames.Not own = own ≡ words.Not ∷ []
Opens frames.Negative own = own ≡ words.Infix op.Subtract ∷ []
Opens frames.Paren own = own ≡ words.Open ∷ []
Opens (frames.Cell m) own = own ≡ words.Mem ∷ (mark m ++ words.OpenBracket ∷ [])
Opens (frames.Element m name) own = own ≡ words.Name name ∷ (mark m ++ words.OpenBracket ∷ [])
Opens frames.Parity own = own ≡ words.Par ∷ words.Open ∷ []
Opens (frames.FirstBits b) own = own ≡ words.Bits b ∷ words.Open ∷ []
Opens (frames.SecondBits b x) own =
    (t : Tree) × IsCondition t × (own ≡ words.Bits b ∷ words.Open ∷ (spelling t ++ words.Comma ∷ []))
Opens (frames.FirstCell m) own = own ≡ words.Total ∷ (mark m ++ words.Open ∷ [])
Opens (frames.LastCell m x) own =
    (t : Tree) × IsCondition t × (rank_of_tree t ≤ 3) × (own ≡ words.Total ∷ (mark m ++ words.Open ∷ (spelling t ++ words.Comma ∷ [])))
Opens (frames.LowEnd q name) own = own ≡ words.For ∷ words.Quantifier q ∷ words.Name name ∷ words.In ∷ []
Opens (frames.HighEnd q name x) own =
    (t : Tree) × IsCondition t × (rank_of_tree t ≤ 3)
    × (own ≡ words.For ∷ words.Quantifier q ∷ words.Name name ∷ words.In ∷ (spelling t ++ words.Range ∷ []))
Opens (frames.Body q name x y) own =
    (t : Tree) × (u : Tree) × IsCondition t × (rank_of_tree t ≤ 3) × IsCondition u × (rank_of_tree u ≤ 3)
    × (own ≡ words.For ∷ words.Quantifier q ∷ words.Name name ∷ words.In ∷ (spelling t ++ words.Range ∷ (spelling u ++ words.Colon ∷ [])))

-- the rank of the part that it will be
abbrev pub rank_needed : Frame → ℕ
rank_needed (frames.Join i x) = rank_of i
rank_needed frames.Not = 5
rank_needed frames.Negative = 1
rank_needed (frames.LowEnd q name) = 5
rank_needed (frames.HighEnd q name x) = 5
rank_needed (frames.Body q name x y) = 5
rank_needed _ = 0

pub record Begun (f : Frame) (stack : List Frame) (own : List Word) : Type 0 where
  pub opens : Opens f own
  pub fits : rank_needed f ≤ room stack

-- these words are those of what waits
abbrev pub Stacked : List Frame → List Word → Type 0
Stacked [] ws = ws ≡ []
Stacked (f ∷ stack) ws = (front : List Word) × (own : List Word) × Stacked stack front × Begun f stack own × (ws ≡ front ++ own)

-- a condition after what waits
pub record Ends (k : ℕ) (stack : List Frame) (whole : List Word) : Type 0 where
  pub front : List Word
  pub tree : Tree
  pub stacked : Stacked stack front
  pub grammar : IsCondition tree
  pub fits : rank_of_tree tree ≤ room stack
  pub tight : rank_of_tree tree ≤ k
  pub shut : k < 10 → ends_open tree ≡ false
  pub whole_is : whole ≡ front ++ spelling tree

-- ---- completing parts

-- the tree of a part with its last operand
record Complete (f : Frame) (own : List Word) (t : Tree) : Type 0 where
  tree : Tree
  grammar : IsCondition tree
  rank : rank_of_tree tree ≡ rank_needed f
  tight : rank_of_tree tree ≤ tightness f
  ends : tightness f < 10 → ends_open tree ≡ ends_open t
  written : own ++ spelling t ≡ spelling tree

complete : (f : Frame) (own : List Word) (t : Tree) → Opens f own → tightness f ≤ 10 → IsCondition t → rank_of_tree t ≤ room_in f → Complete f own t
unfolding spelling
complete (frames.Join i x) own t o le c r = record {
  tree = grammar.Joined i o.0 t;
  grammar = (o.2, r, o.3, o.1, c);
  rank = refl;
  tight = omega arith;
  ends = λ lt. refl;
  written = ap (λ ws. ws ++ spelling t) o.4 ∙ append_assoc (spelling o.0) (words.Infix i ∷ []) (spelling t);
}
complete frames.Not own t o le c r = record {
  tree = grammar.Not t;
  grammar = (r, c);
  rank = refl;
  tight = omega arith;
  ends = λ lt. refl;
  written = ap (λ ws. ws ++ spelling t) o;
}
complete frames.Negative own t o le c r = record {
  tree = grammar.Negative t;
  grammar = (r, c);
  rank = refl;
  tight = omega arith;
  ends = λ lt. refl;
  written = ap (λ ws. ws ++ spelling t) o;
}
complete (frames.Body q name x y) own t o le c r = record {
  tree = grammar.Quantified q name o.0 o.1 t;
  grammar = (o.3, o.5, o.2, o.4, c);
  rank = refl;
  tight = omega arith;
  ends = λ lt. absurd (omega arith);
  written =
      ap (λ ws. ws ++ spelling t) o.6
      ∙ ap (λ ws. words.For ∷ words.Quantifier q ∷ words.Name name ∷ words.In ∷ ws)
      (append_assoc (spelling o.0) (words.Range ∷ (spelling o.1 ++ words.Colon ∷ [])) (spelling t)
      ∙ ap (λ ws. spelling o.0 ++ words.Range ∷ ws) (append_assoc (spelling o.1) (words.Colon ∷ []) (spelling t)));
}
complete frames.Paren own t o le c r = absurd (omega arith)
complete (frames.Cell m) own t o le c r = absurd (omega arith)
complete (frames.Element m name) own t o le c r = absurd (omega arith)
complete frames.Parity own t o le c r = absurd (omega arith)
complete (frames.FirstBits b) own t o le c r = absurd (omega arith)
complete (frames.SecondBits b x) own t o le c r = absurd (omega arith)
complete (frames.FirstCell m) own t o le c r = absurd (omega arith)
complete (frames.LastCell m x) own t o le c r = absurd (omega arith)
complete (frames.LowEnd q name) own t o le c r = absurd (omega arith)
complete (frames.HighEnd q name x) own t o le c r = absurd (omega arith)

-- what is completed is written as before
pub reduces : (k : ℕ) (stack : List Frame) (ws : List Word) (x : Known) (t : Tree) → k ≤ 10 → Stacked stack ws → IsCondition t → rank_of_tree t ≤ room stack → rank_of_tree t ≤ k
    → (k < 10 → ends_open t ≡ false) → Ends k (reduced k stack x).0 (ws ++ spelling t)
unfolding reduced
reduces k [] ws x t le s c fits tight shut = record { front = ws; tree = t; stacked = s; grammar = c; fits = fits; tight = tight; shut = shut; whole_is = refl }
reduces k (f ∷ stack) ws x t le s c fits tight shut =
    elim (cases_Bool (nat_le (tightness f) k)) [
      | inl holds ↦ (
          let within : tightness f ≤ k = grind (arith, nat_tests) in
          let done = complete f s.1 t s.3.opens (omega (arith, within)) c fits in
          let rank = done.rank in
          let as_tight = done.tight in
          let needs = s.3.fits in
          let rest = reduces k stack s.0 (completed f x) done.tree le s.2 done.grammar (omega (arith, rank, needs)) (omega (arith, as_tight, within)) (λ lt. done.ends (omega (arith, within)) ∙ shut lt) in
          let same : ws ++ spelling t ≡ s.0 ++ spelling done.tree =
          ap (λ v. v ++ spelling t) s.4 ∙ append_assoc s.0 s.1 (spelling t) ∙ ap (λ v. s.0 ++ v) done.written in
          let here : Ends k (reduced k (f ∷ stack) x).0 (s.0 ++ spelling done.tree) = subst (λ (r : List Frame × Known). Ends k r.0 (s.0 ++ spelling done.tree)) (sym (reduced-on k f stack x within)) rest in
          subst (λ v. Ends k (reduced k (f ∷ stack) x).0 v) (sym same) here)
      | inr fails ↦ (
          let past : k < tightness f = grind (arith, nat_tests) in
          let here : Ends k (f ∷ stack) (ws ++ spelling t) = record { front = ws; tree = t; stacked = s; grammar = c; fits = fits; tight = tight; shut = shut; whole_is = refl } in
          subst (λ (r : List Frame × Known). Ends k r.0 (ws ++ spelling t)) (sym (reduced-at k f stack x past)) here)
    ]

-- ---- where the reader is

pub head_words : Head → List Word
head_words (head.Mem m) = words.Mem ∷ mark m
head_words (head.Total m) = words.Total ∷ mark m
head_words head.Par = words.Par ∷ []
head_words (head.Bits b) = words.Bits b ∷ []
head_words (head.Measure x) = words.Measure x ∷ []
head_words (head.Open x) = words.Measure x ∷ words.Open ∷ []
head_words (head.Measured x name) = words.Measure x ∷ words.Open ∷ words.Name name ∷ []
head_words head.For = words.For ∷ []
head_words (head.Quantifier q) = words.For ∷ words.Quantifier q ∷ []
head_words (head.Binding q name) = words.For ∷ words.Quantifier q ∷ words.Name name ∷ []

abbrev pub head_rank : Head → ℕ
head_rank head.For = 5
head_rank (head.Quantifier q) = 5
head_rank (head.Binding q name) = 5
head_rank _ = 0

abbrev pub TailFits : Tail → Tree → Type 0
TailFits tail.None t = ⊤
TailFits (tail.Location x) t = t ≡ grammar.Location Now x
TailFits (tail.Pair p) t = t ≡ grammar.Pair Now p
TailFits (tail.Name name) t = t ≡ grammar.Named Now name
TailFits (tail.Entry name) t = t ≡ grammar.Named AtEntry name

-- a primary after what waits
pub record Primary (stack : List Frame) (l : Tail) (whole : List Word) : Type 0 where
  pub front : List Word
  pub tree : Tree
  pub stacked : Stacked stack front
  pub grammar : IsCondition tree
  pub rank : rank_of_tree tree ≡ 0
  pub shut : ends_open tree ≡ false
  pub fits : TailFits l tree
  pub whole_is : whole ≡ front ++ spelling tree

pub record Headed (stack : List Frame) (h : Head) (whole : List Word) : Type 0 where
  pub front : List Word
  pub stacked : Stacked stack front
  pub rank : head_rank h ≤ room stack
  pub whole_is : whole ≡ front ++ head_words h

abbrev pub AtPlace : List Frame → Place → List Word → Type 0
AtPlace stack Start ws = Stacked stack ws
AtPlace stack (After x l) ws = Primary stack l ws
AtPlace stack (Within h) ws = Headed stack h ws

-- these words are read
pub record Written (s : State) (ws : List Word) : Type 0 where
  pub at : AtPlace s.stack s.place ws

some_is : {X : Type 0} (a b : X) → Some a ≡ Some b → a ≡ b
some_is a b e = cc

none_is : {X : Type 0} {C : Type 0} (b : X) → None ≡ Some b → C
none_is b e = absurd cc

tested : (b : Bool) (a next : State) → cond b None (Some a) ≡ Some next → (b ≡ false) × (a ≡ next)
tested true a next e = none_is next e
tested false a next e = (refl, some_is a next e)

as_next : (a next : State) (ws : List Word) → a ≡ next → Written a ws → Written next ws
as_next a next ws e h = subst (λ s. Written s ws) e h

right_some : (i : Infix) → 1 ≤ right_rank i
right_some op.Iff = omega arith
right_some op.Implies = omega arith
right_some op.Or = omega arith
right_some op.And = omega arith
right_some (op.Compare c) = omega arith
right_some op.Add = omega arith
right_some op.Subtract = omega arith
right_some op.Multiply = omega arith
right_some op.Divide = omega arith
right_some op.Modulo = omega arith

room_some : (stack : List Frame) → 1 ≤ room stack
room_some [] = omega arith
room_some (frames.Join i x ∷ stack) = right_some i
room_some (frames.Not ∷ stack) = omega arith
room_some (frames.Negative ∷ stack) = omega arith
room_some (frames.Paren ∷ stack) = omega arith
room_some (frames.Cell m ∷ stack) = omega arith
room_some (frames.Element m name ∷ stack) = omega arith
room_some (frames.Parity ∷ stack) = omega arith
room_some (frames.FirstBits b ∷ stack) = omega arith
room_some (frames.SecondBits b x ∷ stack) = omega arith
room_some (frames.FirstCell m ∷ stack) = omega arith
room_some (frames.LastCell m x ∷ stack) = omega arith
room_some (frames.LowEnd q name ∷ stack) = omega arith
room_some (frames.HighEnd q name x ∷ stack) = omega arith
room_some (frames.Body q name x y ∷ stack) = omega arith

-- a part begun after what waits
begun : (f : Frame) (stack : List Frame) (front own ws : List Word) (most : ℕ) → Stacked stack front → Opens f own → rank_needed f ≤ room stack → ws ≡ front ++ own → Written (state (f ∷ stack) Start most) ws
begun f stack front own ws most s o r e = record { at = (front, own, s, record { opens = o; fits = r }, e) }

primary : (t : Tree) (l : Tail) (stack : List Frame) (front ws : List Word) (x : Known) (most : ℕ) → Stacked stack front → IsCondition t → rank_of_tree t ≡ 0 → ends_open t ≡ false → TailFits l t
    → ws ≡ front ++ spelling t → Written (state stack (After x l) most) ws
primary t l stack front ws x most s c r o f e = record { at = record { front = front; tree = t; stacked = s; grammar = c; rank = r; shut = o; fits = f; whole_is = e } }

within_head : (h : Head) (stack : List Frame) (front ws : List Word) (most : ℕ) → Stacked stack front → head_rank h ≤ room stack → ws ≡ front ++ head_words h → Written (state stack (Within h) most) ws
within_head h stack front ws most s r e = record { at = record { front = front; stacked = s; rank = r; whole_is = e } }

-- ---- a word where an operand is to come

written_start : (stack : List Frame) (most : ℕ) (place : Place) (ws : List Word) (w : Word) (next : State) → Stacked stack ws → start_step (state stack place most) w ≡ Some next → Written next (ws ++ w ∷ [])
unfolding start_step spelling head_words
written_start stack most place ws (words.Number n) next s e = as_next _ next _ (some_is _ next e) (primary (grammar.Number n) tail.None stack ws _ _ most s tt refl refl tt refl)
written_start stack most place ws (words.Constant truth) next s e = as_next _ next _ (some_is _ next e) (primary (grammar.Constant truth) tail.None stack ws _ _ most s tt refl refl tt refl)
written_start stack most place ws (words.Location x) next s e = as_next _ next _ (some_is _ next e) (primary (grammar.Location Now x) (tail.Location x) stack ws _ _ most s tt refl refl refl refl)
written_start stack most place ws (words.Pair p) next s e = as_next _ next _ (some_is _ next e) (primary (grammar.Pair Now p) (tail.Pair p) stack ws _ _ most s tt refl refl refl refl)
written_start stack most place ws (words.StackWord k) next s e = as_next _ next _ (some_is _ next e) (primary (grammar.StackWord k) tail.None stack ws _ _ most s tt refl refl tt refl)
written_start stack most place ws (words.Name name) next s e = as_next _ next _ (some_is _ next e) (primary (grammar.Named Now name) (tail.Name name) stack ws _ _ most s tt refl refl refl refl)
written_start stack most place ws (words.Infix op.Subtract) next s e =
    as_next _ next _ (some_is _ next e) (begun frames.Negative stack ws (words.Infix op.Subtract ∷ []) _ _ s refl (room_some stack) refl)
written_start stack most place ws (words.Infix i) next s e = none_is next e
written_start stack most place ws words.Not next s e =
    let t = tested (nat_lt (room stack) 5) _ next e in
    let no = t.0 in
    as_next _ next _ t.1 (begun frames.Not stack ws (words.Not ∷ []) _ _ s refl (grind (arith, nat_tests)) refl)
written_start stack most place ws words.Mem next s e = as_next _ next _ (some_is _ next e) (within_head (head.Mem Now) stack ws _ most s (omega arith) refl)
written_start stack most place ws words.Total next s e = as_next _ next _ (some_is _ next e) (within_head (head.Total Now) stack ws _ most s (omega arith) refl)
written_start stack most place ws words.Par next s e = as_next _ next _ (some_is _ next e) (within_head head.Par stack ws _ most s (omega arith) refl)
written_start stack most place ws (words.Bits b) next s e = as_next _ next _ (some_is _ next e) (within_head (head.Bits b) stack ws _ most s (omega arith) refl)
written_start stack most place ws (words.Measure x) next s e = as_next _ next _ (some_is _ next e) (within_head (head.Measure x) stack ws _ most s (omega arith) refl)
written_start stack most place ws words.For next s e =
    let t = tested (nat_lt (room stack) 5) _ next e in
    let no = t.0 in
    as_next _ next _ t.1 (within_head head.For stack ws _ most s (grind (arith, nat_tests)) refl)
written_start stack most place ws words.Open next s e = as_next _ next _ (some_is _ next e) (begun frames.Paren stack ws (words.Open ∷ []) _ _ s refl (omega arith) refl)
written_start stack most place ws w next s e = none_is next e

-- ---- a word after a head

module _ (stack : List Frame) (most : ℕ) (place : Place) (ws front : List Word) (s : Stacked stack front) where
  grow : (own : List Word) (w : Word) → ws ≡ front ++ own → ws ++ w ∷ [] ≡ front ++ (own ++ w ∷ [])
  grow own w e = ap (λ v. v ++ w ∷ []) e ∙ append_assoc front own (w ∷ [])

  written_head : (h : Head) (w : Word) (next : State) → head_rank h ≤ room stack → ws ≡ front ++ head_words h → parser.heading (state stack place most) h w ≡ Some next → Written next (ws ++ w ∷ [])
  unfolding turned head_words spelling
  written_head (head.Mem Now) words.AtEntry next r is e = as_next _ next _ (some_is _ next e) (within_head (head.Mem AtEntry) stack front _ most s (omega arith) (grow (words.Mem ∷ []) words.AtEntry is))
  written_head (head.Mem AtEntry) words.AtEntry next r is e = none_is next e
  written_head (head.Mem m) words.OpenBracket next r is e =
      as_next _ next _ (some_is _ next e) (begun (frames.Cell m) stack front (words.Mem ∷ (mark m ++ words.OpenBracket ∷ [])) _ _ s refl (omega arith) (grow (words.Mem ∷ mark m) words.OpenBracket is))
  written_head (head.Mem m) w next r is e = none_is next e
  written_head (head.Total Now) words.AtEntry next r is e = as_next _ next _ (some_is _ next e) (within_head (head.Total AtEntry) stack front _ most s (omega arith) (grow (words.Total ∷ []) words.AtEntry is))
  written_head (head.Total AtEntry) words.AtEntry next r is e = none_is next e
  written_head (head.Total m) words.Open next r is e =
      as_next _ next _ (some_is _ next e) (begun (frames.FirstCell m) stack front (words.Total ∷ (mark m ++ words.Open ∷ [])) _ _ s refl (omega arith) (grow (words.Total ∷ mark m) words.Open is))
  written_head (head.Total m) w next r is e = none_is next e
  written_head head.Par words.Open next r is e =
      as_next _ next _ (some_is _ next e) (begun frames.Parity stack front (words.Par ∷ words.Open ∷ []) _ _ s refl (omega arith) (grow (words.Par ∷ []) words.Open is))
  written_head head.Par w next r is e = none_is next e
  written_head (head.Bits b) words.Open next r is e =
      as_next _ next _ (some_is _ next e) (begun (frames.FirstBits b) stack front (words.Bits b ∷ words.Open ∷ []) _ _ s refl (omega arith) (grow (words.Bits b ∷ []) words.Open is))
  written_head (head.Bits b) w next r is e = none_is next e
  written_head (head.Measure x) words.Open next r is e = as_next _ next _ (some_is _ next e) (within_head (head.Open x) stack front _ most s (omega arith) (grow (words.Measure x ∷ []) words.Open is))
  written_head (head.Measure x) w next r is e = none_is next e
  written_head (head.Open x) (words.Name name) next r is e =
      as_next _ next _ (some_is _ next e) (within_head (head.Measured x name) stack front _ most s (omega arith) (grow (words.Measure x ∷ words.Open ∷ []) (words.Name name) is))
  written_head (head.Open x) w next r is e = none_is next e
  written_head (head.Measured x name) words.Close next r is e =
      as_next _ next _ (some_is _ next e) (primary (grammar.Measured x name) tail.None stack front _ _ _ s tt refl refl tt (grow (words.Measure x ∷ words.Open ∷ words.Name name ∷ []) words.Close is))
  written_head (head.Measured x name) w next r is e = none_is next e
  written_head head.For (words.Quantifier q) next r is e = as_next _ next _ (some_is _ next e) (within_head (head.Quantifier q) stack front _ most s r (grow (words.For ∷ []) (words.Quantifier q) is))
  written_head head.For w next r is e = none_is next e
  written_head (head.Quantifier q) (words.Name name) next r is e =
      as_next _ next _ (some_is _ next e) (within_head (head.Binding q name) stack front _ most s r (grow (words.For ∷ words.Quantifier q ∷ []) (words.Name name) is))
  written_head (head.Quantifier q) w next r is e = none_is next e
  written_head (head.Binding q name) words.In next r is e =
      as_next _ next _ (some_is _ next e) (begun (frames.LowEnd q name) stack front (words.For ∷ words.Quantifier q ∷ words.Name name ∷ words.In ∷ []) _ _ s refl r (grow (words.For ∷ words.Quantifier q ∷ words.Name name ∷ []) words.In is))
  written_head (head.Binding q name) w next r is e = none_is next e

-- ---- a word after an operand

regroup : (front own inner : List Word) (w : Word) → ((front ++ own) ++ inner) ++ w ∷ [] ≡ front ++ (own ++ (inner ++ w ∷ []))
regroup front own inner w = simp append_assoc

-- what stands inside a part that is begun, and the word after it
inner_words : (ws front own inner outer : List Word) (w : Word) → ws ≡ front ++ inner → front ≡ outer ++ own → ws ++ w ∷ [] ≡ outer ++ (own ++ (inner ++ w ∷ []))
inner_words ws front own inner outer w e f = ap (λ v. v ++ w ∷ []) (e ∙ ap (λ v. v ++ inner) f) ∙ regroup outer own inner w

module _ (ws : List Word) (most : ℕ) where
  mark_written : (stack : List Frame) (x : Known) (place : Place) (l : Tail) (next : State) → Primary stack l ws → parser.marking (state stack place most) l ≡ Some next → Written next (ws ++ words.AtEntry ∷ [])
  unfolding spelling
  mark_written stack x place tail.None next p e = none_is next e
  mark_written stack x place (tail.Location y) next p e =
      as_next _ next _ (some_is _ next e) (primary (grammar.Location AtEntry y) tail.None stack p.front _ _ most p.stacked tt refl refl tt
      (ap (λ v. v ++ words.AtEntry ∷ []) (p.whole_is ∙ ap (λ t. p.front ++ spelling t) p.fits) ∙ append_assoc p.front (words.Location y ∷ []) (words.AtEntry ∷ [])))
  mark_written stack x place (tail.Pair y) next p e =
      as_next _ next _ (some_is _ next e) (primary (grammar.Pair AtEntry y) tail.None stack p.front _ _ most p.stacked tt refl refl tt
      (ap (λ v. v ++ words.AtEntry ∷ []) (p.whole_is ∙ ap (λ t. p.front ++ spelling t) p.fits) ∙ append_assoc p.front (words.Pair y ∷ []) (words.AtEntry ∷ [])))
  mark_written stack x place (tail.Name name) next p e =
      as_next _ next _ (some_is _ next e) (primary (grammar.Named AtEntry name) (tail.Entry name) stack p.front _ _ most p.stacked tt refl refl refl
      (ap (λ v. v ++ words.AtEntry ∷ []) (p.whole_is ∙ ap (λ t. p.front ++ spelling t) p.fits) ∙ append_assoc p.front (words.Name name ∷ []) (words.AtEntry ∷ [])))
  mark_written stack x place (tail.Entry name) next p e = none_is next e

  index_written : (stack : List Frame) (place : Place) (l : Tail) (next : State) → Primary stack l ws → parser.indexing (state stack place most) l ≡ Some next → Written next (ws ++ words.OpenBracket ∷ [])
  unfolding spelling
  index_written stack place tail.None next p e = none_is next e
  index_written stack place (tail.Location y) next p e = none_is next e
  index_written stack place (tail.Pair y) next p e = none_is next e
  index_written stack place (tail.Name name) next p e =
      as_next _ next _ (some_is _ next e) (begun (frames.Element Now name) stack p.front (words.Name name ∷ words.OpenBracket ∷ []) _ _ p.stacked refl (omega arith)
      (ap (λ v. v ++ words.OpenBracket ∷ []) (p.whole_is ∙ ap (λ t. p.front ++ spelling t) p.fits) ∙ append_assoc p.front (words.Name name ∷ []) (words.OpenBracket ∷ [])))
  index_written stack place (tail.Entry name) next p e =
      as_next _ next _ (some_is _ next e) (begun (frames.Element AtEntry name) stack p.front (words.Name name ∷ words.AtEntry ∷ words.OpenBracket ∷ []) _ _ p.stacked refl (omega arith)
      (ap (λ v. v ++ words.OpenBracket ∷ []) (p.whole_is ∙ ap (λ t. p.front ++ spelling t) p.fits) ∙ append_assoc p.front (words.Name name ∷ words.AtEntry ∷ []) (words.OpenBracket ∷ [])))

  join_written : (i : Infix) (r : List Frame × Known) (place : Place) (stack : List Frame) (next : State) → Ends (left_rank i) r.0 ws → parser.joined_by (state stack place most) i r ≡ Some next → Written next (ws ++ words.Infix i ∷ [])
  join_written i r place stack next h e =
      let t = tested (nat_lt (room r.0) (rank_of i)) _ next e in
      let no = t.0 in
      let low = (infix_rank i).1 in
      as_next _ next _ t.1 (begun (frames.Join i r.1) r.0 h.front (spelling h.tree ++ words.Infix i ∷ []) _ _ h.stacked (h.tree, h.grammar, h.tight, h.shut (omega (arith, low)), refl) (grind (arith, nat_tests))
      (ap (λ v. v ++ words.Infix i ∷ []) h.whole_is ∙ append_assoc h.front (spelling h.tree) (words.Infix i ∷ [])))

  close_written : (stack : List Frame) (y : Known) (next : State) → Ends 10 stack ws → parser.closed_by frames.parenthesized most stack y ≡ Some next → Written next (ws ++ words.Close ∷ [])
  unfolding spelling
  close_written [] y next h e = none_is next e
  close_written (frames.Paren ∷ stack) y next h e =
      let s = h.stacked in
      as_next _ next _ (some_is _ next e) (primary (grammar.Paren h.tree) tail.None stack s.0 _ _ most s.2 h.grammar refl refl tt
      (inner_words ws h.front s.1 (spelling h.tree) s.0 words.Close h.whole_is s.4 ∙ ap (λ own. s.0 ++ (own ++ (spelling h.tree ++ words.Close ∷ []))) s.3.opens))
  close_written (frames.Parity ∷ stack) y next h e =
      let s = h.stacked in
      as_next _ next _ (some_is _ next e) (primary (grammar.Parity h.tree) tail.None stack s.0 _ _ most s.2 h.grammar refl refl tt
      (inner_words ws h.front s.1 (spelling h.tree) s.0 words.Close h.whole_is s.4 ∙ ap (λ own. s.0 ++ (own ++ (spelling h.tree ++ words.Close ∷ []))) s.3.opens))
  close_written (frames.SecondBits b k ∷ stack) y next h e =
      let s = h.stacked in
      let o = s.3.opens in
      as_next _ next _ (some_is _ next e) (primary (grammar.TwoBits b o.0 h.tree) tail.None stack s.0 _ _ most s.2 (o.1, h.grammar) refl refl tt
      (inner_words ws h.front s.1 (spelling h.tree) s.0 words.Close h.whole_is s.4 ∙ ap (λ own. s.0 ++ (own ++ (spelling h.tree ++ words.Close ∷ []))) o.2
      ∙ ap (λ v. s.0 ++ (words.Bits b ∷ words.Open ∷ v)) (append_assoc (spelling o.0) (words.Comma ∷ []) (spelling h.tree ++ words.Close ∷ []))))
  close_written (frames.LastCell m k ∷ stack) y next h e =
      let s = h.stacked in
      let o = s.3.opens in
      as_next _ next _ (some_is _ next e) (primary (grammar.Total m o.0 h.tree) tail.None stack s.0 _ _ most s.2 (o.2, h.fits, o.1, h.grammar) refl refl tt
      (inner_words ws h.front s.1 (spelling h.tree) s.0 words.Close h.whole_is s.4 ∙ ap (λ own. s.0 ++ (own ++ (spelling h.tree ++ words.Close ∷ []))) o.3
      ∙ ap (λ v. s.0 ++ (words.Total ∷ v)) (append_assoc (mark m) (words.Open ∷ (spelling o.0 ++ words.Comma ∷ [])) (spelling h.tree ++ words.Close ∷ [])
      ∙ ap (λ v. mark m ++ words.Open ∷ v) (append_assoc (spelling o.0) (words.Comma ∷ []) (spelling h.tree ++ words.Close ∷ [])))))
  close_written (f ∷ stack) y next h e = none_is next e

  bracket_written : (stack : List Frame) (y : Known) (next : State) → Ends 10 stack ws → parser.closed_by frames.bracketed most stack y ≡ Some next → Written next (ws ++ words.CloseBracket ∷ [])
  unfolding spelling
  bracket_written [] y next h e = none_is next e
  bracket_written (frames.Cell m ∷ stack) y next h e =
      let s = h.stacked in
      as_next _ next _ (some_is _ next e) (primary (grammar.Cell m h.tree) tail.None stack s.0 _ _ most s.2 h.grammar refl refl tt
      (inner_words ws h.front s.1 (spelling h.tree) s.0 words.CloseBracket h.whole_is s.4 ∙ ap (λ own. s.0 ++ (own ++ (spelling h.tree ++ words.CloseBracket ∷ []))) s.3.opens
      ∙ ap (λ v. s.0 ++ (words.Mem ∷ v)) (append_assoc (mark m) (words.OpenBracket ∷ []) (spelling h.tree ++ words.CloseBracket ∷ []))))
  bracket_written (frames.Element m name ∷ stack) y next h e =
      let s = h.stacked in
      as_next _ next _ (some_is _ next e) (primary (grammar.Element m name h.tree) tail.None stack s.0 _ _ most s.2 h.grammar refl refl tt
      (inner_words ws h.front s.1 (spelling h.tree) s.0 words.CloseBracket h.whole_is s.4 ∙ ap (λ own. s.0 ++ (own ++ (spelling h.tree ++ words.CloseBracket ∷ []))) s.3.opens
      ∙ ap (λ v. s.0 ++ (words.Name name ∷ v)) (append_assoc (mark m) (words.OpenBracket ∷ []) (spelling h.tree ++ words.CloseBracket ∷ []))))
  bracket_written (f ∷ stack) y next h e = none_is next e

  comma_written : (stack : List Frame) (y : Known) (next : State) → Ends 10 stack ws → parser.divided_by frames.after_comma most stack y ≡ Some next → Written next (ws ++ words.Comma ∷ [])
  comma_written [] y next h e = none_is next e
  comma_written (frames.FirstBits b ∷ stack) y next h e =
      let s = h.stacked in
      as_next _ next _ (some_is _ next e) (begun (frames.SecondBits b y) stack s.0 (words.Bits b ∷ words.Open ∷ (spelling h.tree ++ words.Comma ∷ [])) _ _ s.2 (h.tree, h.grammar, refl) (omega arith)
      (inner_words ws h.front s.1 (spelling h.tree) s.0 words.Comma h.whole_is s.4 ∙ ap (λ own. s.0 ++ (own ++ (spelling h.tree ++ words.Comma ∷ []))) s.3.opens))
  comma_written (frames.FirstCell m ∷ stack) y next h e =
      let s = h.stacked in
      as_next _ next _ (some_is _ next e) (begun (frames.LastCell m y) stack s.0 (words.Total ∷ (mark m ++ words.Open ∷ (spelling h.tree ++ words.Comma ∷ []))) _ _ s.2 (h.tree, h.grammar, h.fits, refl) (omega arith)
      (inner_words ws h.front s.1 (spelling h.tree) s.0 words.Comma h.whole_is s.4 ∙ ap (λ own. s.0 ++ (own ++ (spelling h.tree ++ words.Comma ∷ []))) s.3.opens
      ∙ ap (λ v. s.0 ++ (words.Total ∷ v)) (append_assoc (mark m) (words.Open ∷ []) (spelling h.tree ++ words.Comma ∷ []))))
  comma_written (f ∷ stack) y next h e = none_is next e

  range_written : (stack : List Frame) (y : Known) (next : State) → Ends 10 stack ws → parser.divided_by frames.after_range most stack y ≡ Some next → Written next (ws ++ words.Range ∷ [])
  range_written [] y next h e = none_is next e
  range_written (frames.LowEnd q name ∷ stack) y next h e =
      let s = h.stacked in
      as_next _ next _ (some_is _ next e) (begun (frames.HighEnd q name y) stack s.0 (words.For ∷ words.Quantifier q ∷ words.Name name ∷ words.In ∷ (spelling h.tree ++ words.Range ∷ [])) _ _ s.2 (h.tree, h.grammar, h.fits, refl) s.3.fits
      (inner_words ws h.front s.1 (spelling h.tree) s.0 words.Range h.whole_is s.4 ∙ ap (λ own. s.0 ++ (own ++ (spelling h.tree ++ words.Range ∷ []))) s.3.opens))
  range_written (f ∷ stack) y next h e = none_is next e

  colon_written : (stack : List Frame) (y : Known) (next : State) → Ends 10 stack ws → parser.divided_by frames.after_colon most stack y ≡ Some next → Written next (ws ++ words.Colon ∷ [])
  colon_written [] y next h e = none_is next e
  colon_written (frames.HighEnd q name low ∷ stack) y next h e =
      let s = h.stacked in
      let o = s.3.opens in
      as_next _ next _ (some_is _ next e) (begun (frames.Body q name low y) stack s.0 (words.For ∷ words.Quantifier q ∷ words.Name name ∷ words.In ∷ (spelling o.0 ++ words.Range ∷ (spelling h.tree ++ words.Colon ∷ []))) _ _ s.2
      (o.0, h.tree, o.1, o.2, h.grammar, h.fits, refl) s.3.fits
      (inner_words ws h.front s.1 (spelling h.tree) s.0 words.Colon h.whole_is s.4 ∙ ap (λ own. s.0 ++ (own ++ (spelling h.tree ++ words.Colon ∷ []))) o.3
      ∙ ap (λ v. s.0 ++ (words.For ∷ words.Quantifier q ∷ words.Name name ∷ words.In ∷ v)) (append_assoc (spelling o.0) (words.Range ∷ []) (spelling h.tree ++ words.Colon ∷ []))))
  colon_written (f ∷ stack) y next h e = none_is next e

  -- all parts that bind as tightly as a rank are complete before the word
  ends_at : (k : ℕ) (stack : List Frame) (x : Known) (l : Tail) → k ≤ 10 → Primary stack l ws → Ends k (reduced k stack x).0 ws
  ends_at k stack x l le p =
      let zero_rank = p.rank in
      subst (λ v. Ends k (reduced k stack x).0 v) (sym p.whole_is) (reduces k stack p.front x p.tree le p.stacked p.grammar (omega (arith, zero_rank)) (omega (arith, zero_rank)) (λ lt. p.shut))

  written_after : (stack : List Frame) (place : Place) (x : Known) (l : Tail) (w : Word) (next : State) → Primary stack l ws → after_step (state stack place most) x l w ≡ Some next → Written next (ws ++ w ∷ [])
  unfolding after_step
  written_after stack place x l words.AtEntry next p e = mark_written stack x place l next p e
  written_after stack place x l words.OpenBracket next p e = index_written stack place l next p e
  written_after stack place x l (words.Infix i) next p e =
      let low = (infix_rank i).1 in join_written i (reduced (left_rank i) stack x) place stack next (ends_at (left_rank i) stack x l (omega (arith, low)) p) e
  written_after stack place x l words.Close next p e = close_written (reduced 10 stack x).0 (reduced 10 stack x).1 next (ends_at 10 stack x l (omega arith) p) e
  written_after stack place x l words.CloseBracket next p e = bracket_written (reduced 10 stack x).0 (reduced 10 stack x).1 next (ends_at 10 stack x l (omega arith) p) e
  written_after stack place x l words.Comma next p e = comma_written (reduced 10 stack x).0 (reduced 10 stack x).1 next (ends_at 10 stack x l (omega arith) p) e
  written_after stack place x l words.Range next p e = range_written (reduced 10 stack x).0 (reduced 10 stack x).1 next (ends_at 10 stack x l (omega arith) p) e
  written_after stack place x l words.Colon next p e = colon_written (reduced 10 stack x).0 (reduced 10 stack x).1 next (ends_at 10 stack x l (omega arith) p) e
  written_after stack place x l w next p e = none_is next e

-- ---- words, and their end

written_at : (stack : List Frame) (most : ℕ) (at place : Place) (ws : List Word) (w : Word) (next : State) → AtPlace stack at ws → parser.step_at (state stack place most) at w ≡ Some next → Written next (ws ++ w ∷ [])
written_at stack most Start place ws w next h e = written_start stack most place ws w next h e
written_at stack most (After x l) place ws w next h e = written_after ws most stack place x l w next h e
written_at stack most (Within d) place ws w next h e = written_head stack most place ws h.front h.stacked d w next h.rank h.whole_is e

step_written : (s next : State) (ws : List Word) (w : Word) → Written s ws → step s w ≡ Some next → Written next (ws ++ w ∷ [])
step_written s next ws w h e = written_at s.stack s.most s.place s.place ws w next h.at e

abbrev Runs : List Word → Type 0
Runs ws = (s next : State) (front : List Word) → Written s front → run s ws ≡ Some next → Written next (front ++ ws)

run_after : (w : Word) (ws : List Word) → Runs ws → (s next : State) (front : List Word) (r : Option State) → step s w ≡ r → Written s front → option_and_then (λ t. run t ws) r ≡ Some next → Written next (front ++ w ∷ ws)
run_after w ws rest s next front None is h e = none_is next e
run_after w ws rest s next front (Some t) is h e =
    subst (λ v. Written next v) (append_assoc front (w ∷ []) ws) (rest t next (front ++ w ∷ []) (step_written s t front w h is) e)

run_written : (ws : List Word) → Runs ws
unfolding run
run_written [] s next front h e = as_next s next (front ++ []) (some_is s next e) (subst (λ v. Written s v) (sym (append-nil front)) h)
run_written (w ∷ ws) s next front h e = run_after w ws (run_written ws) s next front (step s w) refl h e

-- words that are read whole are those of a condition
pub record Condition (ws : List Word) : Type 0 where
  pub tree : Tree
  pub grammar : IsCondition tree
  pub written : ws ≡ spelling tree

whole_written : (ws : List Word) (most : ℕ) (stack : List Frame) (y : Known) (r : Known × ℕ) → Ends 10 stack ws → parser.whole_of most (stack, y) ≡ Some r → Condition ws
whole_written ws most [] y r h e = record { tree = h.tree; grammar = h.grammar; written = h.whole_is ∙ ap (λ v. v ++ spelling h.tree) h.stacked }
whole_written ws most (f ∷ stack) y r h e = none_is r e

ended_written : (s : State) (stack : List Frame) (place : Place) (ws : List Word) (r : Known × ℕ) → s.stack ≡ stack → AtPlace stack place ws → parser.ended_at s place ≡ Some r → Condition ws
ended_written s stack Start ws r same h e = none_is r e
ended_written s stack (After x l) ws r same h e =
    whole_written ws s.most (reduced 10 s.stack x).0 (reduced 10 s.stack x).1 r (subst (λ st. Ends 10 (reduced 10 st x).0 ws) (sym same) (ends_at ws s.most 10 stack x l (omega arith) h)) e
ended_written s stack (Within d) ws r same h e = none_is r e

parsed_by : (ws : List Word) (r : Known × ℕ) (at : Option State) → run parser.start ws ≡ at → option_and_then parser.ended at ≡ Some r → Condition ws
parsed_by ws r None is e = none_is r e
parsed_by ws r (Some s) is e =
    let h = run_written ws parser.start s [] (record { at = refl }) is in ended_written s s.stack s.place ws r refl h.at e

pub parsed_written : (ws : List Word) (r : Known × ℕ) → parser.parsed ws ≡ Some r → Condition ws
unfolding parser.parsed
parsed_written ws r e = parsed_by ws r (run parser.start ws) refl e
