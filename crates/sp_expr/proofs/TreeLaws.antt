-- Words that are accepted have a tree.
use Rattle.std.proofs.Common.{◌≡◌, ℕ, zero, suc, ◌+◌, ◌≤◌, Bool, true, false, cond, List, [], ◌∷◌, ◌++◌, length, Option, Some, None, refl, sym, ap, subst, ◌∙◌, arith, append_assoc}
use Rattle.std.proofs.lemmas.Bool.{eqb-true}
use Rattle.std.proofs.lemmas.List.{append-nil}
use Rattle.sp_expr.specs.declared.setting.Setting.{Setting}
use Rattle.sp_expr.specs.declared.word.Operator.{Operator}
use Rattle.sp_expr.specs.declared.word.Operator.TheVariants as op
use Rattle.sp_expr.specs.declared.word.Word.{Word}
use Rattle.sp_expr.specs.declared.word.Word.TheVariants as words
use Rattle.sp_expr.specs.declared.sentence.Place.{Place}
use Rattle.sp_expr.specs.declared.sentence.Place.TheVariants.{Start, Operand, After}
use Rattle.sp_expr.specs.Arithmetic.{rank_of}
use Rattle.sp_expr.specs.code.Sentence.{has_address, is_name, accepts_in, is_sentence_in}
use Rattle.sp_expr.specs.Setting.{HasAddress, IsName}
use Rattle.sp_expr.specs.Trees.{Tree, Number, Name, Here, Paren, Sign, Not, Binary, rank_of_tree, IsExpression, spelling, SpellsIn}
use Rattle.sp_expr.proofs.ScanLaws.{accepts-none}
use Rattle.sp_expr.proofs.SentenceLaws.{has_address_is, is_name_is}

-- a left operand that waits with its operator
pub record Half : Type 0 where
  pub operator : Operator
  pub tree : Tree

abbrev half : Operator → Tree → Option Half
half operator tree = Some (record { operator = operator; tree = tree })

-- a sum or a sign that waits
pub data Sum : Type 0 where
  Nothing : Sum
  Added : Operator → Tree → Sum
  Signed : Operator → Sum

abbrev left : Option Half → List Word → List Word
left None ws = ws
left (Some h) ws = spelling h.tree ++ words.Operator h.operator ∷ ws

abbrev sums : Sum → List Word → List Word
sums Nothing ws = ws
sums (Added operator tree) ws = spelling tree ++ words.Operator operator ∷ ws
sums (Signed operator) ws = words.Operator operator ∷ ws

abbrev nots : ℕ → List Word → List Word
nots zero ws = ws
nots (suc n) ws = words.Not ∷ nots n ws

left-append : (h : Option Half) (ws rest : List Word) → left h ws ++ rest ≡ left h (ws ++ rest)
left-append None ws rest = refl
left-append (Some h) ws rest = append_assoc (spelling h.tree) (words.Operator h.operator ∷ ws) rest

sums-append : (s : Sum) (ws rest : List Word) → sums s ws ++ rest ≡ sums s (ws ++ rest)
sums-append Nothing ws rest = refl
sums-append (Added operator tree) ws rest = append_assoc (spelling tree) (words.Operator operator ∷ ws) rest
sums-append (Signed operator) ws rest = refl

nots-append : (n : ℕ) (ws rest : List Word) → nots n ws ++ rest ≡ nots n (ws ++ rest)
nots-append zero ws rest = refl
nots-append (suc n) ws rest = ap (λ r. words.Not ∷ r) (nots-append n ws rest)

nots-more : (n : ℕ) (ws : List Word) → nots (suc n) ws ≡ nots n (words.Not ∷ ws)
nots-more zero ws = refl
nots-more (suc n) ws = ap (λ r. words.Not ∷ r) (nots-more n ws)

module _ (setting : Setting) where
  -- words that are a tree of at most this rank
  abbrev Made : ℕ → List Word → Type 0
  Made rank ws = (t : Tree) × IsExpression setting t × (rank_of_tree t ≤ rank) × (spelling t ≡ ws)

  abbrev GoodHalf : ℕ → Option Half → Type 0
  GoodHalf rank None = Unit {0}
  GoodHalf rank (Some h) = (rank_of h.operator ≡ rank) × (rank_of_tree h.tree ≤ rank) × IsExpression setting h.tree

  abbrev GoodSum : Sum → Type 0
  GoodSum Nothing = Unit {0}
  GoodSum (Added operator tree) = (rank_of operator ≡ 2) × (rank_of_tree tree ≤ 2) × IsExpression setting tree
  GoodSum (Signed operator) = rank_of operator ≡ 2

  join : (rank : ℕ) (h : Option Half) (ws : List Word) → GoodHalf (suc rank) h → Made rank ws → Made (suc rank) (left h ws)
  unfolding spelling
  join rank None ws good made = (made.0, made.1, omega (arith, made.2), made.3)
  join rank (Some h) ws good made = (
    Binary h.operator h.tree made.0,
    (omega (arith, good.0, good.1), omega (arith, good.0, made.2), good.2, made.1),
    omega (arith, good.0),
    ap (λ rest. spelling h.tree ++ words.Operator h.operator ∷ rest) made.3,
  )

  join_sum : (s : Sum) (ws : List Word) → GoodSum s → Made 1 ws → Made 2 (sums s ws)
  unfolding spelling
  join_sum Nothing ws good made = (made.0, made.1, omega (arith, made.2), made.3)
  join_sum (Added operator tree) ws good made = (
    Binary operator tree made.0,
    (omega (arith, good.0, good.1), omega (arith, good.0, made.2), good.2, made.1),
    omega (arith, good.0),
    ap (λ rest. spelling tree ++ words.Operator operator ∷ rest) made.3,
  )
  join_sum (Signed operator) ws good made = (Sign operator made.0, (good, made.2, made.1), omega arith, ap (λ rest. words.Operator operator ∷ rest) made.3)

  join_nots : (n : ℕ) (ws : List Word) → Made 2 ws → Made 3 (nots n ws)
  unfolding spelling
  join_nots zero ws made = (made.0, made.1, omega (arith, made.2), made.3)
  join_nots (suc n) ws made =
      let inside = join_nots n ws made in
      (Not inside.0, (inside.2, inside.1), omega arith, ap (λ rest. words.Not ∷ rest) inside.3)

  -- what waits between two parentheses
  pub record Parts : Type 0 where
    pub either : Option Half
    pub both : Option Half
    pub count : ℕ
    pub sum : Sum
    pub product : Option Half
    pub good_either : GoodHalf 5 either
    pub good_both : GoodHalf 4 both
    pub good_sum : GoodSum sum
    pub good_product : GoodHalf 1 product

  abbrev before_not : Parts → List Word → List Word
  before_not p ws = left p.either (left p.both ws)

  abbrev parts : Parts → List Word → List Word
  parts p ws = before_not p (nots p.count (sums p.sum (left p.product ws)))

  made_product : (p : Parts) (v : List Word) → Made 0 v → Made 1 (left p.product v)
  made_product p v made = join 0 p.product v p.good_product made

  made_sum : (p : Parts) (v : List Word) → Made 0 v → Made 2 (sums p.sum (left p.product v))
  made_sum p v made = join_sum p.sum (left p.product v) p.good_sum (made_product p v made)

  made_both : (p : Parts) (v : List Word) → Made 0 v → Made 4 (left p.both (nots p.count (sums p.sum (left p.product v))))
  made_both p v made = join 3 p.both _ p.good_both (join_nots p.count _ (made_sum p v made))

  made_whole : (p : Parts) (v : List Word) → Made 0 v → Made 5 (parts p v)
  made_whole p v made = join 4 p.either _ p.good_either (made_both p v made)

  sum-append : (p : Parts) (v rest : List Word) → sums p.sum (left p.product v) ++ rest ≡ sums p.sum (left p.product (v ++ rest))
  sum-append p v rest = sums-append p.sum (left p.product v) rest ∙ ap (sums p.sum) (left-append p.product v rest)

  both-append : (p : Parts) (v rest : List Word) → left p.both (nots p.count (sums p.sum (left p.product v))) ++ rest ≡ left p.both (nots p.count (sums p.sum (left p.product (v ++ rest))))
  both-append p v rest =
      left-append p.both _ rest ∙ ap (left p.both) (nots-append p.count _ rest ∙ ap (nots p.count) (sum-append p v rest))

  parts-append : (p : Parts) (v rest : List Word) → parts p v ++ rest ≡ parts p (v ++ rest)
  parts-append p v rest = left-append p.either _ rest ∙ ap (left p.either) (both-append p v rest)

  -- an operator after an operand
  after_product : (operator : Operator) → rank_of operator ≡ 1 → (p : Parts) (v : List Word) → Made 0 v → (q : Parts) × ((rest : List Word) → parts q rest ≡ parts p (v ++ words.Operator operator ∷ rest))
  after_product operator e p v made =
      let m = made_product p v made in (
        record p { product = half operator m.0; good_product = (e, m.2, m.1) },
        λ rest. ap (λ ws. before_not p (nots p.count (sums p.sum ws))) (ap (λ ws. ws ++ words.Operator operator ∷ rest) m.3 ∙ left-append p.product v (words.Operator operator ∷ rest)),
      )

  after_sum : (operator : Operator) → rank_of operator ≡ 2 → (p : Parts) (v : List Word) → Made 0 v → (q : Parts) × ((rest : List Word) → parts q rest ≡ parts p (v ++ words.Operator operator ∷ rest))
  after_sum operator e p v made =
      let m = made_sum p v made in (
        record p { sum = Added operator m.0; good_sum = (e, m.2, m.1); product = None; good_product = tt },
        λ rest. ap (λ ws. before_not p (nots p.count ws)) (ap (λ ws. ws ++ words.Operator operator ∷ rest) m.3 ∙ sum-append p v (words.Operator operator ∷ rest)),
      )

  -- what waits before an operand that may begin with NOT or a sign
  pub record Front : Type 0 where
    pub either : Option Half
    pub both : Option Half
    pub count : ℕ
    pub good_either : GoodHalf 5 either
    pub good_both : GoodHalf 4 both

  abbrev parts_of : Front → Parts
  parts_of f = record { either = f.either; both = f.both; count = f.count; sum = Nothing; product = None; good_either = f.good_either; good_both = f.good_both; good_sum = tt; good_product = tt }

  after_both : (operator : Operator) → rank_of operator ≡ 4 → (p : Parts) (v : List Word) → Made 0 v → (f : Front) × ((rest : List Word) → parts (parts_of f) rest ≡ parts p (v ++ words.Operator operator ∷ rest))
  after_both operator e p v made =
      let m = made_both p v made in (
        record { either = p.either; both = half operator m.0; count = 0; good_either = p.good_either; good_both = (e, m.2, m.1) },
        λ rest. ap (left p.either) (ap (λ ws. ws ++ words.Operator operator ∷ rest) m.3 ∙ both-append p v (words.Operator operator ∷ rest)),
      )

  after_either : (operator : Operator) → rank_of operator ≡ 5 → (p : Parts) (v : List Word) → Made 0 v → (f : Front) × ((rest : List Word) → parts (parts_of f) rest ≡ parts p (v ++ words.Operator operator ∷ rest))
  after_either operator e p v made =
      let m = made_whole p v made in (
        record { either = half operator m.0; both = None; count = 0; good_either = (e, m.2, m.1); good_both = tt },
        λ rest. ap (λ ws. ws ++ words.Operator operator ∷ rest) m.3 ∙ parts-append p v (words.Operator operator ∷ rest),
      )

  abbrev no_front : Front
  no_front = record { either = None; both = None; count = 0; good_either = tt; good_both = tt }

  -- what is read so far between the parentheses that are open last
  abbrev Read : Place → Type 0
  Read Start = Front
  Read Operand = Parts
  Read After = (p : Parts) × (v : List Word) × Made 0 v

  abbrev text : (place : Place) → Read place → List Word → List Word
  text Start f ws = parts (parts_of f) ws
  text Operand p ws = parts p ws
  text After r ws = parts r.0 (r.1 ++ ws)

  -- and outside of them
  abbrev outside : List Parts → List Word → List Word
  outside [] ws = ws
  outside (p ∷ ps) ws = outside ps (parts p (words.Open ∷ ws))

  abbrev Tree_of : List Word → Type 0
  Tree_of ws = (t : Tree) × IsExpression setting t × (spelling t ≡ ws)

  moved : (ps : List Parts) (a b : List Word) → a ≡ b → Tree_of (outside ps a) → Tree_of (outside ps b)
  moved ps a b e h = subst (λ ws. Tree_of (outside ps ws)) e h

  number : (n : ℕ) → Made 0 (words.Number n ∷ [])
  unfolding spelling
  number n = (Number n, tt, omega arith, refl)

  name : (n : List ℕ) → IsName setting n → Made 0 (words.Name n ∷ [])
  unfolding spelling
  name n h = (Name n, h, omega arith, refl)

  here : HasAddress setting → Made 0 (words.Here ∷ [])
  unfolding spelling
  here h = (Here, h, omega arith, refl)

  paren : (ws : List Word) → Made 5 ws → Made 0 (words.Open ∷ (ws ++ words.Close ∷ []))
  unfolding spelling
  paren ws made = (Paren made.0, made.1, omega arith, ap (λ r. words.Open ∷ (r ++ words.Close ∷ [])) made.3)

  -- where a word may stand on a condition, the condition is met
  met : (b : Bool) (place : Place) (opened : ℕ) (ws : List Word) → accepts_in setting ws (cond b (Some (place, opened)) None) ≡ true
      → (b ≡ true) × (accepts_in setting ws (Some (place, opened)) ≡ true)
  met true place opened ws e = (refl, e)
  met false place opened ws e = absurd (let no = accepts-none setting ws in cc)

  never : {A : Type 0} (ws : List Word) → accepts_in setting ws None ≡ true → A
  never ws e = absurd (let no = accepts-none setting ws in cc)

  exists : (ws : List Word) (place : Place) (opened : ℕ) (ps : List Parts) (r : Read place) → length ps ≡ opened → accepts_in setting ws (Some (place, opened)) ≡ true → Tree_of (outside ps (text place r ws))
  unfolding accepts_in
  exists [] Start opened ps r len e = absurd cc
  exists [] Operand opened ps r len e = absurd cc
  exists [] After zero [] r len e = let m = made_whole r.0 r.1 r.2 in (m.0, m.1, m.3 ∙ ap (parts r.0) (sym (append-nil r.1)))
  exists [] After zero (p ∷ ps) r len e = absurd (omega arith)
  exists [] After (suc opened) ps r len e = absurd (let none : suc opened ≡ 0 = eqb-true (suc opened) 0 e in omega arith)
  exists (words.Operator op.Times ∷ ws) After opened ps r len e = let q = after_product op.Times refl r.0 r.1 r.2 in moved ps _ _ (q.1 ws) (exists ws Operand opened ps q.0 len e)
  exists (words.Operator op.Divide ∷ ws) After opened ps r len e = let q = after_product op.Divide refl r.0 r.1 r.2 in moved ps _ _ (q.1 ws) (exists ws Operand opened ps q.0 len e)
  exists (words.Operator op.Modulo ∷ ws) After opened ps r len e = let q = after_product op.Modulo refl r.0 r.1 r.2 in moved ps _ _ (q.1 ws) (exists ws Operand opened ps q.0 len e)
  exists (words.Operator op.ShiftLeft ∷ ws) After opened ps r len e = let q = after_product op.ShiftLeft refl r.0 r.1 r.2 in moved ps _ _ (q.1 ws) (exists ws Operand opened ps q.0 len e)
  exists (words.Operator op.ShiftRight ∷ ws) After opened ps r len e = let q = after_product op.ShiftRight refl r.0 r.1 r.2 in moved ps _ _ (q.1 ws) (exists ws Operand opened ps q.0 len e)
  exists (words.Operator op.Plus ∷ ws) After opened ps r len e = let q = after_sum op.Plus refl r.0 r.1 r.2 in moved ps _ _ (q.1 ws) (exists ws Operand opened ps q.0 len e)
  exists (words.Operator op.Minus ∷ ws) After opened ps r len e = let q = after_sum op.Minus refl r.0 r.1 r.2 in moved ps _ _ (q.1 ws) (exists ws Operand opened ps q.0 len e)
  exists (words.Operator op.And ∷ ws) After opened ps r len e = let q = after_both op.And refl r.0 r.1 r.2 in moved ps _ _ (q.1 ws) (exists ws Start opened ps q.0 len e)
  exists (words.Operator op.Or ∷ ws) After opened ps r len e = let q = after_either op.Or refl r.0 r.1 r.2 in moved ps _ _ (q.1 ws) (exists ws Start opened ps q.0 len e)
  exists (words.Operator op.Xor ∷ ws) After opened ps r len e = let q = after_either op.Xor refl r.0 r.1 r.2 in moved ps _ _ (q.1 ws) (exists ws Start opened ps q.0 len e)
  exists (words.Close ∷ ws) After zero ps r len e = never ws e
  exists (words.Close ∷ ws) After (suc opened) [] r len e = absurd (omega arith)
  exists (words.Close ∷ ws) After (suc opened) (p ∷ ps) r len e =
      let inside = parts r.0 r.1 in
      moved ps (parts p (words.Open ∷ (inside ++ words.Close ∷ []) ++ ws)) (parts p (words.Open ∷ parts r.0 (r.1 ++ words.Close ∷ ws)))
      (ap (λ b. parts p (words.Open ∷ b)) (append_assoc inside (words.Close ∷ []) ws ∙ parts-append r.0 r.1 (words.Close ∷ ws)))
      (exists ws After opened ps (p, words.Open ∷ (inside ++ words.Close ∷ []), paren inside (made_whole r.0 r.1 r.2)) (omega arith) e)
  exists (words.Open ∷ ws) After opened ps r len e = never ws e
  exists (words.Not ∷ ws) After opened ps r len e = never ws e
  exists (words.Here ∷ ws) After opened ps r len e = never ws e
  exists (words.Number n ∷ ws) After opened ps r len e = never ws e
  exists (words.Name n ∷ ws) After opened ps r len e = never ws e
  exists (words.Operator op.Plus ∷ ws) Start opened ps f len e = exists ws Operand opened ps (record (parts_of f) { sum = Signed op.Plus; good_sum = refl }) len e
  exists (words.Operator op.Minus ∷ ws) Start opened ps f len e = exists ws Operand opened ps (record (parts_of f) { sum = Signed op.Minus; good_sum = refl }) len e
  exists (words.Operator op.Times ∷ ws) Start opened ps f len e = never ws e
  exists (words.Operator op.Divide ∷ ws) Start opened ps f len e = never ws e
  exists (words.Operator op.Modulo ∷ ws) Start opened ps f len e = never ws e
  exists (words.Operator op.ShiftLeft ∷ ws) Start opened ps f len e = never ws e
  exists (words.Operator op.ShiftRight ∷ ws) Start opened ps f len e = never ws e
  exists (words.Operator op.And ∷ ws) Start opened ps f len e = never ws e
  exists (words.Operator op.Or ∷ ws) Start opened ps f len e = never ws e
  exists (words.Operator op.Xor ∷ ws) Start opened ps f len e = never ws e
  exists (words.Close ∷ ws) Start opened ps f len e = never ws e
  exists (words.Open ∷ ws) Start opened ps f len e = exists ws Start (opened + 1) (parts_of f ∷ ps) no_front (omega arith) e
  exists (words.Not ∷ ws) Start opened ps f len e =
      moved ps (parts (parts_of (record f { count = suc f.count })) ws) (parts (parts_of f) (words.Not ∷ ws)) (ap (before_not (parts_of f)) (nots-more f.count ws))
      (exists ws Start opened ps (record f { count = suc f.count }) len e)
  exists (words.Here ∷ ws) Start opened ps f len e =
      let stands = met (has_address setting) After opened ws e in exists ws After opened ps (parts_of f, words.Here ∷ [], here (has_address_is setting stands.0)) len stands.1
  exists (words.Number n ∷ ws) Start opened ps f len e = exists ws After opened ps (parts_of f, words.Number n ∷ [], number n) len e
  exists (words.Name n ∷ ws) Start opened ps f len e =
      let stands = met (is_name setting n) After opened ws e in exists ws After opened ps (parts_of f, words.Name n ∷ [], name n (is_name_is setting n stands.0)) len stands.1
  exists (words.Operator operator ∷ ws) Operand opened ps p len e = never ws e
  exists (words.Close ∷ ws) Operand opened ps p len e = never ws e
  exists (words.Open ∷ ws) Operand opened ps p len e = exists ws Start (opened + 1) (p ∷ ps) no_front (omega arith) e
  exists (words.Not ∷ ws) Operand opened ps p len e = never ws e
  exists (words.Here ∷ ws) Operand opened ps p len e =
      let stands = met (has_address setting) After opened ws e in exists ws After opened ps (p, words.Here ∷ [], here (has_address_is setting stands.0)) len stands.1
  exists (words.Number n ∷ ws) Operand opened ps p len e = exists ws After opened ps (p, words.Number n ∷ [], number n) len e
  exists (words.Name n ∷ ws) Operand opened ps p len e =
      let stands = met (is_name setting n) After opened ws e in exists ws After opened ps (p, words.Name n ∷ [], name n (is_name_is setting n stands.0)) len stands.1

  pub sentence_is_spelled : (ws : List Word) → is_sentence_in setting ws ≡ true → (t : Tree) × SpellsIn setting ws t
  sentence_is_spelled ws e =
      let found = exists ws Start 0 [] no_front refl e in
      (found.0, record { grammar = found.1; whole = sym found.2 })
