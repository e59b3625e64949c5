-- The example keeps the rules of units, and each twin breaks one.
use Rattle.std.proofs.Common.{◌≡◌, ◌≢◌, ℕ, zero, suc, ◌+◌, ◌*◌, ◌^◌, ◌<◌, ◌≤◌, Bool, true, false, cond, List, [], ◌∷◌, ◌++◌, length, map, Some, None, refl, sym, ap, subst, ◌∙◌, arith, rules, lit<, lit≤}
use Rattle.std.specs.Prelude.{All, AllPairs, Contains, codes, nat_eq, unwrap_or}
use Rattle.std.specs.Cmp.Lexicographic.{pointwise}
use Rattle.std.specs.List.{AllByRecursion, IsDistinct, range_with_len}
use Rattle.std.specs.List.Sorted.{IsStrictlyIncreasing}
use Rattle.std.specs.Ordering.{nat_cmp, eq_by_cmp}
use Rattle.std.specs.FinMap as maps
use Rattle.std.specs.FinMap.{find}
use Rattle.std.proofs.lemmas.List.Elements.{All-from_recursion, All-nil, All-cons}
use Rattle.std.proofs.lemmas.List.Kept.{AllPairs-cons}
use Rattle.std.proofs.lemmas.List.FromFn.{get_or-range_with_len, length-range_with_len}
use Rattle.sp_base.specs.declared.location.Reg.TheVariants as reg
use Rattle.sp_base.specs.Image.{AreCells}
use Rattle.sp_isa.specs.declared.instr.Arg.TheVariants as arg
use Rattle.sp_base.specs.declared.pair.Pair.TheVariants as pair
use Rattle.sp_isa.specs.Code.{code}
use Rattle.sp_isa.specs.declared.instr.Instr.TheVariants.{Mvi, Lxi, Hlt, Ret, Rst}
use Rattle.sp_logic.specs.View.{note_of}
use Rattle.sp_prog.specs.declared.area.Area.{Area}
use Rattle.sp_prog.specs.declared.area.AreaKind.TheVariants as kind
use Rattle.sp_prog.specs.declared.routine.Noted.{Noted}
use Rattle.sp_prog.specs.declared.routine.Routine.{Routine}
use Rattle.sp_prog.specs.declared.routine.Stmt.{Stmt}
use Rattle.sp_prog.specs.Program.{Program}
use Rattle.sp_prog.specs.Rules.{IsArea, IsInArea, IsFree, HasBytes, note_has_word, IsEvaluable, AreNotes, HaveNoWords, IsStmt, HaveNoCommonByte, AreLaidOut, first_address, size_of, AreListed, AreFree, address_of, IsRoutine, IsUnit, instructions}
use Rattle.sp_prog.specs.Examples.{is_five, a, first_word, stmt, listing, start, five, unbound, huge, area, cells, counter, table, with, with_area, with_start, with_five, notes, KeepsRegionsApart, KeepsCode, KeepsNotes}

-- ---- The image

get_is : (q : ℕ) → maps.get (maps.from_sorted {R = nat_cmp} cells) q ≡ find nat_cmp q cells
get_is q = maps.get-from_sorted nat_cmp cells q tt

taken : (q byte : ℕ) → find nat_cmp q cells ≡ Some byte → ¬ IsFree (maps.from_sorted cells) q
taken q byte is free = let no_byte : Some byte ≡ None = sym is ∙ sym (get_is q) ∙ free in cc

tied : (x y : ℕ) → eq_by_cmp nat_cmp x y ≡ true → x ≡ y
tied x y h = search rules

untied : (x y : ℕ) → x ≢ y → eq_by_cmp nat_cmp x y ≡ false
untied x y differ = by (eq_by_cmp nat_cmp x y) refl
  where
    by : (t : Bool) → eq_by_cmp nat_cmp x y ≡ t → t ≡ false
    by true e = absurd (differ (tied x y e))
    by false e = refl

none_of : (q : ℕ) (cs : List (ℕ × ℕ)) → AllByRecursion (λ c. q ≢ c.0) cs → find nat_cmp q cs ≡ None
none_of q [] h = refl
none_of q (c ∷ cs) h = ap (λ t. cond t (Some c.1) (find nat_cmp q cs)) (untied q c.0 h.0) ∙ none_of q cs h.1

free : (q : ℕ) → 6 < q → IsFree (maps.from_sorted cells) q
free q past =
    get_is q ∙ none_of q cells (
      (λ e. omega (arith, e)),
      (
        (λ e. omega (arith, e)),
        (
          (λ e. omega (arith, e)),
          (
            (λ e. omega (arith, e)),
            ((λ e. omega (arith, e)), ((λ e. omega (arith, e)), ((λ e. omega (arith, e)), tt))),
          ),
        ),
      ),
    )

image_cells : AreCells cells
image_cells = record {
  addresses = All-from_recursion (λ q. q < 65536) (map (λ c. c.0) cells) (lit< tt, (lit< tt, (lit< tt, (lit< tt, (lit< tt, (lit< tt, (lit< tt, tt)))))));
  bytes = All-from_recursion (λ b. b < 256) (map (λ c. c.1) cells) (lit< tt, (lit< tt, (lit< tt, (lit< tt, (lit< tt, (lit< tt, (lit< tt, tt)))))));
}

-- ---- Annotations

evaluable : (line : ℕ) → IsEvaluable (is_five line a)
evaluable line = record { formed = record { closed = (tt, tt); limits = (tt, lit< tt) }; narrow = (lit< tt, lit< tt) }

word_evaluable : (line : ℕ) → IsEvaluable (is_five line first_word)
word_evaluable line = record { formed = record { closed = (tt, tt); limits = ((lit≤ tt, lit≤ tt), lit< tt) }; narrow = (lit< tt, lit< tt) }

no_notes : AreNotes []
no_notes = record { few = lit≤ tt; each = All-nil IsEvaluable; rising = λ k lt. omega (arith, lt) }

one_note : (n : Noted) → IsEvaluable n → AreNotes (n ∷ [])
one_note n h = record { few = lit≤ tt; each = All-from_recursion IsEvaluable (n ∷ []) (h, tt); rising = λ k lt. omega (arith, lt) }

-- the lines of annotations on lines of their own
lines_are : (n from : ℕ) → map (λ (x : Noted). x.line.0) (map (λ line. is_five line a) (range_with_len from n)) ≡ range_with_len from n
lines_are zero from = refl
lines_are (suc n) from = ap (λ rest. from ∷ rest) (lines_are n (from + 1))

each_evaluable : (lines : List ℕ) → All IsEvaluable (map (λ line. is_five line a) lines)
each_evaluable [] = All-nil IsEvaluable
each_evaluable (line ∷ lines) = All-cons IsEvaluable (is_five line a) (map (λ l. is_five l a) lines) (evaluable line) (each_evaluable lines)

abbrev HasNoWord : Noted → Type 0
HasNoWord n = note_has_word (note_of n.note) ≡ false

wordless : (lines : List ℕ) → HaveNoWords (map (λ line. is_five line a) lines)
wordless [] = All-nil HasNoWord
wordless (line ∷ lines) = All-cons HasNoWord (is_five line a) (map (λ l. is_five l a) lines) refl (wordless lines)

rises : (n : ℕ) → IsStrictlyIncreasing (range_with_len 100 n)
rises n k lt =
    let len = length-range_with_len 100 n in
    let low = get_or-range_with_len 100 n k 0 (omega (arith, lt, len)) in
    let high = get_or-range_with_len 100 n (k + 1) 0 (omega (arith, lt, len)) in
    omega (arith, low, high)

many_notes : AreNotes (notes 64)
many_notes = record {
  few = lit≤ tt;
  each = each_evaluable (range_with_len 100 64);
  rising = subst IsStrictlyIncreasing (sym (lines_are 64 100)) (rises 64);
}

-- ---- What the twins share

abbrev image : maps.FinMap nat_cmp ℕ
image = maps.from_sorted cells

byte_at : (q byte : ℕ) → find nat_cmp q cells ≡ Some byte → maps.get image q ≡ Some byte
byte_at q byte is = get_is q ∙ is

is_lxi : IsStmt image (stmt 8 0 (Lxi pair.Sp 0x2400) [])
is_lxi = record { valid = refl; code = there; asserts = no_notes }
  where
    there : HasBytes image 0 (code (Lxi pair.Sp 0x2400))
    there zero lt = byte_at 0 0x31 refl
    there (suc zero) lt = byte_at 1 0x00 refl
    there (suc (suc zero)) lt = byte_at 2 0x24 refl
    there (suc (suc (suc k))) lt = absurd (omega (arith, lt))

is_hlt : IsStmt image (stmt 10 3 Hlt (is_five 9 a ∷ []))
is_hlt = record { valid = refl; code = there; asserts = one_note (is_five 9 a) (evaluable 9) }
  where
    there : HasBytes image 3 (code Hlt)
    there zero lt = byte_at 3 0x76 refl
    there (suc k) lt = absurd (omega (arith, lt))

is_mvi : (asserts : List Noted) → AreNotes asserts → IsStmt image (stmt 20 4 (Mvi (arg.Reg reg.A) 5) asserts)
is_mvi asserts h = record { valid = refl; code = there; asserts = h }
  where
    there : HasBytes image 4 (code (Mvi (arg.Reg reg.A) 5))
    there zero lt = byte_at 4 0x3E refl
    there (suc zero) lt = byte_at 5 0x05 refl
    there (suc (suc k)) lt = absurd (omega (arith, lt))

is_ret : IsStmt image (stmt 21 6 Ret (is_five 19 first_word ∷ []))
is_ret = record { valid = refl; code = there; asserts = one_note (is_five 19 first_word) (word_evaluable 19) }
  where
    there : HasBytes image 6 (code Ret)
    there zero lt = byte_at 6 0xC9 refl
    there (suc k) lt = absurd (omega (arith, lt))

-- places of lists
none_listed : AreListed 2 (listing [])
unfolding IsDistinct
none_listed = record { areas = All-nil (λ place. place < 2); once = tt }

counter_listed : AreListed 2 (listing (0 ∷ []))
unfolding IsDistinct
counter_listed = record { areas = All-from_recursion (λ place. place < 2) (0 ∷ []) (lit< tt, tt); once = (tt, tt) }

both_listed : AreListed 2 (listing (1 ∷ 0 ∷ []))
unfolding IsDistinct
both_listed = record { areas = All-from_recursion (λ place. place < 2) (1 ∷ 0 ∷ []) (lit< tt, (lit< tt, tt)); once = ((refl, tt), (tt, tt)) }

-- ---- Routines

start_keeps : (p : Program) → p.image ≡ image → length p.areas ≡ 2 → IsRoutine p start
start_keeps p same count = record {
  some = lit< tt;
  laid_out = (refl, (refl, tt));
  code = subst (λ i. All (IsStmt i) start.code) (sym same) (All-from_recursion (IsStmt image) start.code (is_lxi, (is_hlt, tt)));
  pre = one_note (is_five 6 a) (evaluable 6);
  pre_words = wordless (6 ∷ []);
  post = no_notes;
  post_words = wordless [];
  reads = subst (λ n. AreListed n (listing [])) (sym count) none_listed;
  changes = subst (λ n. AreListed n (listing [])) (sym count) none_listed;
  changes_free = λ k d lt. absurd (omega (arith, lt));
  start = λ h. record { post = refl; asserts = refl };
}

-- the second routine with other annotations and instructions
abbrev other_five : List Noted → List Noted → List Stmt → Routine
other_five pre post stmts = record five { pre = pre; post = post; code = stmts }

abbrev two : Area → Routine → Program
two x f = with (x ∷ table ∷ []) (start ∷ f ∷ [])

-- an area past the image
abbrev IsPast : Area → Type 0
IsPast x = (q : ℕ) → IsInArea x q → 6 < q

same_area : (x y : Area) → Some x ≡ Some y → x ≡ y
same_area x y e = ap (λ o. unwrap_or o x) e

five_keeps : (x : Area) → IsPast x → (pre post : List Noted) (stmts : List Stmt) → AreNotes pre → HaveNoWords pre → AreNotes post → HaveNoWords post
    → 0 < length stmts → AreLaidOut (first_address stmts) stmts → All (IsStmt image) stmts → IsRoutine (two x (other_five pre post stmts)) (other_five pre post stmts)
five_keeps x past pre post stmts pre_notes pre_words post_notes post_words some laid_out each = record {
  some = some;
  laid_out = laid_out;
  code = each;
  pre = pre_notes;
  pre_words = pre_words;
  post = post_notes;
  post_words = post_words;
  reads = both_listed;
  changes = counter_listed;
  changes_free = first;
  start = λ h. cc;
}
  where
    first : AreFree (two x (other_five pre post stmts)) five.changes
    first zero d lt y is q within = free q (past q (subst (λ z. IsInArea z q) (sym (same_area x y is)) within))
    first (suc k) d lt y is q within = absurd (omega (arith, lt))

apart_by : (one other : Stmt) → one.addr + size_of one ≤ other.addr → HaveNoCommonByte one other
apart_by one other h k m low high e = omega (arith, low, h, e)

table_keeps : (p : Program) → p.first ≡ 0x2300 → IsArea p table
table_keeps p first = record {
  length = lit< tt;
  within = lit≤ tt;
  apart = λ q inside stack. let high : q < 7 = inside.1 in let low = stack.0 in omega (arith, first, high, low);
}

keeps : (x : Area) (f : Routine) → IsArea (two x f) x → pointwise nat_eq x.name table.name ≡ false → IsRoutine (two x f) f → f.name ≡ five.name → address_of f ≡ 4
    → AllPairs HaveNoCommonByte (instructions (two x f)) → IsDistinct nat_eq (map (λ (s : Stmt). s.line.0) (instructions (two x f))) → IsUnit (two x f)
unfolding IsDistinct
keeps x f is_area names is_routine name begins apart lines = record {
  image = subst AreCells (sym (maps.entries-from_sorted nat_cmp cells tt)) image_cells;
  stack_ordered = lit≤ tt;
  stack_end = lit≤ tt;
  stack_free = λ q inside. let low : 0x2300 ≤ q = inside.0 in free q (omega (arith, low));
  areas = All-from_recursion (IsArea (two x f)) (x ∷ table ∷ []) (is_area, (table_keeps (two x f) refl, tt));
  area_names = ((names, tt), (tt, tt));
  few_areas = lit≤ tt;
  routines = All-from_recursion (IsRoutine (two x f)) (start ∷ f ∷ []) (start_keeps (two x f) refl refl, (is_routine, tt));
  routine_names = ((ap (λ n. pointwise nat_eq start.name n) name, tt), (tt, tt));
  few_routines = lit≤ tt;
  rising = rising;
  apart = apart;
  lines = lines;
}
  where
    rising : IsStrictlyIncreasing (0 ∷ address_of f ∷ [])
    rising zero lt = subst (λ n. 0 < n) (sym begins) (lit< tt)
    rising (suc k) lt = absurd (omega (arith, lt))

abbrev lxi : Stmt
lxi = stmt 8 0 (Lxi pair.Sp 0x2400) []

five_fits : (x : Area) → IsPast x → IsRoutine (two x five) five
five_fits x past =
    five_keeps x past five.pre five.post five.code
    (record {
      few = lit≤ tt;
      each = All-from_recursion IsEvaluable five.pre (evaluable 13, (evaluable 14, tt));
      rising = rising;
    })
    (wordless (13 ∷ 14 ∷ [])) (one_note (is_five 15 a) (evaluable 15)) (wordless (15 ∷ []))
    (lit< tt) (refl, (refl, tt)) (All-from_recursion (IsStmt image) five.code (is_mvi [] no_notes, (is_ret, tt)))
  where
    rising : IsStrictlyIncreasing (13 ∷ 14 ∷ [])
    rising zero lt = lit< tt
    rising (suc k) lt = absurd (omega (arith, lt))

five_apart : AllPairs HaveNoCommonByte (start.code ++ five.code)
five_apart =
    let hlt = stmt 10 3 Hlt (is_five 9 a ∷ []) in
    let mvi = stmt 20 4 (Mvi (arg.Reg reg.A) 5) [] in
    let ret = stmt 21 6 Ret (is_five 19 first_word ∷ []) in
    let R = HaveNoCommonByte in
    AllPairs-cons R lxi (hlt ∷ mvi ∷ ret ∷ [])
    (All-from_recursion (R lxi) (hlt ∷ mvi ∷ ret ∷ []) (apart_by lxi hlt (lit≤ tt), (apart_by lxi mvi (lit≤ tt), (apart_by lxi ret (lit≤ tt), tt))))
    (AllPairs-cons R hlt (mvi ∷ ret ∷ [])
    (All-from_recursion (R hlt) (mvi ∷ ret ∷ []) (apart_by hlt mvi (lit≤ tt), (apart_by hlt ret (lit≤ tt), tt)))
    (AllPairs-cons R mvi (ret ∷ [])
    (All-from_recursion (R mvi) (ret ∷ []) (apart_by mvi ret (lit≤ tt), tt))
    (AllPairs-cons R ret [] (All-nil (R ret)) (λ i j d lt within. absurd (omega (arith, within))))))

many_apart : AllPairs HaveNoCommonByte (start.code ++ stmt 20 4 (Mvi (arg.Reg reg.A) 5) (notes 64) ∷ [])
many_apart =
    let hlt = stmt 10 3 Hlt (is_five 9 a ∷ []) in
    let mvi = stmt 20 4 (Mvi (arg.Reg reg.A) 5) (notes 64) in
    let R = HaveNoCommonByte in
    AllPairs-cons R lxi (hlt ∷ mvi ∷ [])
    (All-from_recursion (R lxi) (hlt ∷ mvi ∷ []) (apart_by lxi hlt (lit≤ tt), (apart_by lxi mvi (lit≤ tt), tt)))
    (AllPairs-cons R hlt (mvi ∷ [])
    (All-from_recursion (R hlt) (mvi ∷ []) (apart_by hlt mvi (lit≤ tt), tt))
    (AllPairs-cons R mvi [] (All-nil (R mvi)) (λ i j d lt within. absurd (omega (arith, within)))))

-- a unit of the second routine and an area that fits
five_unit : (x : Area) → IsPast x → IsArea (two x five) x → pointwise nat_eq x.name table.name ≡ false → IsUnit (two x five)
unfolding IsDistinct
five_unit x past is_area names =
    keeps x five is_area names (five_fits x past) refl refl five_apart ((refl, (refl, (refl, tt))), ((refl, (refl, tt)), ((refl, tt), (tt, tt))))

counter_fits : (f : Routine) → IsArea (two counter f) counter
counter_fits f = record {
  length = refl;
  within = lit≤ tt;
  apart = λ q inside stack. let high : q < 0x2300 = inside.1 in let low : 0x2300 ≤ q = stack.0 in omega (arith, high, low);
}

counter_past : IsPast counter
counter_past q within = let low : 0x22FE ≤ q = within.0 in omega (arith, low)

-- ---- What each twin breaks

first_area : (x : Area) → IsUnit (with_area x) → IsArea (with_area x) x
first_area x u = u.areas 0 x (lit< tt)

second : (f : Routine) → IsUnit (with_five f) → IsRoutine (with_five f) f
second f u = u.routines 1 f (lit< tt)

first_routine : (f : Routine) → IsUnit (with_start f) → IsRoutine (with_start f) f
first_routine f u = u.routines 0 f (lit< tt)

abbrev last_cell : Area
last_cell = area (codes "COUNTER") kind.Bytes 65535 1

pub units_keep_regions_apart : KeepsRegionsApart
unfolding IsDistinct
units_keep_regions_apart = record {
  whole = five_unit counter counter_past (counter_fits five) refl;
  stack_backwards = λ u. let h : 0x2400 ≤ 0x23FF = u.stack_ordered in omega (arith, h);
  stack_to_the_end = λ u. let h : 65535 ≤ 65534 = u.stack_end in omega (arith, h);
  stack_in_image = λ u. taken 6 0xC9 refl (u.stack_free 6 (lit≤ tt, lit≤ tt));
  empty_area = λ u. let h : 0 < 0 = (first_area (area (codes "COUNTER") kind.Bytes 0x2200 0) u).length in omega (arith, h);
  word_of_one = λ u. let h : ◌≡◌ {A = ℕ} 1 2 = (first_area (area (codes "COUNTER") kind.Word 0x2200 1) u).length in omega (arith, h);
  byte_of_two = λ u. let h : ◌≡◌ {A = ℕ} 2 1 = (first_area (area (codes "COUNTER") kind.Byte 0x2200 2) u).length in omega (arith, h);
  last_cell = five_unit last_cell (λ q within. let low : 65535 ≤ q = within.0 in omega (arith, low))
      (record { length = lit< tt; within = lit≤ tt; apart = λ q inside stack. let low : 65535 ≤ q = inside.0 in let high : q ≤ 0x23FF = stack.1 in omega (arith, low, high) }) refl;
  area_past_the_end = λ u. let h : 65537 ≤ 65536 = (first_area (area (codes "COUNTER") kind.Bytes 65535 2) u).within in omega (arith, h);
  area_in_stack = λ u. (first_area (area (codes "COUNTER") kind.Word 0x22FF 2) u).apart 0x2300 (lit≤ tt, lit< tt) (lit≤ tt, lit≤ tt);
  one_name = λ u. let h : true ≡ false = u.area_names.0.0 in cc;
  changed_in_image = λ u. taken 4 0x3E refl ((second (record five { changes = listing (1 ∷ []) }) u).changes_free 0 0 (lit< tt) table refl 4 (lit≤ tt, lit< tt));
  no_area = λ u. let h : 2 < 2 = (second (record five { reads = listing (2 ∷ []) }) u).reads.areas 0 0 (lit< tt) in omega (arith, h);
  area_twice = λ u. let h : true ≡ false = (second (record five { changes = listing (0 ∷ 0 ∷ []) }) u).changes.once.0.0 in cc;
}

other_byte : (q one other : ℕ) → maps.get image q ≡ Some one → maps.get image q ≡ Some other → one ≡ other
other_byte q one other e f = ap (λ o. unwrap_or o 0) (sym e ∙ f)

pub units_keep_code : KeepsCode
unfolding IsDistinct
units_keep_code = record {
  without_code = λ u. let h : 0 < 0 = (second (record five { code = [] }) u).some in omega (arith, h);
  gap = λ u.
      let r = record start { code = stmt 8 0 (Lxi pair.Sp 0x2400) [] ∷ stmt 20 4 (Mvi (arg.Reg reg.A) 5) [] ∷ [] } in
      let h : ◌≡◌ {A = ℕ} 4 3 = (u.routines 0 r (lit< tt)).laid_out.1.0 in
      omega (arith, h);
  other_code = λ u.
      let s = stmt 20 4 (Mvi (arg.Reg reg.A) 6) [] in
      let h = other_byte 5 5 6 (byte_at 5 5 refl) (((second (record five { code = s ∷ [] }) u).code 0 s (lit< tt)).code 1 (lit< tt)) in
      omega (arith, h);
  no_instruction = λ u.
      let s = stmt 20 4 (Rst 8) [] in
      let h : false ≡ true = ((second (record five { code = s ∷ [] }) u).code 0 s (lit< tt)).valid in
      cc;
  shared_byte = λ u. u.apart 2 4 lxi (lit< tt) (lit< tt) 1 0 (lit< tt) (lit< tt) refl;
  not_rising = λ u. let h : 4 < 0 = u.rising 0 (lit< tt) in omega (arith, h);
  one_label = λ u. let h : true ≡ false = u.routine_names.0.0 in cc;
  one_line = λ u. let h : true ≡ false = u.lines.0.1.0 in cc;
}

nothing_bound : (name : List ℕ) → Contains [] name → ⊥
nothing_bound name h = let lt : h.0 < 0 = h.1 in omega (arith, lt)

pub units_keep_notes : KeepsNotes
unfolding IsDistinct
units_keep_notes = record {
  word_in_pre = λ u. let h : true ≡ false = (second (record five { pre = is_five 13 first_word ∷ [] }) u).pre_words 0 (is_five 13 first_word) (lit< tt) in cc;
  word_in_post = λ u. let h : true ≡ false = (second (record five { post = is_five 13 first_word ∷ [] }) u).post_words 0 (is_five 13 first_word) (lit< tt) in cc;
  not_closed = λ u. nothing_bound (codes "I") ((second (record five { pre = is_five 13 unbound ∷ [] }) u).pre.each 0 (is_five 13 unbound) (lit< tt)).formed.closed.0;
  too_wide = λ one other u.
      let n = is_five 13 (huge one other) in
      let h : 1152921504606846976 * 1152921504606846976 < 2 ^ 101 = ((second (record five { post = n ∷ [] }) u).post.each 0 n (lit< tt)).narrow.0.0 in
      omega (arith, h);
  lines_fall = λ u. let h : 14 < 13 = (second (record five { pre = is_five 14 a ∷ is_five 13 a ∷ [] }) u).pre.rising 0 (lit< tt) in omega (arith, h);
  many =
      let f = other_five (notes 64) (notes 64) (stmt 20 4 (Mvi (arg.Reg reg.A) 5) (notes 64) ∷ []) in
      keeps counter f (counter_fits f) refl
      (five_keeps counter counter_past f.pre f.post f.code many_notes (wordless (range_with_len 100 64)) many_notes (wordless (range_with_len 100 64))
      (lit< tt) (refl, tt) (All-from_recursion (IsStmt image) f.code (is_mvi (notes 64) many_notes, tt)))
      refl refl many_apart ((refl, (refl, tt)), ((refl, tt), (tt, tt)));
  pre_65 = λ u. let h : 65 ≤ 64 = (second (record five { pre = notes 65 }) u).pre.few in omega (arith, h);
  post_65 = λ u. let h : 65 ≤ 64 = (second (record five { post = notes 65 }) u).post.few in omega (arith, h);
  asserts_65 = λ u.
      let s = stmt 20 4 (Mvi (arg.Reg reg.A) 5) (notes 65) in
      let h : 65 ≤ 64 = ((second (record five { code = s ∷ [] }) u).code 0 s (lit< tt)).asserts.few in
      omega (arith, h);
  start_with_post = λ u. let h : is_five 7 a ∷ [] ≡ [] = ((first_routine (record start { post = is_five 7 a ∷ [] }) u).start refl).post in cc;
  start_with_first_assert = λ u.
      let h : is_five 7 a ∷ [] ≡ [] = ((first_routine (record start { code = stmt 8 0 (Lxi pair.Sp 0x2400) (is_five 7 a ∷ []) ∷ [] }) u).start refl).asserts in
      cc;
}
