-- The lines of the first form: each is read where it is spelled, and what is read is spelled so.
use Rattle.std.proofs.Common.{◌≡◌, ℕ, ◌≤◌, true, false, cond, not, ◌&&◌, List, [], ◌∷◌, length, refl, sym, ap, subst, ◌∙◌, Some, None, arith}
use Rattle.std.specs.Prelude.{Option, option_and_then, nat_le, bytes_eq, codes, ◌==◌, if◌then◌else◌}
use Rattle.std.specs.Option.{option_map}
use Rattle.std.specs.List.{list_all, list_any}
use Rattle.std.proofs.lemmas.Bool.Decides.{nat_tests}
use Rattle.std.proofs.lemmas.Option.{cond_some}
use Rattle.sp_base.specs.declared.location.Reg.{Reg}
use Rattle.sp_base.specs.declared.location.Reg.TheVariants as reg
use Rattle.sp_first.specs.declared.transfer.Transfer.{Transfer}
use Rattle.sp_first.specs.declared.transfer.Transfer.TheVariants.{Mvi, Mov}
use Rattle.sp_first.specs.Form.{Move, Load, Copy, reg_name, comma_list, move_words, reserved, IsRoutineName, IsNumber, IsMove, number_of}
use Rattle.sp_first.specs.Program.{transfer_of}
use Rattle.sp_first.specs.Reading.{Line, word, at_end, literal, lettered, reg_named, register, is_digit, is_number, number, stack_line, is_upper, is_routine_name, routine_line, post_line, more_registers, first_change, changes_line, mvi_operands, mov_operands, move_line}
use Rattle.sp_first.proofs.Steps.{same_bytes, both, and_true, both3, and3_true, both4, and4_true, le_true, le_from_true, all_true, all_from_true, none_equal, none_equal_from, step_some, mapped_some, chosen_some, same_some, literal_some, at_end_nil, word_some}

-- ---- registers
pub reg_named_is : (r : Reg) → reg_named (reg_name r) ≡ Some r
reg_named_is reg.B = refl
reg_named_is reg.C = refl
reg_named_is reg.D = refl
reg_named_is reg.E = refl
reg_named_is reg.H = refl
reg_named_is reg.L = refl
reg_named_is reg.A = refl

-- a choice whose first test is for this letter
first_letter : (b k : ℕ) (x : Reg) (rest : Option Reg) (r : Reg) → reg_name x ≡ k ∷ [] → (rest ≡ Some r → b ∷ [] ≡ reg_name r) → cond (b == k) (Some x) rest ≡ Some r → b ∷ [] ≡ reg_name r
first_letter b k x rest r is others h =
    elim (b == k) as (λ t. (b == k) ≡ t → cond t (Some x) rest ≡ Some r → b ∷ [] ≡ reg_name r) [
      | true ↦ λ t e. let same : x ≡ r = cc in let number : b ≡ k = grind (arith, nat_tests) in ap (λ c. c ∷ []) number ∙ sym is ∙ ap reg_name same
      | false ↦ λ t e. others e
    ] refl h

lettered_some : (b : ℕ) (r : Reg) → lettered b ≡ Some r → b ∷ [] ≡ reg_name r
lettered_some b r =
    first_letter b 66 reg.B _ r refl (first_letter b 67 reg.C _ r refl (first_letter b 68 reg.D _ r refl (first_letter b 69 reg.E _ r refl
    (first_letter b 72 reg.H _ r refl (first_letter b 76 reg.L _ r refl (first_letter b 65 reg.A _ r refl (λ none. cc)))))))

pub reg_named_some : (w : List ℕ) (r : Reg) → reg_named w ≡ Some r → w ≡ reg_name r
reg_named_some [] r h = cc
reg_named_some (b ∷ []) r h = lettered_some b r h
reg_named_some (b ∷ c ∷ w) r h = cc

pub register_is : (r : Reg) (ws : Line) → register (reg_name r ∷ ws) ≡ Some (r, ws)
unfolding register
register_is r ws = rw (reg_named_is r) refl

pub register_some : (ws : Line) (p : Reg × Line) → register ws ≡ Some p → ws ≡ reg_name p.0 ∷ p.1
unfolding register
register_some ws p h =
    let w = step_some _ (word ws) p h in
    let r = step_some _ (reg_named w.0.0) p w.2 in
    let same : (r.0, w.0.1) ≡ p = same_some (r.0, w.0.1) p r.2 in
    word_some ws w.0 w.1 ∙ ap (λ v. v ∷ w.0.1) (reg_named_some w.0.0 r.0 r.1) ∙ ap (λ (q : Reg × Line). reg_name q.0 ∷ q.1) same

-- ---- numbers
pub is_number_true : (digits : List ℕ) → IsNumber digits → is_number digits ≡ true
is_number_true digits h = and3_true _ _ _ (le_true 1 (length digits) h.some) (le_true (length digits) 3 h.few) (all_true (λ b. (48 ≤ b) × (b ≤ 57)) is_digit (λ b d. and_true _ _ (le_true 48 b d.0) (le_true b 57 d.1)) digits h.decimal)

pub is_number_from : (digits : List ℕ) → is_number digits ≡ true → IsNumber digits
is_number_from digits h =
    let tests = both3 (nat_le 1 (length digits)) (nat_le (length digits) 3) (list_all is_digit digits) h in
    record {
      some = le_from_true 1 (length digits) tests.0;
      few = le_from_true (length digits) 3 tests.1;
      decimal = all_from_true (λ b. (48 ≤ b) × (b ≤ 57)) is_digit (λ b d. let parts = both (nat_le 48 b) (nat_le b 57) d in (le_from_true 48 b parts.0, le_from_true b 57 parts.1)) digits tests.2;
    }

pub number_is : (digits : List ℕ) (ws : Line) → IsNumber digits → number (digits ∷ ws) ≡ Some (number_of digits, ws)
unfolding number
number_is digits ws h = rw (is_number_true digits h) refl

pub number_some : (ws : Line) (p : ℕ × Line) → number ws ≡ Some p → (digits : List ℕ) × IsNumber digits × (number_of digits ≡ p.0) × (ws ≡ digits ∷ p.1)
unfolding number
number_some ws p h =
    let w = step_some _ (word ws) p h in
    let parts = cond_some (is_number w.0.0) (number_of w.0.0, w.0.1) p w.2 in
    (w.0.0, is_number_from w.0.0 parts.0, ap (λ (q : ℕ × Line). q.0) parts.1, word_some ws w.0 w.1 ∙ ap (λ (q : ℕ × Line). w.0.0 ∷ q.1) parts.1)

-- a line that is at its end after a reading
ended : {A : Type 0} (ws : Line) (x y : A) → cond (at_end ws) (Some x) None ≡ Some y → (ws ≡ []) × (x ≡ y)
ended ws x y h = let parts = cond_some (at_end ws) x y h in (at_end_nil ws parts.0, parts.1)

-- ---- the stack line
pub stack_line_some : (ws rest : Line) → stack_line ws ≡ Some rest → ws ≡ codes ";#" ∷ codes "stack" ∷ codes "2300H" ∷ codes "," ∷ codes "23FFH" ∷ []
unfolding stack_line
stack_line_some ws rest h =
    let a = step_some _ (literal (codes ";#") ws) rest h in
    let b = step_some _ (literal (codes "stack") a.0) rest a.2 in
    let c = step_some _ (literal (codes "2300H") b.0) rest b.2 in
    let d = step_some _ (literal (codes ",") c.0) rest c.2 in
    let e = step_some _ (literal (codes "23FFH") d.0) rest d.2 in
    let none : e.0 ≡ [] = (ended e.0 e.0 rest e.2).0 in
    let e1 = literal_some (codes "23FFH") d.0 e.0 e.1 ∙ ap (λ r. codes "23FFH" ∷ r) none in
    let d1 = literal_some (codes ",") c.0 d.0 d.1 ∙ ap (λ r. codes "," ∷ r) e1 in
    let c1 = literal_some (codes "2300H") b.0 c.0 c.1 ∙ ap (λ r. codes "2300H" ∷ r) d1 in
    let b1 = literal_some (codes "stack") a.0 b.0 b.1 ∙ ap (λ r. codes "stack" ∷ r) c1 in
    literal_some (codes ";#") ws a.0 a.1 ∙ ap (λ r. codes ";#" ∷ r) b1

-- ---- the routine line
pub is_routine_name_true : (name : List ℕ) → IsRoutineName name → is_routine_name name ≡ true
is_routine_name_true name h =
    and4_true _ _ _ _ (le_true 4 (length name) h.long) (le_true (length name) 31 h.short)
    (all_true (λ b. (65 ≤ b) × (b ≤ 90)) is_upper (λ b u. and_true _ _ (le_true 65 b u.0) (le_true b 90 u.1)) name h.letters) (none_equal name reserved h.free)

pub is_routine_name_from : (name : List ℕ) → is_routine_name name ≡ true → IsRoutineName name
is_routine_name_from name h =
    let tests = both4 (nat_le 4 (length name)) (nat_le (length name) 31) (list_all is_upper name) (not (list_any (bytes_eq name) reserved)) h in
    record {
      long = le_from_true 4 (length name) tests.0;
      short = le_from_true (length name) 31 tests.1;
      letters = all_from_true (λ b. (65 ≤ b) × (b ≤ 90)) is_upper (λ b u. let parts = both (nat_le 65 b) (nat_le b 90) u in (le_from_true 65 b parts.0, le_from_true b 90 parts.1)) name tests.2;
      free = none_equal_from name reserved tests.3;
    }

pub routine_line_some : (ws : Line) (name : List ℕ) → routine_line ws ≡ Some name → IsRoutineName name × (ws ≡ codes ";#" ∷ codes "routine" ∷ name ∷ [])
unfolding routine_line
routine_line_some ws name h =
    let a = step_some _ (literal (codes ";#") ws) name h in
    let b = step_some _ (literal (codes "routine") a.0) name a.2 in
    let w = step_some _ (word b.0) name b.2 in
    let parts = cond_some (is_routine_name w.0.0 && at_end w.0.1) w.0.0 name w.2 in
    let tests = both (is_routine_name w.0.0) (at_end w.0.1) parts.0 in
    let w1 = word_some b.0 w.0 w.1 ∙ ap (λ r. w.0.0 ∷ r) (at_end_nil w.0.1 tests.1) ∙ ap (λ n. n ∷ []) parts.1 in
    let b1 = literal_some (codes "routine") a.0 b.0 b.1 ∙ ap (λ r. codes "routine" ∷ r) w1 in
    (subst IsRoutineName parts.1 (is_routine_name_from w.0.0 tests.0), literal_some (codes ";#") ws a.0 a.1 ∙ ap (λ r. codes ";#" ∷ r) b1)

-- ---- the post line
pub post_line_some : (ws : Line) (p : Reg × ℕ) → post_line ws ≡ Some p → (digits : List ℕ) × IsNumber digits × (number_of digits ≡ p.1) × (ws ≡ codes ";#" ∷ codes "post" ∷ reg_name p.0 ∷ codes "=" ∷ digits ∷ [])
unfolding post_line
post_line_some ws p h =
    let a = step_some _ (literal (codes ";#") ws) p h in
    let b = step_some _ (literal (codes "post") a.0) p a.2 in
    let r = step_some _ (register b.0) p b.2 in
    let e = step_some _ (literal (codes "=") r.0.1) p r.2 in
    let n = step_some _ (number e.0) p e.2 in
    let end = ended n.0.1 (r.0.0, n.0.0) p n.2 in
    let d = number_some e.0 n.0 n.1 in
    let n1 = d.3 ∙ ap (λ rest. d.0 ∷ rest) end.0 in
    let e1 = literal_some (codes "=") r.0.1 e.0 e.1 ∙ ap (λ rest. codes "=" ∷ rest) n1 in
    let r1 = register_some b.0 r.0 r.1 ∙ ap (λ rest. reg_name r.0.0 ∷ rest) e1 in
    let b1 = literal_some (codes "post") a.0 b.0 b.1 ∙ ap (λ rest. codes "post" ∷ rest) r1 in
    (d.0, d.1, d.2 ∙ ap (λ (q : Reg × ℕ). q.1) end.1, literal_some (codes ";#") ws a.0 a.1 ∙ ap (λ rest. codes ";#" ∷ rest) b1 ∙ ap (λ (q : Reg × ℕ). codes ";#" ∷ codes "post" ∷ reg_name q.0 ∷ codes "=" ∷ d.0 ∷ []) end.1)

-- ---- the changes line
-- the words behind the first register
after_first : List Reg → Line
after_first [] = []
after_first (r ∷ rs) = codes "," ∷ comma_list (r ∷ rs)

comma_list-cons : (r : Reg) (rs : List Reg) → comma_list (r ∷ rs) ≡ reg_name r ∷ after_first rs
unfolding after_first
comma_list-cons r [] = refl
comma_list-cons r (q ∷ rs) = refl

more_registers_is : (rs : List Reg) → more_registers (after_first rs) ≡ Some rs
unfolding after_first
more_registers_is [] = refl
more_registers_is (r ∷ rs) = rw (comma_list-cons r rs) (rw (reg_named_is r, more_registers_is rs) refl)

pub changes_line_is : (r : Reg) (rs : List Reg) → changes_line (codes ";#" ∷ codes "changes" ∷ comma_list (r ∷ rs)) ≡ Some (r ∷ rs)
unfolding changes_line first_change literal
changes_line_is r rs =
    ap (λ ws. option_and_then (λ (p : Reg × Line). option_map (λ qs. p.0 ∷ qs) (more_registers p.1)) (register ws)) (comma_list-cons r rs)
    ∙ ap (option_and_then (λ (p : Reg × Line). option_map (λ qs. p.0 ∷ qs) (more_registers p.1))) (register_is r (after_first rs))
    ∙ ap (option_map (λ qs. r ∷ qs)) (more_registers_is rs)

more_registers_some : (ws : Line) (rs : List Reg) → more_registers ws ≡ Some rs → ws ≡ after_first rs
unfolding after_first
more_registers_some [] rs h = ap after_first (same_some [] rs h)
more_registers_some (w ∷ []) rs h = cc
more_registers_some (w ∷ v ∷ ws) rs h =
    let parts = chosen_some (bytes_eq w (codes ",")) _ rs h in
    let r = step_some _ (reg_named v) rs parts.1 in
    let qs = step_some _ (more_registers ws) rs r.2 in
    ap (λ u. u ∷ v ∷ ws) (same_bytes w (codes ",") parts.0)
    ∙ ap (λ u. codes "," ∷ u ∷ ws) (reg_named_some v r.0 r.1)
    ∙ ap (λ rest. codes "," ∷ reg_name r.0 ∷ rest) (more_registers_some ws qs.0 qs.1)
    ∙ ap (λ rest. codes "," ∷ rest) (sym (comma_list-cons r.0 qs.0))
    ∙ ap after_first (same_some (r.0 ∷ qs.0) rs qs.2)

pub changes_line_some : (ws : Line) (rs : List Reg) → changes_line ws ≡ Some rs → (1 ≤ length rs) × (ws ≡ codes ";#" ∷ codes "changes" ∷ comma_list rs)
unfolding changes_line first_change
changes_line_some ws rs h =
    let p = step_some _ _ rs h in
    let a = step_some _ (literal (codes ";#") ws) p.0 p.1 in
    let b = step_some _ (literal (codes "changes") a.0) p.0 a.2 in
    let qs = mapped_some (λ qs. p.0.0 ∷ qs) (more_registers p.0.1) rs p.2 in
    let r1 = register_some b.0 p.0 b.2 ∙ ap (λ rest. reg_name p.0.0 ∷ rest) (more_registers_some p.0.1 qs.0 qs.1) ∙ sym (comma_list-cons p.0.0 qs.0) ∙ ap comma_list qs.2 in
    let b1 = literal_some (codes "changes") a.0 b.0 b.1 ∙ ap (λ rest. codes "changes" ∷ rest) r1 in
    (subst (λ l. 1 ≤ length l) qs.2 (omega arith), literal_some (codes ";#") ws a.0 a.1 ∙ ap (λ rest. codes ";#" ∷ rest) b1)

-- ---- moves
pub move_line_is : (m : Move) → IsMove m → move_line (move_words m) ≡ Some (transfer_of m)
unfolding move_line mvi_operands mov_operands literal
move_line_is (Load to digits) h = rw (register_is to (codes "," ∷ digits ∷ [])) (rw (number_is digits [] h.0) (rw (le_true (number_of digits) 255 h.1) refl))
move_line_is (Copy to from) h = rw (register_is to (codes "," ∷ reg_name from ∷ [])) (rw (register_is from []) refl)

mvi_operands_some : (ws : Line) (i : Transfer) → mvi_operands ws ≡ Some i → (to : Reg) × (digits : List ℕ) × IsNumber digits × (number_of digits ≤ 255) × (Mvi to (number_of digits) ≡ i) × (ws ≡ reg_name to ∷ codes "," ∷ digits ∷ [])
unfolding mvi_operands
mvi_operands_some ws i h =
    let to = step_some _ (register ws) i h in
    let a = step_some _ (literal (codes ",") to.0.1) i to.2 in
    let n = step_some _ (number a.0) i a.2 in
    let d = number_some a.0 n.0 n.1 in
    let parts = cond_some (nat_le n.0.0 255 && at_end n.0.1) (Mvi to.0.0 n.0.0) i n.2 in
    let tests = both (nat_le n.0.0 255) (at_end n.0.1) parts.0 in
    let n1 = d.3 ∙ ap (λ rest. d.0 ∷ rest) (at_end_nil n.0.1 tests.1) in
    let a1 = literal_some (codes ",") to.0.1 a.0 a.1 ∙ ap (λ rest. codes "," ∷ rest) n1 in
    (to.0.0, d.0, d.1, subst (λ v. v ≤ 255) (sym d.2) (le_from_true n.0.0 255 tests.0), ap (Mvi to.0.0) d.2 ∙ parts.1, register_some ws to.0 to.1 ∙ ap (λ rest. reg_name to.0.0 ∷ rest) a1)

mov_operands_some : (ws : Line) (i : Transfer) → mov_operands ws ≡ Some i → (to : Reg) × (from : Reg) × (Mov to from ≡ i) × (ws ≡ reg_name to ∷ codes "," ∷ reg_name from ∷ [])
unfolding mov_operands
mov_operands_some ws i h =
    let to = step_some _ (register ws) i h in
    let a = step_some _ (literal (codes ",") to.0.1) i to.2 in
    let from = step_some _ (register a.0) i a.2 in
    let end = ended from.0.1 (Mov to.0.0 from.0.0) i from.2 in
    let f1 = register_some a.0 from.0 from.1 ∙ ap (λ rest. reg_name from.0.0 ∷ rest) end.0 in
    let a1 = literal_some (codes ",") to.0.1 a.0 a.1 ∙ ap (λ rest. codes "," ∷ rest) f1 in
    (to.0.0, from.0.0, end.1, register_some ws to.0 to.1 ∙ ap (λ rest. reg_name to.0.0 ∷ rest) a1)

pub move_line_some : (ws : Line) (i : Transfer) → move_line ws ≡ Some i → (m : Move) × IsMove m × (transfer_of m ≡ i) × (ws ≡ move_words m)
unfolding move_line
move_line_some ws i h =
    let w = step_some _ (word ws) i h in
    elim (bytes_eq w.0.0 (codes "MVI")) as (λ b. bytes_eq w.0.0 (codes "MVI") ≡ b → cond b (mvi_operands w.0.1) (if bytes_eq w.0.0 (codes "MOV") then mov_operands w.0.1 else None) ≡ Some i → (m : Move) × IsMove m × (transfer_of m ≡ i) × (ws ≡ move_words m)) [
      | true ↦ λ t e.
          let o = mvi_operands_some w.0.1 i e in
          (Load o.0 o.1, (o.2, o.3), o.4, word_some ws w.0 w.1 ∙ ap (λ v. v ∷ w.0.1) (same_bytes w.0.0 (codes "MVI") t) ∙ ap (λ rest. codes "MVI" ∷ rest) o.5)
      | false ↦ λ t e.
          let parts = chosen_some (bytes_eq w.0.0 (codes "MOV")) (mov_operands w.0.1) i e in
          let o = mov_operands_some w.0.1 i parts.1 in
          (Copy o.0 o.1, tt, o.2, word_some ws w.0 w.1 ∙ ap (λ v. v ∷ w.0.1) (same_bytes w.0.0 (codes "MOV") parts.0) ∙ ap (λ rest. codes "MOV" ∷ rest) o.3)
    ] refl w.2
