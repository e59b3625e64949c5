-- A source has a form exactly where it is read, and what is read is what the form says.
use Rattle.std.proofs.Common.{◌≡◌, ℕ, zero, suc, get_or, ◌<◌, ◌≤◌, true, false, cond, ◌&&◌, List, [], ◌∷◌, ◌++◌, length, map, refl, sym, ap, subst, ◌∙◌, Some, None, arith, ◌⊎◌, inl, inr}
use Rattle.std.specs.Prelude.{Option, option_and_then, nat_le, bytes_eq, codes, is_some, Contains, if◌then◌else◌, ◌==◌}
use Rattle.std.specs.List.{list_all, AllByRecursion}
use Rattle.std.proofs.lemmas.Option.{cond_some}
use Rattle.std.proofs.lemmas.List.{length-map}
use Rattle.std.proofs.lemmas.Bool.Decides.{nat_tests}
use Rattle.sp_base.specs.declared.location.Reg.{Reg}
use Rattle.sp_base.specs.declared.location.Reg.TheVariants as reg
use Rattle.sp_first.specs.declared.transfer.Transfer.{Transfer}
use Rattle.sp_first.specs.declared.transfer.Transfer.TheVariants.{Mvi, Mov}
use Rattle.sp_isa.specs.Code.{reg_code}
use Rattle.sp_first.specs.Words.{lines, words}
use Rattle.sp_first.specs.Form.{Form, Move, Load, Copy, reg_name, comma_list, move_words, labelled, form_words, IsRoutineName, IsNumber, IsMove, number_of, CopiesSet, HasForm}
use Rattle.sp_first.specs.Program.{Reading, transfer_of, reading_of, same_reg, last_value}
use Rattle.sp_first.specs.Reading.{Line, literal, stack_line, routine_line, post_line, changes_line, move_line, is_words, is_ret_line, program_lines, is_last_line, copies_set, first_line, Header, header_of, program_of, reading_of_words, is_short, read_source, register, number}
use Rattle.sp_first.proofs.Steps.{same_bytes, both, and_true, both3, and3_true, le_true, le_from_true, all_true, all_from_true, step_some, chosen_some, same_some, literal_is, literal_some, at_end_nil}
use Rattle.sp_first.proofs.LineLaws.{reg_named_is, is_number_true, is_routine_name_true, stack_line_some, routine_line_some, post_line_some, changes_line_is, changes_line_some, move_line_is, move_line_some}

-- ---- the lines of the program
ret_line : Line
ret_line = codes "RET" ∷ []

end_line : Line
end_line = codes ";#" ∷ codes "end" ∷ []

-- the program's lines without the label, and the last line
abbrev body : List Move → List Line
body moves = map move_words moves ++ (codes "RET" ∷ []) ∷ (codes ";#" ∷ codes "end" ∷ []) ∷ []

no_ret : (m : Move) → is_ret_line (move_words m) ≡ false
no_ret (Load to digits) = refl
no_ret (Copy to from) = refl

program_lines_is : (moves : List Move) → AllByRecursion IsMove moves → program_lines (body moves) ≡ Some (map transfer_of moves, (codes ";#" ∷ codes "end" ∷ []) ∷ [])
program_lines_is [] h = refl
program_lines_is (m ∷ moves) h = rw (no_ret m, move_line_is m h.0, program_lines_is moves h.1) refl

is_words_some : (texts : List (List ℕ)) (ws : Line) → is_words texts ws ≡ true → ws ≡ texts
is_words_some [] ws h = at_end_nil ws h
is_words_some (text ∷ texts) [] h = cc
is_words_some (text ∷ texts) (w ∷ ws) h =
    let parts = both (bytes_eq w text) (is_words texts ws) h in
    ap (λ v. v ∷ ws) (same_bytes w text parts.0) ∙ ap (λ r. text ∷ r) (is_words_some texts ws parts.1)

is_last_line_some : (wss : List Line) → is_last_line wss ≡ true → wss ≡ (codes ";#" ∷ codes "end" ∷ []) ∷ []
is_last_line_some [] h = cc
is_last_line_some (line ∷ []) h = ap (λ l. l ∷ []) (is_words_some (codes ";#" ∷ codes "end" ∷ []) line h)
is_last_line_some (line ∷ next ∷ rest) h = cc

-- moves that were read
record ReadMoves (wss : List Line) (instrs : List Transfer) (below : List Line) : Type 0 where
  moves : List Move
  good : AllByRecursion IsMove moves
  same : map transfer_of moves ≡ instrs
  spelled : wss ≡ map move_words moves ++ (codes "RET" ∷ []) ∷ below

program_lines_some : (wss : List Line) (p : List Transfer × List Line) → program_lines wss ≡ Some p → ReadMoves wss p.0 p.1
program_lines_some [] p h = cc
program_lines_some (line ∷ rest) p h =
    elim (is_ret_line line) as (λ b. is_ret_line line ≡ b → cond b (Some ([], rest)) (option_and_then (λ i. option_and_then (λ (q : List Transfer × List Line). Some (i ∷ q.0, q.1)) (program_lines rest)) (move_line line)) ≡ Some p → ReadMoves (line ∷ rest) p.0 p.1) [
      | true ↦ λ t e.
          let same = same_some ([], rest) p e in
          record {
            moves = [];
            good = tt;
            same = ap (λ (q : List Transfer × List Line). q.0) same;
            spelled = ap (λ l. l ∷ rest) (is_words_some (codes "RET" ∷ []) line t) ∙ ap (λ (q : List Transfer × List Line). (codes "RET" ∷ []) ∷ q.1) same;
          }
      | false ↦ λ t e.
          let i = step_some _ (move_line line) p e in
          let q = step_some _ (program_lines rest) p i.2 in
          let same = same_some (i.0 ∷ q.0.0, q.0.1) p q.2 in
          let m = move_line_some line i.0 i.1 in
          let more = program_lines_some rest q.0 q.1 in
          record {
            moves = m.0 ∷ more.moves;
            good = (m.1, more.good);
            same = ap (λ j. j ∷ map transfer_of more.moves) m.2 ∙ ap (λ is. i.0 ∷ is) more.same ∙ ap (λ (r : List Transfer × List Line). r.0) same;
            spelled = ap (λ l. l ∷ rest) m.3 ∙ ap (λ r. move_words m.0 ∷ r) more.spelled ∙ ap (λ (r : List Transfer × List Line). move_words m.0 ∷ map move_words more.moves ++ (codes "RET" ∷ []) ∷ r.1) same;
          }
    ] refl h

-- ---- copies
same_reg-refl : (r : Reg) → same_reg r r ≡ true
same_reg-refl reg.B = refl
same_reg-refl reg.C = refl
same_reg-refl reg.D = refl
same_reg-refl reg.E = refl
same_reg-refl reg.H = refl
same_reg-refl reg.L = refl
same_reg-refl reg.A = refl

pub reg_at : ℕ → Reg
reg_at n = if n == 0 then reg.B else (if n == 1 then reg.C else (if n == 2 then reg.D else (if n == 3 then reg.E else (if n == 4 then reg.H else (if n == 5 then reg.L else reg.A)))))

reg_at-code : (r : Reg) → reg_at (reg_code r) ≡ r
unfolding reg_at
reg_at-code reg.B = refl
reg_at-code reg.C = refl
reg_at-code reg.D = refl
reg_at-code reg.E = refl
reg_at-code reg.H = refl
reg_at-code reg.L = refl
reg_at-code reg.A = refl

pub same_reg_true : (x y : Reg) → same_reg x y ≡ true → x ≡ y
same_reg_true x y h = let e : reg_code x ≡ reg_code y = grind (arith, nat_tests) in sym (reg_at-code x) ∙ ap reg_at e ∙ reg_at-code y

contains_at : (x y : Reg) (xs : List Reg) (k : ℕ) → k < length (x ∷ xs) → get_or (x ∷ xs) k y ≡ y → (x ≡ y) ⊎ Contains xs y
contains_at x y xs zero h e = inl e
contains_at x y xs (suc k) h e = inr (k, omega arith, e)

pub contains_cons : (x y : Reg) (xs : List Reg) → Contains (x ∷ xs) y → (x ≡ y) ⊎ Contains xs y
contains_cons x y xs h = contains_at x y xs h.0 h.1 h.2

pub contains_head : (x y : Reg) (xs : List Reg) → x ≡ y → Contains (x ∷ xs) y
contains_head x y xs e = (0, omega arith, e)

pub contains_tail : (x y : Reg) (xs : List Reg) → Contains xs y → Contains (x ∷ xs) y
contains_tail x y xs h = (suc h.0, omega (arith, h.1), h.2)

pub same_reg_is : (x y : Reg) → x ≡ y → same_reg x y ≡ true
same_reg_is x y e = ap (same_reg x) (sym e) ∙ same_reg-refl x

-- the registers of the list are those that the instructions set
record AreSet (set : List Reg) (above : List Transfer) : Type 0 where
  forth : (r : Reg) → Contains set r → is_some (last_value above r) ≡ true
  back : (r : Reg) → is_some (last_value above r) ≡ true → Contains set r

-- one more register is set, whose value is known
also_set : (set : List Reg) (above : List Transfer) (to : Reg) (value : Option ℕ) (i : Transfer) → ((r : Reg) → last_value (i ∷ above) r ≡ (if same_reg to r then value else last_value above r)) → is_some value ≡ true → AreSet set above → AreSet (to ∷ set) (i ∷ above)
also_set set above to value i is known h = record {
  forth = λ r c. ap is_some (is r) ∙ elim (same_reg to r) as (λ b. same_reg to r ≡ b → is_some (cond b value (last_value above r)) ≡ true) [
    | true ↦ λ t. known
    | false ↦ λ t. elim (contains_cons to r set c) [ inl e ↦ absurd (let clash : true ≡ false = sym (same_reg_is to r e) ∙ t in cc) | inr d ↦ h.forth r d ]
  ] refl;
  back = λ r e. elim (same_reg to r) as (λ b. same_reg to r ≡ b → is_some (cond b value (last_value above r)) ≡ true → Contains (to ∷ set) r) [
    | true ↦ λ t _. contains_head to r set (same_reg_true to r t)
    | false ↦ λ t some. contains_tail to r set (h.back r some)
  ] refl (sym (ap is_some (is r)) ∙ e);
}

load_set : (set : List Reg) (above : List Transfer) (to : Reg) (byte : ℕ) → AreSet set above → AreSet (to ∷ set) (Mvi to byte ∷ above)
load_set set above to byte h = also_set set above to (Some byte) (Mvi to byte) (λ r. refl) refl h

copy_set : (set : List Reg) (above : List Transfer) (to from : Reg) → AreSet set above → Contains set from → AreSet (to ∷ set) (Mov to from ∷ above)
copy_set set above to from h there = also_set set above to (last_value above from) (Mov to from) (λ r. refl) (h.forth from there) h

copies_set_is : (set : List Reg) (above : List Transfer) (moves : List Move) → AreSet set above → CopiesSet set moves → copies_set above (map transfer_of moves) ≡ true
copies_set_is set above [] a h = refl
copies_set_is set above (Load to digits ∷ moves) a h = copies_set_is (to ∷ set) (Mvi to (number_of digits) ∷ above) moves (load_set set above to (number_of digits) a) h
copies_set_is set above (Copy to from ∷ moves) a h = and_true _ _ (a.forth from h.0) (copies_set_is (to ∷ set) (Mov to from ∷ above) moves (copy_set set above to from a h.0) h.1)

copies_set_some : (set : List Reg) (above : List Transfer) (moves : List Move) → AreSet set above → copies_set above (map transfer_of moves) ≡ true → CopiesSet set moves
copies_set_some set above [] a h = tt
copies_set_some set above (Load to digits ∷ moves) a h = copies_set_some (to ∷ set) (Mvi to (number_of digits) ∷ above) moves (load_set set above to (number_of digits) a) h
copies_set_some set above (Copy to from ∷ moves) a h =
    let parts = both (is_some (last_value above from)) _ h in
    let there = a.back from parts.0 in
    (there, copies_set_some (to ∷ set) (Mov to from ∷ above) moves (copy_set set above to from a there) parts.1)

none_set : AreSet [] []
none_set = record { forth = λ r c. absurd (omega (arith, c.1)); back = λ r e. cc }

-- ---- the program
-- the tests behind the last line
abbrev finish : List Transfer × List Line → Option (List Transfer)
finish p = if is_last_line p.1 && nat_le (length p.0) 16 && copies_set [] p.0 then Some p.0 else None

program_first : (name : List ℕ) (line : Line) (rest : List Line) → program_of name (((name ++ codes ":") ∷ line) ∷ rest) ≡ option_and_then finish (program_lines (line ∷ rest))
unfolding program_of
program_first name line rest = ap (option_and_then (λ (l : Line). option_and_then finish (program_lines (l ∷ rest)))) (literal_is (name ++ codes ":") line)

program_labelled : (name : List ℕ) (moves : List Move) → program_of name (labelled name (body moves)) ≡ option_and_then finish (program_lines (body moves))
program_labelled name [] = program_first name _ _
program_labelled name (m ∷ moves) = program_first name _ _

program_is : (name : List ℕ) (moves : List Move) → AllByRecursion IsMove moves → length moves ≤ 16 → CopiesSet [] moves → program_of name (labelled name (body moves)) ≡ Some (map transfer_of moves)
program_is name moves good few copies =
    let short : length (map transfer_of moves) ≤ 16 = omega (arith, length-map moves transfer_of, few) in
    program_labelled name moves ∙ ap (option_and_then finish) (program_lines_is moves good)
    ∙ ap (λ b. cond b (Some (map transfer_of moves)) None) (and3_true true _ _ refl (le_true (length (map transfer_of moves)) 16 short) (copies_set_is [] [] moves none_set copies))

first_line_some : (wss : List Line) (p : Line × List Line) → first_line wss ≡ Some p → wss ≡ p.0 ∷ p.1
first_line_some [] p h = cc
first_line_some (line ∷ rest) p h = ap (λ (q : Line × List Line). q.0 ∷ q.1) (same_some (line, rest) p h)

record ReadProgram (name : List ℕ) (wss : List Line) (instrs : List Transfer) : Type 0 where
  moves : List Move
  good : AllByRecursion IsMove moves
  few : length moves ≤ 16
  copies : CopiesSet [] moves
  same : map transfer_of moves ≡ instrs
  spelled : wss ≡ labelled name (body moves)

program_some : (name : List ℕ) (wss : List Line) (instrs : List Transfer) → program_of name wss ≡ Some instrs → ReadProgram name wss instrs
unfolding program_of
program_some name wss instrs h =
    let l = step_some _ (first_line wss) instrs h in
    let line = step_some _ (literal (name ++ codes ":") l.0.0) instrs l.2 in
    let p = step_some _ (program_lines (line.0 ∷ l.0.1)) instrs line.2 in
    let parts = cond_some (is_last_line p.0.1 && nat_le (length p.0.0) 16 && copies_set [] p.0.0) p.0.0 instrs p.2 in
    let tests = both3 (is_last_line p.0.1) (nat_le (length p.0.0) 16) (copies_set [] p.0.0) parts.0 in
    let read = program_lines_some (line.0 ∷ l.0.1) p.0 p.1 in
    let short : length p.0.0 ≤ 16 = le_from_true (length p.0.0) 16 tests.1 in
    record {
      moves = read.moves;
      good = read.good;
      few = omega (arith, length-map read.moves transfer_of, ap length read.same, short);
      copies = copies_set_some [] [] read.moves none_set (ap (copies_set []) read.same ∙ tests.2);
      same = read.same ∙ parts.1;
      spelled = first_line_some wss l.0 l.1
          ∙ ap (λ first. first ∷ l.0.1) (literal_some (name ++ codes ":") l.0.0 line.0 line.1)
          ∙ ap (labelled name) (read.spelled ∙ ap (λ below. map move_words read.moves ++ (codes "RET" ∷ []) ∷ below) (is_last_line_some p.0.1 tests.0));
    }

-- ---- the header
abbrev header : Form → Header
header f = record {
  name = f.name;
  post = f.post;
  value = number_of f.digits;
  changes = codes ";#" ∷ codes "changes" ∷ comma_list f.changes;
  below = labelled f.name (body f.moves);
}

header_is : (f : Form) → IsRoutineName f.name → IsNumber f.digits → header_of (form_words f) ≡ Some (header f)
unfolding header_of stack_line routine_line post_line literal register number
header_is f name digits = rw (is_routine_name_true f.name name, reg_named_is f.post, is_number_true f.digits digits) refl

record ReadHeader (wss : List Line) (h : Header) : Type 0 where
  digits : List ℕ
  name : IsRoutineName h.name
  post : IsNumber digits
  value : number_of digits ≡ h.value
  spelled : wss ≡
      (codes ";#" ∷ codes "stack" ∷ codes "2300H" ∷ codes "," ∷ codes "23FFH" ∷ [])
      ∷ (codes ";#" ∷ codes "routine" ∷ h.name ∷ [])
      ∷ (codes ";#" ∷ codes "post" ∷ reg_name h.post ∷ codes "=" ∷ digits ∷ [])
      ∷ h.changes ∷ h.below

header_some : (wss : List Line) (h : Header) → header_of wss ≡ Some h → ReadHeader wss h
unfolding header_of
header_some wss h e =
    let l = step_some _ (first_line wss) h e in
    let a = step_some _ (stack_line l.0.0) h l.2 in
    let m = step_some _ (first_line l.0.1) h a.2 in
    let name = step_some _ (routine_line m.0.0) h m.2 in
    let n = step_some _ (first_line m.0.1) h name.2 in
    let post = step_some _ (post_line n.0.0) h n.2 in
    let o = step_some _ (first_line n.0.1) h post.2 in
    let same = same_some (record { name = name.0; post = post.0.0; value = post.0.1; changes = o.0.0; below = o.0.1 }) h o.2 in
    let routine = routine_line_some m.0.0 name.0 name.1 in
    let p = post_line_some n.0.0 post.0 post.1 in
    subst (ReadHeader wss) same (record {
      digits = p.0;
      name = routine.0;
      post = p.1;
      value = p.2;
      spelled = first_line_some wss l.0 l.1
          ∙ ap (λ first. first ∷ l.0.1) (stack_line_some l.0.0 a.0 a.1)
          ∙ ap (λ rest. (codes ";#" ∷ codes "stack" ∷ codes "2300H" ∷ codes "," ∷ codes "23FFH" ∷ []) ∷ rest) (
          first_line_some l.0.1 m.0 m.1 ∙ ap (λ first. first ∷ m.0.1) routine.1
          ∙ ap (λ rest. (codes ";#" ∷ codes "routine" ∷ name.0 ∷ []) ∷ rest) (
          first_line_some m.0.1 n.0 n.1 ∙ ap (λ first. first ∷ n.0.1) p.3
          ∙ ap (λ rest. (codes ";#" ∷ codes "post" ∷ reg_name post.0.0 ∷ codes "=" ∷ p.0 ∷ []) ∷ rest) (first_line_some n.0.1 o.0 o.1)));
    })

-- ---- a whole source
changes_is : (rs : List Reg) → 1 ≤ length rs → changes_line (codes ";#" ∷ codes "changes" ∷ comma_list rs) ≡ Some rs
changes_is [] h = absurd (omega arith)
changes_is (r ∷ rs) h = changes_line_is r rs

abbrev with_program : Header → List Reg → List Transfer → Option Reading
with_program h changes program = Some (record { name = h.name; post = h.post; value = h.value; changes = changes; program = program })

abbrev with_changes : Header → List Reg → Option Reading
with_changes h changes = option_and_then (with_program h changes) (program_of h.name h.below)

reading_is : (f : Form) → IsRoutineName f.name → IsNumber f.digits → 1 ≤ length f.changes → AllByRecursion IsMove f.moves → length f.moves ≤ 16 → CopiesSet [] f.moves → reading_of_words (form_words f) ≡ Some (reading_of f)
unfolding reading_of_words
reading_is f name digits changes good few copies =
    ap (option_and_then (λ (h : Header). option_and_then (with_changes h) (changes_line h.changes))) (header_is f name digits)
    ∙ ap (option_and_then (with_changes (header f))) (changes_is f.changes changes)
    ∙ ap (option_and_then (with_program (header f) f.changes)) (program_is f.name f.moves good few copies)

-- each form of a source is what is read
pub read_form : (source : List ℕ) (f : Form) → HasForm source f → read_source source ≡ Some (reading_of f)
unfolding read_source
read_form source f h =
    ap (λ b. cond b (reading_of_words (map words (lines source))) None) (all_true (λ l. length l ≤ 4096) is_short (λ l s. le_true (length l) 4096 s) (lines source) h.short)
    ∙ ap reading_of_words h.words ∙ reading_is f h.name h.post h.changes h.moves h.few h.copies

-- a reading, and the form from which it comes
pub record IsReadFrom (source : List ℕ) (r : Reading) : Type 0 where
  pub form : Form
  pub has : HasForm source form
  pub same : reading_of form ≡ r

-- what is read is what a form says
pub form_read : (source : List ℕ) (r : Reading) → read_source source ≡ Some r → IsReadFrom source r
unfolding read_source reading_of_words
form_read source r e =
    let short = chosen_some (list_all is_short (lines source)) (reading_of_words (map words (lines source))) r e in
    let h = step_some _ (header_of (map words (lines source))) r short.1 in
    let changes = step_some _ (changes_line h.0.changes) r h.2 in
    let program = step_some _ (program_of h.0.name h.0.below) r changes.2 in
    let same = same_some (record { name = h.0.name; post = h.0.post; value = h.0.value; changes = changes.0; program = program.0 }) r program.2 in
    let head = header_some (map words (lines source)) h.0 h.1 in
    let list = changes_line_some h.0.changes changes.0 changes.1 in
    let body = program_some h.0.name h.0.below program.0 program.1 in
    record {
      form = record { name = h.0.name; post = h.0.post; digits = head.digits; changes = changes.0; moves = body.moves };
      has = record {
        words = head.spelled ∙ ap (λ (p : Line × List Line). (codes ";#" ∷ codes "stack" ∷ codes "2300H" ∷ codes "," ∷ codes "23FFH" ∷ [])
            ∷ (codes ";#" ∷ codes "routine" ∷ h.0.name ∷ [])
            ∷ (codes ";#" ∷ codes "post" ∷ reg_name h.0.post ∷ codes "=" ∷ head.digits ∷ [])
            ∷ p.0 ∷ p.1) (λ i. (list.1 i, body.spelled i));
        short = all_from_true (λ l. length l ≤ 4096) is_short (λ l t. le_from_true (length l) 4096 t) (lines source) short.0;
        name = head.name;
        post = head.post;
        changes = list.0;
        few = body.few;
        moves = body.good;
        copies = body.copies;
      };
      same = (λ i. record { name = h.0.name; post = h.0.post; value = head.value i; changes = changes.0; program = body.same i }) ∙ same;
    }
