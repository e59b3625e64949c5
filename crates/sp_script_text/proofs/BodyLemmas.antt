-- The scripts of a text, one line after another.
use Rattle.std.proofs.Common.{◌≡◌, ◌⊎◌, ℕ, ◌+◌, ◌<◌, ◌≤◌, true, false, List, [], ◌∷◌, ◌++◌, length, drop, map, refl, sym, ap, subst, ◌∙◌, arith, length-append, append_assoc, inl, inr, true≢false, Some, None}
use Rattle.std.specs.Prelude.{Err}
use Rattle.std.specs.Borrow.{Bor}
use Rattle.std.proofs.lemmas.List.{append-nil, length-drop}
use Rattle.sp_base.specs.Lines.{Row, rows_of, line_of, size_of, lines}
use Rattle.sp_base.specs.declared.refused.Refused.{Refused}
use Rattle.sp_base.specs.declared.refused.Refused.TheVariants as refused
use Rattle.sp_base.proofs.LineLemmas.{rows_of-none}
use Rattle.sp_script_text.specs.declared.script.Title.{Title}
use Rattle.sp_script_text.specs.declared.script.Written.{Written}
use Rattle.sp_script_text.specs.declared.script.Script.{Script}
use Rattle.sp_script_text.specs.declared.refusal.ScriptKind.{ScriptKind}
use Rattle.sp_script_text.specs.declared.refusal.ScriptKind.TheVariants as kind
use Rattle.sp_script_text.specs.StepTexts.{IsStepLine}
use Rattle.sp_script_text.specs.Files.{IsIdle, IsHead, IsEnd, AreSteps, IsScript, AreScripts, IsOpen, BreaksGrammar, Outside, Inside, Unended}
use Rattle.sp_script_text.specs.code.Lines.{is_idle, is_end, head_title}
use Rattle.sp_script_text.specs.code.Bodies.{AnswersSyntax, IsWritten, IsNoStep, IsPart, IsBody, BreaksBody, AreDone}
use Rattle.sp_script_text.proofs.LineLemmas.{idle_is, idle_again, end_is, end_again, head_is, head_again}
use Rattle.sp_script_text.proofs.FileLemmas.{steps_idle, steps_more, scripts_idle, scripts_more}

-- the first line of a text, and the lines of what stands after its row
pub record Split (text line after : List ℕ) : Type 0 where
  pub lines_are : lines text ≡ line ∷ lines after
  pub shorter : length after < length text

pub split : (text line after : List ℕ) (first : Row) (size : ℕ) → rows_of text ≡ first ∷ rows_of (drop (size_of first) text) → 0 < size_of first → size_of first ≤ length text
    → line ≡ line_of first → size ≡ size_of first → after ≡ drop size text → Split text line after
split text line after first size rows some within line_is size_is after_is = record {
  lines_are = ap (map line_of) rows ∙ ap (λ (x : List ℕ). x ∷ lines (drop (size_of first) text)) (sym line_is)
      ∙ ap (λ n. line ∷ lines (drop n text)) (sym size_is) ∙ ap (λ (x : List ℕ). line ∷ lines x) (sym after_is);
  shorter = omega (arith, ap length after_is, length-drop size text, size_is, some, within);
}

no_lines : (text : List ℕ) → length text ≡ 0 → lines text ≡ []
no_lines [] none = ap (map line_of) (rows_of-none [] refl)
no_lines (byte ∷ bytes) none = absurd (omega arith)

-- ---- in a script

pub part_begins : (n : ℕ) (text : List ℕ) (next : ℕ) → next ≡ n → IsPart n text [] next text
part_begins n text next e = record { body = []; whole = refl; are = refl; place = omega (arith, e); fits = omega (arith, e) }

joined : (all body : List (List ℕ)) (line : List ℕ) (rest more : List (List ℕ)) → all ≡ body ++ rest → rest ≡ line ∷ more → all ≡ (body ++ line ∷ []) ++ more
joined all body line rest more e g = e ∙ ap (λ w. body ++ w) g ∙ sym (append_assoc body (line ∷ []) more)

one_longer : (body : List (List ℕ)) (line : List ℕ) (n at : ℕ) → at ≡ n + length body → at + 1 ≡ n + length (body ++ line ∷ [])
one_longer body line n at e = omega (arith, length-append body (line ∷ []), e)

pub part_idle : (n : ℕ) (text : List ℕ) (ws : List Written) (next : ℕ) (rest line after : List ℕ) → IsPart n text ws next rest → Split rest line after → is_idle line ≡ true → IsPart n text ws (next + 1) after
part_idle n text ws next rest line after h s idle = record {
  body = h.body ++ line ∷ [];
  whole = joined (lines text) h.body line (lines rest) (lines after) h.whole s.lines_are;
  are = steps_idle n h.body ws line h.are (idle_is line idle);
  place = one_longer h.body line n next h.place;
  fits = omega (arith, h.fits, s.shorter);
}

pub part_step : (n : ℕ) (text : List ℕ) (ws : List Written) (next : ℕ) (rest line after : List ℕ) (w : Written) (new : List Written) → IsPart n text ws next rest → Split rest line after → IsWritten next line w → new ≡ ws ++ w ∷ []
    → IsPart n text new (next + 1) after
part_step n text ws next rest line after w new h s is e = record {
  body = h.body ++ line ∷ [];
  whole = joined (lines text) h.body line (lines rest) (lines after) h.whole s.lines_are;
  are = subst (AreSteps n (h.body ++ line ∷ [])) (ap (λ x. ws ++ x ∷ []) (sym is.0) ∙ sym e) (steps_more n h.body ws line next h.place h.are is.1);
  place = one_longer h.body line n next h.place;
  fits = omega (arith, h.fits, s.shorter);
}

abbrev pub script_of : Title → ℕ → List Written → ℕ → Script
script_of title line steps end = record { title = title; line = record { 0 = line }; steps = steps; end = record { 0 = end } }

pub body_ends : (title : Title) (number : ℕ) (text : List ℕ) (ws : List Written) (next : ℕ) (rest line : List ℕ) (after : Bor (List ℕ)) (kept : List Written) → IsPart (number + 1) text ws next rest → Split rest line after.now → is_end line ≡ true
    → kept ≡ ws → IsBody title number text (script_of title number kept next, next + 1, after)
body_ends title number text ws next rest line after kept h s ends e = record {
  body = h.body;
  last = line;
  whole = h.whole ∙ ap (λ w. h.body ++ w) s.lines_are;
  title_is = refl;
  line = refl;
  steps = subst (AreSteps (number + 1) h.body) (sym e) h.are;
  ends = end_is line ends;
  end = h.place;
  next = omega (arith, h.place);
  fits = omega (arith, h.fits, s.shorter);
}

pub body_open : (number : ℕ) (text : List ℕ) (ws : List Written) (next : ℕ) (rest : List ℕ) → IsPart (number + 1) text ws next rest → length rest ≡ 0 → BreaksBody number text next
body_open number text ws next rest h none = record {
  body = h.body;
  rest = lines rest;
  whole = h.whole;
  place = h.place;
  steps = (ws, h.are);
  breaks = inl (no_lines rest none);
}

pub body_breaks : (number : ℕ) (text : List ℕ) (ws : List Written) (next : ℕ) (rest line after : List ℕ) (at : ℕ) → IsPart (number + 1) text ws next rest → Split rest line after → is_end line ≡ false → is_idle line ≡ false
    → IsNoStep next line at → BreaksBody number text at
body_breaks number text ws next rest line after at h s not_end not_idle other = record {
  body = h.body;
  rest = lines rest;
  whole = h.whole;
  place = other.0 ∙ h.place;
  steps = (ws, h.are);
  breaks = inr (line, lines after, s.lines_are, (λ idle. true≢false (sym (idle_again line idle) ∙ not_idle)), (λ ends. true≢false (sym (end_again line ends) ∙ not_end)), other.1);
}

-- a refusal of a step as that of its script
pub body_refused : {A B : Type 0} (Right : A → Type 0) (Good : B → Type 0) (e : Refused ScriptKind) (number : ℕ) (text : List ℕ) (ws : List Written) (next : ℕ) (rest line after : List ℕ)
    → IsPart (number + 1) text ws next rest → Split rest line after → is_end line ≡ false → is_idle line ≡ false
    → AnswersSyntax Right (IsNoStep next line) (Err e) → AnswersSyntax Good (BreaksBody number text) (Err e)
body_refused Right Good (refused.At at kind.Syntax) number text ws next rest line after h s not_end not_idle other = body_breaks number text ws next rest line after at.0 h s not_end not_idle other
body_refused Right Good (refused.At at kind.Duplicate) number text ws next rest line after h s not_end not_idle other = other
body_refused Right Good refused.Memory number text ws next rest line after h s not_end not_idle other = tt

-- ---- between scripts

pub done_begins : (text : List ℕ) → AreDone text [] 1 text
done_begins text = record { done = []; whole = refl; are = tt; place = refl; fits = omega arith }

pub done_idle : (text : List ℕ) (ss : List Script) (number : ℕ) (rest line after : List ℕ) → AreDone text ss number rest → Split rest line after → is_idle line ≡ true → AreDone text ss (number + 1) after
done_idle text ss number rest line after h s idle = record {
  done = h.done ++ line ∷ [];
  whole = joined (lines text) h.done line (lines rest) (lines after) h.whole s.lines_are;
  are = scripts_idle 1 h.done ss line h.are (idle_is line idle);
  place = omega (arith, h.place, length-append h.done (line ∷ []));
  fits = omega (arith, h.fits, s.shorter);
}

own_lines : (line : List ℕ) (body : List (List ℕ)) (last : List ℕ) (more : List (List ℕ)) → (line ∷ (body ++ last ∷ [])) ++ more ≡ line ∷ (body ++ last ∷ more)
own_lines line body last more = ap (λ w. line ∷ w) (append_assoc body (last ∷ []) more)

pub done_script : (text : List ℕ) (ss : List Script) (number : ℕ) (rest line after : List ℕ) (title : Title) (found : Script × ℕ × Bor (List ℕ)) (new : List Script)
    → AreDone text ss number rest → Split rest line after → head_title line ≡ Some title → IsBody title number after found → new ≡ ss ++ found.0 ∷ [] → AreDone text new found.1 found.2.now
done_script text ss number rest line after title found new h s head b e =
    let own : List (List ℕ) = line ∷ (b.body ++ b.last ∷ []) in
    let at : number ≡ 1 + length h.done = omega (arith, h.place) in
    let is : IsScript number own found.0 = record {
      head = line;
      body = b.body;
      last = b.last;
      whole = refl;
      begins = subst (λ t. IsHead t line) (sym b.title_is) (head_is line title head);
      line = b.line;
      steps = b.steps;
      ends = b.ends;
      end = b.end;
    } in
    record {
      done = h.done ++ own;
      whole = h.whole ∙ ap (λ w. h.done ++ w) (s.lines_are ∙ ap (λ w. line ∷ w) b.whole ∙ sym (own_lines line b.body b.last (lines found.2.now))) ∙ sym (append_assoc h.done own (lines found.2.now));
      are = subst (AreScripts 1 (h.done ++ own)) (sym e) (scripts_more 1 h.done own ss found.0 number at h.are is);
      place = omega (arith, b.next, h.place, length-append h.done own, length-append b.body (b.last ∷ []));
      fits = omega (arith, h.fits, s.shorter, b.fits);
    }

pub done_all : (text : List ℕ) (ss : List Script) (number : ℕ) (rest : List ℕ) → AreDone text ss number rest → length rest ≡ 0 → AreScripts 1 (lines text) ss
done_all text ss number rest h none =
    subst (λ w. AreScripts 1 w ss) (sym (h.whole ∙ ap (λ w. h.done ++ w) (no_lines rest none) ∙ append-nil h.done)) h.are

none_head : (line : List ℕ) → head_title line ≡ None → (title : Title) → IsHead title line → ⊥
none_head line e title h = let clash = sym (head_again line title h) ∙ e in absurd cc

pub done_breaks : (text : List ℕ) (ss : List Script) (number : ℕ) (rest line after : List ℕ) → AreDone text ss number rest → Split rest line after → is_idle line ≡ false → head_title line ≡ None → BreaksGrammar (lines text) number
done_breaks text ss number rest line after h s not_idle none = Outside (record {
  above = h.done;
  scripts = ss;
  line = line;
  below = lines after;
  whole = h.whole ∙ ap (λ w. h.done ++ w) s.lines_are;
  place = h.place;
  before = h.are;
  not_idle = λ idle. true≢false (sym (idle_again line idle) ∙ not_idle);
  not_head = none_head line none;
})

pub done_body_breaks : (text : List ℕ) (ss : List Script) (number : ℕ) (rest line after : List ℕ) (title : Title) (at : ℕ) → AreDone text ss number rest → Split rest line after → head_title line ≡ Some title → BreaksBody number after at
    → BreaksGrammar (lines text) at
done_body_breaks text ss number rest line after title at h s head b = by b.breaks
  where
    above : List (List ℕ)
    above = h.done ++ line ∷ b.body

    whole : lines text ≡ above ++ b.rest
    whole = h.whole ∙ ap (λ w. h.done ++ w) (s.lines_are ∙ ap (λ w. line ∷ w) b.whole) ∙ sym (append_assoc h.done (line ∷ b.body) b.rest)

    open_at : (all : List (List ℕ)) → all ≡ above → IsOpen all
    open_at all e = record {
      done = h.done;
      scripts = ss;
      head = line;
      title = title;
      body = b.body;
      steps = b.steps.0;
      whole = e;
      before = h.are;
      begins = head_is line title head;
      are = subst (λ k. AreSteps k b.body b.steps.0) (omega (arith, h.place)) b.steps.1;
    }

    long : length above ≡ length h.done + (1 + length b.body)
    long = omega (arith, length-append h.done (line ∷ b.body))

    by : (b.rest ≡ []) ⊎ ((broken : List ℕ) × (below : List (List ℕ)) × (b.rest ≡ broken ∷ below) × (IsIdle broken → ⊥) × (IsEnd broken → ⊥) × (IsStepLine broken → ⊥)) → BreaksGrammar (lines text) at
    by (inl none) =
        let all : lines text ≡ above = whole ∙ ap (λ w. above ++ w) none ∙ append-nil above in
        Unended (record { inside = open_at (lines text) all; place = omega (arith, b.place, h.place, ap length all, long) })
    by (inr g) = Inside (record {
      above = above;
      line = g.0;
      below = g.1;
      whole = whole ∙ ap (λ w. above ++ w) g.2;
      place = omega (arith, b.place, h.place, long);
      before = open_at above refl;
      not_idle = g.3;
      not_end = g.4;
      not_step = g.5;
    })

pub all_refused : {A B : Type 0} (Right : A → Type 0) (Good : B → Type 0) (e : Refused ScriptKind) (text : List ℕ) (ss : List Script) (number : ℕ) (rest line after : List ℕ) (title : Title)
    → AreDone text ss number rest → Split rest line after → head_title line ≡ Some title
    → AnswersSyntax Right (BreaksBody number after) (Err e) → AnswersSyntax Good (BreaksGrammar (lines text)) (Err e)
all_refused Right Good (refused.At at kind.Syntax) text ss number rest line after title h s head b = done_body_breaks text ss number rest line after title at.0 h s head b
all_refused Right Good (refused.At at kind.Duplicate) text ss number rest line after title h s head b = b
all_refused Right Good refused.Memory text ss number rest line after title h s head b = tt
