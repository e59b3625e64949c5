-- The names that statements declare, one statement after another.
use Rattle.std.proofs.Common.{◌≡◌, ℕ, ◌+◌, ◌<◌, Bool, true, false, cond, ◌||◌, List, length, get_or, take, Option, Some, None, refl, sym, ap, ◌∙◌}
use Rattle.std.specs.Prelude.{nat_eq}
use Rattle.std.specs.Option.{is_some}
use Rattle.std.specs.Cmp.Lexicographic.{pointwise}
use Rattle.std.proofs.lemmas.Cmp.{nat_list_eq_equiv}
use Rattle.std.proofs.lemmas.List.Folds.{list_any_more}
use Rattle.sp_stmt.specs.declared.statement.Statement.{Statement}
use Rattle.sp_asm.specs.Names.{name_of, is_named, defines}
use Rattle.sp_asm.specs.code.Passes.{Declares}

or_false : (a : Bool) → (a || false) ≡ a
or_false true = refl
or_false false = refl

with_one : (same : Bool) (o : Option ℕ) → is_some (cond same (Some 0) o) ≡ (is_some o || same)
with_one true None = refl
with_one true (Some v) = refl
with_one false None = refl
with_one false (Some v) = refl

module _ (statements : List Statement) (i : ℕ) (s : Statement) (names new : List ℕ → Option ℕ) (lt : i < length statements) (is : s ≡ get_or statements i s) (so_far : Declares names (take i statements)) where
  defines_more : (q : List ℕ) → defines (take (i + 1) statements) q ≡ (defines (take i statements) q || is_named q (name_of s))
  defines_more q =
      let p = λ (x : Statement). is_named q (name_of x) in
      list_any_more p statements i s lt ∙ ap (λ (x : Statement). defines (take i statements) q || p x) (sym is)

  pub declares_name : (name : List ℕ) → name_of s ≡ Some name → ((q : List ℕ) → new q ≡ cond (pointwise nat_eq name q) (Some 0) (names q)) → Declares new (take (i + 1) statements)
  declares_name name named added q =
      ap is_some (added q) ∙ with_one (pointwise nat_eq name q) (names q)
      ∙ ap (λ b. b || pointwise nat_eq name q) (so_far q)
      ∙ ap (λ b. defines (take i statements) q || b) (nat_list_eq_equiv.symm name q ∙ ap (is_named q) (sym named))
      ∙ sym (defines_more q)

  pub declares_none : name_of s ≡ None → ((q : List ℕ) → new q ≡ names q) → Declares new (take (i + 1) statements)
  declares_none none kept q =
      ap is_some (kept q) ∙ so_far q ∙ sym (or_false (defines (take i statements) q))
      ∙ ap (λ b. defines (take i statements) q || b) (ap (is_named q) (sym none))
      ∙ sym (defines_more q)
