-- Translation by example, and premises that are met.
use Rattle.std.proofs.Common.{ℕ, refl, arith, pos, ℤ}
use Rattle.std.proofs.lemmas.List.Elements.{All-nil}
use Rattle.sp_isa.specs.Core.{Core, at}
use Rattle.sp_isa.proofs.Cases.{each_loc}
use Rattle.sp_model.specs.Note.{Frame, shown}
use Rattle.sp_term.specs.declared.var.Var.{Var}
use Rattle.sp_term.specs.declared.var.Var.TheVariants as var
use Rattle.sp_term.specs.Value.{Env}
use Rattle.sp_trans.specs.Symbolic.{Symbolic, with_term, joined}
use Rattle.sp_trans.specs.Translation.{applied, increased, with_arg_term, arg_term, with_szp_term}
use Rattle.sp_trans.specs.Meaning.{IsValueOf, IsInStack}
use Rattle.sp_trans.specs.Examples.{JoinsParts, Increases, NumbersNames, TranslatesByExample, start, PremisesAreMet}

joins : JoinsParts
unfolding joined
joins = record { parts = refl; two_terms = refl; other_quotient = refl; other_remainder = refl; exchanged = refl }

increases : (g : Symbolic) (j : ℕ) → Increases g j
unfolding applied increased with_arg_term arg_term with_szp_term with_term
increases g j = record { register = refl; carry = refl }

names : (g0 g : Symbolic) → NumbersNames g0 g
names g0 g = record { nested = refl; hidden = refl; beside = refl }

pub translates_by_example : TranslatesByExample
translates_by_example = record { joins = joins; increases = increases; words = λ w v. record { first = refl; second = refl }; names = names }

-- the environment of a core's own values
abbrev values : Core → Var → ℤ
values core (var.Now x) = pos (at x core)
values core _ = pos 0

abbrev own : Frame → Core → Env
own f core = record { int = values core; map = λ v. shown f core.cells }

own_value : (f : Frame) (core : Core) → IsValueOf f (own f core) start core
own_value f core = record {
  locations = each_loc _ (record { is = refl }) (record { is = refl }) (record { is = refl }) (record { is = refl }) (record { is = refl }) (record { is = refl }) (record { is = refl }) (record { is = refl }) (record { is = refl }) (record { is = refl }) (record { is = refl }) (record { is = refl });
  memory = λ z. refl;
  slots = tt;
}

pub premises_are_met : PremisesAreMet
premises_are_met = record {
  value = λ f core. (own f core, own_value f core);
  push = λ f core region is low high. record {
    form = tt;
    region = region;
    places = λ k some less. absurd (omega arith);
    pointer = λ none. omega arith;
    room = λ p. (omega arith, omega arith);
    words = omega arith;
    cells = All-nil (λ a. ¬ IsInStack f a);
  };
}
