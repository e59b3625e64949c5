-- Reading a list of registers, one after another.
use Rattle.std.proofs.Common.{◌≡◌, ℕ, ◌<◌, true, false, cond, List, [], ◌∷◌, ◌++◌, length, refl, sym, ap, ◌∙◌, Some, None, arith, append_assoc}
use Rattle.std.specs.Prelude.{Option, option_and_then, bytes_eq, codes}
use Rattle.std.specs.Option.{option_map}
use Rattle.sp_base.specs.declared.location.Reg.{Reg}
use Rattle.sp_first.specs.Reading.{Line, at_end, literal, register, reg_named, next_register, more_registers}

-- what the next register and the rest of the list make
abbrev listed : Option (Reg × Line) → Option (List Reg)
listed next = option_and_then (λ p. option_map (λ rs. p.0 ∷ rs) (more_registers p.1)) next

mapped : {X Y : Type 0} (f : X → Y) (o : Option X) → option_and_then (λ x. Some (f x)) o ≡ option_map f o
mapped f None = refl
mapped f (Some x) = refl

more_registers-next : (ws : Line) → at_end ws ≡ false → more_registers ws ≡ listed (next_register ws)
unfolding next_register literal register
more_registers-next [] h = cc
more_registers-next (w ∷ []) h = elim (bytes_eq w (codes ",")) as (λ b. None ≡ listed (option_and_then register (cond b (Some []) None))) [ true ↦ refl | false ↦ refl ]
more_registers-next (w ∷ v ∷ ws) h =
    elim (bytes_eq w (codes ",")) as (λ b. cond b (option_and_then (λ r. option_and_then (λ rs. Some (r ∷ rs)) (more_registers ws)) (reg_named v)) None ≡ listed (option_and_then register (cond b (Some (v ∷ ws)) None))) [
      | true ↦ elim (reg_named v) as (λ o. option_and_then (λ r. option_and_then (λ rs. Some (r ∷ rs)) (more_registers ws)) o ≡ listed (option_and_then (λ r. Some (r, ws)) o)) [
        | None ↦ refl
        | Some r ↦ mapped (λ rs. r ∷ rs) (more_registers ws)
      ]
      | false ↦ refl
    ]

pub none_follows : (ws : Line) (items : List Reg) (all : Option (List Reg)) → at_end ws ≡ false → next_register ws ≡ None → option_map (λ rs. items ++ rs) (more_registers ws) ≡ all → all ≡ None
none_follows ws items all h none is = sym is ∙ ap (option_map (λ rs. items ++ rs)) (more_registers-next ws h ∙ ap listed none)

regrouped : (items : List Reg) (r : Reg) (more : Option (List Reg)) → option_map (λ rs. (items ++ r ∷ []) ++ rs) more ≡ option_map (λ rs. items ++ rs) (option_map (λ rs. r ∷ rs) more)
regrouped items r None = refl
regrouped items r (Some rs) = ap Some (append_assoc items (r ∷ []) rs)

pub register_follows : (ws : Line) (items : List Reg) (all : Option (List Reg)) (r : Reg) (rest : Line) → at_end ws ≡ false → next_register ws ≡ Some (r, rest) → option_map (λ rs. items ++ rs) (more_registers ws) ≡ all → option_map (λ rs. (items ++ r ∷ []) ++ rs) (more_registers rest) ≡ all
register_follows ws items all r rest h next is =
    regrouped items r (more_registers rest) ∙ ap (option_map (λ rs. items ++ rs)) (sym (more_registers-next ws h ∙ ap listed next)) ∙ is

register_shorter : (w : List ℕ) (ws : Line) (p : Reg × Line) → register (w ∷ ws) ≡ Some p → p.1 ≡ ws
unfolding register
register_shorter w ws p = elim (reg_named w) as (λ o. option_and_then (λ r. Some (r, ws)) o ≡ Some p → p.1 ≡ ws) [ None ↦ λ e. cc | Some r ↦ λ e. let same : (r, ws) ≡ p = cc in sym (ap (λ (q : Reg × Line). q.1) same) ]

pub next_register_shorter : (ws : Line) (p : Reg × Line) → next_register ws ≡ Some p → length p.1 < length ws
unfolding next_register literal register
next_register_shorter [] p e = cc
next_register_shorter (w ∷ []) p e = absurd (elim (bytes_eq w (codes ",")) as (λ b. option_and_then register (cond b (Some []) None) ≡ Some p → ⊥) [ true ↦ λ e. cc | false ↦ λ e. cc ] e)
next_register_shorter (w ∷ v ∷ ws) p e =
    elim (bytes_eq w (codes ",")) as (λ b. option_and_then register (cond b (Some (v ∷ ws)) None) ≡ Some p → length p.1 < length (w ∷ v ∷ ws)) [
      | true ↦ λ e. let rest = ap length (register_shorter v ws p e) in omega (arith, rest)
      | false ↦ λ e. cc
    ] e
