-- The environment of a run has its values.
use Rattle.std.proofs.Common.{◌≡◌, ℕ, zero, suc, ◌+◌, ◌-◌, List, [], ◌∷◌, ◌++◌, slice_get, get_or, Some, refl, ap, ◌∙◌, arith, pos}
use Rattle.std.proofs.lemmas.Option.{get_or_from_slice_get}
use Rattle.sp_isa.specs.Core.{at}
use Rattle.sp_model.specs.Note.{Frame, shown}
use Rattle.sp_model.specs.State.{State}
use Rattle.sp_term.specs.Value.{Env}
use Rattle.sp_facts.specs.Histories.{History, Agrees, after, env_of, with_call, with_bytes}
use Rattle.sp_facts.specs.Theorems.{EnvironmentsAgree}

numbered : (j : ℕ) → j + 1 - 1 ≡ j
numbered j = omega arith

call_at : (h : History) (j : ℕ) (t : State) → slice_get h.calls j ≡ Some t → after h (j + 1) ≡ t
call_at h j t e = ap (λ n. get_or h.calls n h.entry) (numbered j) ∙ get_or_from_slice_get h.calls j t h.entry e

byte_at : (bytes : List ℕ) (j byte : ℕ) → slice_get bytes j ≡ Some byte → get_or bytes (j + 1 - 1) 0 ≡ byte
byte_at bytes j byte e = ap (λ n. get_or bytes n 0) (numbered j) ∙ get_or_from_slice_get bytes j byte 0 e

pub own : (f : Frame) (h : History) → Agrees f h (env_of f h)
own f h = record {
  at_entry = record { locations = λ x. refl; memory = λ z. refl };
  at_start = record { locations = λ x. refl; memory = λ z. refl };
  after_call = λ j t e. record {
    locations = λ x. ap (λ (c : State). pos (at x c.core)) (call_at h j t e);
    memory = λ z. ap (λ (c : State). shown f c.core.cells z) (call_at h j t e);
  };
  inputs = λ j byte e. ap pos (byte_at h.taken j byte e);
  slot_low = λ k. refl;
  slot_high = λ k. refl;
}

in_front : {X : Type 0} (xs ys : List X) (j : ℕ) (x : X) → slice_get xs j ≡ Some x → slice_get (xs ++ ys) j ≡ Some x
in_front [] ys j x e = absurd cc
in_front (z ∷ xs) ys zero x e = e
in_front (z ∷ xs) ys (suc j) x e = in_front xs ys j x e

pub fewer_calls : (f : Frame) (h : History) (t : State) (e : Env) → Agrees f (with_call t h) e → Agrees f h e
fewer_calls f h t e k = record {
  at_entry = k.at_entry;
  at_start = k.at_start;
  after_call = λ j u is. k.after_call j u (in_front h.calls (t ∷ []) j u is);
  inputs = k.inputs;
  slot_low = k.slot_low;
  slot_high = k.slot_high;
}

pub fewer_bytes : (f : Frame) (h : History) (bytes : List ℕ) (e : Env) → Agrees f (with_bytes bytes h) e → Agrees f h e
fewer_bytes f h bytes e k = record {
  at_entry = k.at_entry;
  at_start = k.at_start;
  after_call = k.after_call;
  inputs = λ j byte is. k.inputs j byte (in_front h.taken bytes j byte is);
  slot_low = k.slot_low;
  slot_high = k.slot_high;
}

pub environments_agree : EnvironmentsAgree
environments_agree = record { own = own; fewer_calls = fewer_calls; fewer_bytes = λ f h byte e k. fewer_bytes f h (byte ∷ []) e k }
