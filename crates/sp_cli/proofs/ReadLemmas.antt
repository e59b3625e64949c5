-- Reads of inputs, one after another.
use Rattle.std.proofs.Common.{◌≡◌, ◌≢◌, ℕ, ◌≤◌, List, [], ◌∷◌, ◌++◌, refl, sym, ap, subst, ◌∙◌, Ok, Err, inl, inr, arith}
use Rattle.std.specs.Prelude.{Option, Result, IsErr, IsErrAnd, IsErrOf, IsTrue}
use Rattle.std.proofs.lemmas.List.{append-nil, append_assoc}
use Rattle.sp_base.specs.declared.calls.Access.TheVariants.{Read}
use Rattle.sp_base.specs.declared.calls.Outcome.{Outcome}
use Rattle.sp_base.specs.declared.calls.Outcome.TheVariants as outcome
use Rattle.sp_base.specs.Calls.{Call, call}
use Rattle.sp_base.specs.Files.{Store, Rose, Adds}
use Rattle.sp_cli.specs.declared.refusal.Stop.{Stop}
use Rattle.sp_cli.specs.declared.refusal.Stop.TheVariants as stop
use Rattle.sp_cli.specs.code.Made.{OnlyRead, IsFile, EndsReads, AddsRead, AddsReads}

pub only_reads : (a b c : Store) → OnlyRead a b → OnlyRead b c → OnlyRead a c
only_reads a b c h g = record {
  contents = λ q. g.contents q ∙ h.contents q;
  told = g.told ∙ h.told;
  reads = omega (arith, h.reads, g.reads);
  writes = g.writes ∙ h.writes;
}

pub rose_later : (a b c : ℕ) → a ≤ b → Rose b c → Rose a c
rose_later a b c h (inl g) = inl (omega (arith, h, g))
rose_later a b c h (inr g) = inr g

-- nothing is left to be read
pub no_reads : {B : Type 0} (result : Result B Stop) (calls : List Call) → ¬ IsErrOf result stop.Fault → AddsReads [] result calls calls
no_reads result calls h = record { calls = []; end = outcome.Done; added = sym (append-nil calls); are_reads = (refl, refl); ends = h }

-- a read that isn't done ends the reads
ended : {B : Type 0} (name : List ℕ) (names : List (List ℕ)) (end : Outcome) (result : Result B Stop) (before after : List Call) → end ≢ outcome.Done
    → EndsReads end result → Adds (call Read name end) before after → AddsReads (name ∷ names) result before after
ended name names end result before after not_done ends (inl h) = record {
  calls = call Read name end ∷ [];
  end = end;
  added = h;
  are_reads = inr (not_done, inl refl);
  ends = ends;
}
ended name names end result before after not_done ends (inr h) = record {
  calls = [];
  end = end;
  added = h.1 ∙ sym (append-nil before);
  are_reads = inr (not_done, inr (h.0, refl));
  ends = ends;
}

abbrev pub err : (A : Type 0) → Stop → Result A Stop
err A e = Err e

pub same_error : (A B : Type 0) (e d : Stop) → err A e ≡ err A d → err B e ≡ err B d
same_error A B e d h = let same : e ≡ d = cc in ap (λ s. err B s) same

pub read_failed : (A B : Type 0) (name : List ℕ) (names : List (List ℕ)) (e : Stop) (before after : List Call) → AddsRead name (err A e) before after → AddsReads (name ∷ names) (err B e) before after
read_failed A B name names e before after (outcome.Done, ends, adds) = absurd (let h = ends.1 in cc)
read_failed A B name names e before after (outcome.Missing, ends, adds) = ended name names outcome.Missing (err B e) before after (λ h. cc) (ends.0, same_error A B e _ ends.1) adds
read_failed A B name names e before after (outcome.TooLarge, ends, adds) = ended name names outcome.TooLarge (err B e) before after (λ h. cc) (ends.0, same_error A B e _ ends.1) adds
read_failed A B name names e before after (outcome.Failed, ends, adds) = ended name names outcome.Failed (err B e) before after (λ h. cc) (same_error A B e stop.Fault ends) adds
read_failed A B name names e before after (outcome.Memory, ends, adds) = ended name names outcome.Memory (err B e) before after (λ h. cc) (same_error A B e stop.Memory ends) adds

more : {B : Type 0} (name : List ℕ) (names : List (List ℕ)) (result : Result B Stop) (before mid after : List Call) → mid ≡ before ++ call Read name outcome.Done ∷ []
    → AddsReads names result mid after → AddsReads (name ∷ names) result before after
more name names result before mid after h g = record {
  calls = call Read name outcome.Done ∷ g.calls;
  end = g.end;
  added = g.added ∙ ap (λ cs. cs ++ g.calls) h ∙ append_assoc before (call Read name outcome.Done ∷ []) g.calls;
  are_reads = inl (g.calls, refl, g.are_reads);
  ends = g.ends;
}

abbrev pub given : {A : Type 0} → A → Result A Stop
given a = Ok a

pub read_done : {A B : Type 0} (name : List ℕ) (names : List (List ℕ)) (v : A) (result : Result B Stop) (before mid after : List Call) → AddsRead name (given v) before mid → AddsReads names result mid after → AddsReads (name ∷ names) result before after
read_done name names v result before mid after (outcome.Done, ends, inl adds) g = more name names result before mid after adds g
read_done name names v result before mid after (outcome.Done, ends, inr adds) g = absurd (let h = adds.0 in cc)
read_done name names v result before mid after (outcome.Missing, ends, adds) g = absurd (let h = ends.1 in cc)
read_done name names v result before mid after (outcome.TooLarge, ends, adds) g = absurd (let h = ends.1 in cc)
read_done name names v result before mid after (outcome.Failed, ends, adds) g = absurd (let h : given v ≡ err _ stop.Fault = ends in cc)
read_done name names v result before mid after (outcome.Memory, ends, adds) g = absurd (let h : given v ≡ err _ stop.Memory = ends in cc)

-- what a `?` hands on
pub handed : {B : Type 0} (result : Result B Stop) (e : Stop) → IsErr result × IsErrAnd result (λ d. d ≡ e) → result ≡ err B e
handed (Ok v) e h = absurd (let none = h.0 in cc)
handed (Err d) e h = ap (λ s. Err s) h.1

pub handed_on : (A B : Type 0) (result : Result B Stop) (e d : Stop) → IsErr result × IsErrAnd result (λ x. x ≡ e) → result ≡ err B d → err A e ≡ err A d
handed_on A B result e d h is = same_error B A e d (sym (handed result e h) ∙ is)

pub failed_reads : (A B : Type 0) (name : List ℕ) (names : List (List ℕ)) (result : Result B Stop) (e : Stop) (before after : List Call) → IsErr result × IsErrAnd result (λ d. d ≡ e)
    → AddsRead name (err A e) before after → AddsReads (name ∷ names) result before after
failed_reads A B name names result e before after h g = subst (λ r. AddsReads (name ∷ names) r before after) (sym (handed result e h)) (read_failed A B name names e before after g)

-- what is told of a file after reads was told before them
pub told_before : (a b : Store) (name : List ℕ) (file : Option (List ℕ)) → OnlyRead a b → (IsTrue b.told → b.contents name ≡ file) → IsTrue a.told → a.contents name ≡ file
told_before a b name file h g told = sym (h.contents name) ∙ g (h.told ∙ told)

pub kept_file : (Says : Option (List ℕ) → Type 0) (a b : Store) (name : List ℕ) → OnlyRead a b → IsFile (IsTrue b.told) (b.contents name) Says → IsFile (IsTrue a.told) (a.contents name) Says
kept_file Says a b name h g = record { content = g.content; is = λ told. g.is (h.told ∙ told) ∙ h.contents name; says = g.says }
