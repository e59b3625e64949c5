-- What a command makes of the bytes that its inputs hold.
use Rattle.std.proofs.Common.{◌≡◌, ℕ, ◌+◌, ◌<◌, ◌≤◌, Bool, true, false, List, length, replicate, refl, sym, ap, ◌∙◌, Some, None, Ok, Err, inl, inr, arith}
use Rattle.std.specs.Prelude.{Option, Result, IfOk, IsTrue}
use Rattle.std.proofs.lemmas.List.{length-replicate}
use Rattle.sp_base.specs.Files.{Store}
use Rattle.sp_cli.specs.declared.refusal.Input.{Input}
use Rattle.sp_cli.specs.declared.refusal.Input.TheVariants.{Source, Scripts, Image}
use Rattle.sp_cli.specs.declared.refusal.Refusal.{Refusal}
use Rattle.sp_cli.specs.declared.refusal.Refusal.TheVariants as refusal
use Rattle.sp_cli.specs.declared.refusal.Stop.{Stop}
use Rattle.sp_cli.specs.declared.product.Product.{Product}
use Rattle.sp_cli.specs.Command.{Verify, Asm, Run, Check}
use Rattle.sp_cli.specs.Inputs.{Held, limit, RefusesFile}
use Rattle.sp_cli.specs.Stages.{RefusesProgram}
use Rattle.sp_cli.specs.code.Made.{IsProduct, IsRefusal, IsFile, IsAssembled, IsVerified, IsRunOfText, IsFoundSound, RefusesSource, RefusesText, RefusesUnit}

-- a file that is too large, of which nothing may be told
pub too_large : (told : Bool) (file : Option (List ℕ)) (input : Input) → (IsTrue told → (bytes : List ℕ) × (file ≡ Some bytes) × (limit input < length bytes))
    → IsFile (IsTrue told) file (λ f. RefusesFile input f (refusal.TooLarge input))
too_large true file input h = record { content = file; is = λ _. refl; says = inr (refl, h refl) }
too_large false file input h =
    let bytes : List ℕ = replicate (limit input + 1) 0 in
    record { content = Some bytes; is = λ t. absurd cc; says = inr (refl, (bytes, refl, omega (arith, length-replicate {A = ℕ} (limit input + 1) 0))) }

-- ---- One input

module _ (files : Store) (name other bytes : List ℕ) (is : IsTrue files.told → files.contents name ≡ Some bytes) where
  abbrev source_held : Held
  source_held = record { source = Some bytes; scripts = None; image = None }

  abbrev image_held : Held
  image_held = record { source = None; scripts = None; image = Some bytes }

  pub assembled : (p : Product) → length bytes ≤ limit Source → IsAssembled bytes p → IsProduct files (Asm name other) p
  assembled p within h = record {
    held = source_held;
    are_held = λ t. ap (λ f. record { source = f; scripts = None; image = None }) (sym (is t));
    product = record {
      accepts = ((bytes, refl, within), ((bytes, h.lines, refl, h.read), ((bytes, h.rows, refl, h.assembly), tt)));
      image = λ _ _. record { image = _; right = (bytes, h.rows, refl, h.assembly, refl); is = h.image; stands = h.stands };
      report = (bytes, h.rows, refl, h.assembly, h.report);
    };
  }

  pub not_assembled : (r : Refusal) → length bytes ≤ limit Source → RefusesSource bytes r → IsRefusal files (Asm name other) r
  not_assembled r within (inl h) = record {
    held = source_held;
    are_held = λ t. ap (λ f. record { source = f; scripts = None; image = None }) (sym (is t));
    stands = inr ((bytes, refl, within), inl (bytes, h.0, h.1, refl, h.2, h.3));
  }
  not_assembled r within (inr h) = record {
    held = source_held;
    are_held = λ t. ap (λ f. record { source = f; scripts = None; image = None }) (sym (is t));
    stands = inr ((bytes, refl, within), inr ((bytes, h.0.0, refl, h.0.1), inl (bytes, h.1.0, h.1.1, refl, h.1.2, h.1.3)));
  }

  pub found_sound : (p : Product) → length bytes ≤ limit Source → IsFoundSound bytes p → IsProduct files (Check name) p
  found_sound p within h = record {
    held = source_held;
    are_held = λ t. ap (λ f. record { source = f; scripts = None; image = None }) (sym (is t));
    product = record {
      accepts = ((bytes, refl, within), ((bytes, h.program, refl, h.sound), tt));
      image = λ _ named. absurd cc;
      report = (bytes, h.program, refl, h.sound, h.report);
    };
  }

  pub not_sound : (r : Refusal) → length bytes ≤ limit Source → RefusesUnit bytes r → IsRefusal files (Check name) r
  not_sound r within h = record {
    held = source_held;
    are_held = λ t. ap (λ f. record { source = f; scripts = None; image = None }) (sym (is t));
    stands = inr ((bytes, refl, within), inl (bytes, h.0, h.1, refl, h.2, h.3));
  }

  pub ran : (words : List (List ℕ)) (p : Product) → length bytes ≤ limit Image → IsRunOfText bytes words p → IsProduct files (Run name words) p
  ran words p within h = record {
    held = image_held;
    are_held = λ t. ap (λ f. record { source = None; scripts = None; image = f }) (sym (is t));
    product = record {
      accepts = ((bytes, refl, within), ((bytes, h.0, refl, h.1), tt));
      image = λ _ named. absurd cc;
      report = (bytes, h.0, h.2.0, refl, h.1, h.2.1, h.2.2);
    };
  }

  pub not_run : (words : List (List ℕ)) (r : Refusal) → length bytes ≤ limit Image → RefusesText bytes r → IsRefusal files (Run name words) r
  not_run words r within h = record {
    held = image_held;
    are_held = λ t. ap (λ f. record { source = None; scripts = None; image = f }) (sym (is t));
    stands = inr ((bytes, refl, within), inl (bytes, h.0, h.1, refl, h.2, h.3));
  }

pub source_refused : (files : Store) (name other : List ℕ) (r : Refusal) → IsFile (IsTrue files.told) (files.contents name) (λ file. RefusesFile Source file r) → IsRefusal files (Asm name other) r
source_refused files name other r h = record {
  held = record { source = h.content; scripts = None; image = None };
  are_held = λ t. ap (λ f. record { source = f; scripts = None; image = None }) (h.is t);
  stands = inl h.says;
}

pub checked_refused : (files : Store) (name : List ℕ) (r : Refusal) → IsFile (IsTrue files.told) (files.contents name) (λ file. RefusesFile Source file r)
    → IsRefusal files (Check name) r
checked_refused files name r h = record {
  held = record { source = h.content; scripts = None; image = None };
  are_held = λ t. ap (λ f. record { source = f; scripts = None; image = None }) (h.is t);
  stands = inl h.says;
}

pub image_refused : (files : Store) (name : List ℕ) (words : List (List ℕ)) (r : Refusal) → IsFile (IsTrue files.told) (files.contents name) (λ file. RefusesFile Image file r) → IsRefusal files (Run name words) r
image_refused files name words r h = record {
  held = record { source = None; scripts = None; image = h.content };
  are_held = λ t. ap (λ f. record { source = None; scripts = None; image = f }) (h.is t);
  stands = inl h.says;
}

-- ---- A source and scripts

abbrev program : Option (List ℕ) → Option (List ℕ) → Held
program source scripts = record { source = source; scripts = scripts; image = None }

module _ (files : Store) (source scripts image : List ℕ) where
  -- what scripts hold doesn't matter where the source is refused
  pub program_source_refused : (r : Refusal) → IsFile (IsTrue files.told) (files.contents source) (λ file. RefusesFile Source file r) → IsRefusal files (Verify source scripts image) r
  program_source_refused r h = record {
    held = program h.content (files.contents scripts);
    are_held = λ t. ap (λ f. program f (files.contents scripts)) (h.is t);
    stands = inl h.says;
  }

  pub program_scripts_refused : (s : List ℕ) (r : Refusal) → (IsTrue files.told → files.contents source ≡ Some s) → length s ≤ limit Source
      → IsFile (IsTrue files.told) (files.contents scripts) (λ file. RefusesFile Scripts file r) → IsRefusal files (Verify source scripts image) r
  program_scripts_refused s r is within h = record {
    held = program (Some s) h.content;
    are_held = λ t. ap (λ f. program f h.content) (sym (is t)) ∙ ap (λ f. program (files.contents source) f) (h.is t);
    stands = inr ((s, refl, within), inl h.says);
  }

  module _ (s t : List ℕ) (is : IsTrue files.told → files.contents source ≡ Some s) (are : IsTrue files.told → files.contents scripts ≡ Some t) (within : length s ≤ limit Source) (fits : length t ≤ limit Scripts) where
    held : IsTrue files.told → program (Some s) (Some t) ≡ program (files.contents source) (files.contents scripts)
    held told = ap (λ f. program f (Some t)) (sym (is told)) ∙ ap (λ f. program (files.contents source) f) (sym (are told))

    pub verified : (p : Product) → IsVerified s t p → IsProduct files (Verify source scripts image) p
    verified p h = record {
      held = program (Some s) (Some t);
      are_held = held;
      product = record {
        accepts = ((s, refl, within), ((t, refl, fits), ((s, t, refl, refl, h.accepted), tt)));
        image = λ _ _. record { image = h.image; right = (s, refl, h.right); is = h.written; stands = h.stands };
        report = (h.routines, h.conditions, h.simplified, h.scripted, h.counts, h.report);
      };
    }

    pub not_verified : (r : Refusal) → RefusesProgram s t r → IsRefusal files (Verify source scripts image) r
    not_verified r h = record {
      held = program (Some s) (Some t);
      are_held = held;
      stands = inr ((s, refl, within), inr ((t, refl, fits), inl (s, t, refl, refl, h)));
    }

-- ---- The same, of an answer

pub if_ok : {P Q : Product → Type 0} (result : Result Product Stop) → ((p : Product) → P p → Q p) → IfOk result P → IfOk result Q
if_ok (Ok p) h g = h p g
if_ok (Err e) h g = g
