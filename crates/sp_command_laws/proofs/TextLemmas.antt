-- What is printed, computed, and exit numbers.
use Rattle.std.proofs.Common.{◌≡◌, ℕ, zero, suc, ◌<◌, refl, ap, lit<, ◌∙◌, sym}
use Rattle.sp_cli.specs.declared.status.Status.{Status}
use Rattle.sp_cli.specs.declared.status.Status.TheVariants as status
use Rattle.sp_cli.specs.Status.{exit_number}
use Rattle.sp_command_laws.specs.Texts.{NumberExits, PrintTexts}

pub print_texts : PrintTexts
print_texts = record {
  missing = refl;
  missing_image = refl;
  too_large = refl;
  not_built = refl;
  opened = refl;
  long_line = refl;
  number = refl;
  syntax = refl;
  past_end = refl;
  wide = refl;
  no_stack = refl;
  depths = refl;
  uses = refl;
  writes = refl;
  port = refl;
  reads = refl;
  record_sum = refl;
  no_end = refl;
  assembled = refl;
  sound = refl;
  accepted = refl;
  too_long = refl;
}

few : (s : Status) → exit_number s < 8
few status.Done = lit< tt
few status.Refused = lit< tt
few status.Usage = lit< tt
few status.ReadFault = lit< tt
few status.WriteFault = lit< tt
few status.SinkFault = lit< tt
few status.Memory = lit< tt
few status.TooLong = lit< tt

-- the status with this number
abbrev status_of : ℕ → Status
status_of zero = status.Done
status_of (suc zero) = status.Refused
status_of (suc (suc zero)) = status.Usage
status_of (suc (suc (suc zero))) = status.ReadFault
status_of (suc (suc (suc (suc zero)))) = status.WriteFault
status_of (suc (suc (suc (suc (suc zero))))) = status.SinkFault
status_of (suc (suc (suc (suc (suc (suc zero)))))) = status.Memory
status_of (suc (suc (suc (suc (suc (suc (suc n))))))) = status.TooLong

found : (s : Status) → status_of (exit_number s) ≡ s
found status.Done = refl
found status.Refused = refl
found status.Usage = refl
found status.ReadFault = refl
found status.WriteFault = refl
found status.SinkFault = refl
found status.Memory = refl
found status.TooLong = refl

pub number_exits : NumberExits
number_exits = record { done = refl; refused = refl; usage = refl; few = few; apart = λ s t e. sym (found s) ∙ ap status_of e ∙ found t }
