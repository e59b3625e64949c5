-- Texts that are printed, and exit numbers.
use Rattle.std.specs.Fmt.{signed_decimal}
use Rattle.std.specs.Prelude.{◌≡◌, ℕ, pos, negsuc, ◌<◌, List, [], ◌∷◌, ◌++◌, codes, decimal}
use Rattle.sp_lex.specs.declared.refusal.TextKind.TheVariants as text
use Rattle.sp_asm.specs.declared.refusal.AsmKind.TheVariants as asm
use Rattle.sp_hex.specs.declared.refusal.HexKind.TheVariants as hex
use Rattle.sp_base.specs.declared.location.Loc.TheVariants as loc
use Rattle.sp_note.specs.declared.refusal.NoteKind.TheVariants as note
use Rattle.sp_unit.specs.declared.refusal.UnitKind.TheVariants as unit
use Rattle.sp_struct.specs.declared.refusal.StructKind.TheVariants as structure
use Rattle.sp_flow.specs.declared.refusal.FlowKind.TheVariants as flow
use Rattle.sp_flow.specs.declared.refusal.Spot.TheVariants as spot
use Rattle.sp_cli.specs.declared.refusal.Input.TheVariants.{Source, Scripts, Image}
use Rattle.sp_cli.specs.declared.refusal.Refusal.TheVariants as refusal
use Rattle.sp_cli.specs.declared.status.Status.{Status}
use Rattle.sp_cli.specs.declared.status.Status.TheVariants as status
use Rattle.sp_cli.specs.Status.{exit_number}
use Rattle.sp_cli.specs.Texts.{accepted_text, assembled_text, sound_text, line, refusal_text, too_long_text}

-- a line with a number in it
abbrev pub numbered : List ℕ → ℕ → List ℕ → List ℕ
numbered front n back = line (front ++ decimal n ++ codes " " ++ back)

pub record PrintTexts : Type 0 where
  pub missing : refusal_text (refusal.Missing Source) ≡ codes "refused Missing source" ++ 10 ∷ []
  pub missing_image : refusal_text (refusal.Missing Image) ≡ codes "refused Missing image" ++ 10 ∷ []
  pub too_large : refusal_text (refusal.TooLarge Scripts) ≡ codes "refused TooLarge scripts" ++ 10 ∷ []
  pub not_built : refusal_text refusal.NotBuilt ≡ codes "refused NotBuilt" ++ 10 ∷ []
  pub opened : refusal_text (refusal.Open (codes "R") 3) ≡ line (codes "refused Open R." ++ decimal 3)
  pub long_line : refusal_text (refusal.Text (record { 0 = 7 }) text.LongLine) ≡ numbered (codes "refused Text ") 7 (codes "LongLine")
  pub number : refusal_text (refusal.Text (record { 0 = 7 }) text.BadNumber) ≡ numbered (codes "refused Text ") 7 (codes "BadNumber")
  pub syntax : refusal_text (refusal.Asm (record { 0 = 7 }) asm.Syntax) ≡ numbered (codes "refused Asm ") 7 (codes "Syntax")
  pub past_end : refusal_text (refusal.Asm (record { 0 = 7 }) asm.PastEnd) ≡ numbered (codes "refused Asm ") 7 (codes "PastEnd")
  pub wide : refusal_text (refusal.Note (record { 0 = 7 }) note.Wide) ≡ numbered (codes "refused Note ") 7 (codes "Wide")
  pub no_stack : refusal_text (refusal.Unit (record { 0 = 0 }) unit.NoStack) ≡ numbered (codes "refused Unit ") 0 (codes "NoStack")
  pub depths : refusal_text (refusal.Struct (record { 0 = 7 }) (structure.Depth (negsuc 1) (pos 0)))
      ≡ numbered (codes "refused Struct ") 7 (codes "Depth " ++ signed_decimal (negsuc 1) ++ codes " " ++ signed_decimal (pos 0))
  pub uses : refusal_text (refusal.Flow (record { 0 = 7 }) (flow.Uses (spot.Loc loc.Cy))) ≡ numbered (codes "refused Flow ") 7 (codes "Uses CY")
  pub writes : refusal_text (refusal.Flow (record { 0 = 7 }) (flow.Writes 41215)) ≡ numbered (codes "refused Flow ") 7 (codes "Writes A0FF")
  pub port : refusal_text (refusal.Flow (record { 0 = 7 }) (flow.Port 5)) ≡ numbered (codes "refused Flow ") 7 (codes "Port 05")
  pub reads : refusal_text (refusal.Flow (record { 0 = 7 }) (flow.CallsReads (spot.Cell 16)))
      ≡ numbered (codes "refused Flow ") 7 (codes "CallsReads 0010")
  pub record_sum : refusal_text (refusal.Image (record { 0 = 7 }) hex.BadSum)
      ≡ line (codes "refused Image " ++ (decimal 7 ++ codes " BadSum"))
  pub no_end : refusal_text (refusal.Image (record { 0 = 0 }) hex.NoEnd) ≡ codes "refused Image NoEnd" ++ 10 ∷ []
  pub assembled : assembled_text 5 6 ≡ line (codes "assembled bytes=" ++ decimal 5 ++ codes " names=" ++ decimal 6)
  pub sound : sound_text 5 6 ≡ line (codes "sound routines=" ++ decimal 5 ++ codes " instructions=" ++ decimal 6)
  pub accepted :
      accepted_text 1 2 3 4
      ≡ line (codes "accepted routines=" ++ decimal 1 ++ codes " conditions=" ++ decimal 2 ++ codes " simplified=" ++ decimal 3
      ++ codes " scripted=" ++ decimal 4)
  pub too_long : too_long_text 7 ≡ line (codes "too long " ++ decimal 7)

-- a process that is done ends with 0, a refusal with 1, wrong words with 2, and each status with a number of its own
pub record NumberExits : Type 0 where
  pub done : exit_number status.Done ≡ 0
  pub refused : exit_number status.Refused ≡ 1
  pub usage : exit_number status.Usage ≡ 2
  pub few : (s : Status) → exit_number s < 8
  pub apart : (s t : Status) → exit_number s ≡ exit_number t → s ≡ t
