-- Lines that break a rule of units, each beside one that differs little and breaks none.
use Rattle.std.specs.Prelude.{◌≡◌, ℕ, true, List, [], ◌∷◌, ◌++◌, Option, Some, None, codes, replicate, flat_map}
use Rattle.std.specs.List.{range_with_len}
use Rattle.sp_base.specs.declared.location.Loc.TheVariants as loc
use Rattle.sp_base.specs.Locs.{only}
use Rattle.std.specs.FinMap as maps
use Rattle.sp_base.specs.Image.{ImageMap}
use Rattle.sp_isa.specs.declared.instr.Instr.TheVariants as instr
use Rattle.sp_expr.specs.declared.word.Word.TheVariants as words
use Rattle.sp_asm.specs.declared.listing.ItemKind.{ItemKind}
use Rattle.sp_asm.specs.declared.listing.ItemKind.TheVariants as kind
use Rattle.sp_model.specs.Note.{Now}
use Rattle.sp_note.specs.declared.part.Listed.TheVariants as listed
use Rattle.sp_note.specs.Parts.{Part, NoteLine, Expression, Stack, Byte, Word, Bytes, Routine, Start, Pre, Post, Reads, Changes, Ins, Outs, Depth, Assert, End}
use Rattle.sp_note.specs.RawNotes.{RawNote, Constant, Compare, Named, StackWord}
use Rattle.sp_model.specs.Note.{Equal}
use Rattle.sp_unit.specs.declared.refusal.UnitKind.{UnitKind}
use Rattle.sp_unit.specs.declared.refusal.UnitKind.TheVariants.{Stray, Unknown, Clash, OutsideRoutine, NotHere, TooMany}
use Rattle.sp_unit.specs.Faults.{Source, fault}
use Rattle.sp_unit.specs.Lines.{Entry, Statement, Annotation}

-- ---- A source

abbrev pub num : ℕ → Expression
num n = words.Number n ∷ []

-- a number has its value, and other expressions have none
abbrev pub value : Expression → Option ℕ
value (words.Number n ∷ []) = Some n
value _ = None

abbrev pub flag : List ℕ
flag = codes "FLAG"

abbrev pub table : List ℕ
table = codes "TABLE"

abbrev pub main : List ℕ
main = codes "MAIN"

abbrev pub other : List ℕ
other = codes "OTHER"

-- bytes at 0 and 1
abbrev pub cells : List (ℕ × ℕ)
cells = (0, 0) ∷ (1, 0) ∷ []

abbrev pub image : ImageMap
image = maps.from_sorted cells

abbrev pub note : Part → NoteLine
note part = record { line = 1; part = part }

abbrev pub line : Part → Entry
line part = Annotation (note part)

-- a statement on a line with this label, if any, at an address
abbrev pub item : Option (List ℕ) → ℕ → ItemKind → Entry
item label a what = Statement (record { line = record { 0 = 1 }; addr = a; label = label; kind = what })

abbrev pub nop : Entry
nop = item None 5 (kind.Instr instr.Nop)

-- stack 100, 200; byte FLAG, 300; bytes TABLE, 0, 2
abbrev pub source : Source
source = record { image = image; names = λ name. None; value = value; notes = note (Stack (num 100) (num 200)) ∷ note (Byte flag (num 300)) ∷ note (Bytes table (num 0) (num 2)) ∷ [] }

-- how an annotation line breaks a rule, between these lines
abbrev pub breaks : List Entry → Part → List Entry → Option UnitKind
breaks above part below = fault source above (line part) below

abbrev pub holds : RawNote
holds = Constant true

-- X = X, where X means nothing
abbrev pub meaningless : RawNote
meaningless = Compare Equal (Named Now (codes "X")) (Named Now (codes "X"))

-- STK1 = STK1
abbrev pub of_stack : RawNote
of_stack = Compare Equal (StackWord 1) (StackWord 1)

abbrev pub begun : List Entry
begun = line (Routine main) ∷ []

-- a routine of one instruction, labelled MAIN
abbrev pub body : List Entry
body = item (Some main) 5 (kind.Instr instr.Nop) ∷ line End ∷ []

-- ---- Lines that don't belong where they stand

pub record StraysByExample : Type 0 where
  pub second_stack : breaks (line (Stack (num 100) (num 200)) ∷ []) (Stack (num 100) (num 200)) [] ≡ Some Stray
  pub pre : breaks begun (Pre holds) [] ≡ None
  pub second_pre : breaks (begun ++ line (Pre holds) ∷ []) (Pre holds) [] ≡ None
  pub pre_outside : breaks [] (Pre holds) [] ≡ Some Stray
  pub pre_after_header : breaks (begun ++ item None 5 kind.Label ∷ []) (Pre holds) [] ≡ Some Stray
  pub pre_after_equ : breaks (begun ++ item None 5 kind.Other ∷ []) (Pre holds) [] ≡ Some Stray
  pub pre_after_stack : breaks (begun ++ line (Byte other (num 400)) ∷ []) (Pre holds) [] ≡ None
  pub pre_after_end : breaks (begun ++ line End ∷ []) (Pre holds) [] ≡ Some Stray
  pub start : breaks begun Start [] ≡ None
  pub second_start : breaks (begun ++ line Start ∷ []) Start [] ≡ Some Stray
  pub start_after_header : breaks (begun ++ nop ∷ []) Start [] ≡ Some Stray
  pub start_outside : breaks [] Start [] ≡ Some Stray
  pub depth : breaks (begun ++ line Start ∷ []) (Depth (num 2)) [] ≡ None
  pub second_depth : breaks (begun ++ line (Depth (num 4)) ∷ []) (Depth (num 2)) [] ≡ Some Stray
  pub reads_outside : breaks [] (Reads []) [] ≡ Some Stray
  pub changes_outside : breaks [] (Changes []) [] ≡ Some Stray
  pub ins_outside : breaks [] (Ins []) [] ≡ Some Stray
  pub outs_outside : breaks [] (Outs []) [] ≡ Some Stray
  pub post_outside : breaks [] (Post holds) [] ≡ Some Stray
  pub assertion : breaks begun (Assert holds) (nop ∷ line End ∷ []) ≡ None
  pub assertion_outside : breaks [] (Assert holds) (nop ∷ line End ∷ []) ≡ Some Stray
  pub assertion_at_end : breaks (begun ++ nop ∷ []) (Assert holds) (line End ∷ nop ∷ []) ≡ Some Stray
  pub end : breaks begun End [] ≡ None
  pub end_outside : breaks (begun ++ line End ∷ []) End [] ≡ Some Stray
  pub routine : breaks [] (Routine main) body ≡ None
  pub without_end : breaks [] (Routine main) (item (Some main) 5 (kind.Instr instr.Nop) ∷ []) ≡ Some Stray
  pub in_routine : breaks (line (Routine other) ∷ []) (Routine main) body ≡ Some Stray
  pub in_body : breaks (line (Routine other) ∷ nop ∷ []) (Routine main) body ≡ Some Stray
  pub after_routine : breaks (line (Routine other) ∷ line End ∷ []) (Routine main) body ≡ None

-- ---- What has no meaning

pub record UnknownsByExample : Type 0 where
  pub stack : breaks [] (Stack (num 100) []) [] ≡ Some Unknown
  pub stack_first : breaks [] (Stack [] (num 100)) [] ≡ Some Unknown
  pub byte : breaks [] (Byte other []) [] ≡ Some Unknown
  pub word : breaks [] (Word other []) [] ≡ Some Unknown
  pub bytes_at : breaks [] (Bytes other [] (num 1)) [] ≡ Some Unknown
  pub bytes : breaks [] (Bytes other (num 300) []) [] ≡ Some Unknown
  pub reads : breaks begun (Reads (listed.Area flag ∷ [])) [] ≡ None
  pub reads_unknown : breaks begun (Reads (listed.Area flag ∷ listed.Area other ∷ [])) [] ≡ Some Unknown
  pub changes_unknown : breaks begun (Changes (listed.Area other ∷ [])) [] ≡ Some Unknown
  pub locations : breaks begun (Reads (listed.Locs (only loc.A) ∷ [])) [] ≡ None
  pub port : breaks begun (Ins ([] ∷ [])) [] ≡ Some Unknown
  pub out_port : breaks begun (Outs ([] ∷ [])) [] ≡ Some Unknown
  pub depth : breaks begun (Depth []) [] ≡ Some Unknown
  pub condition : breaks begun (Pre meaningless) [] ≡ Some Unknown
  pub post : breaks begun (Post meaningless) [] ≡ Some Unknown
  pub assertion : breaks begun (Assert meaningless) (nop ∷ []) ≡ Some Unknown
  -- of two ways the first
  pub stray_first : breaks [] (Pre meaningless) [] ≡ Some Stray
  pub before_clash : breaks begun (Ins (num 256 ∷ [] ∷ [])) [] ≡ Some Unknown
  pub before_not_here : breaks (begun ++ line Start ∷ []) (Post meaningless) [] ≡ Some Unknown
  pub other_label : breaks [] (Routine other) body ≡ Some Unknown
  pub label_alone : breaks [] (Routine main) (item (Some main) 5 kind.Label ∷ nop ∷ line End ∷ []) ≡ None
  pub second_instruction : breaks [] (Routine main) (nop ∷ item (Some main) 6 (kind.Instr instr.Nop) ∷ line End ∷ []) ≡ Some Unknown
  pub after_end : breaks [] (Routine main) (nop ∷ line End ∷ item (Some main) 5 kind.Label ∷ []) ≡ Some Unknown

-- ---- Numbers out of their ranges

pub record ClashesByExample : Type 0 where
  pub backwards : breaks [] (Stack (num 101) (num 100)) [] ≡ Some Clash
  pub one_cell : breaks [] (Stack (num 100) (num 100)) [] ≡ None
  pub last : breaks [] (Stack (num 100) (num 65534)) [] ≡ None
  pub past_last : breaks [] (Stack (num 100) (num 65535)) [] ≡ Some Clash
  pub beside_image : breaks [] (Stack (num 2) (num 100)) [] ≡ None
  pub in_image : breaks [] (Stack (num 1) (num 100)) [] ≡ Some Clash
  pub no_cell : breaks [] (Bytes other (num 300) (num 0)) [] ≡ Some Clash
  pub cell : breaks [] (Bytes other (num 300) (num 1)) [] ≡ None
  pub at_the_end : breaks [] (Bytes other (num 65535) (num 1)) [] ≡ None
  pub past_the_end : breaks [] (Bytes other (num 65535) (num 2)) [] ≡ Some Clash
  pub word_past_the_end : breaks [] (Word other (num 65535)) [] ≡ Some Clash
  pub below_stack : breaks [] (Word other (num 98)) [] ≡ None
  pub touches_stack : breaks [] (Word other (num 99)) [] ≡ Some Clash
  pub above_stack : breaks [] (Byte other (num 201)) [] ≡ None
  pub last_of_stack : breaks [] (Byte other (num 200)) [] ≡ Some Clash
  pub once : breaks (line (Byte flag (num 300)) ∷ []) (Byte other (num 300)) [] ≡ None
  pub twice : breaks (line (Byte flag (num 300)) ∷ []) (Word flag (num 400)) [] ≡ Some Clash
  pub port : breaks begun (Outs (num 255 ∷ [])) [] ≡ None
  pub past_port : breaks begun (Outs (num 256 ∷ [])) [] ≡ Some Clash
  pub past_in_port : breaks begun (Ins (num 255 ∷ num 256 ∷ [])) [] ≡ Some Clash
  pub changes : breaks begun (Changes (listed.Area flag ∷ [])) [] ≡ None
  pub changes_image : breaks begun (Changes (listed.Area table ∷ [])) [] ≡ Some Clash
  pub reads_image : breaks begun (Reads (listed.Area table ∷ [])) [] ≡ None

-- ---- What may not stand there

pub record PlacesByExample : Type 0 where
  pub instruction : fault source begun nop [] ≡ None
  pub instruction_outside : fault source (begun ++ line End ∷ []) nop [] ≡ Some OutsideRoutine
  pub bytes_outside : fault source [] (item None 0 kind.Bytes) [] ≡ None
  pub bytes_inside : fault source begun (item None 0 kind.Bytes) [] ≡ Some NotHere
  pub space_inside : fault source begun (item None 0 kind.Space) [] ≡ Some NotHere
  pub org_inside : fault source begun (item None 0 kind.Org) [] ≡ Some NotHere
  pub equ_inside : fault source begun (item None 0 kind.Other) [] ≡ None
  pub label_inside : fault source begun (item None 0 kind.Label) [] ≡ None
  pub word_in_pre : breaks begun (Pre of_stack) [] ≡ Some NotHere
  pub word_in_post : breaks begun (Post of_stack) [] ≡ Some NotHere
  pub word_in_assertion : breaks begun (Assert of_stack) (nop ∷ []) ≡ None
  pub post : breaks begun (Post holds) [] ≡ None
  pub post_after_start : breaks (begun ++ line Start ∷ []) (Post holds) [] ≡ Some NotHere
  pub post_before_start : breaks begun (Post holds) (line (Pre holds) ∷ line Start ∷ []) ≡ Some NotHere
  -- a `start` after the header makes no start routine
  pub post_before_stray : breaks begun (Post holds) (nop ∷ line Start ∷ []) ≡ None
  pub first_of_start : breaks (begun ++ line Start ∷ []) (Assert holds) (nop ∷ []) ≡ Some NotHere
  pub first_after_label : breaks (begun ++ line Start ∷ item None 5 kind.Label ∷ []) (Assert holds) (nop ∷ []) ≡ Some NotHere
  pub second_of_start : breaks (begun ++ line Start ∷ nop ∷ []) (Assert holds) (nop ∷ []) ≡ None

-- ---- How many may stand

-- a routine that ends
abbrev pub ended : ℕ → List Entry
ended n = line (Routine other) ∷ line End ∷ []

pub record LimitsByExample : Type 0 where
  pub pre_64 : breaks (begun ++ replicate 63 (line (Pre holds))) (Pre holds) [] ≡ None
  pub pre_65 : breaks (begun ++ replicate 64 (line (Pre holds))) (Pre holds) [] ≡ Some TooMany
  pub post_65 : breaks (begun ++ replicate 64 (line (Post holds))) (Post holds) [] ≡ Some TooMany
  pub post_after_pre : breaks (begun ++ replicate 64 (line (Pre holds))) (Post holds) [] ≡ None
  pub assert_64 : breaks (begun ++ replicate 63 (line (Assert holds))) (Assert holds) (nop ∷ []) ≡ None
  pub assert_65 : breaks (begun ++ replicate 64 (line (Assert holds))) (Assert holds) (nop ∷ []) ≡ Some TooMany
  pub next_instruction : breaks (begun ++ replicate 64 (line (Assert holds)) ++ nop ∷ []) (Assert holds) (nop ∷ []) ≡ None
  pub area_1024 : breaks (replicate 1023 (line (Byte flag (num 300)))) (Byte other (num 400)) [] ≡ None
  pub area_1025 : breaks (replicate 1024 (line (Byte flag (num 300)))) (Byte other (num 400)) [] ≡ Some TooMany
  pub word_1025 : breaks (replicate 1024 (line (Word flag (num 300)))) (Word other (num 400)) [] ≡ Some TooMany
  pub bytes_1025 : breaks (replicate 1024 (line (Bytes flag (num 300) (num 1)))) (Bytes other (num 400) (num 1)) [] ≡ Some TooMany
  pub other_lines : breaks (replicate 1024 (line End)) (Byte other (num 400)) [] ≡ None
  -- of two ways the first
  pub clash_first : breaks (replicate 1024 (line (Byte flag (num 300)))) (Bytes other (num 400) (num 0)) [] ≡ Some Clash
  pub place_first : breaks (begun ++ line Start ∷ replicate 64 (line (Post holds))) (Post holds) [] ≡ Some NotHere
  pub routine_1024 : breaks (flat_map ended (range_with_len 0 1023)) (Routine main) body ≡ None
  pub routine_1025 : breaks (flat_map ended (range_with_len 0 1024)) (Routine main) body ≡ Some TooMany
