-- The listing of a source.
use Rattle.std.specs.Prelude.{◌≡◌, ◌⊎◌, ℕ, List, map, Result, Ok, Err}
use Rattle.sp_base.specs.declared.refused.Refused.{Refused}
use Rattle.sp_base.specs.declared.refused.Refused.TheVariants as refused
use Rattle.sp_base.specs.Refused.{IsUnlessMemory}
use Rattle.sp_lex.specs.declared.token.SourceLine.{SourceLine}
use Rattle.sp_asm.specs.declared.listing.Listing.{Listing}
use Rattle.sp_asm.specs.declared.refusal.AsmKind.{AsmKind}
use Rattle.sp_asm.specs.Refusals.{IsCause}
use Rattle.sp_asm.specs.Assembly.{Row, item_of, image_of, names_of}
use Rattle.sp_asm.specs.Source.{Assembles}

-- a listing of these rows: an item for each, exactly their bytes, and the names in order of definition
pub record Lists (l : Listing) (rows : List Row) : Type 0 where
  pub items : l.items ≡ map item_of rows
  pub image : l.image ≡ image_of rows
  pub names : l.names.entries ≡ names_of rows

-- the source has an assembly, and this is its listing
abbrev pub IsListing : List ℕ → List SourceLine → Listing → Type 0
IsListing source lines l = (rows : List Row) × Assembles source lines rows × Lists l rows

-- a source that has an assembly is answered by its listing, and one that has a cause of a refusal by that, unless memory ran out
pub record IsAnswered (source : List ℕ) (lines : List SourceLine) (result : Result Listing (Refused AsmKind)) : Type 0 where
  pub whole : (rows : List Row) → Assembles source lines rows
      → ((l : Listing) × (result ≡ Ok l) × Lists l rows) ⊎ (result ≡ Err refused.Memory)
  pub exact : (line : ℕ) (kind : AsmKind) → IsCause source lines line kind → IsUnlessMemory result (Err (refused.At (record { 0 = line }) kind))
