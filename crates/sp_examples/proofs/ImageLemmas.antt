-- Which images of one byte are in memory.
use Rattle.std.proofs.Common.{◌≡◌, ℕ, ◌<◌, [], ◌∷◌, subst, sym, lit<}
use Rattle.std.specs.Prelude.{◌↔◌}
use Rattle.std.specs.FinMap as maps
use Rattle.std.specs.Ordering.{nat_cmp}
use Rattle.std.proofs.lemmas.List.Elements.{All-cons, All-nil}
use Rattle.sp_base.specs.Image.{AreCells, IsInMemory}
use Rattle.sp_examples.specs.Images.{one_byte}

cells_are : (a byte : ℕ) → maps.entries (one_byte a byte) ≡ (a, byte) ∷ []
cells_are a byte = maps.entries-from_sorted nat_cmp ((a, byte) ∷ []) tt

in_range : (a byte : ℕ) → AreCells ((a, byte) ∷ []) → (a < 65536) × (byte < 256)
in_range a byte h = (h.addresses 0 0 (lit< tt), h.bytes 0 0 (lit< tt))

are_cells : (a byte : ℕ) → (a < 65536) × (byte < 256) → AreCells ((a, byte) ∷ [])
are_cells a byte h = record {
  addresses = All-cons (λ a. a < 65536) a [] h.0 (All-nil (λ a. a < 65536));
  bytes = All-cons (λ byte. byte < 256) byte [] h.1 (All-nil (λ byte. byte < 256));
}

pub image_law : (a byte : ℕ) → IsInMemory (one_byte a byte) ↔ ((a < 65536) × (byte < 256))
image_law a byte = (
  λ h. in_range a byte (subst AreCells (cells_are a byte) h),
  λ h. subst AreCells (sym (cells_are a byte)) (are_cells a byte h),
)
