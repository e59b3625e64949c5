-- The bytes of statements, and how many they are.
use Rattle.std.proofs.Common.{◌≡◌, ℕ, ◌+◌, ◌%◌, false, List, [], ◌∷◌, length, refl, ap, arith, length-append}
use Rattle.std.specs.Prelude.{slice_index}
use Rattle.sp_isa.specs.declared.instr.Instr.{Instr}
use Rattle.sp_isa.specs.declared.instr.Instr.TheVariants as instr
use Rattle.sp_isa.specs.Code.{code}
use Rattle.sp_isa.specs.Decode.{with_operand}
use Rattle.sp_stmt.specs.declared.operand.Operand.{Operand}
use Rattle.sp_stmt.specs.declared.operand.Operand.TheVariants as operand
use Rattle.sp_stmt.specs.declared.statement.Code.{Code}
use Rattle.sp_stmt.specs.declared.statement.Code.TheVariants as codes
use Rattle.sp_asm.specs.Assembly.{uses_names_above, with_value, item_bytes, items_bytes, size_of_item, size_of_items, address_behind, bytes_by}

-- ---- Instructions

-- an operand doesn't change how many bytes an instruction has
pub size-with_value : (x : ℕ) (i : Instr) → length (code (with_value x i)) ≡ length (code i)
size-with_value x (instr.Rst n) = refl
size-with_value x i = refl

-- any instruction but RST takes its operand as behind the first byte of a code
pub other_value : (x : ℕ) (i : Instr) → ((n : ℕ) → i ≡ instr.Rst n → ⊥) → (with_operand (x % 256) x i).0 ≡ with_value x i
other_value x (instr.Rst n) other = absurd (other n refl)
other_value x i other = refl

-- ---- Items

length-item_bytes : (o : Operand) (v : ℕ) → length (item_bytes o v) ≡ size_of_item o
length-item_bytes (operand.Text characters) v = refl
length-item_bytes (operand.Byte ws) v = refl
length-item_bytes (operand.Word ws) v = refl
length-item_bytes (operand.Restart ws) v = refl

pub length-items_bytes : (operands : List Operand) (values : List ℕ) → length values ≡ length operands → length (items_bytes operands values) ≡ size_of_items operands
length-items_bytes [] values same = refl
length-items_bytes (o ∷ operands) [] same = absurd (omega arith)
length-items_bytes (o ∷ operands) (v ∷ values) same =
    omega (arith, length-append (item_bytes o v) (items_bytes operands values), length-item_bytes o v, length-items_bytes operands values (omega arith))

-- ---- Statements

-- the bytes of a code that uses all names reach from its address to the next
pub length-bytes_by : (c : Code) (operands : List Operand) (values : List ℕ) (address value : ℕ) → uses_names_above c ≡ false → length values ≡ length operands
    → address + length (bytes_by c operands values) ≡ address_behind c operands address value
length-bytes_by (codes.Instr i) operands values address value below same = ap (λ n. address + n) (size-with_value (slice_index values 0) i)
length-bytes_by codes.Data operands values address value below same = ap (λ n. address + n) (length-items_bytes operands values same)
length-bytes_by codes.Space operands values address value below same = absurd cc
length-bytes_by codes.Org operands values address value below same = absurd cc
length-bytes_by (codes.Equ name) operands values address value below same = absurd cc
length-bytes_by (codes.Set name) operands values address value below same = absurd cc
length-bytes_by codes.Nothing operands values address value below same = omega arith
length-bytes_by codes.End operands values address value below same = omega arith
