-- Which annotation a condition stands for (this project's own).
use Rattle.sp_model.specs.Note.{Add, Subtract, Multiply, Divide, Modulo, BitAnd, BitOr, BitXor, And, Or, Implies, Iff, Operator}
use Rattle.sp_logic.specs.View.{moment_of, pair_of, comparison_of, quantifier_of}
use Rattle.sp_note.specs.declared.word.Bits.{Bits}
use Rattle.sp_note.specs.declared.word.Bits.TheVariants as bits
use Rattle.sp_note.specs.declared.word.Infix.{Infix}
use Rattle.sp_note.specs.declared.word.Infix.TheVariants as op
use Rattle.sp_note.specs.declared.word.Measure.TheVariants as measure
use Rattle.sp_note.specs.Grammar as grammar
use Rattle.sp_note.specs.RawNotes.{RawNote, Literal, Constant, Location, Pair, Cell, StackWord, Total, Named, Element, Address, Length, Negative, Parity, Operate, Compare, Not, Connect, Quantify}

-- two parts with an operator
abbrev pub joining : Infix → RawNote → RawNote → RawNote
joining op.Iff x y = Connect Iff x y
joining op.Implies x y = Connect Implies x y
joining op.Or x y = Connect Or x y
joining op.And x y = Connect And x y
joining (op.Compare c) x y = Compare (comparison_of c) x y
joining op.Add x y = Operate Add x y
joining op.Subtract x y = Operate Subtract x y
joining op.Multiply x y = Operate Multiply x y
joining op.Divide x y = Operate Divide x y
joining op.Modulo x y = Operate Modulo x y

abbrev pub bits_of : Bits → Operator
bits_of bits.And = BitAnd
bits_of bits.Or = BitOr
bits_of bits.Xor = BitXor

-- parentheses only order
abbrev pub meaning_of : grammar.Tree → RawNote
meaning_of (grammar.Number n) = Literal n
meaning_of (grammar.Constant truth) = Constant truth
meaning_of (grammar.Location m x) = Location (moment_of m) x
meaning_of (grammar.Pair m p) = Pair (moment_of m) (pair_of p)
meaning_of (grammar.StackWord k) = StackWord k
meaning_of (grammar.Named m name) = Named (moment_of m) name
meaning_of (grammar.Measured measure.Address name) = Address name
meaning_of (grammar.Measured measure.Length name) = Length name
meaning_of (grammar.Cell m x) = Cell (moment_of m) (meaning_of x)
meaning_of (grammar.Element m name x) = Element (moment_of m) name (meaning_of x)
meaning_of (grammar.Total m x y) = Total (moment_of m) (meaning_of x) (meaning_of y)
meaning_of (grammar.Parity x) = Parity (meaning_of x)
meaning_of (grammar.TwoBits b x y) = Operate (bits_of b) (meaning_of x) (meaning_of y)
meaning_of (grammar.Paren x) = meaning_of x
meaning_of (grammar.Negative x) = Negative (meaning_of x)
meaning_of (grammar.Joined i x y) = joining i (meaning_of x) (meaning_of y)
meaning_of (grammar.Not p) = Not (meaning_of p)
meaning_of (grammar.Quantified q name x y p) = Quantify (quantifier_of q) name (meaning_of x) (meaning_of y) (meaning_of p)
