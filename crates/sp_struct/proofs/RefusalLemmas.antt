-- A unit has one refusal.
use Rattle.std.proofs.Common.{◌≡◌, ◌<◌, ◌≤◌, ℕ, ◌⊎◌, inl, inr, arith}
use Rattle.sp_graph.specs.Structure.{IsStructured}
use Rattle.sp_prog.specs.Program.{Program}
use Rattle.sp_struct.specs.Refusals.{BreaksRule, rank, HasOneRefusal}
use Rattle.sp_struct.specs.declared.refusal.StructKind.{StructKind}
use Rattle.sp_struct.specs.declared.refusal.StructKind.TheVariants as kind

pub unbroken : (p : Program) → IsStructured p → (k : StructKind) (line : ℕ) → BreaksRule p k line → ⊥
unbroken p s kind.JumpOut line h = s.jumps line h
unbroken p s kind.FallsOff line h = s.falls line h
unbroken p s kind.CallOut line h = s.calls line h
unbroken p s kind.Recursion line h = s.recursion line h
unbroken p s kind.Computed line h = s.computed line h
unbroken p s kind.StackPointer line h = s.pointer line h
unbroken p s kind.Unreached line h = s.reached line h
unbroken p s (kind.Depth a b) line h = s.depths line a b h
unbroken p s kind.PopsReturn line h = s.pops line h
unbroken p s kind.OverDepth line h = s.over line h
unbroken p s kind.NoSlot line h = s.slots line h
unbroken p s kind.UncutLoop line h = s.cut line h
unbroken p s kind.ReturnInStart line h = s.start line h
unbroken p s kind.CodeWritten line h = s.code line h

pub structured : (p : Program) → ((k : StructKind) (line : ℕ) → BreaksRule p k line → ⊥) → IsStructured p
structured p none = record {
  jumps = none kind.JumpOut;
  falls = none kind.FallsOff;
  calls = none kind.CallOut;
  recursion = none kind.Recursion;
  computed = none kind.Computed;
  pointer = none kind.StackPointer;
  reached = none kind.Unreached;
  depths = λ line a b. none (kind.Depth a b) line;
  pops = none kind.PopsReturn;
  over = none kind.OverDepth;
  slots = none kind.NoSlot;
  cut = none kind.UncutLoop;
  start = none kind.ReturnInStart;
  code = none kind.CodeWritten;
}

one_line : (line there m n : ℕ) → (m < n) ⊎ ((m ≡ n) × (line ≤ there)) → (n < m) ⊎ ((n ≡ m) × (there ≤ line)) → (line ≡ there) × (m ≡ n)
one_line line there m n (inl a) (inl b) = absurd (omega arith)
one_line line there m n (inl a) (inr b) = absurd (let e = b.0 in omega (arith, a, e))
one_line line there m n (inr a) (inl b) = absurd (let e = a.0 in omega (arith, b, e))
one_line line there m n (inr a) (inr b) = (let x = a.1 in let y = b.1 in omega (arith, x, y), a.0)

pub one_refusal : (p : Program) → HasOneRefusal p
one_refusal p = record {
  structured = (unbroken p, structured p);
  one = λ line there k other a b. one_line line there (rank k) (rank other) (a.first other there b.broken) (b.first k line a.broken);
}
