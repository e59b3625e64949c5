use Rattle.std.proofs.Common.{◌≡◌, ℕ, ◌%◌, Bool, List, true, refl, sym, ap, subst, ◌∙◌}
use Rattle.sp_stmt.specs.declared.operand.Operand.{Operand}
use Rattle.sp_asm.specs.declared.refusal.AsmKind.{AsmKind}
use Rattle.sp_asm.specs.Names.{Entries, value_in}
use Rattle.sp_asm.specs.Assembly.{uses_names_above, names_above}
use Rattle.sp_asm.specs.code.Passes.{Evaluated, fault_of}
use Rattle.sp_asm.proofs.FaultLaws.{Faults, fault_is}
use Rattle.sp_asm.proofs.PlaceLaws.{breaks_by_fault}
use Rattle.sp_asm.proofs.places.Places.value_of.Goals as goal

pub returns-clause-err : goal.returns-clause-err
returns-clause-err c places h apart =
    let old = c.args.self.now in
    let s = c.args.s.now in
    let uses : uses_names_above c.args.s.now.code ≡ true = sym c.uses_names_above.ensures ∙ c.if-not-uses_names_above.false in
    let without = subst (λ (b : Bool). Evaluated b (value_in old.names.entries) (old.address % 65536) s.operands c.evaluate.new.values.items) c.if-branch.false
    (rw c.as_slice.ensures at c.in_ok-evaluate.ensures) in
    let fault = fault_is c.args.all.now (value_in old.names.entries) (value_in c.in_ok-declared.declared.entries) (old.address % 65536) s.operands c.in_ok-declared.ensures without in
    let kind : fault_of (value_in old.names.entries) (value_in c.in_ok-declared.declared.entries) s.operands ≡ c.fault_of-kind.result =
    ap (λ (os : List Operand). fault_of (value_in old.names.entries) (value_in c.in_ok-declared.declared.entries) os) (sym c.as_slice-2.ensures) ∙ sym c.fault_of-kind.ensures in
    let named = subst (λ (k : AsmKind). Faults c.args.all.now (value_in old.names.entries) (old.address % 65536) s.operands k) kind fault in
    let above = subst (λ (es : Entries). Faults c.args.all.now (value_in es) (old.address % 65536) s.operands c.fault_of-kind.result) h.names named in (
      refl,
      breaks_by_fault c.args.all.now places s c.fault_of-kind.result apart uses
          (subst (λ (a : ℕ). Faults c.args.all.now (names_above places) (a % 65536) s.operands c.fault_of-kind.result) h.address above),
    )
