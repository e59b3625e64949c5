use Rattle.std.proofs.Common.{◌≡◌, ◌∙◌, ℕ, ◌+◌, ◌≤◌, ◌%◌, Bool, false, List, [], ◌∷◌, ◌++◌, Some, map, fold, length, refl, sym, ap, subst}
use Rattle.sp_base.specs.Image.{ImageMap}
use Rattle.sp_base.specs.Cells.{placed, IsPlaced}
use Rattle.sp_stmt.specs.declared.operand.Operand.{Operand}
use Rattle.sp_stmt.specs.declared.statement.Statement.{Statement}
use Rattle.sp_asm.specs.declared.refusal.AsmKind.{AsmKind}
use Rattle.sp_asm.specs.Names.{Definition, Entries, with_definition, value_in, by_set}
use Rattle.sp_asm.specs.Values.{AreInRange, are_in_range}
use Rattle.sp_asm.specs.Assembly.{Place, Row, uses_names_above, names_at, places_of, bytes_by, kind_by, item_of, definition_of}
use Rattle.sp_asm.specs.code.Passes.{Evaluated, Declares, fault_of}
use Rattle.sp_asm.proofs.DataLaws.{length-bytes_by}
use Rattle.sp_asm.proofs.FaultLaws.{Faults, fault_is}
use Rattle.sp_asm.proofs.OperandLaws.{values_length}
use Rattle.sp_asm.proofs.RowLaws.{more_rows, breaks_by_fault, declares_all, row_of, overlaps, late_is_no_set, set_is}
use Rattle.sp_asm.proofs.rows.Rows.add_row.Goals as goal

pub returns-then-not-branch-clause-err : goal.returns-then-not-branch-clause-err
returns-then-not-branch-clause-err c all rows p h at address value names =
    let old = c.args.self.now in
    let s = c.args.s.now in
    let here = c.args.spot.address % 65536 in
    let statements : List Statement = map (λ (q : Place). q.statement) all in
    let late : uses_names_above p.statement.code ≡ false = ap (λ (st : Statement). uses_names_above st.code) at ∙ sym c.uses_names_above.ensures ∙ c.if-uses_names_above.false in
    let without = subst (λ (b : Bool). Evaluated b (value_in old.names.entries) (c.args.spot.address % 65536) s.operands c.evaluate.new.values.items) c.if-not-branch.true
    (rw c.as_slice-operands.ensures at c.in_ok-evaluate.ensures) in
    let declares = subst (λ (es : Entries). Declares (value_in es) statements) (sym names) (declares_all all) in
    let fault = fault_is statements (value_in old.names.entries) (value_in c.args.all.now.entries) here s.operands declares without in
    let kind : fault_of (value_in old.names.entries) (value_in c.args.all.now.entries) s.operands ≡ c.fault_of.result =
    ap (λ (os : List Operand). fault_of (value_in old.names.entries) (value_in c.args.all.now.entries) os) (sym c.as_slice-operands.ensures) ∙ sym c.fault_of.ensures in
    let named = subst (λ (k : AsmKind). Faults statements (value_in old.names.entries) here s.operands k) kind fault in
    let known = subst (λ (es : Entries). Faults statements (value_in es) here s.operands c.fault_of.result) h.names named in
    let there = subst (λ (a : ℕ). Faults statements (names_at all (places_of rows)) (a % 65536) s.operands c.fault_of.result) (sym address) known in (
      refl,
      breaks_by_fault statements all rows p c.fault_of.result late
          (subst (λ (st : Statement). Faults statements (names_at all (places_of rows)) (p.address % 65536) st.operands c.fault_of.result) (sym at) there),
    )

pub are_in_range-requires : goal.are_in_range-requires
are_in_range-requires c =
    let old = c.args.self.now in
    let ops = c.as_slice-operands.result.now in
    let are = subst (λ (b : Bool). Evaluated b (value_in old.names.entries) (c.args.spot.address % 65536) ops c.evaluate.new.values.items) c.if-not-branch.false c.in_ok-evaluate.ensures in
    ap length c.deref.ensures.value ∙ values_length (value_in old.names.entries) (c.args.spot.address % 65536) ops c.evaluate.new.values.items are

pub put_bytes-requires-clause-values : goal.put_bytes-requires-clause-values
put_bytes-requires-clause-values c =
    let old = c.args.self.now in
    let ops = c.as_slice-operands.result.now in
    let are = subst (λ (b : Bool). Evaluated b (value_in old.names.entries) (c.args.spot.address % 65536) ops c.evaluate.new.values.items) c.if-not-branch.false c.in_ok-evaluate.ensures in
    ap length c.deref-2.ensures.value ∙ values_length (value_in old.names.entries) (c.args.spot.address % 65536) ops c.evaluate.new.values.items are ∙ ap length c.as_slice-operands.ensures

pub put-requires : goal.put-requires
put-requires c =
    let old = c.args.self.now in
    let s = c.args.s.now in
    let ops = c.as_slice-operands.result.now in
    let late : uses_names_above s.code ≡ false = sym c.uses_names_above.ensures ∙ c.if-uses_names_above.false in
    let are = subst (λ (b : Bool). Evaluated b (value_in old.names.entries) (c.args.spot.address % 65536) ops c.evaluate.new.values.items) c.if-not-branch.false c.in_ok-evaluate.ensures in
    let same : length c.deref-2.result.now ≡ length s.operands =
    ap length c.deref-2.ensures.value ∙ values_length (value_in old.names.entries) (c.args.spot.address % 65536) ops c.evaluate.new.values.items are ∙ ap length c.as_slice-operands.ensures in
    let bytes = c.deref-3.ensures.value ∙ c.in_ok-put_bytes.ensures in
    subst (λ (n : ℕ). n ≤ 65536) (sym (ap (λ (bs : List ℕ). c.args.spot.address + length bs) bytes ∙ length-bytes_by s.code s.operands c.deref-2.result.now c.args.spot.address c.args.spot.value late same)) c.requires.room

pub returns-then-not-branch-2-clause-err : goal.returns-then-not-branch-2-clause-err
returns-then-not-branch-2-clause-err c all rows p h at address value names =
    let old = c.args.self.now in
    let s = c.args.s.now in
    let values = c.evaluate.new.values.items in
    let late : uses_names_above s.code ≡ false = sym c.uses_names_above.ensures ∙ c.if-uses_names_above.false in
    let are = subst (λ (b : Bool). Evaluated b (value_in old.names.entries) (c.args.spot.address % 65536) s.operands c.evaluate.new.values.items) c.if-not-branch.false
    (rw c.as_slice-operands.ensures at c.in_ok-evaluate.ensures) in
    let within : AreInRange s.operands values =
    (λ i. are_in_range (sym c.as_slice-operands.ensures i) (sym c.deref.ensures.value i)) ∙ sym c.are_in_range.ensures ∙ c.if-not-are_in_range.false in
    let r : Row = record { place = p; values = c.evaluate.new.values.items } in
    let bytes : c.deref-3.result.now ≡ bytes_by p.statement.code p.statement.operands values =
    c.deref-3.ensures.value ∙ c.in_ok-put_bytes.ensures ∙ (λ i. bytes_by (sym at i).code (sym at i).operands (c.deref-2.ensures.value i)) in
    let none = subst (λ (b : Bool). IsPlaced b c.put.new.self.image (placed c.args.spot.address c.deref-3.result.now old.image)) c.if-not-branch-2.true c.in_ok-put.ensures.image in (
      refl,
      (
        r,
        refl,
        row_of old all rows p s c.args.spot.address values h at address late are within,
        overlaps old all rows r h ((λ i. placed (address i) (sym bytes i) old.image) ∙ none),
      ),
    )

pub returns-clause-ok : goal.returns-clause-ok
returns-clause-ok c all rows p h at address value =
    let old = c.args.self.now in
    let s = c.args.s.now in
    let values = c.evaluate.new.values.items in
    let late : uses_names_above s.code ≡ false = sym c.uses_names_above.ensures ∙ c.if-uses_names_above.false in
    let are = subst (λ (b : Bool). Evaluated b (value_in old.names.entries) (c.args.spot.address % 65536) s.operands c.evaluate.new.values.items) c.if-not-branch.false
    (rw c.as_slice-operands.ensures at c.in_ok-evaluate.ensures) in
    let within : AreInRange s.operands values =
    (λ i. are_in_range (sym c.as_slice-operands.ensures i) (sym c.deref.ensures.value i)) ∙ sym c.are_in_range.ensures ∙ c.if-not-are_in_range.false in
    let r : Row = record { place = p; values = c.evaluate.new.values.items } in
    let bytes : c.deref-3.result.now ≡ bytes_by p.statement.code p.statement.operands values =
    c.deref-3.ensures.value ∙ c.in_ok-put_bytes.ensures ∙ (λ i. bytes_by (sym at i).code (sym at i).operands (c.deref-2.ensures.value i)) in
    let image = subst (λ (b : Bool). IsPlaced b c.put.new.self.image (placed c.args.spot.address c.deref-3.result.now old.image)) c.if-not-branch-2.false c.in_ok-put.ensures.image in
    let kind : c.kind_of.result ≡ kind_by p.statement.code values = c.kind_of.ensures ∙ (λ i. kind_by (sym at i).code (c.deref-4.ensures.value i)) in
    let item : record { line = s.line; addr = c.args.spot.address; label = s.label; kind = c.kind_of.result } ≡ item_of r =
    λ i. record { line = (sym at i).line; addr = sym address i; label = (sym at i).label; kind = kind i } in
    let none : by_set (definition_of p) ≡ [] =
    set_is p.statement.code p.statement.label p.address p.value ∙ late_is_no_set p.statement.code p.value (ap (λ (st : Statement). uses_names_above st.code) at ∙ late) in (
      r,
      refl,
      more_rows old c.add_item.new.self all rows r h
          (c.in_ok-add_item.ensures.items ∙ (λ i. (c.in_ok-put.ensures.others.0 i).items ++ item i ∷ []))
          ((λ i. placed (address i) (sym bytes i) old.image) ∙ image ∙ ap (λ (m : ImageMap). Some m) (sym c.in_ok-add_item.ensures.others.0))
          (ap (λ n. n.entries) (c.in_ok-add_item.ensures.others.1 ∙ c.in_ok-put.ensures.others.1) ∙ ap (λ (ds : List Definition). fold with_definition old.names.entries ds) (sym none))
          (row_of old all rows p s c.args.spot.address values h at address late are within),
    )
