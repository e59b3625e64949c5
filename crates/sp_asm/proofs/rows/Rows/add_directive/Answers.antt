use Rattle.std.proofs.Common.{◌≡◌, ◌∙◌, ◌%◌, Bool, List, [], ◌∷◌, ◌++◌, true, Some, fold, length, refl, sym, ap, subst}
use Rattle.sp_base.specs.Image.{ImageMap}
use Rattle.sp_stmt.specs.declared.statement.Statement.{Statement}
use Rattle.sp_asm.specs.Names.{Definition, with_definition, by_set, set_definition}
use Rattle.sp_asm.specs.Assembly.{Row, uses_names_above, kind_by, item_of, row_bytes, definition_of, places_of, names_at, HasRowValues}
use Rattle.sp_asm.proofs.RowLaws.{more_rows, placed_nothing, early_bytes, set_is}
use Rattle.sp_asm.proofs.rows.Rows.add_directive.Goals as goal

pub returns : goal.returns
returns c all rows p h at address value uses =
    let old = c.args.self.now in
    let s = c.args.s.now in
    let r : Row = record { place = p; values = [] } in
    let early : uses_names_above p.statement.code ≡ true = ap (λ (st : Statement). uses_names_above st.code) at ∙ uses in
    let kind : c.kind_of.result ≡ kind_by p.statement.code [] = c.kind_of.ensures ∙ ap (λ (st : Statement). kind_by st.code []) (sym at) in
    let item : record { line = s.line; addr = c.args.spot.address; label = s.label; kind = c.kind_of.result } ≡ item_of r =
    λ i. record { line = (sym at i).line; addr = sym address i; label = (sym at i).label; kind = kind i } in
    let defined : set_definition s.code c.args.spot.value ≡ by_set (definition_of p) =
    (λ i. set_definition (sym at i).code (sym value i)) ∙ sym (set_is p.statement.code p.statement.label p.address p.value) in (
      r,
      refl,
      more_rows old c.add_item.new.self all rows r h
          (c.in_ok-add_item.ensures.items ∙ (λ i. (c.in_ok-set_name.ensures.others.0 i).items ++ item i ∷ []))
          (placed_nothing (row_bytes r) p.address old.image (ap length (early_bytes p.statement.code p.statement.operands [] early)) ∙ ap (λ (m : ImageMap). Some m) (sym (c.in_ok-add_item.ensures.others.0 ∙ c.in_ok-set_name.ensures.others.1)))
          (ap (λ n. n.entries) c.in_ok-add_item.ensures.others.1 ∙ c.in_ok-set_name.ensures.names ∙ ap (λ (ds : List Definition). fold with_definition old.names.entries ds) defined)
          (subst (λ (b : Bool). HasRowValues b (names_at all (places_of rows)) (p.address % 65536) p.statement.operands []) (sym early) refl),
    )
