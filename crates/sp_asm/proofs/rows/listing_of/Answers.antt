use Rattle.std.proofs.Common.{◌≡◌, ◌∙◌, ℕ, ◌+◌, ◌≤◌, List, [], ◌∷◌, ◌++◌, drop, take, length, refl, sym, ap, subst, arith}
use Rattle.std.specs.Prelude.{nat_eq}
use Rattle.std.specs.List.{IsDistinct}
use Rattle.std.proofs.lemmas.List.{take_all, append-nil, length-map}
use Rattle.std.proofs.lemmas.Result.{err_from_is_err_and}
use Rattle.sp_stmt.specs.declared.statement.Statement.{Statement}
use Rattle.sp_asm.specs.Names.{symbols, fixed}
use Rattle.sp_asm.specs.Assembly.{Place, Row, definitions, places_of, address_behind, next_address, IsRow}
use Rattle.sp_asm.specs.Refusals.{BreaksRow}
use Rattle.sp_asm.specs.code.Passes.{RefusesLine}
use Rattle.sp_asm.proofs.SplitLaws.{splits_empty}
use Rattle.sp_asm.proofs.RowLaws.{refuses_second, assembled, place_at, row_places}
use Rattle.sp_asm.proofs.rows.listing_of.Goals as goal

none_apart : IsDistinct nat_eq []
unfolding IsDistinct
none_apart = tt

pub loop-i-init : goal.loop-i-init
loop-i-init c =
    let all = c.requires.placed in (
      all.0,
      [],
      all.1,
      all.2,
      refl,
      record {
        items = sym c.in_ok-with_capacity.ensures.items;
        image = c.new.ensures;
        names = all.2.fixed_names ∙ ap symbols (sym (append-nil (fixed (definitions all.0))));
        each = splits_empty (λ (above : List Row) (q : Row). IsRow all.0 (places_of above) q);
        apart = none_apart;
      },
    )

pub add_row-requires-clause-room : goal.add_row-requires-clause-room
add_row-requires-clause-room c =
    let inv = c.loop-i.invariant in
    let at = place_at inv.0 c.args.statements.now c.args.places.spots.items c.loop-i.i c.index-statements-i.result c.index.result.now inv.2 inv.3.spots c.loop-i-test.true c.index-statements-i.is c.index.ensures in
    let placed = inv.3.placed (take c.loop-i.i inv.0) (drop (c.loop-i.i + 1) inv.0) at.0 at.4 in
    let there : address_behind c.index-statements-i.result.code c.index-statements-i.result.operands c.index.result.now.address c.index.result.now.value ≡ next_address at.0 =
    λ i. address_behind (sym at.1 i).code (sym at.1 i).operands (sym at.2 i) (sym at.3 i) in
    subst (λ (n : ℕ). n ≤ 65536) (sym there) placed.room.behind

pub returns-in_err-add_row : goal.returns-in_err-add_row
returns-in_err-add_row c =
    let inv = c.loop-i.invariant in
    let at = place_at inv.0 c.args.statements.now c.args.places.spots.items c.loop-i.i c.index-statements-i.result c.index.result.now inv.2 inv.3.spots c.loop-i-test.true c.index-statements-i.is c.index.ensures in
    let below : List Place = drop (c.loop-i.i + 1) inv.0 in
    let r = c.in_err-add_row.field-0.0 in
    let p = err_from_is_err_and c.from_residual-in_err-add_row.result c.from_residual-in_err-add_row.ensures.1 in
    rw (p.1, p.2) (refuses_second c.args.statements.now inv.0 below inv.1 at.0 c.index-statements-i.result.line r c.loop-i.rows
    inv.2 inv.3.placed (at.4 ∙ ap (λ (l : List Place). l ++ at.0 ∷ below) (sym inv.4)) inv.5 (ap (λ (st : Statement). st.line) at.1)
    (subst (λ (ss : List Statement). RefusesLine c.index-statements-i.result.line (BreaksRow ss inv.0 inv.1 at.0) r) inv.2 (c.in_err-add_row.ensures.err inv.0 inv.1 at.0 inv.5 at.1 at.2 at.3 inv.3.names)))

pub loop-i-preserved : goal.loop-i-preserved
loop-i-preserved c =
    let inv = c.loop-i.invariant in
    let at = place_at inv.0 c.args.statements.now c.args.places.spots.items c.loop-i.i c.index-statements-i.result c.index.result.now inv.2 inv.3.spots c.loop-i-test.true c.index-statements-i.is c.index.ensures in
    let more = c.in_ok-add_row.ensures.ok inv.0 inv.1 at.0 inv.5 at.1 at.2 at.3 in
    let reached : places_of (inv.1 ++ more.0 ∷ []) ≡ take (c.loop-i.i + 1) inv.0 =
    row_places inv.1 more.0 ∙ (λ i. inv.4 i ++ more.1 i ∷ []) ∙ sym at.5 in
    (inv.0, inv.1 ++ more.0 ∷ [], inv.2, inv.3, reached, more.2)

pub returns : goal.returns
returns c =
    let inv = c.loop-i.invariant in
    let count : length c.args.statements.now ≡ length inv.0 = ap length (sym inv.2) ∙ length-map inv.0 (λ (q : Place). q.statement) in
    let every : places_of inv.1 ≡ inv.0 = inv.4 ∙ take_all c.loop-i.i inv.0 (omega arith) in (
      inv.1,
      assembled c.args.statements.now inv.0 inv.1 c.loop-i.rows inv.2 inv.3.placed every inv.5,
      record {
        items = c.from_vec.ensures ∙ sym inv.5.items;
        image = inv.5.image;
        names = inv.3.names ∙ ap (λ (ps : List Place). symbols (definitions ps)) (sym every);
      },
    )
