use Rattle.std.proofs.Common.{◌≡◌, ◌+◌, List, Result, Ok, Err, refl, sym, ap, length, ◌∙◌, arith}
use Rattle.sp_note.specs.Parts.{lines_of}
use Rattle.sp_note.specs.code.Lines.{notes_of}
use Rattle.sp_lex.proofs.SourceLemmas.{length-lines}
use Rattle.sp_note.proofs.LineLemmas.{line_in, in_order-skip, in_order-more, in_order-refused, in_order-all}
use Rattle.sp_note.proofs.reading.all_notes.Goals as goal

pub loop-i-preserved-then-not-is_annotation : goal.loop-i-preserved-then-not-is_annotation
loop-i-preserved-then-not-is_annotation c =
    in_order-skip c.args.source.now c.as_slice-lines.result.now (c.loop-i.i + 1) c.loop-i.i c.index-lines-i.result (lines_of c.loop-i.notes.items) c.loop-i-test.true c.index-lines-i.is (sym c.is_annotation.ensures ∙ c.if-not-is_annotation.true)
    ∙ c.loop-i.invariant

pub overflow_cast-number : goal.overflow_cast-number
overflow_cast-number c = omega (arith, length-lines c.args.source.now c.args.lines.now c.requires.lines, ap length c.as_slice-lines.ensures)

pub part_at-requires : goal.part_at-requires
part_at-requires c =
    line_in c.args.source.now c.args.lines.now c.as_slice-lines.result.now c.loop-i.i c.index-lines-i.result c.as_slice.result.now c.requires.lines c.as_slice-lines.ensures c.loop-i-test.true c.index-lines-i.is c.as_slice.ensures

pub returns-in-Err : goal.returns-in-Err
returns-in-Err c =
    rw c.refusal_at.ensures (in_order-refused c.args.source.now c.as_slice-lines.result.now (record { 0 = c.loop-i.i + 1 }) c.loop-i.i c.index-lines-i.result c.as_slice.result.now (lines_of c.loop-i.notes.items) c.in-Err.refusal _ c.loop-i-test.true
    c.index-lines-i.is (sym c.is_annotation.ensures ∙ c.if-not-is_annotation.false) c.as_slice.ensures c.in-Err.ensures (c.loop-i.invariant ∙ ap (notes_of c.args.source.now) c.as_slice-lines.ensures))

pub loop-i-preserved : goal.loop-i-preserved
loop-i-preserved c =
    in_order-more c.args.source.now c.as_slice-lines.result.now (c.loop-i.i + 1) c.loop-i.i c.index-lines-i.result c.as_slice.result.now c.loop-i.notes.items c.push.new.self.items (record { line = record { 0 = c.loop-i.i + 1 }; part = c.in-Ok.part }) c.in-Ok.part c.loop-i-test.true c.index-lines-i.is
    (sym c.is_annotation.ensures ∙ c.if-not-is_annotation.false) c.as_slice.ensures c.in-Ok.ensures refl refl c.in_ok-push-in-Ok.ensures.items
    ∙ c.loop-i.invariant

pub returns : goal.returns
returns c =
    sym (ap (notes_of c.args.source.now) c.as_slice-lines.ensures) ∙ sym c.loop-i.invariant
    ∙ in_order-all c.args.source.now c.as_slice-lines.result.now (c.loop-i.i + 1) c.loop-i.i (lines_of c.loop-i.notes.items) c.loop-i-test.false ∙ ap (λ ss. Ok (lines_of ss)) (sym c.from_vec.ensures)
