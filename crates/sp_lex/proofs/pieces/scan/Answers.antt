use Rattle.std.proofs.Common.{◌≡◌, ◌<◌, ◌++◌, length, sym, ap, ◌∙◌, arith, rules}
use Rattle.std.proofs.lemmas.List.{append-nil}
use Rattle.sp_lex.specs.code.Pieces.{fault_in}
use Rattle.sp_lex.proofs.CutLemmas.{cuts-none, fault_in-scanned, tokens_from-scanned, tokens_from-none}
use Rattle.sp_lex.proofs.pieces.scan.Goals as goal

pub loop-rest-preserved : goal.loop-rest-preserved
loop-rest-preserved c =
    let some : 0 < length c.loop-rest.rest.now = search rules in
    let pos : 0 < c.piece_at-piece.result.len = c.piece_at-piece.ensures.some some in
    let fault = fault_in-scanned c.args.annotation c.loop-rest.rest.now _ _ c.piece_at-piece.result c.loop-rest.fault _ _ c.piece_at-piece.ensures.value some pos
    c.split_at.ensures.front c.split_at.ensures.back c.fault_of.ensures c.first_fault-fault.ensures in
    let tokens = tokens_from-scanned c.args.annotation c.loop-rest.at c.loop-rest.rest.now _ c.piece_at-piece.result c.loop-rest.tokens.items _ c.piece_at-piece.ensures.value some pos c.piece_at-piece.ensures.within
    c.split_at.ensures.back c.in_ok-add_token.ensures in
    (fault ∙ c.loop-rest.invariant.0, tokens ∙ c.loop-rest.invariant.1, omega arith)

pub returns-clause-fault : goal.returns-clause-fault
returns-clause-fault c =
    let none : length c.loop-rest.rest.now ≡ 0 = search rules in
    ap (fault_in c.args.annotation c.loop-rest.fault) (sym (cuts-none c.args.annotation c.loop-rest.rest.now none)) ∙ c.loop-rest.invariant.0

pub returns-clause-tokens : goal.returns-clause-tokens
returns-clause-tokens c =
    let none : length c.loop-rest.rest.now ≡ 0 = search rules in
    sym (append-nil c.loop-rest.tokens.items)
    ∙ ap (λ ts. c.loop-rest.tokens.items ++ ts) (sym (tokens_from-none c.args.annotation c.loop-rest.at c.loop-rest.rest.now none)) ∙ c.loop-rest.invariant.1
