use Rattle.std.proofs.Common.{◌≡◌, ◌+◌, ◌∙◌, arith, length, sym, ap, false}
use Rattle.std.proofs.lemmas.List.{get_or_read}
use Rattle.sp_graph.specs.declared.graph.Node.{Node}
use Rattle.sp_struct.specs.code.Turned.{turned}
use Rattle.sp_struct.proofs.TurnedLemmas.{size, stays, is_high, isnt_high}
use Rattle.sp_struct.proofs.turned.is_highest.Goals as goal

pub search-requires-clause-some : goal.search-requires-clause-some
search-requires-clause-some c =
    let is : c.deref.result.now ≡ turned c.args.graph.now c.args.at (c.args.at + 1) = c.deref.ensures.value ∙ c.in_ok-nodes.ensures in
    let s = size c.args.graph.now c.args.at (c.args.at + 1) in
    let l = ap (length {A = Node}) is in omega (arith, s, l)

pub search-requires-clause-whole : goal.search-requires-clause-whole
search-requires-clause-whole c =
    let is : c.deref.result.now ≡ turned c.args.graph.now c.args.at (c.args.at + 1) = c.deref.ensures.value ∙ c.in_ok-nodes.ensures in
    rw is (stays c.args.graph.now c.args.at)

pub index-requires : goal.index-requires
index-requires c =
    let is : c.deref.result.now ≡ turned c.args.graph.now c.args.at (c.args.at + 1) = c.deref.ensures.value ∙ c.in_ok-nodes.ensures in
    let s = size c.args.graph.now c.args.at (c.args.at + 1) in
    let l = ap (length {A = Node}) is in
    let m = c.in_ok-reached.ensures.grown.marks in omega (arith, s, l, m)

pub returns-clause-yes : goal.returns-clause-yes
returns-clause-yes c =
    let is : c.deref.result.now ≡ turned c.args.graph.now c.args.at (c.args.at + 1) = c.deref.ensures.value ∙ c.in_ok-nodes.ensures in
    let reached = c.in_ok-reached.reached in
    let s = size c.args.graph.now c.args.at (c.args.at + 1) in
    let l = ap (length {A = Node}) is in
    let m = c.in_ok-reached.ensures.grown.marks in
    let read = get_or_read reached.seen.items (c.args.at + 1) c.index.result.now (omega (arith, s, l, m)) c.index.ensures false in
    let grown = rw is at c.in_ok-reached.ensures.grown in
    let closed = rw is at c.in_ok-reached.ensures.closed in
    λ e. is_high c.args.graph.now c.args.at reached.seen.items reached.order.items reached.up.items grown closed (sym read ∙ e)

pub returns-clause-no : goal.returns-clause-no
returns-clause-no c =
    let is : c.deref.result.now ≡ turned c.args.graph.now c.args.at (c.args.at + 1) = c.deref.ensures.value ∙ c.in_ok-nodes.ensures in
    let reached = c.in_ok-reached.reached in
    let s = size c.args.graph.now c.args.at (c.args.at + 1) in
    let l = ap (length {A = Node}) is in
    let m = c.in_ok-reached.ensures.grown.marks in
    let read = get_or_read reached.seen.items (c.args.at + 1) c.index.result.now (omega (arith, s, l, m)) c.index.ensures false in
    let grown = rw is at c.in_ok-reached.ensures.grown in
    let closed = rw is at c.in_ok-reached.ensures.closed in
    λ e. isnt_high c.args.graph.now c.args.at reached.seen.items reached.order.items reached.up.items grown closed (sym read ∙ e)
