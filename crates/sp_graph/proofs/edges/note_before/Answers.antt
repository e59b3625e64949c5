use Rattle.std.proofs.Common.{◌++◌, ◌∷◌, [], sym, ap, ◌∙◌, set, map}
use Rattle.std.proofs.lemmas.List.{map-set, get_or-map}
use Rattle.sp_graph.proofs.edges.note_before.Goals as goal

pub returns : goal.returns
returns c =
    let items = c.args.lists.now.items in
    let old = get_or-map (λ list. list.items) items c.args.to c.index_mut.result.now [] c.requires in
    let read = ap (λ list. list.items) c.index_mut.ensures.value in
    map-set (λ list. list.items) items c.args.to c.push.new.self
    ∙ ap (λ v. set (map (λ list. list.items) items) c.args.to v)
    (c.in_ok-push.ensures.ok ∙ ap (λ v. v ++ c.args.at ∷ []) (read ∙ sym old))
