use Rattle.std.proofs.Common.{sym}
use Rattle.sp_struct.proofs.TurnedLemmas.{first_turned, next_turned}
use Rattle.sp_struct.proofs.turned.turned.Goals as goal

pub places-init : goal.places-init
places-init c =
    rw (c.in_ok-push.ensures.items, c.new-nodes.ensures.items, c.turned_node.ensures) (sym (first_turned c.args.graph.now c.args.highest))

pub places-preserved : goal.places-preserved
places-preserved c =
    rw (c.in_ok-push-2.ensures.items, c.places.invariant, c.turned_node-in-places.ensures) (sym (next_turned c.args.graph.now c.args.highest c.places.at))
