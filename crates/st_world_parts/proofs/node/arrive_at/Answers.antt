use Rattle.std.proofs.Common.{◌≡◌}
use Rattle.st_hop.specs.Arriving.{Forwards, arrived}
use Rattle.st_world_parts.proofs.Spent.{kept_more, kept_still}
use Rattle.st_world_parts.proofs.node.arrive_at.Goals as goal

pub invariant_of-node-in-Ok-Forward : goal.invariant_of-node-in-Ok-Forward
invariant_of-node-in-Ok-Forward g c =
    let still = kept_still c.node.inside.state.tickets c.node.inside.kept c.make_room.new.kept c.make_room.ensures.same_kept c.node.invariant.0 in
    let goes : arrived c.node.inside.state c.account-2.result c.args.bytes.now c.args.now ≡ (Forwards c.in-Ok-Forward.ticket c.in-Ok-Forward.field-0-1 c.in-Ok-Forward.bytes.items, c.arrive.new.self) =
    rw c.in-Ok-Forward.field-0-is at c.in-Ok-Forward.ensures.arrived in
    kept_more c.node.inside.state c.arrive.new.self c.in-Ok-Forward.ticket c.account-2.result c.in-Ok-Forward.field-0-1 c.args.bytes.now c.in-Ok-Forward.bytes.items c.args.now c.make_room.new.kept c.keep_ticket.new.kept
    c.is_lawful.ensures goes still c.keep_ticket.ensures c.node.invariant.1
