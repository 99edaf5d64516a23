use Rattle.std.proofs.lemmas.Grind.{common_steps}
use Rattle.std.proofs.Common.{◌+◌, ◌<◌, length, sym, subst, arith}
use Rattle.st_world.specs.Left.{Left}
use Rattle.st_world_parts.specs.Seen.{told_seen}
use Rattle.st_world_parts.specs.Sides.{Server}
use Rattle.st_world.proofs.Hops.{back_hop_meets, hop_same}
use Rattle.st_world.proofs.trace.Trace.back_down.Goals as goal

pub returns-clause-met : goal.returns-clause-met
returns-clause-met g c =
    back_hop_meets _ _ _ _ _ c.self.view_is _ _ _ c.requires.hop c.index_mut-node.ensures.value Server c.back_to_hop_down.result told_seen c.args.link (c.args.link + 1) _ c.args.now c.args.put.now _ c.back_to_hop_down.new.node _ (λ e. omega (arith, e)) (omega arith) c.back_to_hop_down.ensures.back

pub returns-clause-same_self : goal.returns-clause-same_self
returns-clause-same_self g c = hop_same _ _ _ _ _ c.self.view_is c.args.links.now _ _ c.requires.hop c.index_mut-node.ensures.value Server c.back_to_hop_down.result c.back_to_hop_down.new.node c.back_to_hop_down.ensures.same_node

pub index_mut-node-requires : goal.index_mut-node-requires
index_mut-node-requires g c =
    let within = subst (λ (t : Left). c.args.link < length t.nodes) (sym c.self.view_is) c.requires.hop in
    omega (arith, within, c.self.inside.nodes.ok)

pub back_to_hop_down-requires : goal.back_to_hop_down-requires
back_to_hop_down-requires g c = grind (arith, common_steps)

pub returns-clause-nodes : goal.returns-clause-nodes
returns-clause-nodes g c = grind (arith, common_steps)
