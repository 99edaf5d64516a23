use Rattle.std.proofs.lemmas.Grind.{common_steps}
use Rattle.std.proofs.Common.{◌+◌, ◌<◌, length, sym, subst, arith}
use Rattle.st_world_parts.specs.Seen.{told_seen}
use Rattle.st_world_parts.specs.Sides.{Client}
use Rattle.st_world.specs.Left.{Left}
use Rattle.st_world.proofs.Hops.{back_hop_meets, hop_same}
use Rattle.st_world.proofs.trace.Trace.back_up.Goals as goal

pub returns-clause-met : goal.returns-clause-met
returns-clause-met g c =
    back_hop_meets _ _ _ _ _ c.self.view_is _ _ _ c.requires.hop c.index_mut-node.ensures.value Client c.back_to_hop_up.result told_seen (c.args.hop + 1) c.args.hop _ c.args.now c.args.put.now _ c.back_to_hop_up.new.node _ (λ e. omega (arith, e)) (omega arith) c.back_to_hop_up.ensures.back

pub returns-clause-same_self : goal.returns-clause-same_self
returns-clause-same_self g c = hop_same _ _ _ _ _ c.self.view_is c.args.links.now _ _ c.requires.hop c.index_mut-node.ensures.value Client c.back_to_hop_up.result c.back_to_hop_up.new.node c.back_to_hop_up.ensures.same_node

pub index_mut-node-requires : goal.index_mut-node-requires
index_mut-node-requires g c =
    let within = subst (λ (t : Left). c.args.hop < length t.nodes) (sym c.self.view_is) c.requires.hop in
    omega (arith, within, c.self.inside.nodes.ok)

pub back_to_hop_up-requires : goal.back_to_hop_up-requires
back_to_hop_up-requires g c = grind (arith, common_steps)

pub returns-clause-nodes : goal.returns-clause-nodes
returns-clause-nodes g c = grind (arith, common_steps)
