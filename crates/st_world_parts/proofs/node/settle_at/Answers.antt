use Rattle.std.proofs.Common.{◌≡◌, arith, sym, ◌∙◌, Some, None, nat_eq}
use Rattle.std.proofs.lemmas.Grind.{common_steps}
use Rattle.std.specs.HashMap.{get}
use Rattle.st_links.specs.Outcomes.{outcome_seen}
use Rattle.st_world_parts.proofs.Spent.{found_among, kept_all, kept_less}
use Rattle.st_world_parts.proofs.node.settle_at.Goals as goal

pub invariant_of-node-in_default : goal.invariant_of-node-in_default
invariant_of-node-in_default g c =
    let none : get nat_eq c.node.inside.kept c.put.inside.name ≡ None = grind (arith, common_steps) in
    (kept_all c.node.inside.state.tickets c.put.inside.name c.node.inside.kept c.take_ticket.new.kept none c.node.invariant.0 c.take_ticket.ensures.rest, c.node.invariant.1)

pub settle-bytes-requires : goal.settle-bytes-requires
settle-bytes-requires g c =
    let some : get nat_eq c.node.inside.kept c.put.inside.name ≡ Some c.in-Some.ticket = grind (arith, common_steps) in
    found_among c.node.inside.state.tickets c.put.inside.name c.in-Some.ticket (sym (c.node.invariant.0 c.put.inside.name) ∙ some)

pub invariant_of-node-2 : goal.invariant_of-node-2
invariant_of-node-2 g c =
    let some : get nat_eq c.node.inside.kept c.put.inside.name ≡ Some c.in-Some.ticket = grind (arith, common_steps) in
    let keeps = c.settlements_book.ensures.keeps_rest c.node.inside.state c.in-Some.ticket (outcome_seen c.args.outcome) c.args.now in
    kept_less c.node.inside.state c.settle-bytes.new.self c.in-Some.ticket (outcome_seen c.args.outcome) c.args.now _ c.put.inside.name c.node.inside.kept c.take_ticket.new.kept c.is_lawful.ensures keeps c.settle-bytes.ensures.settled some c.node.invariant.0 c.take_ticket.ensures.rest c.node.invariant.1
