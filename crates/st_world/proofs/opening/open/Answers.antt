use Rattle.std.proofs.Common.{ap}
use Rattle.st_world.specs.Left.{Left}
use Rattle.st_world.proofs.Openings.{opened_with, opened_links, opened_reached}
use Rattle.st_world.proofs.opening.open.Goals as goal

pub invariant_of-result : goal.invariant_of-result
invariant_of-result g c =
    let terms = c.args.terms.now in
    let is = opened_with terms c.args.config c.in_ok-trace.trace c.in_ok-links.links.items c.in_ok-trace.ensures c.in_ok-links.ensures in
    (opened_links terms c.in_ok-trace.trace.nodes c.in_ok-links.links.items (ap (λ (x : Left). x.nodes) c.in_ok-trace.ensures) c.in_ok-links.ensures, opened_reached _ terms c.args.config is)

pub returns : goal.returns
returns g c = opened_with c.args.terms.now c.args.config c.in_ok-trace.trace c.in_ok-links.links.items c.in_ok-trace.ensures c.in_ok-links.ensures
