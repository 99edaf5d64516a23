use Rattle.std.proofs.Common.{◌≡◌, drop, map}
use Rattle.st_hop.specs.Seen.{way_seen}
use Rattle.st_hop.specs.Ways.{longest_from, longest_prefix}
use Rattle.st_hop.proofs.route.longest_prefix.Given as goal

abbrev pub invariant-loop-route : goal.invariant-loop-route
invariant-loop-route l = longest_from l.longest (map way_seen (drop l.route-index l.routes)) ≡ longest_prefix (map way_seen l.routes)
