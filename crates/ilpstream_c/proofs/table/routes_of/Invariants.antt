use Rattle.std.proofs.Common.{◌≡◌, ◌++◌, map, drop}
use Rattle.st_hop.specs.Seen.{way_seen}
use Rattle.ilpstream_c.specs.Hops.{ways_of, are_routes}
use Rattle.ilpstream_c.proofs.table.routes_of.Given as goal

-- what is left of the text and of the routes is as lawful as all of them, and the routes so far and those to come are all
abbrev pub invariant-loop-route : goal.invariant-loop-route
invariant-loop-route l =
    (are_routes l.rest (drop l.route-index l.routes) ≡ are_routes l.text l.routes)
    × (map way_seen l.kept.items ++ ways_of l.rest (drop l.route-index l.routes) ≡ ways_of l.text l.routes)
