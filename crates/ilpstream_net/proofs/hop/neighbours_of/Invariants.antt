use Rattle.std.proofs.Common.{◌≡◌, map, take}
use Rattle.ilpstream_net.specs.Ways.{these, way_to}
use Rattle.ilpstream_net.proofs.hop.neighbours_of.Given as goal

abbrev pub invariant-loop-number : goal.invariant-loop-number
invariant-loop-number l = map way_to l.neighbours.items ≡ these (take l.number l.accounts)
