use Rattle.std.proofs.Common.{◌≡◌, map, take}
use Rattle.st_world.specs.Runs.{new_node}
use Rattle.st_world.specs.Chains.{tables_from}
use Rattle.st_world.proofs.opening.hops_of.Given as goal

abbrev pub invariant-loop-place : goal.invariant-loop-place
invariant-loop-place g l = l.hops.items ≡ map new_node (tables_from 1 (take l.place l.terms))
