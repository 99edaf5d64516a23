use Rattle.std.proofs.Common.{◌≡◌, replicate}
use Rattle.st_world_parts.specs.State.{empty_link}
use Rattle.st_world.proofs.opening.links_of.Given as goal

abbrev pub invariant-loop-link : goal.invariant-loop-link
invariant-loop-link g l = l.links.items ≡ replicate l.link empty_link
