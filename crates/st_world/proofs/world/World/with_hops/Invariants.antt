use Rattle.std.proofs.Common.{◌≡◌, length, take, map}
use Rattle.st_world.specs.Chains.{one_to_one}
use Rattle.st_world.proofs.world.World.with_hops.Given as goal

abbrev pub invariant-loop-place : goal.invariant-loop-place
invariant-loop-place g l = (length l.terms ≡ 8) × (take l.place l.terms ≡ map one_to_one (take l.place l.accounts))
