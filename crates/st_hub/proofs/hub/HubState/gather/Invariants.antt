use Rattle.std.proofs.Common.{◌≡◌, ◌+◌, length}
use Rattle.std.specs.Prelude.{sum}
use Rattle.st_hub.proofs.hub.HubState.gather.Given as goal

abbrev pub invariant-loop-share : goal.invariant-loop-share
invariant-loop-share g l = (l.spare.parts ≡ l.initial.spare.parts + length l.yielded) × (l.spare.amount ≡ l.initial.spare.amount + sum l.yielded)
