use Rattle.std.proofs.Common.{◌≡◌, replicate, None}
use Rattle.st_world_parts.proofs.ledger.no_ledgers.Given as goal

abbrev pub invariant-loop-place : goal.invariant-loop-place
invariant-loop-place g l = l.slots.items ≡ replicate l.place None
