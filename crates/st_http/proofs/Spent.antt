-- Calls of a stream, counted one after the other.
use Rattle.std.proofs.Common.{ℕ, arith}
use Rattle.st_devices.specs.Tallies.{TakesTurns}
use Rattle.st_devices.specs.declared.tally.Tally.{Tally}

pub takes_more : (t u v : Tally) (a b c : ℕ) → TakesTurns t u a b → TakesTurns u v b c → TakesTurns t v a c
takes_more t u v a b c first second = record {
  fewer = omega (arith, first.fewer, second.fewer);
  calls = omega (arith, first.fewer, second.fewer, first.calls, second.calls);
}
