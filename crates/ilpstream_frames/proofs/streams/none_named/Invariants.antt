use Rattle.std.proofs.Common.{◌≡◌, replicate, Option, None}
use Rattle.st_reassembly.specs.Held.{Held}
use Rattle.ilpstream_frames.proofs.streams.none_named.Given as goal

abbrev pub invariant-loop : goal.invariant-loop
invariant-loop g l = l.inboxes.items ≡ replicate {A = Option Held} l.counter None
