use Rattle.ilpstream_local.specs.Playing.{Continues}
use Rattle.ilpstream_local.specs.Schedule.{Reads}
use Rattle.ilpstream_local.proofs.streams.read_streams.Given as goal

abbrev pub invariant-loop-place : goal.invariant-loop-place
invariant-loop-place g l = record {
  kept : Continues l.fn.play l.play;
  reads : Reads l.place l.fn.play l.play;
}
