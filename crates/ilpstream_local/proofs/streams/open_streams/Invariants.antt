use Rattle.ilpstream_local.specs.Playing.{Continues}
use Rattle.ilpstream_local.specs.Schedule.{Takes, each, opens}
use Rattle.ilpstream_local.proofs.streams.open_streams.Given as goal

abbrev pub invariant-loop-place : goal.invariant-loop-place
invariant-loop-place g l = record {
  kept : Continues l.fn.play l.play;
  taken : Takes (each opens l.place) l.fn.play l.play;
}
