use Rattle.std.proofs.Common.{◌<◌}
use Rattle.ilpstream_local.specs.Playing.{IsAllRead, Plays}
use Rattle.ilpstream_local.specs.Schedule.{HaveEnded}
use Rattle.ilpstream_local.proofs.streams.have_ended.Given as goal

abbrev pub invariant-loop-place : goal.invariant-loop-place
invariant-loop-place g l = record {
  ended : HaveEnded l.place l.play.world;
  read : IsAllRead l.place l.play.world;
  run : 0 < l.place → Plays l.play.asked l.play.events l.play.world;
}
