use Rattle.st_world_parts.specs.Seen.{way_seen}
use Rattle.ilpstream_local.specs.Playing.{Continues}
use Rattle.ilpstream_local.specs.Schedule.{Takes, arrival, each}
use Rattle.ilpstream_local.proofs.chain.go_across.Given as goal

abbrev pub invariant-loop-before : goal.invariant-loop-before
invariant-loop-before g l = record {
  kept : Continues l.fn.play l.play;
  taken : Takes (each (arrival (way_seen l.way) l.fn.play.asked.hops l.first l.number) l.before) l.fn.play l.play;
}
