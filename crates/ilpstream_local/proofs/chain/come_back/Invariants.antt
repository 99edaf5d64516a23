use Rattle.st_world_parts.specs.Seen.{way_seen}
use Rattle.ilpstream_local.specs.Playing.{Continues}
use Rattle.ilpstream_local.specs.Schedule.{Takes, answer, each}
use Rattle.ilpstream_local.proofs.chain.come_back.Given as goal

abbrev pub invariant-loop-after : goal.invariant-loop-after
invariant-loop-after g l = record {
  kept : Continues l.fn.play l.play;
  taken : Takes (each (answer (way_seen l.way) l.fn.play.asked.hops l.number) l.after) l.fn.play l.play;
}
