use Rattle.st_world_parts.specs.Seen.{way_seen}
use Rattle.ilpstream_local.proofs.Rounds.{crosses_then, crossing_then}
use Rattle.ilpstream_local.proofs.Stops.{on_err, on_ok}
use Rattle.ilpstream_local.proofs.chain.cross.Goals as goal

pub returns-clause-crosses : goal.returns-clause-crosses
returns-clause-crosses g c =
    on_ok c.come_back.result _ _ (crosses_then (way_seen c.args.way) c.args.first c.args.number c.args.play.now c.go_across.new.play c.come_back.new.play c.in_ok-go_across.ensures.taken) c.come_back.ensures.taken

pub returns-clause-begun : goal.returns-clause-begun
returns-clause-begun g c =
    on_err c.come_back.result _ _ (crossing_then (way_seen c.args.way) c.args.first c.args.number c.args.play.now c.go_across.new.play c.come_back.new.play c.in_ok-go_across.ensures.taken) c.come_back.ensures.begun
