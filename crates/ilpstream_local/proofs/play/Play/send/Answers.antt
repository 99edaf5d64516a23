use Rattle.st_world_parts.specs.Events as events
use Rattle.st_world_parts.specs.Seen.{side_seen, told_seen}
use Rattle.ilpstream_local.specs.Schedule.{Begins, sending}
use Rattle.ilpstream_local.proofs.Rounds.{begins_as, send_is, send_tells}
use Rattle.ilpstream_local.proofs.Stops.{err_now}
use Rattle.ilpstream_local.proofs.play.Play.send.Goals as goal

pub returns-in_err-told-clause-begun : goal.returns-in_err-told-clause-begun
returns-in_err-told-clause-begun g c =
    let p = c.args.self.now in
    let side = side_seen c.args.side in
    err_now c.from_residual.result (Begins (sending side p.events) p c.pass.new.self)
    (begins_as (events.Send side c.iv-iv.result c.now.result) (sending side p.events) p c.pass.new.self (send_is side c.iv-iv.result c.now.result p.events c.iv-iv.ensures c.now.ensures) c.in_err-told.ensures.begun)

pub returns-clause-sent : goal.returns-clause-sent
returns-clause-sent g c =
    send_tells (side_seen c.args.side) c.iv-iv.result c.now.result (told_seen c.in_ok-told.told) c.is_sent.result c.args.self.now c.pass.new.self c.iv-iv.ensures c.now.ensures c.is_sent.ensures c.in_ok-told.ensures.tells
