use Rattle.std.proofs.Common.{sym, subst, Bool, inr}
use Rattle.std.specs.Prelude.{MatchBool}
use Rattle.ilpstream_local.specs.Playing.{Continues, Writes}
use Rattle.st_world_parts.specs.Seen.{told_seen}
use Rattle.st_world_parts.specs.Sides.{Client}
use Rattle.st_world_parts.specs.Events as events
use Rattle.ilpstream_local.proofs.Plays.{writes_called}
use Rattle.ilpstream_local.proofs.Rounds.{takes_told}
use Rattle.ilpstream_local.proofs.play.Play.write.Goals as goal

pub returns-clause-taken : goal.returns-clause-taken
returns-clause-taken g c =
    let happened = rw c.in-Call.is at c.in_ok-told.ensures.happens in
    subst (λ (b : Bool). MatchBool b (Writes c.args.stream c.args.bytes.now c.args.self.now c.take.new.self) (Continues c.args.self.now c.take.new.self)) (sym c.is_ok.ensures.value)
    (writes_called c.args.self.now c.take.new.self c.args.stream c.args.bytes.now c.in-Call.answer c.in_ok-told.ensures.tells.asked c.in_ok-told.ensures.tells.one happened)

pub returns-clause-event : goal.returns-clause-event
returns-clause-event g c = inr (takes_told (events.Write Client c.args.stream c.args.bytes.now) (told_seen c.in_ok-told.told) c.args.self.now c.take.new.self c.in_ok-told.ensures.tells)
