use Rattle.std.proofs.Common.{Bool, sym, subst}
use Rattle.std.specs.Prelude.{MatchBool}
use Rattle.st_world_parts.specs.Seen.{told_seen}
use Rattle.st_world_quiet.specs.Playing.{Sends, SendsNone}
use Rattle.st_world_quiet.proofs.Tolds.{send_tells}
use Rattle.st_world_quiet.proofs.steps.send.Goals as goal

pub returns-clause-sent : goal.returns-clause-sent
returns-clause-sent g c =
    subst (λ (b : Bool). MatchBool b (Sends c.args.number c.args.now c.args.world.now c.meet.new.world) (SendsNone c.args.world.now c.meet.new.world)) (sym c.is_sent-sent.ensures)
    (send_tells c.args.number c.iv_of.result c.args.now (told_seen c.in_ok-told.told) c.args.world.now c.meet.new.world c.iv_of.ensures c.in_ok-told.ensures.met)
