use Rattle.std.proofs.Common.{◌∙◌, ap, subst}
use Rattle.st_world.specs.Holds.{Holds}
use Rattle.st_world.specs.Left.{left_of}
use Rattle.ilpstream_local.specs.Playing.{Played}
use Rattle.ilpstream_local.proofs.Plays.{ended_whole}
use Rattle.ilpstream_local.proofs.play.Play.has_ended.Goals as goal

pub returns-in-Some-clause-whole : goal.returns-in-Some-clause-whole
returns-in-Some-clause-whole g c =
    λ ended. ended_whole c.trace.result.now c.args.self.now.world c.args.stream c.in-Some.ledger.now c.saw_end.result (c.trace.ensures.trace ∙ ap (λ (p : Played). left_of p.world) c.self.view_is)
    (subst (λ (p : Played). Holds p.world) c.self.view_is c.trace.ensures.holds) c.in-Some.ensures c.saw_end.ensures ended
