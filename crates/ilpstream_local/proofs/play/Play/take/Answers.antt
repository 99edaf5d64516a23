use Rattle.std.proofs.Common.{◌+◌, refl, sym, subst, arith, inr}
use Rattle.st_world_parts.specs.Seen.{told_seen}
use Rattle.st_world.specs.Seen.{event_seen}
use Rattle.ilpstream_local.specs.Playing.{Fits, Played}
use Rattle.ilpstream_local.specs.Schedule.{Begins}
use Rattle.ilpstream_local.proofs.Plays.{plays_next}
use Rattle.ilpstream_local.proofs.Rounds.{takes_happened}
use Rattle.ilpstream_local.proofs.play.Play.take.Goals as goal

pub invariant_of-self-then-lacks : goal.invariant_of-self-then-lacks
invariant_of-self-then-lacks g c = (
  c.self.invariant.0,
  omega (arith, c.if-self-ge-MAX_EVENTS.false),
  plays_next c.self.inside.settings c.self.inside.events c.self.inside.world c.step.new.self (event_seen c.args.event.now) (told_seen c.in-Ok.told) c.self.invariant.2
      (subst (λ (p : Played). Fits p.asked.lose (event_seen c.args.event.now)) (sym c.self.view_is) c.requires) c.in-Ok.ensures.happens,
)

pub invariant_of-self-2 : goal.invariant_of-self-2
invariant_of-self-2 g c = (
  c.self.invariant.0,
  omega (arith, c.if-self-ge-MAX_EVENTS.false),
  plays_next c.self.inside.settings c.self.inside.events c.self.inside.world c.step.new.self (event_seen c.args.event.now) (told_seen c.in-Ok.told) c.self.invariant.2
      (subst (λ (p : Played). Fits p.asked.lose (event_seen c.args.event.now)) (sym c.self.view_is) c.requires) c.in-Ok.ensures.happens,
)

pub returns-then-lacks-clause-begun : goal.returns-then-lacks-clause-begun
returns-then-lacks-clause-begun g c =
    let old : Played = record { world = c.self.inside.world; asked = c.self.inside.settings; events = c.self.inside.events } in
    let new : Played = record { world = c.step.new.self; asked = c.self.inside.settings; events = c.self.inside.events + 1 } in
    subst (λ (p : Played). Begins (event_seen c.args.event.now) p new) c.self.view_is (inr (takes_happened (event_seen c.args.event.now) (told_seen c.in-Ok.told) old new refl refl c.in-Ok.ensures.happens))
