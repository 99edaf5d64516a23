use Rattle.std.proofs.Common.{◌≡◌, ◌∙◌, ap, subst, take, List, arith}
use Rattle.std.proofs.lemmas.List.{take_all}
use Rattle.st_world_parts.specs.State.{World}
use Rattle.st_world.specs.Runs.{Run}
use Rattle.st_world.specs.Holds.{Holds}
use Rattle.st_world_parts.specs.Seen.{told_seen}
use Rattle.st_world.specs.declared.event.Event.{Event}
use Rattle.st_world.specs.Seen.{events_seen}
use Rattle.st_world.specs.Left.{left_of}
use Rattle.st_world.proofs.Reached.{run_next}
use Rattle.st_world.proofs.world.World.play.Goals as goal

pub loop-event-preserved : goal.loop-event-preserved
loop-event-preserved g c =
    run_next c.args.events.now c.loop-event.event-index c.event-item.result (told_seen c.in_default.field-0) c.args.self c.loop-event.self c.step.new.self c.loop-event-test.true c.event-item.is c.loop-event.invariant c.in_default.ensures.happens

pub returns-in-Err-clause-part : goal.returns-in-Err-clause-part
returns-in-Err-clause-part g c = (
  c.loop-event.event-index,
  c.loop-event-test.true,
  record {
    world = c.loop-event.self;
    run = c.loop-event.invariant;
    holds = subst (λ (w : World). Holds w) c.in-Err.ensures.unchanged c.into_trace.ensures.holds;
    left = c.into_trace.ensures.trace ∙ ap left_of c.in-Err.ensures.unchanged;
  },
)

pub returns-clause-run : goal.returns-clause-run
returns-clause-run g c =
    let whole : take c.loop-event.event-index c.args.events.now ≡ c.args.events.now = take_all c.loop-event.event-index c.args.events.now (omega (arith, c.loop-event-test.false)) in
    record {
      world = c.loop-event.self;
      run = subst (λ (es : List Event). Run c.args.self (events_seen es) c.loop-event.self) whole c.loop-event.invariant;
      holds = c.into_trace-2.ensures.holds;
      left = c.into_trace-2.ensures.trace;
    }
