use Rattle.std.proofs.Common.{◌≡◌, ◌∙◌, true, sym, ap}
use Rattle.st_world_parts.specs.Seen.{told_seen}
use Rattle.st_world.specs.Seen.{event_seen}
use Rattle.st_world.specs.Left.{Left}
use Rattle.st_world_quiet.proofs.Tolds.{stops_refused}
use Rattle.st_world_quiet.proofs.steps.meet.Goals as goal

pub returns-then-refused-clause-stops : goal.returns-then-refused-clause-stops
returns-then-refused-clause-stops g c =
    let with_refusal : c.step.new.self.refused ≡ true = sym (ap (λ (t : Left). t.refused) c.trace.ensures.trace) ∙ sym c.refused.ensures ∙ c.if-refused.true in
    stops_refused c.args.world.now c.step.new.self (event_seen c.args.event.now) (told_seen c.in-Ok.told) c.in-Ok.ensures.happens with_refusal
