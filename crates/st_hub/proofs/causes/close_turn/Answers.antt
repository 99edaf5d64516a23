use Rattle.std.proofs.Common.{ap, ◌∙◌}
use Rattle.st_links.specs.Outcomes.{outcome_seen}
use Rattle.st_hub.specs.Hub.{with_core}
use Rattle.st_hub.specs.Causes.{cause_of, end_after}
use Rattle.st_hub.proofs.causes.close_turn.Goals as goal

pub returns-clause-cause : goal.returns-clause-cause
returns-clause-cause g c = c.end_turn.ensures.cause ∙ ap (λ e. cause_of e c.args.turn.flight (outcome_seen c.args.outcome)) c.keep_turn.ensures.kept

pub returns-clause-ended : goal.returns-clause-ended
returns-clause-ended g c =
    let flight = c.args.turn.flight in
    let outcome = outcome_seen c.args.outcome in
    c.end_turn.ensures.ended
    ∙ ap (λ h. with_core h (end_after c.keep_turn.new.self.flow.core flight outcome)) c.keep_turn.ensures.rest
    ∙ ap (λ e. with_core c.args.state.now (end_after e flight outcome)) c.keep_turn.ensures.kept
