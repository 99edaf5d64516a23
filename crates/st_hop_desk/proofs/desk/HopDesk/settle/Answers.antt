use Rattle.std.proofs.Common.{sym, ap, ◌∙◌}
use Rattle.st_hop.specs.Settling.{is_booked}
use Rattle.st_links.specs.Outcomes.{outcome_seen}
use Rattle.st_hop_desk.proofs.Tokens.{only_stored}
use Rattle.st_hop_desk.proofs.desk.HopDesk.settle.Goals as goal

pub returns-clause-stored : goal.returns-clause-stored
returns-clause-stored g c =
    λ e. only_stored c.args.ticket (outcome_seen c.args.outcome) c.args.now c.args.token
    (ap (λ o. is_booked c.args.ticket o c.args.now) (sym c.counted-outcome.ensures) ∙ sym c.settle-answer.ensures.fulfills ∙ e)
