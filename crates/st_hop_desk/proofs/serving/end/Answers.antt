use Rattle.st_links.specs.Outcomes.{outcome_seen}
use Rattle.st_hop_desk.proofs.Fates.{ended_by, settled_by}
use Rattle.st_hop_desk.proofs.serving.end.Goals as goal

pub returns-in-Ok-clause-fulfills : goal.returns-in-Ok-clause-fulfills
returns-in-Ok-clause-fulfills g c = settled_by c.args.fate c.in-Some.token c.args.ticket (outcome_seen c.args.outcome) c.args.now c.in-Ok.answer.items c.requires c.in-Some.ensures c.in-Ok.ensures.fulfills

pub returns-in-Ok-clause-ends : goal.returns-in-Ok-clause-ends
returns-in-Ok-clause-ends g c = ended_by c.args.fate c.in-Some.token c.args.ticket (outcome_seen c.args.outcome) c.args.now c.in-Ok.answer.items c.requires c.in-Some.ensures c.in-Ok.ensures.settled
