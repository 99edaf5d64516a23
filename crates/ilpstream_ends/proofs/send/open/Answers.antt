use Rattle.std.proofs.Common.{subst}
use Rattle.ilpstream_ends.specs.Outcomes.{OpensWith, WhyNotBegun}
use Rattle.ilpstream_ends.proofs.send.open.Goals as goal

pub returns-in-Ok-clause-opened : goal.returns-in-Ok-clause-opened
returns-in-Ok-clause-opened g c = subst (λ e. OpensWith e c.args.money c.open_on.new.hub.flow.core) c.new-hub.ensures.hub.core c.in-Ok.ensures.opened

pub returns-in-Err-clause-refused : goal.returns-in-Err-clause-refused
returns-in-Err-clause-refused g c = subst (λ e. WhyNotBegun e c.args.money c.in-Err.error) c.new-hub.ensures.hub.core c.in-Err.ensures.refused
