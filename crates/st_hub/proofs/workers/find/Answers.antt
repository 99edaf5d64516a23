use Rattle.std.proofs.Common.{sym, ◌∙◌}
use Rattle.st_hub.proofs.workers.find.Goals as goal

pub returns-in-Ok-Sends-clause-finds : goal.returns-in-Ok-Sends-clause-finds
returns-in-Ok-Sends-clause-finds g c = (
  record { works = sym c.is_failed.ensures ∙ c.if-is_failed.false; is_open = sym c.is_settled.ensures ∙ c.if-is_settled.false },
  rw c.in-Ok-Sends.field-0-is at c.in-Ok-Sends.ensures.does,
)
