use Rattle.std.proofs.Common.{◌≡◌}
use Rattle.st_end.specs.Receiving.{opened_too}
use Rattle.st_end.proofs.Opening.{opened_from}
use Rattle.st_end.proofs.effect.open_too.Given as goal

abbrev pub invariant-loop-i : goal.invariant-loop-i
invariant-loop-i g l = opened_too l.intake.state l.fn.outbox ≡ opened_from l.intake.state l.outbox l.i
