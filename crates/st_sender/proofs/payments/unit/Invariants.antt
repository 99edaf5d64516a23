use Rattle.st_sender.specs.Allowed.{NoneUnit}
use Rattle.st_sender.proofs.payments.unit.Given as goal

abbrev pub invariant-loop-number : goal.invariant-loop-number
invariant-loop-number g l = NoneUnit l.streams l.flights l.least l.limit l.bounds l.number
