use Rattle.std.proofs.Common.{◌≡◌, ◌+◌, ◌≤◌, [], min}
use Rattle.st_sender.specs.Paying.{Pays, total, all_payable}
use Rattle.st_sender.proofs.payments.payments.Given as goal

abbrev pub invariant-loop-number : goal.invariant-loop-number
invariant-loop-number g l =
    Pays l.streams l.least l.flights l.limit l.room l.number l.payments.items × (l.left + total l.payments.items ≡ l.limit)
    × (l.payments.items ≡ [] → 34 ≤ l.room → min l.limit (all_payable l.streams l.least l.flights l.number) ≡ 0)
