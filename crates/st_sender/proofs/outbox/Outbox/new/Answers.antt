use Rattle.std.proofs.Common.{ap, length}
use Rattle.st_sender.proofs.Seen.{none_tied}
use Rattle.st_sender.proofs.FlightsLeft.{none_ordered}
use Rattle.st_sender.proofs.outbox.Outbox.new.Goals as goal

pub invariant_of-result : goal.invariant_of-result
invariant_of-result g c = (ap length c.in_ok-streams.ensures, none_tied c.in_ok-streams.streams.items c.new-2.result.items c.in_ok-streams.ensures c.new-2.ensures.items, none_ordered c.new-2.result.items c.new-2.ensures.items)
