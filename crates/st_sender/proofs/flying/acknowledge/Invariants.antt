use Rattle.std.proofs.Common.{◌≡◌, ℕ, ◌+◌, ◌≤◌, map, drop}
use Rattle.st_streams.specs.Slots.{slot}
use Rattle.st_sender.specs.FlightsLeft.{all_acked}
use Rattle.st_sender.specs.Paying.{fulfilled_in, offered_in, paid_to}
use Rattle.st_sender.specs.Shown.{shown_payment}
use Rattle.st_sender.proofs.flying.acknowledge.Given as goal

abbrev pub invariant-loop-payment : goal.invariant-loop-payment
invariant-loop-payment g l = (all_acked l.streams.items l.flight.sequence (map shown_payment (drop l.payment-index l.payment-items)) ≡ all_acked l.initial.streams.items l.flight.sequence (map shown_payment l.payment-items))
    × ((k : ℕ) → fulfilled_in (slot l.streams.items k) + paid_to k (drop l.payment-index l.payment-items) ≤ offered_in (slot l.streams.items k))
