-- What an end did so far.
use Rattle.std.specs.Prelude.{ℕ, Bool, length}
use Rattle.st_sender.specs.Sending.{outgoing_at}
use Rattle.st_sender.specs.Refusals.{all_accepted}
use Rattle.st_sender.specs.Answering.{is_settled}
use Rattle.st_sender.specs.Waiting.{is_waiting}
use Rattle.st_receiver.specs.Streams.{all_delivered}
use Rattle.st_receiver.specs.Limits.{capped}
use Rattle.st_streams.specs.declared.totals.EndTotals.{EndTotals}
use Rattle.st_end.specs.State.{EndState}

-- the totals of an end, as st_streams has them
abbrev pub Totals : Type 0
Totals = EndTotals

-- no total is reported past 2 ^ 64 - 1
abbrev pub totals : EndState → Totals
totals e = record {
  accepted = capped (all_accepted e.sending.streams);
  delivered = capped (all_delivered e.receiving);
  credited = e.receiving.credit;
  paid = capped e.sending.paid;
}

-- a StreamClose of this end's was fulfilled: the clean one, or an abort's
abbrev pub settled : EndState → (stream : ℕ) → Bool
settled e k = is_settled (outgoing_at e.sending k)

-- Prepares that were sent and have no answer yet
abbrev pub in_flight : EndState → ℕ
in_flight e = length e.sending.flights

-- accepted bytes of a stream are not acknowledged, or its close is not fulfilled
abbrev pub waits : EndState → (stream : ℕ) → Bool
waits e k = is_waiting (outgoing_at e.sending k)
