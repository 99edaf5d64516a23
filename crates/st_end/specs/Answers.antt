-- What an answer does to a flight, from its bytes (RFC 0027).
use Rattle.std.specs.Prelude.{ℕ, Bool, false, List, bytes_eq, nat_eq, length, if◌then◌else◌, Result, Ok, Err}
use Rattle.std.specs.declared.option.Option.{Option}
use Rattle.std.specs.declared.option.Option.TheVariants.{None, Some}
use Rattle.std.specs.FinMap.{remove}
use Rattle.std.specs.Option.{option_or}
use Rattle.st_oer.specs.declared.error.OerError.{OerError}
use Rattle.st_oer.specs.Reading.{u64_at}
use Rattle.st_ilp.specs.Packets.{AnswerPacket, Fulfilled, Rejected}
use Rattle.st_ilp.specs.Spelling.{fulfill_kind, reject_kind}
use Rattle.st_ilp.specs.Reading.{answer_at}
use Rattle.st_ilp.specs.declared.error.IlpError.{IlpError}
use Rattle.st_frames.specs.Frames.{Packet, frames_of}
use Rattle.st_keys.specs.Keys.{DerivedKeys, condition}
use Rattle.st_keys.specs.Sealed.{opened}
use Rattle.st_keys.specs.declared.error.KeyError.{KeyError}
use Rattle.st_sender.specs.Sending as sender
use Rattle.st_sender.specs.Sending.{Sending}
use Rattle.st_sender.specs.Answering as answering
use Rattle.st_sender.specs.Answering.{Failure, Plain, TooLarge, f08, after_fulfilled, after_failed, after_all_told}
use Rattle.st_end.specs.declared.flight.Open.{Open}
use Rattle.st_end.specs.Failed.{Failed, Lost, Unreadable, Unfit, rejected_by}
use Rattle.st_end.specs.State.{EndState}
use Rattle.st_end.specs.Sending.{open_flight}

-- a Fulfill fits a flight if its digest is the condition
abbrev pub fits : Open → (fulfillment : List ℕ) → Bool
fits flight fulfillment = bytes_eq (condition fulfillment) flight.condition

-- a payload that opens, with the same sequence, raises limits; any other changes nothing more
abbrev pub raised : Sending → (sequence : ℕ) → Result Packet KeyError → Sending
raised s sequence (Ok q) = if nat_eq q.sequence sequence then after_all_told s (frames_of q) else s
raised s sequence (Err fault) = s

-- the data of F08 are exactly two UInt64: the received and the maximum amount
abbrev pub second_amount : (received : ℕ) → Result (ℕ × List ℕ) OerError → Option (ℕ × ℕ)
second_amount received (Ok x) = if nat_eq (length x.1) 0 then Some (received, x.0) else None
second_amount received (Err fault) = None

abbrev pub both_amounts : Result (ℕ × List ℕ) OerError → Option (ℕ × ℕ)
both_amounts (Ok x) = second_amount x.0 (u64_at x.1)
both_amounts (Err fault) = None

abbrev pub amounts_in : List ℕ → Option (ℕ × ℕ)
amounts_in payload = both_amounts (u64_at payload)

-- why a Reject fails its flight
abbrev pub failure_of : (code payload : List ℕ) → Failure
failure_of code payload = if bytes_eq code f08 then TooLarge (amounts_in payload) else answering.failure_of code

-- an answer that can't be read, and a Fulfill that does not fit, count as a code of letter T
abbrev pub answered_by : DerivedKeys → Sending → Open → sender.Flight → Result AnswerPacket IlpError → Sending
answered_by keys s flight p (Ok (Fulfilled fulfillment payload)) =
    if fits flight fulfillment then raised (after_fulfilled s p) flight.sequence (opened keys fulfill_kind payload)
    else after_failed s p Plain
answered_by keys s flight p (Ok (Rejected code by message payload)) =
    raised (after_failed s p (failure_of code payload)) flight.sequence (opened keys reject_kind payload)
answered_by keys s flight p (Err fault) = after_failed s p Plain

-- why it fails its flight, if it does
abbrev pub failed_by : Open → Result AnswerPacket IlpError → Option Failed
failed_by flight (Ok (Fulfilled fulfillment payload)) = if fits flight fulfillment then None else Some Unfit
failed_by flight (Ok (Rejected code by message payload)) = Some (rejected_by code by message)
failed_by flight (Err fault) = Some Unreadable

-- the same for the bytes of an answer, or if there was no answer
abbrev pub failure : Open → (outcome : Option (List ℕ)) → Option Failed
failure flight (Some bytes) = failed_by flight (answer_at bytes)
failure flight None = Some Lost

abbrev pub outcome_left : EndState → Open → sender.Flight → (outcome : Option (List ℕ)) → Sending
outcome_left e flight p (Some bytes) = answered_by e.keys e.sending flight p (answer_at bytes)
outcome_left e flight p None = after_failed e.sending p Plain

-- the end after the bytes of an answer to a flight that carries p, or after a fault if there was no answer
abbrev pub after_outcome : EndState → Open → sender.Flight → (outcome : Option (List ℕ)) → EndState
after_outcome e flight p outcome = record e {
  sending = outcome_left e flight p outcome;
  conditions = remove e.conditions flight.sequence;
  last = option_or (failure flight outcome) e.last;
}

abbrev pub ended_with : EndState → Open → Option sender.Flight → (outcome : Option (List ℕ)) → EndState
ended_with e flight None outcome = e
ended_with e flight (Some p) outcome = after_outcome e flight p outcome

-- the same for an open flight
abbrev pub ended : EndState → Open → (outcome : Option (List ℕ)) → EndState
ended e flight outcome = ended_with e flight (open_flight e flight) outcome

-- whether they paid it: they are a fitting Fulfill
abbrev pub pays_by : Open → Result AnswerPacket IlpError → Bool
pays_by flight (Ok (Fulfilled fulfillment payload)) = fits flight fulfillment
pays_by flight (Ok (Rejected code by message payload)) = false
pays_by flight (Err fault) = false

abbrev pub pays : Open → (outcome : Option (List ℕ)) → Bool
pays flight (Some bytes) = pays_by flight (answer_at bytes)
pays flight None = false
