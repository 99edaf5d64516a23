-- The calls on an end's streams: what each answers and leaves. A call that is refused changes nothing. The first rule that
-- applies refuses: the stream is not open; the connection failed; the stream is closed, or the peer closed the connection;
-- then the call's own rule.
use Rattle.std.specs.Prelude.{◌≡◌, ◌⊎◌, ℕ, ◌+◌, ◌*◌, ◌-◌, Bool, List, [], ◌∷◌, length, map, is_ok, is_some, true, false, if◌then◌else◌, Result, Ok, Err}
use Rattle.std.specs.List.{range_with_len}
use Rattle.std.specs.declared.option.Option.{Option}
use Rattle.std.specs.declared.option.Option.TheVariants.{None, Some}
use Rattle.std.specs.Option.{option_or}
use Rattle.st_streams.specs.Slots.{slot}
use Rattle.st_sender.specs.declared.error.OutboxError.{OutboxError}
use Rattle.st_sender.specs.Sending.{Outgoing, Sending, new_outgoing, outgoing_at, with_outgoing, changed}
use Rattle.st_sender.specs.Accepting.{after_write, after_clean, after_stream_abort, after_offer}
use Rattle.st_sender.specs.Refusals.{write_refusal, close_refusal, abort_refusal, offer_refusal}
use Rattle.st_receiver.specs.Streams.{opened_stream, may_name, with_receive_max}
use Rattle.st_streams.specs.declared.end_error.EndError.{EndError}
use Rattle.st_streams.specs.declared.end_error.EndError.TheVariants.{NoStream, ConnectionFailed, Closed, NoMemory}
use Rattle.st_sender.specs.Errors.{wrapped}
use Rattle.st_end.specs.State.{EndState}

-- ---- refusals

abbrev pub wrapped_too : Option OutboxError → Option EndError
wrapped_too None = None
wrapped_too (Some why) = Some (wrapped why)

-- the connection failed, or the peer closed it
abbrev pub connection_refusal : EndState → Option EndError
connection_refusal e = if e.sending.failed then Some ConnectionFailed else (if e.receiving.closed then Some Closed else None)

-- the connection's own rules come between the stream's number and the rules of the sending side
abbrev pub refusal_at : EndState → Option Outgoing → (of_sender : Option OutboxError) → Option EndError
refusal_at e None of_sender = Some NoStream
refusal_at e (Some x) of_sender = option_or (connection_refusal e) (wrapped_too of_sender)

abbrev pub refusal : EndState → (stream : ℕ) → (of_sender : Option OutboxError) → Option EndError
refusal e k of_sender = refusal_at e (outgoing_at e.sending k) of_sender

-- ---- writes, closes, aborts and offers

abbrev pub Answer : Type 0
Answer = Result (Unit {0}) EndError

abbrev pub answer : Option EndError → Answer
answer None = Ok tt
answer (Some why) = Err why

abbrev pub done : EndState → Option EndError → Sending → Answer × EndState
done e (Some why) s = (Err why, e)
done e None s = (Ok tt, record e { sending = s })

abbrev pub write : EndState → (stream : ℕ) → List ℕ → Answer × EndState
write e k xs = done e (refusal e k (write_refusal e.sending k (length xs))) (changed e.sending k (after_write xs))

abbrev pub close : EndState → (stream : ℕ) → Answer × EndState
close e k = done e (refusal e k (close_refusal e.sending k)) (changed e.sending k after_clean)

-- with a code other than 1
abbrev pub abort : EndState → (stream code : ℕ) → Answer × EndState
abort e k code = done e (refusal e k (abort_refusal e.sending k)) (changed e.sending k (after_stream_abort code))

abbrev pub offer : EndState → (stream amount : ℕ) → Answer × EndState
offer e k amount = done e (refusal e k (offer_refusal e.sending k amount)) (changed e.sending k (after_offer amount))

-- ---- opening a stream

-- this end's own numbers, rising: 1, 3, .. 63 or 2, 4, .. 64
abbrev pub own_numbers : (parity : ℕ) → List ℕ
own_numbers parity = map (λ i. 2 * i + (2 - parity)) (range_with_len 0 32)

-- the first of these numbers whose stream is not open
abbrev pub free_or : Option Outgoing → ℕ → Option ℕ → Option ℕ
free_or None k later = Some k
free_or (Some x) k later = later

abbrev pub first_free : Sending → List ℕ → Option ℕ
first_free s [] = None
first_free s (k ∷ ks) = free_or (outgoing_at s k) k (first_free s ks)

unfoldable pub own_number : EndState → Option ℕ
own_number e = first_free e.sending (own_numbers e.receiving.parity)

-- both directions of a stream open together
abbrev pub with_stream : EndState → ℕ → EndState
with_stream e k = record e { sending = with_outgoing e.sending k new_outgoing; receiving = opened_stream e.receiving k }

abbrev pub opened_unless : EndState → (stream : ℕ) → Option EndError → Result ℕ EndError × EndState
opened_unless e k None = (Ok k, with_stream e k)
opened_unless e k (Some why) = (Err why, e)

abbrev pub opening_as : EndState → Option ℕ → Result ℕ EndError × EndState
opening_as e None = (Err NoStream, e)
opening_as e (Some k) = opened_unless e k (connection_refusal e)

-- the next own stream, whose number is the answer
abbrev pub open_stream : EndState → Result ℕ EndError × EndState
open_stream e = opening_as e (own_number e)

-- ---- money that may come

-- a number that is open, or that the peer may open
abbrev pub set_receive_max : EndState → (stream amount : ℕ) → Answer × EndState
set_receive_max e k amount =
    if may_name e.receiving k then (Ok tt, record e { receiving = with_receive_max e.receiving k amount })
    else (Err NoStream, e)

-- ---- out of memory

-- a call that answered as it is defined, or, instead of a success, ran out of memory and changed nothing
abbrev pub OrWants : {A : Type 0} → EndState → (defined got : Result A EndError × EndState) → Type 0
OrWants e defined got = (got ≡ defined) ⊎ ((is_ok defined.0 ≡ true) × (got ≡ (Err NoMemory, e)))

-- ---- what is reported without a change

-- nothing is open at a number, and the peer may not open it
pub record IsNoStream (e : EndState) (k : ℕ) : Type 0 where
  pub sends : outgoing_at e.sending k ≡ None
  pub receives : slot e.receiving.streams k ≡ None
  pub name : may_name e.receiving k ≡ false

-- both directions of a stream are open
abbrev pub has_stream : EndState → (stream : ℕ) → Bool
has_stream e k = is_some (outgoing_at e.sending k)
