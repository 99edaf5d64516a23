-- What is written, and what is refused: the first rule that does not hold, in the order of the fields.
use Rattle.std.specs.Prelude.{ℕ, ◌+◌, nat_le, not, if◌then◌else◌, List, length, Option, Some, None, Result, Ok, Err, ◌≡◌, MatchResult}
use Rattle.st_oer.specs.Address.{is_address}
use Rattle.st_oer.specs.Spelling.{length_bytes}
use Rattle.st_ilp.specs.declared.error.IlpError.{IlpError}
use Rattle.st_ilp.specs.declared.error.IlpError.TheVariants.{Expiry, Address, DataTooLong, Code, NoMemory}
use Rattle.st_ilp.specs.Packets.{PreparePacket, AnswerPacket, Fulfilled, Rejected}
use Rattle.st_ilp.specs.Expiry.{is_expiry}
use Rattle.st_ilp.specs.Spelling.{prepare_text, answer_text}
use Rattle.st_ilp.specs.Rules.{max_message, is_data, is_sender, is_code}
use Rattle.st_oer.specs.Seen.{Writes}

-- why a Prepare is not written, memory aside
unfoldable pub prepare_refusal : PreparePacket → Option IlpError
prepare_refusal p =
    if not (is_expiry p.expiry) then Some Expiry
    else (if not (is_address p.destination) then Some Address
    else (if not (is_data p.payload) then Some DataTooLong
    else None))

-- why an answer is not written, memory aside
unfoldable pub answer_refusal : AnswerPacket → Option IlpError
answer_refusal (Fulfilled fulfillment payload) = if not (is_data payload) then Some DataTooLong else None
answer_refusal (Rejected code by message payload) =
    if not (is_code code) then Some Code
    else (if not (is_sender by) then Some Address
    else (if not (nat_le (length message) max_message) then Some DataTooLong
    else (if not (is_data payload) then Some DataTooLong
    else None)))

-- a text, unless it is refused
abbrev pub unless : Option IlpError → List ℕ → Result (List ℕ) IlpError
unless None text = Ok text
unless (Some e) text = Err e

-- what writing a Prepare gives
abbrev pub prepare_written : PreparePacket → Result (List ℕ) IlpError
prepare_written p = unless (prepare_refusal p) (prepare_text p)

-- what writing an answer gives
abbrev pub answer_written : AnswerPacket → Result (List ℕ) IlpError
answer_written a = unless (answer_refusal a) (answer_text a)

-- a judgement gives this refusal, if there is one
abbrev pub Judges : {X : Type 0} → Option IlpError → Result X IlpError → Type 0
Judges refusal result = MatchResult result (λ _. refusal ≡ None) (λ e. refusal ≡ Some e)

-- an answer was written, or refused for its own cause, or memory was refused
abbrev pub WritesAnswer : {X : Type 0} → AnswerPacket → Result X IlpError → Type 0
WritesAnswer a result = Writes NoMemory (λ _. answer_text a) result (answer_written a)

-- how many bytes n octets need with their length
abbrev pub octets_size : ℕ → ℕ
octets_size n = length (length_bytes n) + n

-- how many bytes the contents of a Reject take, by the lengths of triggeredBy, message and data
abbrev pub reject_contents_size : (by message data_length : ℕ) → ℕ
reject_contents_size by message data_length = 3 + (octets_size by + (octets_size message + octets_size data_length))

-- how many bytes a Reject without a message takes
unfoldable pub reject_size : List ℕ → ℕ → ℕ
reject_size by data_length = 1 + octets_size (reject_contents_size (length by) 0 data_length)

-- how many bytes a Prepare takes
abbrev pub size_of_prepare : PreparePacket → ℕ
size_of_prepare p = 1 + octets_size (57 + (octets_size (length p.destination) + octets_size (length p.payload)))

-- how many bytes a Fulfill or Reject takes
abbrev pub size_of_answer : AnswerPacket → ℕ
size_of_answer (Fulfilled fulfillment payload) = 1 + octets_size (32 + octets_size (length payload))
size_of_answer (Rejected code by message payload) = 1 + octets_size (reject_contents_size (length by) (length message) (length payload))
