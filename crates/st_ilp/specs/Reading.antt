-- Reading ILPv4 packets: the packet, or the first fault: in its outer octets, then in the fields in order.
use Rattle.std.specs.Prelude.{ℕ, ℤ, ◌==◌, nat_le, Bool, true, false, ◌&&◌, if◌then◌else◌, List, length, Result, Ok, Err}
use Rattle.st_oer.specs.declared.error.OerError.{OerError}
use Rattle.st_oer.specs.Address.{is_address}
use Rattle.st_oer.specs.Text.{is_utf8}
use Rattle.st_oer.specs.Reading.{byte_at, fixed_at, u64_at, octets_at}
use Rattle.st_ilp.specs.declared.error.IlpError.{IlpError}
use Rattle.st_ilp.specs.declared.error.IlpError.TheVariants.{Kind, Address, DataTooLong, NotUtf8, Code, Trailing}
use Rattle.st_ilp.specs.Errors.{wrapped}
use Rattle.st_ilp.specs.Packets.{PreparePacket, AnswerPacket, Fulfilled, Rejected}
use Rattle.st_ilp.specs.Expiry.{expiry_at}
use Rattle.st_ilp.specs.Rules.{is_data, is_sender, is_code}
use Rattle.st_ilp.specs.Spelling.{prepare_kind, fulfill_kind, reject_kind}

infixl 10 ◌>>=◌
abbrev pub ◌>>=◌ : {A B : Type 0} → Result A IlpError → (A → Result B IlpError) → Result B IlpError
(Ok x) >>= f = f x
(Err e) >>= f = Err e

-- a fault in a spelling
abbrev pub spelled : {A : Type 0} → Result A OerError → Result A IlpError
spelled (Ok x) = Ok x
spelled (Err e) = Err (wrapped e)

-- a value if its rule holds, else the rule's refusal
abbrev pub provided : {A : Type 0} → Bool → IlpError → A → Result A IlpError
provided true e x = Ok x
provided false e x = Err e

-- a value with which the bytes end
abbrev pub whole : {A : Type 0} → A × List ℕ → Result A IlpError
whole x = provided (length x.1 == 0) Trailing x.0

-- ---- one field from the front: its value, and the bytes after it

abbrev pub amount_at : List ℕ → Result (ℕ × List ℕ) IlpError
amount_at bytes = spelled (u64_at bytes)

unfoldable pub expires_at : List ℕ → Result (ℤ × List ℕ) IlpError
expires_at bytes = do
  text ← spelled (fixed_at 17 bytes)
  millis ← expiry_at text.0
  Ok (millis, text.1)

-- a condition or a fulfillment
unfoldable pub hash_at : List ℕ → Result (List ℕ × List ℕ) IlpError
hash_at bytes = spelled (fixed_at 32 bytes)

unfoldable pub code_at : List ℕ → Result (List ℕ × List ℕ) IlpError
code_at bytes = do
  code ← spelled (fixed_at 3 bytes)
  provided (is_code code.0) Code code

-- variable octets that keep a rule
unfoldable pub octets_with : (List ℕ → Bool) → IlpError → List ℕ → Result (List ℕ × List ℕ) IlpError
octets_with rule e bytes = do
  text ← spelled (octets_at bytes)
  provided (rule text.0) e text

abbrev pub destination_at : List ℕ → Result (List ℕ × List ℕ) IlpError
destination_at = octets_with is_address Address

abbrev pub sender_at : List ℕ → Result (List ℕ × List ℕ) IlpError
sender_at = octets_with is_sender Address

abbrev pub message_at : List ℕ → Result (List ℕ × List ℕ) IlpError
message_at = octets_with is_utf8 NotUtf8

abbrev pub data_at : List ℕ → Result (List ℕ × List ℕ) IlpError
data_at = octets_with is_data DataTooLong

-- ---- whole packets

-- the kind, if it is one of those asked for, and the contents
unfoldable pub packet_at : (first last : ℕ) → List ℕ → Result (ℕ × List ℕ) IlpError
packet_at first last bytes = do
  kind ← spelled (byte_at bytes)
  lawful ← provided (nat_le first kind.0 && nat_le kind.0 last) Kind kind
  contents ← spelled (octets_at lawful.1)
  whole ((lawful.0, contents.0), contents.1)

unfoldable pub prepare_within : List ℕ → Result PreparePacket IlpError
prepare_within contents = do
  amount ← amount_at contents
  expiry ← expires_at amount.1
  condition ← hash_at expiry.1
  destination ← destination_at condition.1
  payload ← data_at destination.1
  whole (record { amount = amount.0; expiry = expiry.0; condition = condition.0; destination = destination.0; payload = payload.0 }, payload.1)

unfoldable pub fulfill_within : List ℕ → Result AnswerPacket IlpError
fulfill_within contents = do
  fulfillment ← hash_at contents
  payload ← data_at fulfillment.1
  whole (Fulfilled fulfillment.0 payload.0, payload.1)

unfoldable pub reject_within : List ℕ → Result AnswerPacket IlpError
reject_within contents = do
  code ← code_at contents
  by ← sender_at code.1
  message ← message_at by.1
  payload ← data_at message.1
  whole (Rejected code.0 by.0 message.0 payload.0, payload.1)

unfoldable pub prepare_at : List ℕ → Result PreparePacket IlpError
prepare_at bytes = do
  packet ← packet_at prepare_kind prepare_kind bytes
  prepare_within packet.1

unfoldable pub answer_at : List ℕ → Result AnswerPacket IlpError
answer_at bytes = do
  packet ← packet_at fulfill_kind reject_kind bytes
  if packet.0 == fulfill_kind then fulfill_within packet.1 else reject_within packet.1

-- an answer that says a Fulfill, or a Reject
abbrev pub fulfills : Result AnswerPacket IlpError → Bool
fulfills (Ok (Fulfilled fulfillment payload)) = true
fulfills (Ok (Rejected code by message payload)) = false
fulfills (Err e) = false

abbrev pub rejects : Result AnswerPacket IlpError → Bool
rejects (Ok (Fulfilled fulfillment payload)) = false
rejects (Ok (Rejected code by message payload)) = true
rejects (Err e) = false

-- bytes that read as a Fulfill, or as a Reject
abbrev pub is_fulfill_text : List ℕ → Bool
is_fulfill_text bytes = fulfills (answer_at bytes)

abbrev pub is_reject_text : List ℕ → Bool
is_reject_text bytes = rejects (answer_at bytes)
