-- How many bytes spellings take.
use Rattle.std.proofs.Common.{◌≡◌, ℕ, suc, ◌^◌, Bool, true, false, cond, inl, inr, ◌+◌, ◌<◌, ◌≤◌, List, [], ◌∷◌, ◌++◌, length, refl, sym, ap, ◌∙◌, arith, append_assoc}
use Rattle.std.specs.Prelude.{not, nat_le, if◌then◌else◌, Option, Some, None}
use Rattle.std.proofs.lemmas.Bool.{cases_lt}
use Rattle.std.proofs.lemmas.Bool.Decides.{nat_tests}
use Rattle.std.proofs.lemmas.List.{length-append}
use Rattle.std.specs.Int.{w64, to_be_bytes}
use Rattle.st_oer.specs.Spelling.{byte_count, length_bytes, octets}
use Rattle.st_oer.proofs.Puts.{length_is_short, length_is_long}
use Rattle.st_oer.proofs.Bytes.{length-bytes_high_first}
use Rattle.st_ilp.specs.Packets.{PreparePacket, AnswerPacket, Fulfilled, Rejected}
use Rattle.st_ilp.specs.Expiry.{expiry_text}
use Rattle.st_ilp.specs.Spelling.{prepare_contents, prepare_text, answer_contents, answer_text}
use Rattle.st_ilp.specs.Writing.{octets_size, reject_contents_size, reject_size, size_of_answer, answer_refusal}
use Rattle.st_ilp.specs.declared.error.IlpError.{IlpError}
use Rattle.st_ilp.specs.declared.error.IlpError.TheVariants.{Address, Code, DataTooLong}
use Rattle.st_ilp.specs.Rules.{max_data, max_message, is_data, is_sender, is_code}
use Rattle.st_ilp.proofs.AddressTexts.{address_is_short, sender_is_short}
use Rattle.st_ilp.specs.Laws.{IsAnswerTyped, RejectsHaveSize, TextsHaveSize}

pub size_short : (n : ℕ) → n < 128 → length (length_bytes n) ≡ 1
size_short n lt = rw (length_is_short n lt) refl

pub size_long : (n : ℕ) → 128 ≤ n → length (length_bytes n) ≡ 1 + byte_count n
size_long n le =
    rw (length_is_long n (byte_count n) le refl) (omega (arith, length-bytes_high_first (byte_count n) n))

pub length-octets : (bytes : List ℕ) → length (octets bytes) ≡ octets_size (length bytes)
length-octets bytes = length-append (length_bytes (length bytes)) bytes

pub length-expiry_text : (millis : _) → length (expiry_text millis) ≡ 17
unfolding expiry_text
length-expiry_text millis = refl

pub prepare_size : (p : PreparePacket) → length p.condition ≡ 32
    → length (prepare_contents p) ≡ 57 + (octets_size (length p.destination) + octets_size (length p.payload))
unfolding prepare_contents
prepare_size p h =
    rw (
      length-append (to_be_bytes w64 p.amount) (expiry_text p.expiry ++ (p.condition ++ (octets p.destination ++ octets p.payload))),
      length-append (expiry_text p.expiry) (p.condition ++ (octets p.destination ++ octets p.payload)),
      length-append p.condition (octets p.destination ++ octets p.payload),
      length-append (octets p.destination) (octets p.payload),
      length-octets p.destination,
      length-octets p.payload,
      length-expiry_text p.expiry,
      h,
    ) (omega arith)

pub reject_contents-size : (code by message payload : List ℕ) → length code ≡ 3
    → length (answer_contents (Rejected code by message payload)) ≡ reject_contents_size (length by) (length message) (length payload)
unfolding answer_contents
reject_contents-size code by message payload h =
    rw (
      length-append code (octets by ++ (octets message ++ octets payload)),
      length-append (octets by) (octets message ++ octets payload),
      length-append (octets message) (octets payload),
      length-octets by,
      length-octets message,
      length-octets payload,
      h,
    ) refl

pub fulfill_contents-size : (fulfillment payload : List ℕ) → length fulfillment ≡ 32
    → length (answer_contents (Fulfilled fulfillment payload)) ≡ 32 + octets_size (length payload)
unfolding answer_contents
fulfill_contents-size fulfillment payload h =
    rw (length-append fulfillment (octets payload), length-octets payload, h) refl

pub length-answer_text : (a : AnswerPacket) → length (answer_text a) ≡ 1 + octets_size (length (answer_contents a))
unfolding answer_text
length-answer_text a = omega (arith, length-octets (answer_contents a))

pub length-prepare_text : (p : PreparePacket) → length (prepare_text p) ≡ 1 + octets_size (length (prepare_contents p))
unfolding prepare_text
length-prepare_text p = omega (arith, length-octets (prepare_contents p))

pub rejects_have_size : RejectsHaveSize
unfolding reject_size
rejects_have_size code by payload h =
    rw (length-answer_text (Rejected code by [] payload), reject_contents-size code by [] payload h) refl

pub reject_text-size : (code by message payload : List ℕ) → length code ≡ 3
    → length (answer_text (Rejected code by message payload)) ≡ 1 + octets_size (reject_contents_size (length by) (length message) (length payload))
reject_text-size code by message payload h =
    length-answer_text (Rejected code by message payload) ∙ ap (λ (n : ℕ). 1 + octets_size n) (reject_contents-size code by message payload h)

pub fulfill_text-size : (fulfillment payload : List ℕ) → length fulfillment ≡ 32
    → length (answer_text (Fulfilled fulfillment payload)) ≡ 1 + octets_size (32 + octets_size (length payload))
fulfill_text-size fulfillment payload h =
    length-answer_text (Fulfilled fulfillment payload) ∙ ap (λ (n : ℕ). 1 + octets_size n) (fulfill_contents-size fulfillment payload h)

pub prepare_text-size : (p : PreparePacket) → length p.condition ≡ 32
    → length (prepare_text p) ≡ 1 + octets_size (57 + (octets_size (length p.destination) + octets_size (length p.payload)))
prepare_text-size p h = length-prepare_text p ∙ ap (λ (n : ℕ). 1 + octets_size n) (prepare_size p h)

answer_has_size : (a : AnswerPacket) → IsAnswerTyped a → length (answer_text a) ≡ size_of_answer a
answer_has_size (Fulfilled fulfillment payload) typed = fulfill_text-size fulfillment payload typed
answer_has_size (Rejected code by message payload) typed = reject_text-size code by message payload typed.0

pub texts_have_size : TextsHaveSize
texts_have_size = record { prepare = prepare_text-size; answer = answer_has_size }

byte_count_few : (n : ℕ) → byte_count n ≤ 8
byte_count_few n = grind (arith, nat_tests)

-- a length takes at most nine bytes
pub size_few : (n : ℕ) → length (length_bytes n) ≤ 9
size_few n =
    elim (cases_lt n 128) [
      | inl low ↦ omega (arith, size_short n low)
      | inr high ↦ omega (arith, size_long n high, byte_count_few n)
    ]

-- the fields of a Reject that is written are short
pub record IsShort (by message payload : List ℕ) : Type 0 where
  pub by_short : length by ≤ 1_023
  pub message_short : length message ≤ 8_191
  pub payload_short : length payload ≤ 32_767

pub passed : {X : Type 0} (b : Bool) (e : X) (rest : Option X) → cond (not b) (Some e) rest ≡ None → (b ≡ true) × (rest ≡ None)
passed true e rest h = (refl, h)
passed false e rest h = absurd cc

pub le_is : (a b : ℕ) → nat_le a b ≡ true → a ≤ b
le_is a b e = grind (arith, nat_tests)

pub reject_is_short : (code by message payload : List ℕ) → answer_refusal (Rejected code by message payload) ≡ None → IsShort by message payload
unfolding answer_refusal
reject_is_short code by message payload e =
    let last : Option IlpError = if not (is_data payload) then Some DataTooLong else None in
    let text : Option IlpError = if not (nat_le (length message) max_message) then Some DataTooLong else last in
    let sender : Option IlpError = if not (is_sender by) then Some Address else text in
    let a = passed (is_code code) Code sender e in
    let b = passed (is_sender by) Address text a.1 in
    let c = passed (nat_le (length message) max_message) DataTooLong last b.1 in
    let d = passed (is_data payload) DataTooLong None c.1 in
    record { by_short = sender_is_short by b.0; message_short = le_is (length message) max_message c.0; payload_short = le_is (length payload) max_data d.0 }

-- so its size fits a number of the machine
pub reject_fits : (code by message payload : List ℕ) → answer_refusal (Rejected code by message payload) ≡ None
    → 1 + octets_size (reject_contents_size (length by) (length message) (length payload)) < 2 ^ 64
reject_fits code by message payload e =
    let h = reject_is_short code by message payload e in
    omega (arith, h.by_short, h.message_short, h.payload_short, size_few (length by), size_few (length message), size_few (length payload), size_few (reject_contents_size (length by) (length message) (length payload)))

pub reject_size-fits : (code by payload : List ℕ) → answer_refusal (Rejected code by [] payload) ≡ None → reject_size by (length payload) < 2 ^ 64
unfolding reject_size
reject_size-fits code by payload e = reject_fits code by [] payload e

pub ruleset sizes = (append_assoc, length-append, length-octets, size_short, size_long, prepare_size, reject_contents-size, fulfill_contents-size, reject_text-size, fulfill_text-size, prepare_text-size, address_is_short, reject_fits, reject_size-fits, rejects_have_size)
