-- Reading and spelling are two sides of one relation.
use Rattle.std.specs.Prelude.{◌≡◌, ◌⊎◌, ℕ, ℤ, ◌<◌, ◌^◌, true, false, List, [], ◌++◌, length, None, Ok, Err}
use Rattle.st_oer.specs.Address.{is_address}
use Rattle.st_oer.specs.Text.{is_utf8}
use Rattle.st_oer.specs.Laws.{IsBytes, Never}
use Rattle.st_ilp.specs.declared.error.IlpError.TheVariants.{Kind, NoMemory}
use Rattle.st_ilp.specs.Packets.{PreparePacket, AnswerPacket, Fulfilled, Rejected}
use Rattle.st_ilp.specs.Expiry.{IsExpiry, is_expiry, expiry_text, expiry_at}
use Rattle.st_ilp.specs.Rules.{is_data, is_sender, is_code}
use Rattle.st_ilp.specs.Spelling.{prepare_text, answer_contents, answer_text}
use Rattle.st_ilp.specs.Reading.{prepare_at, answer_at, is_fulfill_text, is_reject_text}
use Rattle.st_ilp.specs.Writing.{prepare_refusal, answer_refusal, reject_size, size_of_prepare, size_of_answer}

-- ---- expiries

-- a text has one value, and a value one text; each value of four-digit years has one
pub record ExpiryReads : Type 0 where
  pub found : (text : List ℕ) (millis : ℤ) → expiry_at text ≡ Ok millis → IsExpiry text millis
  pub only : (text : List ℕ) (millis : ℤ) → IsExpiry text millis → expiry_at text ≡ Ok millis
  pub one_text : (text : List ℕ) (millis : ℤ) → IsExpiry text millis → (is_expiry millis ≡ true) × (text ≡ expiry_text millis)
  pub has_text : (millis : ℤ) → is_expiry millis ≡ true → IsExpiry (expiry_text millis) millis

-- ---- packets

-- a Prepare that RFC 0027 and this profile have
pub record IsPrepare (p : PreparePacket) : Type 0 where
  pub amount : p.amount < 2 ^ 64
  pub expiry : is_expiry p.expiry ≡ true
  pub condition : length p.condition ≡ 32
  pub destination : is_address p.destination ≡ true
  pub payload : is_data p.payload ≡ true

-- a Fulfill or Reject that RFC 0027 and this profile have; a message may be longer than one that is written
pub data IsAnswer : AnswerPacket → Type 0 where
  is_fulfill : (fulfillment payload : List ℕ) → length fulfillment ≡ 32 → is_data payload ≡ true → IsAnswer (Fulfilled fulfillment payload)
  is_reject : (code by message payload : List ℕ) → length code ≡ 3 → is_code code ≡ true → is_sender by ≡ true → is_utf8 message ≡ true → is_data payload ≡ true
      → length (answer_contents (Rejected code by message payload)) < 2 ^ 64 → IsAnswer (Rejected code by message payload)

-- bytes are read as a Prepare exactly if they are its spelling, and what is written is read again
pub record PrepareReads : Type 0 where
  pub found : (bytes : List ℕ) (p : PreparePacket) → IsBytes bytes → prepare_at bytes ≡ Ok p → (bytes ≡ prepare_text p) × IsPrepare p
  pub only : (p : PreparePacket) → IsPrepare p → prepare_at (prepare_text p) ≡ Ok p
  pub written : (p : PreparePacket) → p.amount < 2 ^ 64 → length p.condition ≡ 32 → prepare_refusal p ≡ None → prepare_at (prepare_text p) ≡ Ok p

-- the sizes and texts that the code's types hold anyway
abbrev pub IsAnswerTyped : AnswerPacket → Type 0
IsAnswerTyped (Fulfilled fulfillment payload) = length fulfillment ≡ 32
IsAnswerTyped (Rejected code by message payload) = (length code ≡ 3) × (is_utf8 message ≡ true)

-- the same for a Fulfill or Reject
pub record AnswerReads : Type 0 where
  pub found : (bytes : List ℕ) (a : AnswerPacket) → IsBytes bytes → answer_at bytes ≡ Ok a → (bytes ≡ answer_text a) × IsAnswer a
  pub only : (a : AnswerPacket) → IsAnswer a → answer_at (answer_text a) ≡ Ok a
  pub written : (a : AnswerPacket) → IsAnswerTyped a → answer_refusal a ≡ None → answer_at (answer_text a) ≡ Ok a

-- the spelling of some packet
abbrev pub IsSpelling : List ℕ → Type 0
IsSpelling text = ((p : PreparePacket) × IsPrepare p × (text ≡ prepare_text p)) ⊎ ((a : AnswerPacket) × IsAnswer a × (text ≡ answer_text a))

-- no packet's spelling begins another's
abbrev pub NoneBeginsAnother : Type 0
NoneBeginsAnother = (text rest : List ℕ) → IsSpelling text → IsSpelling (text ++ rest) → rest ≡ []

-- a Reject without a message has the size that `reject_size` gives
abbrev pub RejectsHaveSize : Type 0
RejectsHaveSize = (code by payload : List ℕ) → length code ≡ 3 → length (answer_text (Rejected code by [] payload)) ≡ reject_size by (length payload)

-- each text has the size that is computed for it
pub record TextsHaveSize : Type 0 where
  pub prepare : (p : PreparePacket) → length p.condition ≡ 32 → length (prepare_text p) ≡ size_of_prepare p
  pub answer : (a : AnswerPacket) → IsAnswerTyped a → length (answer_text a) ≡ size_of_answer a

-- what spells a packet of one kind reads as none of another
pub record KindsApart : Type 0 where
  pub prepare : (p : PreparePacket) → answer_at (prepare_text p) ≡ Err Kind
  pub answer : (a : AnswerPacket) → prepare_at (answer_text a) ≡ Err Kind
  pub fulfill : (fulfillment payload : List ℕ) → is_reject_text (answer_text (Fulfilled fulfillment payload)) ≡ false
  pub reject : (code by message payload : List ℕ) → is_fulfill_text (answer_text (Rejected code by message payload)) ≡ false

-- ---- memory

-- reading needs no memory
pub record ReadsWithoutMemory : Type 0 where
  pub expiry : Never NoMemory expiry_at
  pub prepare : Never NoMemory prepare_at
  pub answer : Never NoMemory answer_at
