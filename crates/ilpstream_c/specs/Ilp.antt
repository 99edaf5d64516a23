-- What the calls on ILP packets say of bytes, and which bytes they write.
use Rattle.std.specs.Prelude.{◌≡◌, ◌⊎◌, ◌+◌, ◌≤◌, ℕ, ℤ, List, [], length, take, drop, replicate, Result, Ok, Err, MatchBool, ◌&&◌}
use Rattle.st_oer.specs.Text.{is_utf8}
use Rattle.st_ilp.specs.declared.error.IlpError.{IlpError}
use Rattle.st_ilp.specs.declared.error.IlpError.TheVariants.{NoMemory}
use Rattle.st_ilp.specs.Errors.{number}
use Rattle.st_ilp.specs.Packets.{PreparePacket, AnswerPacket, Fulfilled, Rejected}
use Rattle.st_ilp.specs.Spelling.{fulfill_kind, reject_kind}
use Rattle.st_ilp.specs.Reading.{prepare_at, answer_at}
use Rattle.st_ilp.specs.Writing.{prepare_written, answer_written}
use Rattle.ilpstream_c.specs.declared.ilp.HostPrepare.{HostPrepare}
use Rattle.ilpstream_c.specs.declared.ilp.HostAnswer.{HostAnswer}
use Rattle.host_objects.specs.Codes.{done, argument}
use Rattle.ilpstream_c.specs.Written.{Written}

-- ---- reading

-- the `len` bytes from `start` on lie within the bytes, and are this part
pub record IsPart (bytes : List ℕ) (start len : ℕ) (part : List ℕ) : Type 0 where
  pub within : start + len ≤ length bytes
  pub same : take len (drop start bytes) ≡ part

-- the struct says this Prepare, whose texts are parts of the bytes
pub record IsPrepareIn (bytes : List ℕ) (p : PreparePacket) (t : HostPrepare) : Type 0 where
  pub amount : t.amount ≡ p.amount
  pub expiry : t.expiry ≡ p.expiry
  pub condition : t.condition ≡ p.condition
  pub destination : IsPart bytes t.destination_at t.destination_len p.destination
  pub payload : IsPart bytes t.payload_at t.payload_len p.payload

pub record IsFulfillIn (bytes fulfillment payload : List ℕ) (t : HostAnswer) : Type 0 where
  pub kind : t.kind ≡ fulfill_kind
  pub fulfillment_is : t.fulfillment ≡ fulfillment
  pub code : t.code ≡ replicate 3 0
  pub by : (t.by_at ≡ 0) × (t.by_len ≡ 0)
  pub message : (t.message_at ≡ 0) × (t.message_len ≡ 0)
  pub payload_is : IsPart bytes t.payload_at t.payload_len payload

pub record IsRejectIn (bytes code by message payload : List ℕ) (t : HostAnswer) : Type 0 where
  pub kind : t.kind ≡ reject_kind
  pub fulfillment : t.fulfillment ≡ replicate 32 0
  pub code_is : t.code ≡ code
  pub by_is : IsPart bytes t.by_at t.by_len by
  pub message_is : IsPart bytes t.message_at t.message_len message
  pub payload_is : IsPart bytes t.payload_at t.payload_len payload

-- the bytes are a Prepare, which the struct says; or its first fault is reported by its number
abbrev pub ReadsPrepare : (bytes : List ℕ) (old new : HostPrepare) (code : ℕ) → Type 0
ReadsPrepare bytes old new code =
    ((code ≡ done) × ((p : PreparePacket) × ((prepare_at bytes ≡ Ok p) × IsPrepareIn bytes p new)))
    ⊎ ((e : IlpError) × ((prepare_at bytes ≡ Err e) × ((code ≡ number e) × (new ≡ old))))

-- the struct says this answer, whose texts are parts of the bytes; what the other kind has is 0
abbrev pub IsAnswerIn : (bytes : List ℕ) → AnswerPacket → HostAnswer → Type 0
IsAnswerIn bytes (Fulfilled fulfillment payload) t = IsFulfillIn bytes fulfillment payload t
IsAnswerIn bytes (Rejected code by message payload) t = IsRejectIn bytes code by message payload t

abbrev pub ReadsAnswer : (bytes : List ℕ) (old new : HostAnswer) (code : ℕ) → Type 0
ReadsAnswer bytes old new code =
    ((code ≡ done) × ((a : AnswerPacket) × ((answer_at bytes ≡ Ok a) × IsAnswerIn bytes a new)))
    ⊎ ((e : IlpError) × ((answer_at bytes ≡ Err e) × ((code ≡ number e) × (new ≡ old))))

-- ---- writing

-- what is written of a Prepare; its destination has to be UTF-8
abbrev pub WritesPrepare : PreparePacket → (before after : List ℕ) (code len : ℕ) → Type 0
WritesPrepare p before after code len =
    MatchBool (is_utf8 p.destination) (Written number NoMemory (prepare_written p) before after code len) ((code ≡ argument) × (after ≡ before))

abbrev pub WritesFulfill : (fulfillment payload : List ℕ) (before after : List ℕ) (code len : ℕ) → Type 0
WritesFulfill fulfillment payload before after code len = Written number NoMemory (answer_written (Fulfilled fulfillment payload)) before after code len

-- what is written of a Reject; its texts have to be UTF-8
abbrev pub WritesReject : (code by message payload : List ℕ) (before after : List ℕ) (result len : ℕ) → Type 0
WritesReject code by message payload before after result len =
    MatchBool (is_utf8 by && is_utf8 message) (Written number NoMemory (answer_written (Rejected code by message payload)) before after result len) ((result ≡ argument) × (after ≡ before))
