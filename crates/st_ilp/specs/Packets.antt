-- The packets of ILPv4 (RFC 0027), apart from how they lie in memory.
use Rattle.std.specs.Prelude.{ℕ, ℤ, List}

-- ILP Prepare; the expiry in milliseconds since the start of 1970
pub record PreparePacket : Type 0 where
  pub amount : ℕ
  pub expiry : ℤ
  pub condition : List ℕ
  pub destination : List ℕ
  pub payload : List ℕ

-- ILP Fulfill and ILP Reject; `by` is triggeredBy
pub data AnswerPacket : Type 0 where
  Fulfilled : (fulfillment payload : List ℕ) → AnswerPacket
  Rejected : (code by message payload : List ℕ) → AnswerPacket
