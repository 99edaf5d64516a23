-- Why a flight failed (RFC 0027). What it says of a Reject is at most 1,281 bytes.
use Rattle.std.specs.Prelude.{ℕ, List, take}

pub data Failed : Type 0 where
  Lost : Failed  -- no bytes were returned
  Unreadable : Failed  -- bytes that are neither a Fulfill nor a Reject
  Unfit : Failed  -- a Fulfill whose digest is not the condition
  Rejected : (code by message : List ℕ) → Failed  -- a Reject; `by` is triggeredBy

-- the most bytes of a Reject's message that are kept
abbrev pub max_kept : ℕ
max_kept = 255

-- a Reject, with the first bytes of its message
abbrev pub rejected_by : (code by message : List ℕ) → Failed
rejected_by code by message = Rejected code by (take max_kept message)
