-- The one spelling of each ILPv4 packet (RFC 0027) in OER (RFC 0030).
use Rattle.std.specs.Prelude.{ℕ, List, ◌∷◌, ◌++◌}
use Rattle.std.specs.Int.{w64, to_be_bytes}
use Rattle.st_oer.specs.Spelling.{octets}
use Rattle.st_ilp.specs.Packets.{PreparePacket, AnswerPacket, Fulfilled, Rejected}
use Rattle.st_ilp.specs.Expiry.{expiry_text}

-- the kinds of packets
abbrev pub prepare_kind : ℕ
prepare_kind = 12

abbrev pub fulfill_kind : ℕ
fulfill_kind = 13

abbrev pub reject_kind : ℕ
reject_kind = 14

-- amount, expiresAt, executionCondition, destination, data
unfoldable pub prepare_contents : PreparePacket → List ℕ
prepare_contents p = to_be_bytes w64 p.amount ++ (expiry_text p.expiry ++ (p.condition ++ (octets p.destination ++ octets p.payload)))

-- a Prepare is its kind and its contents as octets
unfoldable pub prepare_text : PreparePacket → List ℕ
prepare_text p = prepare_kind ∷ octets (prepare_contents p)

-- fulfillment, data; or code, triggeredBy, message, data
unfoldable pub answer_contents : AnswerPacket → List ℕ
answer_contents (Fulfilled fulfillment payload) = fulfillment ++ octets payload
answer_contents (Rejected code by message payload) = code ++ (octets by ++ (octets message ++ octets payload))

abbrev pub answer_kind : AnswerPacket → ℕ
answer_kind (Fulfilled fulfillment payload) = fulfill_kind
answer_kind (Rejected code by message payload) = reject_kind

-- a Fulfill or Reject is its kind and its contents as octets
unfoldable pub answer_text : AnswerPacket → List ℕ
answer_text a = answer_kind a ∷ octets (answer_contents a)
