-- The answer to bytes that come to an end, from bytes to bytes, and the end after it. Codes are those of RFC 0027; the order
-- in which rules are checked, and the numbers of reasons, are this profile's own.
use Rattle.std.specs.Prelude.{ℕ, Bool, true, false, not, ◌&&◌, List, [], ◌∷◌, bit_xor, bytes_eq, int_le, ℤ, pos, is_some, nat_eq, if◌then◌else◌, Result, Ok, Err}
use Rattle.std.specs.List.{fold, range_with_len}
use Rattle.std.specs.declared.option.Option.{Option}
use Rattle.std.specs.declared.option.Option.TheVariants.{None, Some}
use Rattle.st_oer.specs.Address.{is_address, is_within}
use Rattle.st_ilp.specs.Packets.{PreparePacket, AnswerPacket, Fulfilled, Rejected}
use Rattle.st_ilp.specs.Spelling.{prepare_kind, fulfill_kind, reject_kind, answer_text}
use Rattle.st_ilp.specs.Reading.{prepare_at}
use Rattle.st_ilp.specs.Errors as ilp
use Rattle.st_ilp.specs.declared.error.IlpError.{IlpError}
use Rattle.st_frames.specs.Frames.{Known, Packet, frames_of, OtherFrame, ConnectionNewAddress, LimitFrame, ConnectionMaxData, BlockedFrame, ConnectionDataBlocked, StreamMaxMoney, StreamMoneyBlocked, StreamMaxData, StreamDataBlocked}
use Rattle.st_keys.specs.Keys.{DerivedKeys, fulfillment, condition}
use Rattle.st_keys.specs.Sealed.{opened, sealed_packet, iv_of}
use Rattle.st_keys.specs.Errors as payloads
use Rattle.st_keys.specs.declared.error.KeyError.{KeyError}
use Rattle.st_keys.specs.declared.error.KeyError.TheVariants as unopened
use Rattle.st_sender.specs.Sending.{Sending, new_outgoing, outgoing_at, with_outgoing}
use Rattle.st_sender.specs.Answering.{after_all_told, after_marked}
use Rattle.st_receiver.specs.declared.reason.Reason.{Reason}
use Rattle.st_receiver.specs.Reasons as reasons
use Rattle.st_receiver.specs.Streams.{Receiving, is_open}
use Rattle.st_receiver.specs.Judged.{fault_of, effect}
use Rattle.st_receiver.specs.Limits.{reply_frames}
use Rattle.st_end.specs.State.{EndState}

-- ---- the decision

-- a Reject without data; a Reject with a packet; a Fulfill, with what the packet leaves at the receiver
pub data Verdict : Type 0 where
  Unread : (code : List ℕ) (reason : ℕ) → Verdict
  Rejects : (packet : Packet) (reason : ℕ) → Verdict
  Fulfills : (packet : Packet) (after : Receiving) → Verdict

abbrev pub f01 : List ℕ
f01 = 70 ∷ 48 ∷ 49 ∷ []

abbrev pub f02 : List ℕ
f02 = 70 ∷ 48 ∷ 50 ∷ []

abbrev pub f06 : List ℕ
f06 = 70 ∷ 48 ∷ 54 ∷ []

abbrev pub r00 : List ℕ
r00 = 82 ∷ 48 ∷ 48 ∷ []

abbrev pub judged_as : Packet → Receiving → Option Reason → Verdict
judged_as p after (Some reason) = Rejects p (reasons.number reason)
judged_as p after None = Fulfills p after

-- a payload too short for IV and tag, or with a wrong tag; a packet with a fault. Opening asks for no memory
abbrev pub code_unopened : KeyError → List ℕ
code_unopened unopened.Short = f06
code_unopened unopened.Tag = f06
code_unopened (unopened.Packet fault) = reasons.f99
code_unopened unopened.NoMemory = reasons.t00

-- the condition is that of the payload, unless it is a rate probe's
abbrev pub is_own_condition : EndState → PreparePacket → Bool
is_own_condition e q = bytes_eq (condition (fulfillment e.keys q.payload)) q.condition

abbrev pub opened_as : EndState → PreparePacket → Result Packet KeyError → Verdict
opened_as e q (Err fault) = Unread (code_unopened fault) (payloads.number fault)
opened_as e q (Ok p) =
    if is_own_condition e q then judged_as p (effect e.receiving p q.amount) (fault_of e.receiving p q.amount)
    else Rejects p 55

-- the first rule that applies
abbrev pub verdict_on : EndState → (now : ℤ) → Result PreparePacket IlpError → Verdict
verdict_on e now (Err fault) = Unread f01 (ilp.number fault)
verdict_on e now (Ok q) =
    if not (is_within e.own q.destination) then Unread f02 56
    else (if int_le q.expiry now then Unread r00 57
    else opened_as e q (opened e.keys prepare_kind q.payload))

abbrev pub verdict : EndState → (bytes : List ℕ) → (now : ℤ) → Verdict
verdict e bytes now = verdict_on e now (prepare_at bytes)

-- ---- what it leaves

-- a stream that is open for receiving is open for sending
abbrev pub opened_at : Receiving → Sending → ℕ → Sending
opened_at r s k = if is_open r k && not (is_some (outgoing_at s k)) then with_outgoing s k new_outgoing else s

-- and so each stream of a connection
unfoldable pub opened_too : Receiving → Sending → Sending
opened_too r s = fold (opened_at r) s (range_with_len 1 64)

-- a frame reports the limit at which another says Blocked
abbrev pub tells_blocked : (blocked : Known) → Known → Bool
tells_blocked (BlockedFrame (ConnectionDataBlocked m)) (LimitFrame (ConnectionMaxData n)) = true
tells_blocked (BlockedFrame (StreamDataBlocked k m)) (LimitFrame (StreamMaxData l n)) = nat_eq k l
tells_blocked (BlockedFrame (StreamMoneyBlocked k m t)) (LimitFrame (StreamMaxMoney l n u)) = nat_eq k l
tells_blocked f g = false

abbrev pub marked_if : Sending → Bool → Known → Sending
marked_if s true g = after_marked s g
marked_if s false g = s

-- a Blocked frame marks its limit at the value that the reply reports, the one after the call
abbrev pub marked : (reply : List Known) → Sending → (blocked : Known) → Sending
marked reply s f = fold (λ t g. marked_if t (tells_blocked f g) g) s reply

abbrev pub all_marked : (reply : List Known) → Sending → List Known → Sending
all_marked reply s [] = s
all_marked reply s (f ∷ fs) = all_marked reply (marked reply s f) fs

-- the last new address that is one: an empty one changes nothing
abbrev pub new_peer : List ℕ → List Known → List ℕ
new_peer peer [] = peer
new_peer peer ((OtherFrame (ConnectionNewAddress address)) ∷ fs) = new_peer (if is_address address then address else peer) fs
new_peer peer (f ∷ fs) = new_peer peer fs

-- limits take effect in every packet that opens
abbrev pub told : EndState → Packet → EndState
told e p = record e { sending = after_all_told e.sending (frames_of p) }

-- if the packet is fulfilled its streams are opened before its limits are read. The Blocked frames and a new address
-- count only then
abbrev pub fulfilled : EndState → Packet → Receiving → EndState
fulfilled e p r = record e {
  sending = all_marked (reply_frames r (frames_of p)) (after_all_told (opened_too r e.sending) (frames_of p)) (frames_of p);
  receiving = r;
  peer = new_peer e.peer (frames_of p);
}

abbrev pub after_verdict : EndState → Verdict → EndState
after_verdict e (Unread code reason) = e
after_verdict e (Rejects p reason) = told e p
after_verdict e (Fulfills p r) = fulfilled e p r

-- ---- the answer's bytes

-- the reply's IV: the request's with the top bit of its first byte inverted
abbrev pub reply_iv : List ℕ → List ℕ
reply_iv [] = []
reply_iv (b ∷ bs) = bit_xor b 128 ∷ bs

-- none for a refusal, which no reply meets: `replies_are_sealed` is that law
abbrev pub payload_or_none : Result (List ℕ) KeyError → List ℕ
payload_or_none (Ok payload) = payload
payload_or_none (Err fault) = []

-- the reply repeats the request's sequence, and reports the amount that arrived (RFC 0029, section 5.2)
unfoldable pub reply_payload : DerivedKeys → (kind : ℕ) → PreparePacket → Packet → Receiving → List ℕ
reply_payload keys kind q p r = payload_or_none (sealed_packet keys (reply_iv (iv_of q.payload)) kind p.sequence q.amount (reply_frames r (frames_of p)))

abbrev pub answer_for : EndState → PreparePacket → Verdict → AnswerPacket
answer_for e q (Unread code reason) = Rejected code e.own [] []
answer_for e q (Rejects p reason) = Rejected reasons.f99 e.own [] (reply_payload e.keys reject_kind q p e.receiving)
answer_for e q (Fulfills p r) = Fulfilled (fulfillment e.keys q.payload) (reply_payload e.keys fulfill_kind q p r)

-- ---- the whole step

-- 0 for a Fulfill
abbrev pub reason_of : Verdict → ℕ
reason_of (Unread code reason) = reason
reason_of (Rejects p reason) = reason
reason_of (Fulfills p r) = 0

-- the sequence of a packet that opened
abbrev pub sequence_of : Verdict → Option ℕ
sequence_of (Unread code reason) = None
sequence_of (Rejects p reason) = Some p.sequence
sequence_of (Fulfills p r) = Some p.sequence

-- if bytes are not a Prepare their answer depends on nothing in them
abbrev pub no_prepare : PreparePacket
no_prepare = record { amount = 0; expiry = pos 0; condition = []; destination = []; payload = [] }

abbrev pub prepare_or_none : Result PreparePacket IlpError → PreparePacket
prepare_or_none (Ok q) = q
prepare_or_none (Err fault) = no_prepare

-- the Prepare that bytes spell
abbrev pub prepare_in : List ℕ → PreparePacket
prepare_in bytes = prepare_or_none (prepare_at bytes)

pub record Received : Type 0 where
  pub bytes : List ℕ  -- of the Fulfill or Reject
  pub reason : ℕ  -- of the Reject, and 0 for a Fulfill
  pub amount : ℕ  -- of the Prepare
  pub sequence : Option ℕ  -- of the packet, if it opened

abbrev pub received_as : EndState → PreparePacket → Verdict → Received × EndState
received_as e q v = (record { bytes = answer_text (answer_for e q v); reason = reason_of v; amount = q.amount; sequence = sequence_of v }, after_verdict e v)

-- the answer and the end after a Prepare whose payload was opened so
abbrev pub received_opened : EndState → PreparePacket → Result Packet KeyError → Received × EndState
received_opened e q opened = received_as e q (opened_as e q opened)

-- the answer and the end after bytes that came
abbrev pub received : EndState → (bytes : List ℕ) → (now : ℤ) → Received × EndState
received e bytes now = received_as e (prepare_in bytes) (verdict e bytes now)

-- the Reject that is ready for use when memory runs out
unfoldable pub t00_text : (own : List ℕ) → List ℕ
t00_text own = answer_text (Rejected reasons.t00 own [] [])
