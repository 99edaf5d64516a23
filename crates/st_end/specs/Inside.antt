-- What the code reads off an answer before it opens its data in place, what became of a packet, and the Prepare of a packet.
use Rattle.std.specs.Prelude.{◌≡◌, ◌≤◌, ℕ, ◌+◌, ℤ, ◌+ℤ◌, List, ◌∷◌, ◌++◌, false, nat_eq, if◌then◌else◌, take, drop, length, None, Some, Ok, Err}
use Rattle.std.specs.Int.{w64, to_be_bytes}
use Rattle.std.specs.List.{AllByRecursion}
use Rattle.st_ilp.specs.Packets.{Fulfilled, Rejected}
use Rattle.st_ilp.specs.Reading.{answer_at}
use Rattle.st_ilp.specs.declared.error.IlpError.{IlpError}
use Rattle.st_ilp.specs.Packets.{PreparePacket}
use Rattle.st_oer.specs.Spelling.{length_bytes, octets}
use Rattle.st_ilp.specs.Expiry.{expiry_text}
use Rattle.st_ilp.specs.Spelling.{prepare_kind, fulfill_kind, prepare_contents, prepare_text, answer_text}
use Rattle.st_ilp.specs.Laws.{IsPrepare}
use Rattle.st_frames.specs.Frames.{Packet, frames_of, max_packet, Known}
use Rattle.st_frames.specs.Written.{is_unwritable, packet_length, written}
use Rattle.st_keys.specs.Keys.{DerivedKeys, fulfillment, condition}
use Rattle.st_keys.specs.Sealed.{sealed_packet}
use Rattle.st_sender.specs.Sending.{Load, Sending}
use Rattle.st_sender.specs.Answering.{after_all_told}
use Rattle.st_receiver.specs.declared.reason.Reason.{Reason}
use Rattle.st_receiver.specs.Reasons as reasons
use Rattle.st_receiver.specs.Streams.{Receiving}
use Rattle.st_receiver.specs.Judged.{fault_of, effect}
use Rattle.st_receiver.specs.Limits.{reply_frames}
use Rattle.st_end.specs.Receiving.{reply_payload, opened_too, all_marked, new_peer}
use Rattle.st_end.specs.Seen.{text_or}
use Rattle.st_end.specs.Sending.{answer_time, Spells}
use Rattle.st_end.specs.declared.flight.Open.{Open}
use Rattle.st_end.specs.declared.receive.Judged.{Judged}
use Rattle.st_end.specs.declared.receive.Judged.TheVariants as packets
use Rattle.st_end.specs.declared.back.Back.{Back}
use Rattle.st_end.specs.declared.back.Back.TheVariants.{Fulfill, Reject, Unreadable}

-- what bytes say, and the start of their data
abbrev pub IsBack : List ℕ → Back → Type 0
IsBack bytes (Fulfill fulfillment start) = (start ≤ length bytes) × (answer_at bytes ≡ Ok (Fulfilled fulfillment (drop start bytes)))
IsBack bytes (Reject code by message start) =
    (start ≤ length bytes) × (length by.now ≤ 1023) × (answer_at bytes ≡ Ok (Rejected code by.now message.now (drop start bytes)))
IsBack bytes Unreadable = (fault : IlpError) × (answer_at bytes ≡ Err fault)

-- what the sending side has once a packet took effect that leaves r
abbrev pub taken_by : Sending → Receiving → Packet → Sending
taken_by s r p = all_marked (reply_frames r (frames_of p)) (after_all_told (opened_too r s) (frames_of p)) (frames_of p)

-- the same with the frames of the reply that is sent
abbrev pub taken_with : (reply : List Known) → Sending → Receiving → Packet → Sending
taken_with reply s r p = all_marked reply (after_all_told (opened_too r s) (frames_of p)) (frames_of p)

-- the Fulfill of a packet that took effect at r with this amount
abbrev pub fulfill_text : DerivedKeys → PreparePacket → Packet → Receiving → (amount : ℕ) → List ℕ
fulfill_text keys q p r amount = answer_text (Fulfilled (fulfillment keys q.payload) (reply_payload keys fulfill_kind q p (effect r p amount)))

-- what became of a packet, and what it left of both sides
abbrev pub IsJudged : {X : Type 0} → DerivedKeys → PreparePacket → Packet → Sending → Receiving → Sending → Receiving → Judged X → Type 0
IsJudged keys q p s r t u (packets.Rejected reason) = ((why : Reason) × (fault_of r p q.amount ≡ Some why) × (reason ≡ reasons.number why)) × (t ≡ s) × (u ≡ r)
IsJudged keys q p s r t u (packets.Taken bytes peer) =
    (fault_of r p q.amount ≡ None)
    × (u ≡ effect r p q.amount)
    × (t ≡ taken_by s (effect r p q.amount) p)
    × (bytes.items ≡ answer_text (Fulfilled (fulfillment keys q.payload) (reply_payload keys fulfill_kind q p (effect r p q.amount))))
    × ((old : List ℕ) → text_or old peer ≡ new_peer old (frames_of p))

-- an entry, with this value if it is the one of this key
abbrev pub with_value : {X : Type 0} → ℕ → X → ℕ × X → ℕ × X
with_value n v e = (e.0, if nat_eq e.0 n then v else e.1)

-- a packet that can be written
pub record IsSpellable (p : Load) : Type 0 where
  pub writable : AllByRecursion (λ f. is_unwritable f ≡ false) p.frames
  pub short : packet_length p.sequence p.least p.frames ≤ max_packet

-- a Prepare to this peer
abbrev pub prepare_as : (peer : List ℕ) → (now : ℤ) → (amount : ℕ) → (condition payload : List ℕ) → PreparePacket
prepare_as peer now amount condition payload = record {
  amount = amount;
  expiry = now +ℤ answer_time;
  condition = condition;
  destination = peer;
  payload = payload;
}

-- one with this payload, whose condition these keys make
abbrev pub prepare_to : DerivedKeys → (peer : List ℕ) → (now : ℤ) → (amount : ℕ) → (payload : List ℕ) → PreparePacket
prepare_to keys peer now amount payload = prepare_as peer now amount (condition (fulfillment keys payload)) payload

-- what is in front of a Prepare's condition, and what is between its condition and its payload
abbrev pub front_of : PreparePacket → List ℕ
front_of q = prepare_kind ∷ (length_bytes (length (prepare_contents q)) ++ (to_be_bytes w64 q.amount ++ expiry_text q.expiry))

abbrev pub middle_of : PreparePacket → List ℕ
middle_of q = octets q.destination ++ length_bytes (length q.payload)

-- bytes that are a Prepare of a packet once a condition and a payload are put at their places. The payload there has the packet's plain text
pub record IsPlain (peer : List ℕ) (now : ℤ) (p : Load) (bytes : List ℕ) (condition_at payload_at : ℕ) : Type 0 where
  pub text : List ℕ
  pub spells : Spells p
  pub writes : written prepare_kind p.sequence p.least p.frames ≡ Ok text
  pub front : condition_at + 32 ≤ payload_at
  pub back : payload_at + 28 ≤ length bytes
  pub plain : drop 28 (drop payload_at bytes) ≡ text
  pub lawful : (condition payload : List ℕ) → length condition ≡ 32 → length payload ≡ 28 + length text
      → IsPrepare (prepare_as peer now p.amount condition payload)
  pub whole : (condition payload : List ℕ) → length condition ≡ 32 → length payload ≡ 28 + length text
      → take condition_at bytes ++ (condition ++ (drop (condition_at + 32) (take payload_at bytes) ++ payload))
      ≡ prepare_text (prepare_as peer now p.amount condition payload)

-- the flight of a packet that these keys seal, and the bytes of its Prepare
pub record IsSpelled (keys : DerivedKeys) (peer iv : List ℕ) (now : ℤ) (p : Load) (flight : Open) (bytes : List ℕ) : Type 0 where
  pub payload : List ℕ
  pub spells : Spells p
  pub sealed : sealed_packet keys iv prepare_kind p.sequence p.least p.frames ≡ Ok payload
  pub lawful : IsPrepare (prepare_to keys peer now p.amount payload)
  pub flight_is : flight ≡ record { sequence = p.sequence; condition = condition (fulfillment keys payload) }
  pub bytes_are : bytes ≡ prepare_text (prepare_to keys peer now p.amount payload)
