-- Which bytes spell a Prepare, a Fulfill or none.
use Rattle.std.proofs.Common.{◌≡◌, ℕ, ◌<◌, ◌≤◌, ◌^◌, Result, Ok, Err, true, false, List, [], ◌∷◌, length, take, min, refl, ap, subst, ◌∙◌, arith, ℤ, nat_le, length-take}
use Rattle.std.specs.Prelude.{int_le, pos, neg_ℤ, ◌+ℤ◌, ◌-ℤ◌, ◌≤ℤ◌}
use Rattle.std.proofs.lemmas.Int.{ints}
use Rattle.std.proofs.lemmas.Bool.Decides.{nat_tests}
use Rattle.st_oer.specs.Ratios.{Ratio, exchanged}
use Rattle.st_ilp.specs.Packets.{PreparePacket, Fulfilled, Rejected}
use Rattle.st_ilp.specs.Reading.{prepare_at, fulfills, is_fulfill_text}
use Rattle.st_ilp.specs.Spelling.{fulfill_kind, prepare_text, answer_text}
use Rattle.st_ilp.specs.Laws.{IsPrepare, is_fulfill}
use Rattle.st_ilp.proofs.Apart.{kinds_apart}
use Rattle.st_ilp.proofs.DateFinding.{is_le, le_is, not_le_is, two_parts}
use Rattle.st_ilp.proofs.PacketReads.{prepare_reads, answer_reads}
use Rattle.st_frames.specs.Frames.{Packet, frames_of}
use Rattle.st_keys.specs.Keys.{DerivedKeys, fulfillment}
use Rattle.st_keys.specs.Sealed.{sealed_packet, iv_of, unsealed, packet_in, opened}
use Rattle.st_keys.specs.declared.error.KeyError.{KeyError}
use Rattle.st_keys.proofs.Lengths.{fulfillment_is, unsealed_length, packet_length}
use Rattle.st_hop.specs.Arriving.{onward, hop_time}
use Rattle.st_receiver.specs.Streams.{Receiving}
use Rattle.st_receiver.specs.Limits.{reply_frames}
use Rattle.st_end.specs.State.{EndState}
use Rattle.st_end.specs.Receiving.{prepare_or_none, prepare_in, payload_or_none, reply_iv, reply_payload, Fulfills, answer_for}

-- ---- Prepares

-- bytes that spell a Prepare
abbrev pub IsSpelled : List ℕ → Type 0
IsSpelled bytes = (q : PreparePacket) × IsPrepare q × (bytes ≡ prepare_text q)

pub spelled_at : (q : PreparePacket) → IsPrepare q → prepare_in (prepare_text q) ≡ q
spelled_at q h = ap prepare_or_none (prepare_reads.only q h)

pub spelled_reads : (bytes : List ℕ) (q : PreparePacket) → IsSpelled bytes → prepare_at bytes ≡ Ok q → IsPrepare q × (prepare_in bytes ≡ q)
spelled_reads bytes q h e =
    let again : prepare_at bytes ≡ Ok h.0 = ap prepare_at h.2 ∙ prepare_reads.only h.0 h.1 in
    let same : h.0 ≡ q = cc in
    (subst IsPrepare same h.1, ap prepare_or_none e)

-- a Prepare that has time left is one after the hop took its part
pub goes_on : (rate : Ratio) (p : PreparePacket) (now : ℤ) → IsPrepare p → pos 0 ≤ℤ now → int_le p.expiry (now +ℤ hop_time) ≡ false → exchanged rate p.amount < 2 ^ 64 → IsPrepare (onward rate p)
goes_on rate p now h from late less =
    let bounds = two_parts (int_le (neg_ℤ (pos 62_167_219_200_000)) p.expiry) (int_le p.expiry (pos 253_402_300_799_999)) h.expiry in
    let last = le_is p.expiry (pos 253_402_300_799_999) bounds.1 in
    let left = not_le_is p.expiry (now +ℤ hop_time) late in
    let low = is_le (neg_ℤ (pos 62_167_219_200_000)) (p.expiry -ℤ hop_time) (omega (arith, ints, from, left)) in
    let high = is_le (p.expiry -ℤ hop_time) (pos 253_402_300_799_999) (omega (arith, ints, last)) in
    record { amount = less; expiry = rw (low, high) refl; condition = h.condition; destination = h.destination; payload = h.payload }

-- ---- answers

pub reject_fails : (code by message payload : List ℕ) → is_fulfill_text (answer_text (Rejected code by message payload)) ≡ false
reject_fails code by message payload = kinds_apart.reject code by message payload

-- a payload that opens has room for an IV
long_by : (keys : DerivedKeys) (kind : ℕ) (payload : List ℕ) (p : Packet) (r : Result (List ℕ) KeyError) → unsealed keys payload ≡ r → packet_in kind r ≡ Ok p → 12 ≤ length payload
long_by keys kind payload p (Ok text) e o = let l = unsealed_length keys payload text e in omega (arith, l)
long_by keys kind payload p (Err fault) e o = absurd (cc)

pub opened_long : (keys : DerivedKeys) (kind : ℕ) (payload : List ℕ) (p : Packet) → opened keys kind payload ≡ Ok p → 12 ≤ length payload
unfolding opened
opened_long keys kind payload p o = long_by keys kind payload p (unsealed keys payload) refl o

reply_iv_length : (xs : List ℕ) → length (reply_iv xs) ≡ length xs
reply_iv_length [] = refl
reply_iv_length (b ∷ bs) = refl

iv_length : (payload : List ℕ) → 12 ≤ length payload → length (reply_iv (iv_of payload)) ≡ 12
iv_length payload l = let a = reply_iv_length (take 12 payload) in let b = length-take 12 payload in let c : min 12 (length payload) ≡ 12 = grind (arith) in omega (arith, a, b, c)

none_or_short : (r : Result (List ℕ) KeyError) → ((payload : List ℕ) → r ≡ Ok payload → length payload ≤ 32767) → length (payload_or_none r) ≤ 32767
none_or_short (Ok payload) short = short payload refl
none_or_short (Err fault) short = omega arith

-- an end's Fulfill is one
pub fulfill_is : (e : EndState) (q : PreparePacket) (p : Packet) (r : Receiving) → 12 ≤ length q.payload → is_fulfill_text (answer_text (answer_for e q (Fulfills p r))) ≡ true
unfolding reply_payload
fulfill_is e q p r long =
    let iv = reply_iv (iv_of q.payload) in
    let frames = reply_frames r (frames_of p) in
    let payload = payload_or_none (sealed_packet e.keys iv fulfill_kind p.sequence q.amount frames) in
    let few : length payload ≤ 32767 =
    none_or_short (sealed_packet e.keys iv fulfill_kind p.sequence q.amount frames) (λ x s. packet_length e.keys iv x fulfill_kind p.sequence q.amount frames (iv_length q.payload long) s) in
    let short : nat_le (length payload) 32767 ≡ true = grind (arith, nat_tests) in
    ap fulfills (answer_reads.only (Fulfilled (fulfillment e.keys q.payload) payload) (is_fulfill (fulfillment e.keys q.payload) payload (fulfillment_is e.keys q.payload).count short))
