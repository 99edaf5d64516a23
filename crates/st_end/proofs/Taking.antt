-- What bytes that came leave lawful.
use Rattle.std.proofs.Common.{◌≡◌, ◌<◌, ℕ, ◌+◌, ◌≤◌, Bool, true, false, cond, ◌&&◌, not, None, Some, Result, Ok, Err, refl, ap, ◌∙◌, sym, subst, List, [], ◌∷◌, length, arith, ℤ}
use Rattle.std.specs.Prelude.{is_some}
use Rattle.std.specs.List.{fold, range_with_len}
use Rattle.st_oer.specs.Address.{is_address}
use Rattle.st_ilp.specs.Packets.{PreparePacket, Rejected}
use Rattle.st_ilp.specs.Spelling.{reject_kind, answer_text}
use Rattle.st_receiver.specs.Reasons.{f99}
use Rattle.st_ilp.specs.Reading.{prepare_at}
use Rattle.st_ilp.specs.Errors as ilp
use Rattle.st_ilp.specs.declared.error.IlpError.{IlpError}
use Rattle.st_frames.specs.Frames.{Known, Packet, frames_of, CloseFrame, OtherFrame, ConnectionNewAddress, LimitFrame, BlockedFrame, StreamMoney, StreamData, ConnectionMaxData, StreamMaxData, StreamMaxMoney}
use Rattle.st_keys.specs.Keys.{DerivedKeys}
use Rattle.st_keys.specs.Sealed.{unsealed, opened, packet_in}
use Rattle.st_keys.specs.declared.error.KeyError.{KeyError}
use Rattle.st_keys.specs.Laws.{PayloadLengths}
use Rattle.st_sender.specs.Sending.{Sending, new_outgoing, outgoing_at, with_outgoing}
use Rattle.st_sender.specs.Flights.{flight_at}
use Rattle.st_sender.specs.Answering.{after_all_told, after_marked}
use Rattle.st_receiver.specs.Streams.{Receiving, is_open}
use Rattle.st_receiver.specs.Judged.{fault_of, effect}
use Rattle.st_receiver.specs.Limits.{reply_frames}
use Rattle.st_end.specs.State.{EndState}
use Rattle.st_end.specs.Lawful.{IsLawful}
use Rattle.st_end.proofs.Numbered.{effect_numbered, effect_parity}
use Rattle.st_end.specs.Receiving.{Received, Unread, Rejects, reply_payload, f01, verdict_on, received_as, received, no_prepare, prepare_or_none, opened_at, opened_too, tells_blocked, marked_if, marked, all_marked, new_peer, told, fulfilled}
use Rattle.st_end.proofs.Streams.{joined, taken_joined}
use Rattle.st_end.proofs.Lawfulness.{Stays, itself, then_stays, both_open, all_told_stays}

-- ---- reading

pub received_read : (e : EndState) (bytes : List ℕ) (now : ℤ) (q : PreparePacket) → prepare_at bytes ≡ Ok q → received e bytes now ≡ received_as e q (verdict_on e now (Ok q))
received_read e bytes now q r = ap (λ (x : Result PreparePacket IlpError). received_as e (prepare_or_none x) (verdict_on e now x)) r

pub received_unread : (e : EndState) (bytes : List ℕ) (now : ℤ) (fault : IlpError) → prepare_at bytes ≡ Err fault → received e bytes now ≡ received_as e no_prepare (Unread f01 (ilp.number fault))
received_unread e bytes now fault r = ap (λ (x : Result PreparePacket IlpError). received_as e (prepare_or_none x) (verdict_on e now x)) r

long_if : (kind : ℕ) (payload : List ℕ) (p : Packet) (r : Result (List ℕ) KeyError) → ((text : List ℕ) → r ≡ Ok text → length payload ≡ 28 + length text) → packet_in kind r ≡ Ok p → 28 ≤ length payload
long_if kind payload p (Ok text) h e = omega (arith, h text refl)
long_if kind payload p (Err fault) h e = absurd cc

-- a payload that opens has room for IV and tag
pub opened_long : (keys : DerivedKeys) (kind : ℕ) (payload : List ℕ) (p : Packet) → PayloadLengths → opened keys kind payload ≡ Ok p → 28 ≤ length payload
unfolding opened
opened_long keys kind payload p lengths e = long_if kind payload p (unsealed keys payload) (lengths.unsealed keys payload) e

-- ---- what flies, and which streams are open

marked_stays : (s : Sending) (g : Known) → Stays s (after_marked s g)
marked_stays s (StreamData k o xs) = itself s
marked_stays s (StreamMoney k n) = itself s
marked_stays s (CloseFrame c) = itself s
marked_stays s (BlockedFrame b) = itself s
marked_stays s (LimitFrame (ConnectionMaxData n)) = itself s
marked_stays s (LimitFrame (StreamMaxData j n)) = itself s
marked_stays s (LimitFrame (StreamMaxMoney j n u)) = itself s
marked_stays s (OtherFrame o) = itself s

marked_if_stays : (s : Sending) (b : Bool) (g : Known) → Stays s (marked_if s b g)
marked_if_stays s true g = marked_stays s g
marked_if_stays s false g = itself s

reply_stays : (f : Known) (reply : List Known) (s : Sending) → Stays s (marked reply s f)
reply_stays f [] s = itself s
reply_stays f (g ∷ reply) s =
    let t = marked_if s (tells_blocked f g) g in
    then_stays s t (marked reply t f) (marked_if_stays s (tells_blocked f g) g) (reply_stays f reply t)

all_marked_stays : (reply : List Known) (fs : List Known) (s : Sending) → Stays s (all_marked reply s fs)
all_marked_stays reply [] s = itself s
all_marked_stays reply (f ∷ fs) s =
    let t = marked reply s f in
    then_stays s t (all_marked reply t fs) (reply_stays f reply s) (all_marked_stays reply fs t)

if_flies : (b : Bool) (s t : Sending) → t.flights ≡ s.flights → (cond b t s).flights ≡ s.flights
if_flies true s t h = h
if_flies false s t h = refl

opened_flies : (r : Receiving) (ks : List ℕ) (s : Sending) → (fold (opened_at r) s ks).flights ≡ s.flights
opened_flies r [] s = refl
opened_flies r (k ∷ ks) s = opened_flies r ks (opened_at r s k) ∙ if_flies (is_open r k && not (is_some (outgoing_at s k))) s (with_outgoing s k new_outgoing) refl

too_flies : (r : Receiving) (s : Sending) → (opened_too r s).flights ≡ s.flights
unfolding opened_too
too_flies r s = opened_flies r (range_with_len 1 64) s

-- ---- what stays lawful

pick_address : (b : Bool) (address peer : List ℕ) → is_address address ≡ b → is_address peer ≡ true → is_address (cond b address peer) ≡ true
pick_address true address peer a p = a
pick_address false address peer a p = p

peer_lawful : (fs : List Known) (peer : List ℕ) → is_address peer ≡ true → is_address (new_peer peer fs) ≡ true
peer_lawful [] peer h = h
peer_lawful ((OtherFrame (ConnectionNewAddress address)) ∷ fs) peer h = peer_lawful fs _ (pick_address (is_address address) address peer refl h)
peer_lawful (StreamData k o xs ∷ fs) peer h = peer_lawful fs peer h
peer_lawful (StreamMoney k n ∷ fs) peer h = peer_lawful fs peer h
peer_lawful ((CloseFrame c) ∷ fs) peer h = peer_lawful fs peer h
peer_lawful ((BlockedFrame b) ∷ fs) peer h = peer_lawful fs peer h
peer_lawful ((LimitFrame l) ∷ fs) peer h = peer_lawful fs peer h

pub fulfilled_lawful : (e : EndState) (p : Packet) (amount : ℕ) → fault_of e.receiving p amount ≡ None → IsLawful e → IsLawful (fulfilled e p (effect e.receiving p amount))
fulfilled_lawful e p amount none l =
    let fs = frames_of p in
    let r = effect e.receiving p amount in
    let t = opened_too r e.sending in
    let s = all_marked (reply_frames r fs) (after_all_told t fs) fs in
    let told_stay = all_told_stays t fs t (itself t) in
    let marked_stay = all_marked_stays (reply_frames r fs) fs (after_all_told t fs) in
    let same = marked_stay.0 ∙ told_stay.0 ∙ too_flies r e.sending in
    let j_same = sym (marked_stay.1 ∙ told_stay.1 ∙ taken_joined e.receiving e.sending p amount none (both_open e l)) in
    let j = joined s r j_same in
    record { own = l.own; peer = peer_lawful fs e.peer l.peer; kept = λ n h. ap (λ ps. is_some (flight_at ps n)) same ∙ l.kept n h; both = j.both; places = j.places; numbers = effect_numbered e.receiving e.sending s p amount none (both_open e l) (sym j_same) l.numbers; parity = subst (λ n. n < 2) (sym (effect_parity e.receiving p amount)) l.parity }

-- ---- what is answered

abbrev as_step : Received → EndState → Received × EndState
as_step r e = (r, e)

pub rejected_is : (e now : EndState) (q : PreparePacket) (p : Packet) (reason : ℕ) (bytes payload : List ℕ) (s : Sending) → e ≡ now → bytes ≡ answer_text (Rejected f99 e.own [] payload)
    → payload ≡ reply_payload e.keys reject_kind q p e.receiving → s ≡ after_all_told e.sending (frames_of p)
    → ◌≡◌ {A = Received × EndState} (received_as now q (Rejects p reason)) (record { bytes = bytes; reason = reason; amount = q.amount; sequence = Some p.sequence }, record e { sending = s })
rejected_is e now q p reason bytes payload s same be pe se =
    subst (λ (x : EndState). ◌≡◌ {A = Received × EndState} (received_as x q (Rejects p reason)) (record { bytes = bytes; reason = reason; amount = q.amount; sequence = Some p.sequence }, record e { sending = s })) same
    (ap (λ (y : List ℕ). as_step (record { bytes = answer_text (Rejected f99 e.own [] y); reason = reason; amount = q.amount; sequence = Some p.sequence }) (told e p)) (sym pe)
    ∙ ap (λ (y : List ℕ). as_step (record { bytes = y; reason = reason; amount = q.amount; sequence = Some p.sequence }) (told e p)) (sym be)
    ∙ ap (λ (t : Sending). as_step (record { bytes = bytes; reason = reason; amount = q.amount; sequence = Some p.sequence }) (record e { sending = t })) (sym se))
