-- From bytes to an exchange: the Prepare that goes is fulfilled where it comes, and its answer acknowledges it.
use Rattle.std.proofs.Common.{◌≡◌, ℕ, zero, suc, ◌^◌, ◌<◌, ◌≤◌, true, false, not, cond, List, [], ◌∷◌, ◌++◌, length, take, length-take, refl, sym, ap, subst, ◌∙◌, arith, ℤ, Option, None, Some, Result, Ok, nat_eq, nat_le}
use Rattle.std.specs.Prelude.{◌+ℤ◌, bytes_eq, int_le}
use Rattle.std.specs.Cmp.Lexicographic.{pointwise}
use Rattle.std.specs.FinMap as fmap
use Rattle.std.specs.Option.{option_or}
use Rattle.std.specs.Ordering.{nat_cmp}
use Rattle.std.proofs.lemmas.Bool.Decides.{Decides-eqb, nat_tests}
use Rattle.std.proofs.lemmas.Grind.{common_steps}
use Rattle.std.proofs.lemmas.Slice.Eq.{slice_eq-Decides}
use Rattle.st_oer.specs.Address.{is_within}
use Rattle.st_ilp.specs.Packets.{Fulfilled, PreparePacket}
use Rattle.st_ilp.specs.Spelling.{answer_text, fulfill_kind, prepare_kind, prepare_text}
use Rattle.st_ilp.specs.Reading.{answer_at}
use Rattle.st_ilp.specs.Expiry.{is_expiry}
use Rattle.st_ilp.specs.Laws.{IsPrepare, is_fulfill}
use Rattle.st_ilp.proofs.PacketReads.{answer_reads, prepare_reads}
use Rattle.st_frames.specs.Frames.{Known, Packet, frames_of, max_packet}
use Rattle.st_frames.specs.Written.{packet_text, packet_with}
use Rattle.st_frames.proofs.WrittenLaws.{keeps_frames}
use Rattle.st_keys.specs.Keys.{DerivedKeys, condition, fulfillment}
use Rattle.st_keys.specs.Sealed.{iv_of, opened, sealed, sealed_packet}
use Rattle.st_keys.specs.declared.error.KeyError.{KeyError}
use Rattle.st_keys.proofs.Lengths.{fulfillment_is, packet_length, sealed_length}
use Rattle.st_keys.proofs.Payloads.{packet_opens}
use Rattle.st_sender.specs.Sending.{Flight, Load, Sending}
use Rattle.st_sender.specs.Flights.{flight_at, flight_of}
use Rattle.st_sender.specs.Loads.{Sends, with_flight}
use Rattle.st_sender.specs.Answering.{Plain, after_all_told, after_failed}
use Rattle.st_receiver.specs.Streams.{Receiving, incoming_at}
use Rattle.st_receiver.specs.Judged.{effect, fault_of}
use Rattle.st_receiver.specs.Limits.{limits, reply_frames}
use Rattle.st_end.specs.State.{EndState}
use Rattle.st_end.specs.Sending.{Goes, answer_time, flight_for, is_kept, open_flight, prepare_for, with_condition}
use Rattle.st_end.specs.Receiving.{Fulfills, Rejects, Unread, after_verdict, answer_for, f02, is_own_condition, judged_as, opened_as, payload_or_none, r00, received, received_as, reply_iv, reply_payload, verdict_on}
use Rattle.st_end.specs.Answers.{answered_by, ended, ended_with, failed_by, failure, raised}
use Rattle.st_end.specs.Failed.{Failed, Unfit}
use Rattle.st_end.specs.declared.flight.Open.{Open}
use Rattle.st_end.proofs.Going.{seals, spellable}
use Rattle.st_end.proofs.Taking.{received_read}
use Rattle.st_world_quiet.specs.Quiet.{IsQuiet}
use Rattle.st_world_quiet.specs.Rounds.{IsWritten, once_fulfilled}
use Rattle.st_world_quiet.specs.Mirrored.{IsAhead, IsPacketOf, IsReadOut, Tally}
use Rattle.st_world_quiet.specs.Exchanges.{Exchange, Exchanges, IsModest}
use Rattle.st_world_quiet.specs.Trips.{AreJoined, CanTell, Passage, Trip, Trips, once_answered, once_received}
use Rattle.st_world_quiet.proofs.EndRounds.{round_keeps}
use Rattle.st_world_quiet.proofs.Exchanging.{exchange_round}
use Rattle.st_world_quiet.proofs.Fulfilling.{load_fulfilled}
use Rattle.st_world_quiet.proofs.Tellable.{Writes, reply_writes, writes_room}
use Rattle.st_world_quiet.proofs.Abreast.{effect_max, effect_within, round_abreast}

pub bytes_same : (xs : List ℕ) → bytes_eq xs xs ≡ true
bytes_same xs = (slice_eq-Decides (λ a b. Decides-eqb a b) xs xs (pointwise nat_eq xs xs) refl).1 refl

within_itself : (address : List ℕ) → is_within address address ≡ true
unfolding is_within
within_itself address = let same = bytes_same address in rw same refl

-- ---- the packet that is sent

-- the packet of a `Load`
abbrev pub packet_of_load : Load → Packet
packet_of_load p = packet_with 12 p.sequence p.least p.frames

pub is_packet_of : (p : Load) → IsPacketOf p (packet_of_load p)
is_packet_of p = record { sequence = refl; amount = refl; frames = keeps_frames 12 p.sequence p.least p.frames }

pub goes_sends : (e gone : EndState) (iv bytes : List ℕ) (now : ℤ) (flight : Open) (g : Goes e iv now flight bytes gone) → Sends e.sending (limits e.receiving) max_packet g.load (with_flight e.sending g.load)
goes_sends e gone iv bytes now flight g = subst (Sends e.sending (limits e.receiving) max_packet g.load) g.sends.after g.sends

goes_opens : (e gone : EndState) (iv bytes : List ℕ) (now : ℤ) (flight : Open) → length iv ≡ 12 → (g : Goes e iv now flight bytes gone) → opened e.keys prepare_kind g.payload ≡ Ok (packet_of_load g.load)
goes_opens e gone iv bytes now flight long g = packet_opens e.keys iv g.payload 12 g.load.sequence g.load.least g.load.frames long g.spells.sequence g.spells.least g.spells.frames g.sealed

goes_long : (e gone : EndState) (iv bytes : List ℕ) (now : ℤ) (flight : Open) → length iv ≡ 12 → (g : Goes e iv now flight bytes gone) → 12 ≤ length g.payload
goes_long e gone iv bytes now flight long g =
    let sealed_is = seals e.keys iv prepare_kind g.load (spellable e.sending g.sending (limits e.receiving) g.load g.sends) in
    let text = packet_text prepare_kind g.load.sequence g.load.least g.load.frames in
    let same : ◌≡◌ {A = Result (List ℕ) KeyError} (Ok (sealed e.keys iv text)) (Ok g.payload) = sym sealed_is ∙ g.sealed in
    let is : sealed e.keys iv text ≡ g.payload = cc in
    let size = sealed_length e.keys iv text long in
    let whole : length (sealed e.keys iv text) ≡ length g.payload = ap length is in
    omega (arith, size, whole)

-- ---- the peer fulfills it

fulfills_by : (f : EndState) (q : PreparePacket) (p : Packet) (later : ℤ) → is_within f.own q.destination ≡ true → int_le q.expiry later ≡ false → opened f.keys prepare_kind q.payload ≡ Ok p → is_own_condition f q ≡ true → fault_of f.receiving p q.amount ≡ None
    → verdict_on f later (Ok q) ≡ Fulfills p (effect f.receiving p q.amount)
fulfills_by f q p later here early opens own fine =
    ap (λ b. cond (not b) (Unread f02 56) (cond (int_le q.expiry later) (Unread r00 57) (opened_as f q (opened f.keys prepare_kind q.payload)))) here
    ∙ ap (λ b. cond b (Unread r00 57) (opened_as f q (opened f.keys prepare_kind q.payload))) early
    ∙ ap (opened_as f q) opens
    ∙ ap (λ b. cond b (judged_as p (effect f.receiving p q.amount) (fault_of f.receiving p q.amount)) (Rejects p 55)) own
    ∙ ap (judged_as p (effect f.receiving p q.amount)) fine

-- a Prepare that went, as it comes with some expiry
abbrev pub prepare_due : EndState → (expiry : ℤ) → (amount : ℕ) → (payload : List ℕ) → PreparePacket
prepare_due e expiry amount payload = record { amount = amount; expiry = expiry; condition = condition (fulfillment e.keys payload); destination = e.peer; payload = payload }

pub goes_lawful : (e gone : EndState) (iv bytes : List ℕ) (now expiry : ℤ) (flight : Open) → is_expiry expiry ≡ true → (g : Goes e iv now flight bytes gone) → IsPrepare (prepare_due e expiry g.load.amount g.payload)
goes_lawful e gone iv bytes now expiry flight is g = record { amount = g.lawful.amount; expiry = is; condition = g.lawful.condition; destination = g.lawful.destination; payload = g.lawful.payload }

pub comes_fulfilled : {c : Tally} (n : ℕ → ℕ) (e f gone : EndState) (iv bytes : List ℕ) (now expiry later : ℤ) (flight : Open) → length iv ≡ 12 → IsQuiet n e.sending → IsAhead n c e.sending f.receiving → AreJoined e f → is_expiry expiry ≡ true → int_le expiry later ≡ false
    → (g : Goes e iv now flight bytes gone)
    → received f (prepare_text (prepare_due e expiry g.load.amount g.payload)) later ≡ received_as f (prepare_due e expiry g.load.amount g.payload) (Fulfills (packet_of_load g.load) (effect f.receiving (packet_of_load g.load) g.load.amount))
comes_fulfilled n e f gone iv bytes now expiry later flight long quiet abreast joined is early g =
    received_read f (prepare_text q) later q (prepare_reads.only q (goes_lawful e gone iv bytes now expiry flight is g))
    ∙ ap (received_as f q) (fulfills_by f q p later here early opens own (load_fulfilled n e.sending (limits e.receiving) g.load p f.receiving quiet (goes_sends e gone iv bytes now flight g) (g.filled.whole quiet.whole) abreast (is_packet_of g.load)))
  where
    q : PreparePacket
    q = prepare_due e expiry g.load.amount g.payload

    p : Packet
    p = packet_of_load g.load

    here : is_within f.own e.peer ≡ true
    here = ap (is_within f.own) joined.address ∙ within_itself f.own

    opens : opened f.keys prepare_kind g.payload ≡ Ok p
    opens = ap (λ k. opened k prepare_kind g.payload) joined.keys ∙ goes_opens e gone iv bytes now flight long g

    own : is_own_condition f q ≡ true
    own = ap (λ k. bytes_eq (condition (fulfillment k g.payload)) (condition (fulfillment e.keys g.payload))) joined.keys ∙ bytes_same (condition (fulfillment e.keys g.payload))

pub goes_fulfilled : {c : Tally} (n : ℕ → ℕ) (e f gone : EndState) (iv bytes : List ℕ) (now later : ℤ) (flight : Open) → length iv ≡ 12 → IsQuiet n e.sending → IsAhead n c e.sending f.receiving → AreJoined e f → int_le (now +ℤ answer_time) later ≡ false
    → (g : Goes e iv now flight bytes gone)
    → received f bytes later ≡ received_as f (prepare_for e now g.load.amount g.payload) (Fulfills (packet_of_load g.load) (effect f.receiving (packet_of_load g.load) g.load.amount))
goes_fulfilled n e f gone iv bytes now later flight long quiet abreast joined early g =
    ap (λ text. received f text later) g.bytes_are ∙ comes_fulfilled n e f gone iv bytes now (now +ℤ answer_time) later flight long quiet abreast joined g.lawful.expiry early g

-- what is answered rests on no expiry
same_answer : (e f : EndState) (expiry now : ℤ) (amount : ℕ) (payload : List ℕ) (p : Packet) (r : Receiving) → received_as f (prepare_due e expiry amount payload) (Fulfills p r) ≡ received_as f (prepare_for e now amount payload) (Fulfills p r)
unfolding reply_payload
same_answer e f expiry now amount payload p r = refl

-- so it is as if the Prepare had come with the expiry that it went with
pub comes_the_same : {c : Tally} (n : ℕ → ℕ) (e f : EndState) (expiry : ℤ) → IsQuiet n e.sending → IsAhead n c e.sending f.receiving → AreJoined e f → (x : Passage e) → is_expiry expiry ≡ true → int_le expiry x.later ≡ false
    → received f (prepare_text (prepare_due e expiry x.goes.load.amount x.goes.payload)) x.later ≡ received f x.bytes x.later
comes_the_same n e f expiry quiet abreast joined x is early =
    comes_fulfilled n e f x.gone x.iv x.bytes x.now expiry x.later x.flight x.long quiet abreast joined is early x.goes
    ∙ same_answer e f expiry x.now x.goes.load.amount x.goes.payload _ _
    ∙ sym (goes_fulfilled n e f x.gone x.iv x.bytes x.now x.later x.flight x.long quiet abreast joined x.in_time x.goes)

-- ---- its answer

reply_iv_long : (xs : List ℕ) → length (reply_iv xs) ≡ length xs
reply_iv_long [] = refl
reply_iv_long (b ∷ bs) = refl

iv_long : (payload : List ℕ) → 12 ≤ length payload → length (reply_iv (iv_of payload)) ≡ 12
iv_long payload l = let a = reply_iv_long (take 12 payload) in let b = length-take 12 payload in omega (arith, a, b, l)

-- a reply that was sealed opens, and its answer reads
pub record Answered (keys : DerivedKeys) (bytes : List ℕ) (payload reply : List ℕ) (sequence : ℕ) (told : List Known) : Type 0 where
  packet : Packet
  pub reads : answer_at bytes ≡ Ok (Fulfilled (fulfillment keys payload) reply)
  opens : opened keys fulfill_kind reply ≡ Ok packet
  sequence_is : packet.sequence ≡ sequence
  frames : frames_of packet ≡ told

reply_answers : (f : EndState) (q : PreparePacket) (p : Packet) (r : Receiving) → 12 ≤ length q.payload → p.sequence < 2 ^ 64 → q.amount < 2 ^ 64 → Writes 5160 (reply_frames r (frames_of p))
    → Answered f.keys (answer_text (answer_for f q (Fulfills p r))) q.payload (reply_payload f.keys fulfill_kind q p r) p.sequence (reply_frames r (frames_of p))
unfolding reply_payload
reply_answers f q p r long few small writes = record {
  packet = packet_with 13 p.sequence q.amount told;
  reads = answer_reads.only (Fulfilled (fulfillment f.keys q.payload) reply) (is_fulfill (fulfillment f.keys q.payload) reply (fulfillment_is f.keys q.payload).count fits_data);
  opens = packet_opens f.keys iv reply 13 p.sequence q.amount told (iv_long q.payload long) few small writes.fit is_sealed;
  sequence_is = refl;
  frames = keeps_frames 13 p.sequence q.amount told;
}
  where
    told : List Known
    told = reply_frames r (frames_of p)

    iv : List ℕ
    iv = reply_iv (iv_of q.payload)

    text : List ℕ
    text = packet_text fulfill_kind p.sequence q.amount told

    reply : List ℕ
    reply = payload_or_none (sealed_packet f.keys iv fulfill_kind p.sequence q.amount told)

    made : sealed_packet f.keys iv fulfill_kind p.sequence q.amount told ≡ Ok (sealed f.keys iv text)
    made = seals f.keys iv fulfill_kind (record { sequence = p.sequence; amount = 0; least = q.amount; frames = told; turn = 0 }) (record { writable = writes.writable; short = writes_room p.sequence q.amount told writes })

    is_sealed : sealed_packet f.keys iv fulfill_kind p.sequence q.amount told ≡ Ok reply
    is_sealed = made ∙ ap {B = Result (List ℕ) KeyError} Ok (sym (ap payload_or_none made))

    fits_data : nat_le (length reply) 32767 ≡ true
    fits_data = let short = packet_length f.keys iv reply fulfill_kind p.sequence q.amount told (iv_long q.payload long) is_sealed in grind (arith, nat_tests)

-- ---- the answer acknowledges the `Load`

kept_here : (m : fmap.FinMap nat_cmp (List ℕ)) (k : ℕ) (c : List ℕ) → fmap.get (fmap.insert m k c) k ≡ Some c
kept_here m k c = grind (arith, common_steps, fmap.gets)

flies_here : (p : Flight) → flight_at (p ∷ []) p.sequence ≡ Some p
flies_here p = let b : nat_eq p.sequence p.sequence ≡ true = grind (arith, nat_tests) in rw b refl

raises : (s : Sending) (sequence : ℕ) (packet : Packet) → packet.sequence ≡ sequence → raised s sequence (Ok packet) ≡ after_all_told s (frames_of packet)
raises s sequence packet e = let b : nat_eq packet.sequence sequence ≡ true = grind (arith, nat_tests) in rw b refl

-- an end whose one packet in flight was this `Load`, once it was acknowledged
abbrev pub answered_end : EndState → Load → (payload : List ℕ) → (told : List Known) → EndState
answered_end e p payload told = record e {
  sending = after_all_told (once_fulfilled e.sending p) told;
  conditions = fmap.remove (fmap.insert e.conditions p.sequence (condition (fulfillment e.keys payload))) p.sequence;
}

-- the flight of a `Load` is open if it is the only one
pub flight_opens : (e : EndState) (p : Load) (payload : List ℕ) → e.sending.flights ≡ []
    → (let flight = flight_for e p payload in open_flight (with_condition e flight (with_flight e.sending p)) flight ≡ Some (flight_of p))
flight_opens e p payload alone = ap (λ b. cond b (flight_at gone.sending.flights p.sequence) None) kept ∙ flies
  where
    flight : Open
    flight = flight_for e p payload

    gone : EndState
    gone = with_condition e flight (with_flight e.sending p)

    kept : is_kept flight.condition (fmap.get gone.conditions flight.sequence) ≡ true
    kept = ap (is_kept flight.condition) (kept_here e.conditions p.sequence flight.condition) ∙ bytes_same flight.condition

    flies : flight_at gone.sending.flights p.sequence ≡ Some (flight_of p)
    flies = ap (λ ps. flight_at (ps ++ flight_of p ∷ []) p.sequence) alone ∙ flies_here (flight_of p)

load_answered : (e : EndState) (p : Load) (payload bytes reply : List ℕ) (told : List Known) → e.sending.flights ≡ [] → Answered e.keys bytes payload reply p.sequence told
    → (let flight = flight_for e p payload in ended (with_condition e flight (with_flight e.sending p)) flight (Some bytes) ≡ answered_end e p payload told)
load_answered e p payload bytes reply told alone a =
    ap (λ o. ended_with gone flight o (Some bytes)) opens
    ∙ ap (λ s. record gone { sending = s; conditions = fmap.remove gone.conditions p.sequence; last = option_or (failure flight (Some bytes)) gone.last }) taken
    ∙ ap (λ o. record gone { sending = after_all_told (once_fulfilled e.sending p) told; conditions = fmap.remove gone.conditions p.sequence; last = option_or o gone.last }) none
  where
    flight : Open
    flight = flight_for e p payload

    gone : EndState
    gone = with_condition e flight (with_flight e.sending p)

    opens : open_flight gone flight ≡ Some (flight_of p)
    opens = flight_opens e p payload alone

    taken : answered_by e.keys gone.sending flight (flight_of p) (answer_at bytes) ≡ after_all_told (once_fulfilled e.sending p) told
    taken = ap (answered_by e.keys gone.sending flight (flight_of p)) a.reads
        ∙ ap (λ b. cond b (raised (once_fulfilled e.sending p) p.sequence (opened e.keys fulfill_kind reply)) (after_failed gone.sending (flight_of p) Plain)) (bytes_same (condition (fulfillment e.keys payload)))
        ∙ ap (raised (once_fulfilled e.sending p) p.sequence) a.opens
        ∙ raises (once_fulfilled e.sending p) p.sequence a.packet a.sequence_is
        ∙ ap (after_all_told (once_fulfilled e.sending p)) a.frames

    none : ◌≡◌ {A = Option Failed} (failure flight (Some bytes)) None
    none = ap (failed_by flight) a.reads ∙ ap (λ b. cond {A = Option Failed} b None (Some Unfit)) (bytes_same (condition (fulfillment e.keys payload)))

-- ---- both ends once the answer arrived

pub record Came (e f : EndState) (load : Load) (once_here once_there : EndState) : Type 0 where
  pub there : ◌≡◌ {A = EndState} once_there (after_verdict f (Fulfills (packet_of_load load) (effect f.receiving (packet_of_load load) load.amount)))
  pub payload : List ℕ
  pub here : once_here ≡ answered_end e load payload (reply_frames (effect f.receiving (packet_of_load load) load.amount) (frames_of (packet_of_load load)))

pub load_answers : {c : Tally} (n : ℕ → ℕ) (e f : EndState) → IsQuiet n e.sending → IsAhead n c e.sending f.receiving → CanTell f.receiving → (x : Passage e)
    → (let p = packet_of_load x.goes.load in let q = prepare_for e x.now x.goes.load.amount x.goes.payload in let after = effect f.receiving p x.goes.load.amount in
    Answered f.keys (answer_text (answer_for f q (Fulfills p after))) x.goes.payload (reply_payload f.keys fulfill_kind q p after) x.goes.load.sequence (reply_frames after (frames_of p)))
load_answers n e f quiet abreast tellable x = reply_answers f q p after (goes_long e x.gone x.iv x.bytes x.now x.flight x.long x.goes) x.goes.spells.sequence x.goes.lawful.amount (reply_writes after (frames_of p) few)
  where
    load : Load
    load = x.goes.load

    p : Packet
    p = packet_of_load load

    q : PreparePacket
    q = prepare_for e x.now load.amount x.goes.payload

    after : Receiving
    after = effect f.receiving p load.amount

    sends : Sends e.sending (limits e.receiving) max_packet load (with_flight e.sending load)
    sends = goes_sends e x.gone x.iv x.bytes x.now x.flight x.goes

    few : (k : ℕ) → k < 65 → ((incoming_at after k).receive_max < 2 ^ 64) × ((incoming_at after k).credited < 2 ^ 64)
    few k l =
        let same = effect_max n e.sending (limits e.receiving) load p f.receiving k quiet sends (x.goes.filled.whole quiet.whole) abreast (is_packet_of load) in
        let most = effect_within n e.sending (limits e.receiving) load p f.receiving k quiet sends (x.goes.filled.whole quiet.whole) abreast (is_packet_of load) l in
        let small = tellable k in
        (omega (arith, same, small), omega (arith, most, small))

-- the answer reads as a Fulfill with the fulfillment of this payload
pub passage_answers : {c : Tally} (n : ℕ → ℕ) (e f : EndState) → IsQuiet n e.sending → IsAhead n c e.sending f.receiving → AreJoined e f → CanTell f.receiving → (x : Passage e)
    → (reply : List ℕ) × (answer_at (received f x.bytes x.later).0.bytes ≡ Ok (Fulfilled (fulfillment e.keys x.goes.payload) reply))
passage_answers n e f quiet abreast joined tellable x = (
  reply_payload f.keys fulfill_kind q p after,
  ap (λ z. answer_at z.0.bytes) (goes_fulfilled n e f x.gone x.iv x.bytes x.now x.later x.flight x.long quiet abreast joined x.in_time x.goes)
      ∙ (load_answers n e f quiet abreast tellable x).reads
      ∙ ap (λ k. Ok (Fulfilled (fulfillment k x.goes.payload) (reply_payload f.keys fulfill_kind q p after))) joined.keys,
)
  where
    p : Packet
    p = packet_of_load x.goes.load

    q : PreparePacket
    q = prepare_for e x.now x.goes.load.amount x.goes.payload

    after : Receiving
    after = effect f.receiving p x.goes.load.amount

pub both_came : {c : Tally} (n : ℕ → ℕ) (e f : EndState) → IsQuiet n e.sending → IsAhead n c e.sending f.receiving → AreJoined e f → CanTell f.receiving → (x : Passage e)
    → Came e f x.goes.load (once_answered f x) (once_received f x)
both_came n e f quiet abreast joined tellable x = record {
  there = ap (λ z. z.1) fulfilled_by;
  payload = x.goes.payload;
  here = ap (λ z. ended x.gone x.flight (Some z.0.bytes)) fulfilled_by
      ∙ ap (λ o. ended x.gone o (Some bytes)) x.goes.flight_is
      ∙ ap (λ z. ended z (flight_for e load x.goes.payload) (Some bytes)) gone
      ∙ load_answered e load x.goes.payload bytes reply told quiet.alone (subst (λ k. Answered k bytes x.goes.payload reply load.sequence told) joined.keys answers);
}
  where
    load : Load
    load = x.goes.load

    p : Packet
    p = packet_of_load load

    q : PreparePacket
    q = prepare_for e x.now load.amount x.goes.payload

    after : Receiving
    after = effect f.receiving p load.amount

    told : List Known
    told = reply_frames after (frames_of p)

    bytes : List ℕ
    bytes = answer_text (answer_for f q (Fulfills p after))

    reply : List ℕ
    reply = reply_payload f.keys fulfill_kind q p after

    fulfilled_by : received f x.bytes x.later ≡ received_as f q (Fulfills p after)
    fulfilled_by = goes_fulfilled n e f x.gone x.iv x.bytes x.now x.later x.flight x.long quiet abreast joined x.in_time x.goes

    answers : Answered f.keys bytes x.goes.payload reply load.sequence told
    answers = load_answers n e f quiet abreast tellable x

    gone : x.gone ≡ with_condition e (flight_for e load x.goes.payload) (with_flight e.sending load)
    gone = x.goes.after_is ∙ ap (λ o. with_condition e o x.goes.sending) x.goes.flight_is ∙ ap (with_condition e (flight_for e load x.goes.payload)) x.goes.sends.after

-- ---- an exchange

pub trip_exchange : {c : Tally} (n : ℕ → ℕ) (e f g h : EndState) → IsQuiet n e.sending → IsAhead n c e.sending f.receiving → AreJoined e f → CanTell f.receiving → Trip n e f g h → Exchange n e.sending f.receiving g.sending h.receiving
trip_exchange n e f g h quiet abreast joined tellable x =
    let w = x.passage in
    let came = both_came n e f quiet abreast joined tellable w in
    record {
      limits = limits e.receiving;
      load = w.goes.load;
      packet = packet_of_load w.goes.load;
      sends = goes_sends e w.gone w.iv w.bytes w.now w.flight w.goes;
      fills = w.goes.filled.whole quiet.whole;
      carries = is_packet_of w.goes.load;
      left = w.left;
      reads = subst (λ (z : EndState). IsReadOut z.receiving h.receiving) came.there x.reads;
      writes = subst (λ (z : EndState). IsWritten n z.sending g.sending) came.here x.writes;
    }

-- and the ends stay those of one connection
pub joined_still : {c : Tally} (n : ℕ → ℕ) (e f g h : EndState) → IsQuiet n e.sending → IsAhead n c e.sending f.receiving → AreJoined e f → CanTell f.receiving → Trip n e f g h → AreJoined g h
joined_still n e f g h quiet abreast joined tellable x =
    let came = both_came n e f quiet abreast joined tellable x.passage in
    let here = x.written_alone ∙ ap (λ (z : EndState). record z { sending = g.sending }) came.here in
    let there = x.read_alone ∙ ap (λ (z : EndState). record z { receiving = h.receiving }) came.there in
    record {
      keys = ap (λ (z : EndState). z.keys) there ∙ joined.keys ∙ sym (ap (λ (z : EndState). z.keys) here);
      address = ap (λ (z : EndState). z.peer) here ∙ joined.address ∙ sym (ap (λ (z : EndState). z.own) there);
    }

pub peer_still : {c : Tally} (n : ℕ → ℕ) (e f g h : EndState) → IsQuiet n e.sending → IsAhead n c e.sending f.receiving → AreJoined e f → CanTell f.receiving → Trip n e f g h → g.peer ≡ e.peer
peer_still n e f g h quiet abreast joined tellable x =
    let came = both_came n e f quiet abreast joined tellable x.passage in
    ap (λ (z : EndState). z.peer) (x.written_alone ∙ ap (λ (z : EndState). record z { sending = g.sending }) came.here)

pub receiving_still : {c : Tally} (n : ℕ → ℕ) (e f g h : EndState) → IsQuiet n e.sending → IsAhead n c e.sending f.receiving → AreJoined e f → CanTell f.receiving → Trip n e f g h → g.receiving ≡ e.receiving
receiving_still n e f g h quiet abreast joined tellable x =
    let came = both_came n e f quiet abreast joined tellable x.passage in
    ap (λ (z : EndState). z.receiving) (x.written_alone ∙ ap (λ (z : EndState). record z { sending = g.sending }) came.here)

pub tells_still : {c : Tally} (n : ℕ → ℕ) (e f g h : EndState) → IsQuiet n e.sending → IsAhead n c e.sending f.receiving → AreJoined e f → CanTell f.receiving → Trip n e f g h → CanTell h.receiving
tells_still n e f g h quiet abreast joined tellable x k =
    let y = trip_exchange n e f g h quiet abreast joined tellable x in
    let same = effect_max n e.sending y.limits y.load y.packet f.receiving k quiet y.sends y.fills abreast y.carries in
    let read = y.reads.receive_max k in
    let small = tellable k in
    omega (arith, same, read, small)

-- ---- m trips

pub trips_exchanges : {c : Tally} (n : ℕ → ℕ) (m : ℕ) (e f g h : EndState) → IsModest n → IsQuiet n e.sending → IsAhead n c e.sending f.receiving → AreJoined e f → CanTell f.receiving → Trips n m e f g h → Exchanges n m e.sending f.receiving g.sending h.receiving
trips_exchanges n zero e f g h modest quiet abreast joined tellable run = (ap (λ (z : EndState). z.sending) run.0, ap (λ (z : EndState). z.receiving) run.1)
trips_exchanges n (suc m) e f g h modest quiet abreast joined tellable run =
    let mid = run.0 in
    let between = run.1 in
    let x = run.2 in
    let y = trip_exchange n e f mid between quiet abreast joined tellable x in
    let kept = round_abreast n e.sending mid.sending y.limits y.load y.packet f.receiving between.receiving quiet y.sends y.fills abreast y.carries y.reads y.writes in
    let still = round_keeps n e.sending mid.sending quiet (exchange_round n e.sending f.receiving mid.sending between.receiving modest quiet abreast y) in
    (mid.sending, between.receiving, y, trips_exchanges n m mid between g h modest still kept (joined_still n e f mid between quiet abreast joined tellable x) (tells_still n e f mid between quiet abreast joined tellable x) run.3)
