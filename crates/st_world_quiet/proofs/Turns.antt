-- Reads and writes by calls make a trip of what passed.
use Rattle.std.proofs.Common.{◌≡◌, ℕ, zero, suc, ◌+◌, ◌≤◌, Bool, true, false, cond, List, length, refl, sym, ap, subst, ◌∙◌, arith, Option, None, Some, Result, Ok, Err}
use Rattle.std.specs.FinMap as fmap
use Rattle.st_frames.specs.Frames.{Known, frames_of, max_packet}
use Rattle.st_reassembly.specs.Run.{run}
use Rattle.st_sender.specs.Sending.{Load, Outgoing, Sending, outgoing_at}
use Rattle.st_sender.specs.Loads.{Sends, with_flight}
use Rattle.st_sender.specs.Filling.{Fills}
use Rattle.st_sender.specs.Answering.{after_all_told, landed}
use Rattle.st_receiver.specs.Streams.{Receiving, incoming_at, is_open}
use Rattle.st_receiver.specs.Reading.{Got, after_got, got}
use Rattle.st_receiver.specs.Judged.{effect}
use Rattle.st_receiver.specs.Limits.{limits, reply_frames}
use Rattle.st_streams.specs.declared.end_error.EndError.{EndError}
use Rattle.st_streams.specs.declared.end_error.EndError.TheVariants.{NoStream}
use Rattle.st_end.specs.State.{EndState}
use Rattle.st_world_quiet.specs.Quiet.{IsQuiet}
use Rattle.st_world_quiet.specs.Rounds.{IsWritten, once_fulfilled}
use Rattle.st_world_quiet.specs.Mirrored.{IsAhead, IsReadOut, Tally}
use Rattle.st_world_quiet.specs.Exchanges.{IsModest, read_each, read_open}
use Rattle.st_world_quiet.specs.Calls.{AreHeldBack, CanWrite, IsFed, IsHeldBack, lengths, take_each, write_each}
use Rattle.st_world_quiet.specs.Trips.{AreJoined, CanTell, Passage, Trip, Trips, Turn, Turns, once_answered, once_received}
use Rattle.st_world_quiet.proofs.Acknowledging.{all_acked_at, all_acked_end, all_kept, all_own_acked, none_stays}
use Rattle.st_world_quiet.proofs.Telling.{IsToldOnly, all_own_told, all_told_at, all_told_only, none_stays_told, rest_all_acked, rest_all_told}
use Rattle.st_world_quiet.proofs.Keeping.{IsLeft, left_kept}
use Rattle.st_world_quiet.proofs.EndRounds.{Spends, round_keeps, round_spends}
use Rattle.st_world_quiet.proofs.Exchanging.{exchange_round}
use Rattle.st_world_quiet.proofs.Abreast.{effect_slots_long, effect_stays_alive, round_abreast}
use Rattle.st_world_quiet.proofs.ReadingOut.{each_read}
use Rattle.st_world_quiet.proofs.Feeding.{each_held_back, each_written}
use Rattle.st_world_quiet.proofs.Trips.{Came, answered_end, both_came, goes_sends, is_packet_of, joined_still, packet_of_load, tells_still, trip_exchange}

-- ---- reads

read_if : (b : Bool) (e : EndState) (answer : Got) (r : Receiving) → (cond {A = Result Got EndError × EndState} b (Ok answer, record e { receiving = r }) (Err NoStream, e)).1 ≡ record e { receiving = cond b r e.receiving }
read_if true e answer r = refl
read_if false e answer r = refl

pub taken_each : (limit first count : ℕ) (e : EndState) → take_each limit first count e ≡ record e { receiving = read_each limit first count e.receiving }
unfolding take_each read_each
taken_each limit first zero e = refl
taken_each limit first (suc m) e =
    ap (take_each limit (first + 1) m) (read_if (is_open e.receiving first) e (got limit (incoming_at e.receiving first).held) (after_got e.receiving first limit))
    ∙ taken_each limit (first + 1) m (record e { receiving = read_open limit e.receiving first })

-- ---- once the answer arrived, more can be written on a stream

told_fed : (n : ℕ) (x y z : Outgoing) → IsHeldBack n x → IsLeft n y → y.accepted ≡ x.accepted → y.clean ≡ x.clean → x.acked_end ≤ y.acked_end → IsToldOnly y z → IsFed n z
told_fed n x y z held left accepted clean rises only =
    let till = only.accepted in
    let from = only.acked_end in
    let gets : (q : ℕ) → fmap.get z.unacked q ≡ fmap.get y.unacked q = (λ q. ap (λ m. fmap.get m q) only.unacked) in
    record {
      row = record {
        front = λ q l. gets q ∙ left.front q (omega (arith, l, from));
        row = λ q a b. (let got = left.row q (omega (arith, a, from)) (omega (arith, b, till)) in (got.0, gets q ∙ got.1));
        past = λ q l. gets q ∙ left.past q (omega (arith, l, till));
        within = (let w = left.within in omega (arith, w, from, till));
      };
      alive = only.abort ∙ left.alive;
      total = (let t = left.total in omega (arith, t, till));
      held_back = record {
        kept = (let k = held.kept in omega (arith, k, till, from, accepted, rises));
        ended = λ e. till ∙ accepted ∙ held.ended (sym clean ∙ sym only.clean ∙ e);
      };
    }

stream_fed : (n : ℕ → ℕ) (s : Sending) (limits : List Known) (p : Load) (told : List Known) (k : ℕ) (z : Outgoing) → IsQuiet n s → Sends s limits max_packet p (with_flight s p) → Fills s limits max_packet p → AreHeldBack n s
    → (o : Option Outgoing) → outgoing_at s k ≡ o → outgoing_at (after_all_told (once_fulfilled s p) told) k ≡ Some z → IsFed (n k) z
stream_fed n s limits p told k z quiet sends fills held None e here =
    let none = none_stays_told (once_fulfilled s p) k told (none_stays (landed (with_flight s p) p.sequence) k p.frames e) in
    absurd (let clash : ◌≡◌ {A = Option Outgoing} None (Some z) = sym none ∙ here in cc)
stream_fed n s limits p told k z quiet sends fills held (Some x) e here =
    let one = all_own_acked k p.frames x in
    let two = all_own_told k told one in
    let at = all_told_at (once_fulfilled s p) k told one (all_acked_at (landed (with_flight s p) p.sequence) k p.frames x e) in
    let both : ◌≡◌ {A = Option Outgoing} (Some two) (Some z) = sym at ∙ here in
    let same : two ≡ z = cc in
    let kept = all_kept k p.frames x in
    let end = all_acked_end k p.frames x in
    subst (IsFed (n k)) same (told_fed (n k) x one two (held k x e) (left_kept n s limits p k x quiet sends fills e) kept.accepted kept.clean (omega (arith, end)) (all_told_only k told one))

answered_writes : (n : ℕ → ℕ) (e : EndState) (own : List Known) (p : Load) (payload : List ℕ) (told : List Known) → IsModest n → IsQuiet n e.sending → e.receiving.closed ≡ false → AreHeldBack n e.sending
    → Sends e.sending own max_packet p (with_flight e.sending p) → Fills e.sending own max_packet p → CanWrite n (answered_end e p payload told)
answered_writes n e own p payload told modest quiet unclosed held sends fills =
    let acked = rest_all_acked n e.sending (landed (with_flight e.sending p) p.sequence) own p.frames quiet sends.due in
    let heard = rest_all_told (once_fulfilled e.sending p) told in
    record {
      alive = heard.failed ∙ acked.failed ∙ quiet.alive;
      unclosed = unclosed;
      slots = heard.slots ∙ acked.slots ∙ quiet.slots;
      modest = modest;
      streams = λ k z at. stream_fed n e.sending own p told k z quiet sends fills held (outgoing_at e.sending k) refl at;
    }

-- ---- a `Turn`

pub turn_writes : {c : Tally} (n : ℕ → ℕ) (e f : EndState) → IsModest n → IsQuiet n e.sending → IsAhead n c e.sending f.receiving → AreJoined e f → CanTell f.receiving → AreHeldBack n e.sending → (w : Passage e) → CanWrite n (once_answered f w)
turn_writes n e f modest quiet abreast joined tellable held w =
    let p = w.goes.load in
    let came = both_came n e f quiet abreast joined tellable w in
    subst (CanWrite n) (sym came.here)
    (answered_writes n e (limits e.receiving) p came.payload (reply_frames (effect f.receiving (packet_of_load p) p.amount) (frames_of (packet_of_load p))) modest quiet w.goes.unclosed held (goes_sends e w.gone w.iv w.bytes w.now w.flight w.goes) (w.goes.filled.whole quiet.whole))

-- it deducts its money from what was left
pub turn_spends : {c : Tally} (input : ℕ → List ℕ) (limit : ℕ) (e f g h : EndState) → IsModest (lengths input) → IsQuiet (lengths input) e.sending → IsAhead (lengths input) c e.sending f.receiving → AreJoined e f → CanTell f.receiving → AreHeldBack (lengths input) e.sending
    → (x : Turn input limit e f g h) → Spends e.sending g.sending x.passage.goes.load
turn_spends input limit e f g h modest quiet abreast joined tellable held x =
    let n = lengths input in
    let w = x.passage in
    let p = w.goes.load in
    let came = both_came n e f quiet abreast joined tellable w in
    let written = (each_written input (once_answered f w) (turn_writes n e f modest quiet abreast joined tellable held w)).0 in
    round_spends n e.sending g.sending (limits e.receiving) p (reply_frames (effect f.receiving (packet_of_load p) p.amount) (frames_of (packet_of_load p))) quiet (goes_sends e w.gone w.iv w.bytes w.now w.flight w.goes)
    (subst (λ (z : EndState). IsWritten n z.sending g.sending) came.here (subst (λ (z : EndState). IsWritten n (once_answered f w).sending z.sending) (sym x.writes) written))

unfoldable pub turn_trip : {c : Tally} (input : ℕ → List ℕ) (limit : ℕ) (e f g h : EndState) → IsModest (lengths input) → IsQuiet (lengths input) e.sending → IsAhead (lengths input) c e.sending f.receiving → AreJoined e f → CanTell f.receiving → AreHeldBack (lengths input) e.sending
    → Turn input limit e f g h → Trip (lengths input) e f g h × AreHeldBack (lengths input) g.sending
turn_trip input limit e f g h modest quiet abreast joined tellable held x = (
  record {
    passage = w;
    reads = subst (IsReadOut (once_received f w).receiving) (sym (ap (λ (z : EndState). z.receiving) there)) out;
    read_alone = alone there;
    writes = subst (λ (z : EndState). IsWritten (lengths input) (once_answered f w).sending z.sending) (sym x.writes) written.0;
    written_alone = x.writes ∙ written.1 ∙ ap (λ (z : EndState). record (once_answered f w) { sending = z.sending }) (sym x.writes);
  },
  subst (λ (z : EndState). AreHeldBack (lengths input) z.sending) (sym x.writes) (each_held_back input (once_answered f w) can),
)
  where
    w : Passage e
    w = x.passage

    p : Load
    p = w.goes.load

    sends : Sends e.sending (limits e.receiving) max_packet p (with_flight e.sending p)
    sends = goes_sends e w.gone w.iv w.bytes w.now w.flight w.goes

    came : Came e f p (once_answered f w) (once_received f w)
    came = both_came (lengths input) e f quiet abreast joined tellable w

    can : CanWrite (lengths input) (once_answered f w)
    can = turn_writes (lengths input) e f modest quiet abreast joined tellable held w

    written : (let z = write_each input 0 65 (once_answered f w) in IsWritten (lengths input) (once_answered f w).sending z.sending × (z ≡ record (once_answered f w) { sending = z.sending }))
    written = each_written input (once_answered f w) can

    there : h ≡ record (once_received f w) { receiving = read_each limit 0 65 (once_received f w).receiving }
    there = x.reads ∙ taken_each limit 0 65 (once_received f w)

    alone : {r : Receiving} → h ≡ record (once_received f w) { receiving = r } → h ≡ record (once_received f w) { receiving = h.receiving }
    alone is = is ∙ ap (λ z. record (once_received f w) { receiving = z }) (sym (ap (λ (z : EndState). z.receiving) is))

    out : IsReadOut (once_received f w).receiving (read_each limit 0 65 (once_received f w).receiving)
    out = each_read limit (once_received f w).receiving
        (ap (λ (z : EndState). length z.receiving.streams) came.there ∙ effect_slots_long (lengths input) e.sending (limits e.receiving) p (packet_of_load p) f.receiving quiet sends abreast (is_packet_of p))
        (λ k. ap (λ (z : EndState). (incoming_at z.receiving k).held.aborted) came.there ∙ effect_stays_alive (lengths input) e.sending (limits e.receiving) p (packet_of_load p) f.receiving k quiet sends abreast (is_packet_of p))
        x.room

pub turns_trips : {c : Tally} (input : ℕ → List ℕ) (limit m : ℕ) (e f g h : EndState) → IsModest (lengths input) → IsQuiet (lengths input) e.sending → IsAhead (lengths input) c e.sending f.receiving → AreJoined e f → CanTell f.receiving → AreHeldBack (lengths input) e.sending
    → Turns input limit m e f g h → Trips (lengths input) m e f g h
turns_trips input limit zero e f g h modest quiet abreast joined tellable held run = run
turns_trips input limit (suc m) e f g h modest quiet abreast joined tellable held run =
    let n = lengths input in
    let mid = run.0 in
    let between = run.1 in
    let turn = turn_trip input limit e f mid between modest quiet abreast joined tellable held run.2 in
    let x = turn.0 in
    let y = trip_exchange n e f mid between quiet abreast joined tellable x in
    let kept = round_abreast n e.sending mid.sending y.limits y.load y.packet f.receiving between.receiving quiet y.sends y.fills abreast y.carries y.reads y.writes in
    let still = round_keeps n e.sending mid.sending quiet (exchange_round n e.sending f.receiving mid.sending between.receiving modest quiet abreast y) in
    (mid, between, x, turns_trips input limit m mid between g h modest still kept (joined_still n e f mid between quiet abreast joined tellable x) (tells_still n e f mid between quiet abreast joined tellable x) turn.1 run.3)
