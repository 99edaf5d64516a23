-- From bytes to a Send of a run of both sides: what never came leaves the receiver, and the sender meets a fault.
use Rattle.std.proofs.Common.{◌≡◌, ℕ, ◌-◌, false, List, [], ◌∷◌, refl, sym, ap, subst, ◌∙◌, arith, ℤ, None, Some}
use Rattle.std.specs.FinMap as fmap
use Rattle.st_frames.specs.Frames.{frames_of}
use Rattle.st_sender.specs.Sending.{Load}
use Rattle.st_sender.specs.Loads.{with_flight}
use Rattle.st_receiver.specs.Streams.{Receiving, incoming_at}
use Rattle.st_receiver.specs.Judged.{effect}
use Rattle.st_receiver.specs.Limits.{limits, reply_frames}
use Rattle.st_keys.specs.Keys.{condition, fulfillment}
use Rattle.st_end.specs.State.{EndState}
use Rattle.st_end.specs.Sending.{Goes, flight_for, with_condition}
use Rattle.st_end.specs.Answers.{ended, ended_with}
use Rattle.st_end.specs.Failed.{Lost}
use Rattle.st_end.specs.declared.flight.Open.{Open}
use Rattle.st_world_quiet.specs.Quiet.{IsQuiet}
use Rattle.st_world_quiet.specs.Rounds.{IsWritten}
use Rattle.st_world_quiet.specs.Mirrored.{IsAhead, IsReadOut, Tally}
use Rattle.st_world_quiet.specs.Losses.{AnswerLost, Delivered, Fate, Miss, PrepareLost, Tries, Try, lost_answers, once_lost, tally_after}
use Rattle.st_world_quiet.specs.Trips.{AreJoined, CanTell, Passage, Trip, once_received}
use Rattle.st_world_quiet.specs.LostTrips.{FatedTrip, FatedTrips, LostTrip, UnansweredTrip}
use Rattle.st_world_quiet.proofs.Abreast.{effect_max}
use Rattle.st_world_quiet.proofs.EndRounds.{Spends, round_spends}
use Rattle.st_world_quiet.proofs.Trips.{both_came, flight_opens, goes_sends, is_packet_of, joined_still, packet_of_load, tells_still, trip_exchange}
use Rattle.st_world_quiet.proofs.Trying.{HasSpare, one_try}

-- an end whose one packet in flight is this `Load`, after a fault
abbrev pub faulted_end : EndState → Load → (payload : List ℕ) → EndState
faulted_end e p payload = record e {
  sending = once_lost e.sending p;
  conditions = fmap.remove (fmap.insert e.conditions p.sequence (condition (fulfillment e.keys payload))) p.sequence;
  last = Some Lost;
}

pub goes_faulted : (e gone : EndState) (iv bytes : List ℕ) (now : ℤ) (flight : Open) → e.sending.flights ≡ [] → (g : Goes e iv now flight bytes gone) → ended gone flight None ≡ faulted_end e g.load g.payload
goes_faulted e gone iv bytes now flight alone g =
    ap (λ z. ended z flight None) (g.after_is ∙ ap (with_condition e flight) g.sends.after)
    ∙ ap (λ o. ended (with_condition e o (with_flight e.sending g.load)) o None) g.flight_is
    ∙ ap (λ o. ended_with (with_condition e (flight_for e g.load g.payload) (with_flight e.sending g.load)) (flight_for e g.load g.payload) o None) (flight_opens e g.load g.payload alone)

-- what a trip takes of the money that is left
pub trip_spends : {c : Tally} (n : ℕ → ℕ) (e f g h : EndState) → IsQuiet n e.sending → IsAhead n c e.sending f.receiving → AreJoined e f → CanTell f.receiving → (x : Trip n e f g h) → Spends e.sending g.sending x.passage.goes.load
trip_spends n e f g h quiet ahead joined tellable x =
    let w = x.passage in
    let p = w.goes.load in
    let came = both_came n e f quiet ahead joined tellable w in
    round_spends n e.sending g.sending (limits e.receiving) p (reply_frames (effect f.receiving (packet_of_load p) p.amount) (frames_of (packet_of_load p))) quiet (goes_sends e w.gone w.iv w.bytes w.now w.flight w.goes)
    (subst (λ (z : EndState). IsWritten n z.sending g.sending) came.here x.writes)

-- ---- a Prepare that never came

pub lost_miss : (n : ℕ → ℕ) (e f g h : EndState) → e.sending.flights ≡ [] → LostTrip n e f g h → Miss n e.sending g.sending
lost_miss n e f g h alone x =
    let w = x.departure in
    record {
      limits = limits e.receiving;
      load = w.goes.load;
      sends = goes_sends e w.gone w.iv w.bytes w.now w.flight w.goes;
      left = w.left;
      writes = subst (λ (z : EndState). IsWritten n z.sending g.sending) (goes_faulted e w.gone w.iv w.bytes w.now w.flight alone w.goes) x.writes;
    }

lost_joined : (n : ℕ → ℕ) (e f g h : EndState) → e.sending.flights ≡ [] → AreJoined e f → LostTrip n e f g h → AreJoined g h
lost_joined n e f g h alone joined x =
    let w = x.departure in
    let here = x.written_alone ∙ ap (λ (z : EndState). record z { sending = g.sending }) (goes_faulted e w.gone w.iv w.bytes w.now w.flight alone w.goes) in
    record {
      keys = ap (λ (z : EndState). z.keys) x.read_alone ∙ joined.keys ∙ sym (ap (λ (z : EndState). z.keys) here);
      address = ap (λ (z : EndState). z.peer) here ∙ joined.address ∙ sym (ap (λ (z : EndState). z.own) x.read_alone);
    }

lost_tells : (n : ℕ → ℕ) (e f g h : EndState) → CanTell f.receiving → LostTrip n e f g h → CanTell h.receiving
lost_tells n e f g h tellable x k = let small = tellable k in let same = x.reads.receive_max k in omega (arith, small, same)

pub lost_peer : (n : ℕ → ℕ) (e f g h : EndState) → e.sending.flights ≡ [] → LostTrip n e f g h → g.peer ≡ e.peer
lost_peer n e f g h alone x =
    let w = x.departure in
    ap (λ (z : EndState). z.peer) (x.written_alone ∙ ap (λ (z : EndState). record z { sending = g.sending }) (goes_faulted e w.gone w.iv w.bytes w.now w.flight alone w.goes))

-- ---- a Prepare whose answer was lost

pub there_after : {c : Tally} (n : ℕ → ℕ) (e f : EndState) → IsQuiet n e.sending → IsAhead n c e.sending f.receiving → AreJoined e f → CanTell f.receiving → (w : Passage e) → (once_received f w).receiving ≡ effect f.receiving (packet_of_load w.goes.load) w.goes.load.amount
there_after n e f quiet ahead joined tellable w = ap (λ (z : EndState). z.receiving) (both_came n e f quiet ahead joined tellable w).there

pub unanswered_miss : (n : ℕ → ℕ) (e f g h : EndState) → e.sending.flights ≡ [] → UnansweredTrip n e f g h → Miss n e.sending g.sending
unanswered_miss n e f g h alone x =
    let w = x.passage in
    record {
      limits = limits e.receiving;
      load = w.goes.load;
      sends = goes_sends e w.gone w.iv w.bytes w.now w.flight w.goes;
      left = w.left;
      writes = subst (λ (z : EndState). IsWritten n z.sending g.sending) (goes_faulted e w.gone w.iv w.bytes w.now w.flight alone w.goes) x.writes;
    }

pub unanswered_peer : (n : ℕ → ℕ) (e f g h : EndState) → e.sending.flights ≡ [] → UnansweredTrip n e f g h → g.peer ≡ e.peer
unanswered_peer n e f g h alone x =
    let w = x.passage in
    ap (λ (z : EndState). z.peer) (x.written_alone ∙ ap (λ (z : EndState). record z { sending = g.sending }) (goes_faulted e w.gone w.iv w.bytes w.now w.flight alone w.goes))

unanswered_joined : {c : Tally} (n : ℕ → ℕ) (e f g h : EndState) → IsQuiet n e.sending → IsAhead n c e.sending f.receiving → AreJoined e f → CanTell f.receiving → UnansweredTrip n e f g h → AreJoined g h
unanswered_joined n e f g h quiet ahead joined tellable x =
    let w = x.passage in
    let here = x.written_alone ∙ ap (λ (z : EndState). record z { sending = g.sending }) (goes_faulted e w.gone w.iv w.bytes w.now w.flight quiet.alone w.goes) in
    let there = x.read_alone ∙ ap (λ (z : EndState). record z { receiving = h.receiving }) (both_came n e f quiet ahead joined tellable w).there in
    record {
      keys = ap (λ (z : EndState). z.keys) there ∙ joined.keys ∙ sym (ap (λ (z : EndState). z.keys) here);
      address = ap (λ (z : EndState). z.peer) here ∙ joined.address ∙ sym (ap (λ (z : EndState). z.own) there);
    }

unanswered_tells : {c : Tally} (n : ℕ → ℕ) (e f g h : EndState) → IsQuiet n e.sending → IsAhead n c e.sending f.receiving → AreJoined e f → CanTell f.receiving → UnansweredTrip n e f g h → CanTell h.receiving
unanswered_tells n e f g h quiet ahead joined tellable x k =
    let w = x.passage in
    let there = ap (λ (r : Receiving). (incoming_at r k).receive_max) (there_after n e f quiet ahead joined tellable w) in
    let same = effect_max n e.sending (limits e.receiving) w.goes.load (packet_of_load w.goes.load) f.receiving k quiet (goes_sends e w.gone w.iv w.bytes w.now w.flight w.goes) (w.goes.filled.whole quiet.whole) ahead (is_packet_of w.goes.load) in
    let read = x.reads.receive_max k in
    let small = tellable k in
    omega (arith, there, same, read, small)

-- ---- one Send

-- how much lost answers may still carry after it
abbrev pub spare_after : (fate : Fate) (n : ℕ → ℕ) (e f g h : EndState) → FatedTrip fate n e f g h → Tally → ℕ
spare_after Delivered n e f g h x c = c.spare_all
spare_after PrepareLost n e f g h x c = c.spare_all
spare_after AnswerLost n e f g h x c = c.spare_all - x.passage.goes.load.amount

-- what it is to the two sides, and that the ends stay those of one connection
pub record IsTry (fate : Fate) (n : ℕ → ℕ) (e f g h : EndState) (x : FatedTrip fate n e f g h) : Type 0 where
  pub tried : Try fate n e.sending f.receiving g.sending h.receiving
  pub left : (c : Tally) → (tally_after fate n e.sending f.receiving g.sending h.receiving tried c).spare_all ≡ spare_after fate n e f g h x c
  pub joined : AreJoined g h
  pub tellable : CanTell h.receiving

pub trip_try : {c : Tally} (fate : Fate) (n : ℕ → ℕ) (e f g h : EndState) → IsQuiet n e.sending → IsAhead n c e.sending f.receiving → AreJoined e f → CanTell f.receiving → (x : FatedTrip fate n e f g h) → IsTry fate n e f g h x
unfolding unanswered_miss limits
trip_try Delivered n e f g h quiet ahead joined tellable x = record {
  tried = trip_exchange n e f g h quiet ahead joined tellable x;
  left = λ c. refl;
  joined = joined_still n e f g h quiet ahead joined tellable x;
  tellable = tells_still n e f g h quiet ahead joined tellable x;
}
trip_try PrepareLost n e f g h quiet ahead joined tellable x = record {
  tried = record { miss = lost_miss n e f g h quiet.alone x; reads = x.reads };
  left = λ c. refl;
  joined = lost_joined n e f g h quiet.alone joined x;
  tellable = lost_tells n e f g h tellable x;
}
trip_try AnswerLost n e f g h quiet ahead joined tellable x = record {
  tried = record {
    miss = unanswered_miss n e f g h quiet.alone x;
    packet = packet_of_load x.passage.goes.load;
    fills = x.passage.goes.filled.whole quiet.whole;
    carries = is_packet_of x.passage.goes.load;
    reads = subst (λ (r : Receiving). IsReadOut r h.receiving) (there_after n e f quiet ahead joined tellable x.passage) x.reads;
  };
  left = λ c. refl;
  joined = unanswered_joined n e f g h quiet ahead joined tellable x;
  tellable = unanswered_tells n e f g h quiet ahead joined tellable x;
}

pub trip_alive : (fate : Fate) (n : ℕ → ℕ) (e f g h : EndState) → FatedTrip fate n e f g h → e.sending.failed ≡ false
trip_alive Delivered n e f g h x = x.passage.goes.sends.fits.alive
trip_alive PrepareLost n e f g h x = x.departure.goes.sends.fits.alive
trip_alive AnswerLost n e f g h x = x.passage.goes.sends.fits.alive

-- ---- one trip for each fate

pub trips_tries : (n : ℕ → ℕ) (fates : List Fate) (c : Tally) (e f g h : EndState) → (e.sending.failed ≡ false → IsQuiet n e.sending) → IsAhead n c e.sending f.receiving → HasSpare (lost_answers fates) c e.sending → AreJoined e f → CanTell f.receiving
    → FatedTrips n fates e f g h → Tries n fates e.sending f.receiving g.sending h.receiving
trips_tries n [] c e f g h quiet ahead spare joined tellable run = (ap (λ (z : EndState). z.sending) run.0, ap (λ (z : EndState). z.receiving) run.1)
trips_tries n (fate ∷ fates) c e f g h quiet ahead spare joined tellable run =
    let mid = run.0 in
    let between = run.1 in
    let x = run.2 in
    let still = quiet (trip_alive fate n e f mid between x) in
    let is = trip_try fate n e f mid between still ahead joined tellable x in
    let one = one_try fate fates n c e.sending f.receiving mid.sending between.receiving is.tried still ahead spare in
    (mid.sending, between.receiving, is.tried, trips_tries n fates (tally_after fate n e.sending f.receiving mid.sending between.receiving is.tried c) mid between g h one.quiet one.ahead one.spare is.joined is.tellable run.3)
