-- A sender whose streams' input was all taken, and closed: there is nothing to write on, whatever becomes of its Sends.
use Rattle.std.proofs.Common.{◌≡◌, ◌⊎◌, ℕ, zero, suc, ◌+◌, ◌<◌, ◌≤◌, Bool, true, false, ◌||◌, cond, List, [], ◌∷◌, length, refl, sym, ap, subst, ◌∙◌, arith, ℤ, Option, None, Some, inl, inr, is_some, nat_eq}
use Rattle.st_frames.specs.Frames.{Known, frames_of}
use Rattle.st_sender.specs.declared.error.OutboxError.{OutboxError}
use Rattle.st_sender.specs.declared.error.OutboxError.TheVariants.{Closed}
use Rattle.st_sender.specs.Sending.{Config, Load, Outgoing, Sending, changed, new_outgoing, outgoing_at}
use Rattle.st_sender.specs.Accepting.{after_clean, after_write}
use Rattle.st_sender.specs.Flights.{flight_of}
use Rattle.st_sender.specs.Loads.{with_flight}
use Rattle.st_sender.specs.Answering.{after_all_told, after_fulfilled, landed}
use Rattle.st_sender.specs.Refusals.{all_accepted, full, is_closed, no_more}
use Rattle.st_sender.specs.Refusals as sender
use Rattle.st_receiver.specs.Judged.{effect}
use Rattle.st_receiver.specs.Limits.{reply_frames}
use Rattle.st_streams.specs.declared.end_error.EndError.{EndError}
use Rattle.st_end.specs.declared.flight.Open as flights
use Rattle.st_sender.specs.Errors.{wrapped}
use Rattle.st_end.specs.State.{EndState}
use Rattle.st_end.specs.Calls.{connection_refusal, done, refusal_at, wrapped_too, write}
use Rattle.st_end.specs.Sending.{Goes}
use Rattle.st_end.specs.Answers.{ended}
use Rattle.std.specs.Option.{option_or}
use Rattle.st_world_quiet.specs.Quiet.{IsQuiet}
use Rattle.st_world_quiet.specs.Mirrored.{IsAhead, Tally}
use Rattle.st_world_quiet.specs.Rounds.{IsRefilled, once_fulfilled}
use Rattle.st_world_quiet.specs.Calls.{closed_if, fitting, lengths, write_each, written_at, written_on}
use Rattle.st_world_quiet.specs.Trips.{AreJoined, CanTell, Passage, once_answered}
use Rattle.st_world_quiet.proofs.Acknowledging.{all_acked_at, all_kept, all_own_acked, none_stays}
use Rattle.st_world_quiet.proofs.Telling.{all_own_told, all_told_at, all_told_only, none_stays_told}
use Rattle.st_world_quiet.proofs.Beginning.{IsBegun}
use Rattle.st_world_quiet.proofs.Trips.{both_came, packet_of_load}
use Rattle.st_world_quiet.proofs.LostTrips.{goes_faulted}

-- all input of each stream was accepted, and it was closed
abbrev pub AreWhole : (input : ℕ → List ℕ) → Sending → Type 0
AreWhole input s = (k : ℕ) (x : Outgoing) → outgoing_at s k ≡ Some x → (x.accepted ≡ length (input k)) × (x.clean ≡ true)

-- ---- nothing is written on

either : (a b : Bool) → b ≡ true → (a || b) ≡ true
either true b e = refl
either false b e = e

refused_by : (e : EndState) (s : Sending) (o : Option EndError) → (done e (option_or o (Some (wrapped Closed))) s).1 ≡ e
refused_by e s None = refl
refused_by e s (Some why) = refl

closed_call : (e : EndState) (x : Outgoing) (own : Option OutboxError) (s : Sending) (b : Bool) → b ≡ true → (done e (option_or (connection_refusal e) (wrapped_too (cond b (Some Closed) own))) s).1 ≡ e
closed_call e x own s true shut = refused_by e s (connection_refusal e)
closed_call e x own s false shut = absurd (let clash : ◌≡◌ {A = Bool} false true = shut in cc)

call_refused : (e : EndState) (x : Outgoing) (own : Outgoing → Option OutboxError) (s : Sending) (o : Option Outgoing) → o ≡ Some x → x.clean ≡ true → (done e (refusal_at e o (sender.refusal_at o is_closed own)) s).1 ≡ e
call_refused e x own s o at clean =
    let P : Option Outgoing → Type 0 = λ z. (done e (refusal_at e z (sender.refusal_at z is_closed own)) s).1 ≡ e in
    subst P (sym at) (closed_call e x (own x) s (is_closed x) (either (is_some x.abort) x.clean clean))

close_if_still : (b : Bool) (e : EndState) (k : ℕ) (x : Outgoing) → outgoing_at e.sending k ≡ Some x → x.clean ≡ true → closed_if b e k ≡ e
close_if_still false e k x at clean = refl
close_if_still true e k x at clean = call_refused e x no_more (changed e.sending k after_clean) (outgoing_at e.sending k) at clean

written_still : (xs : List ℕ) (e : EndState) (k : ℕ) (o : Option Outgoing) → outgoing_at e.sending k ≡ o → ((x : Outgoing) → o ≡ Some x → x.clean ≡ true) → written_at xs e k o ≡ e
written_still xs e k None at whole = refl
written_still xs e k (Some x) at whole =
    let ys = fitting xs x in
    let clean = whole x refl in
    let wrote : (write e k ys).1 ≡ e = call_refused e x (full (all_accepted e.sending.streams) (length ys)) (changed e.sending k (after_write ys)) (outgoing_at e.sending k) at clean in
    ap (λ z. closed_if (nat_eq (x.accepted + length ys) (length xs)) z k) wrote ∙ close_if_still (nat_eq (x.accepted + length ys) (length xs)) e k x at clean

each_still : (input : ℕ → List ℕ) (first count : ℕ) (e : EndState) → AreWhole input e.sending → write_each input first count e ≡ e
unfolding write_each
each_still input first zero e whole = refl
each_still input first (suc m) e whole =
    let one : written_on (input first) e first ≡ e = written_still (input first) e first (outgoing_at e.sending first) refl (λ x at. (whole first x at).1) in
    ap (write_each input (first + 1) m) one ∙ each_still input (first + 1) m e whole

pub whole_still : (input : ℕ → List ℕ) (e : EndState) → AreWhole input e.sending → write_each input 0 65 e ≡ e
whole_still input e whole = each_still input 0 65 e whole

-- ---- from the opening on

whole_begun : (input : ℕ → List ℕ) (k money : ℕ) (y : Outgoing) → length (input k) ≤ 262144 → IsRefilled (length (input k)) (record new_outgoing { offered = 0 + money }) y → (y.accepted ≡ length (input k)) × (y.clean ≡ true)
whole_begun input k money y short refilled =
    let full : (y.accepted ≡ length (input k)) ⊎ (0 + 262144 ≤ y.accepted) = refilled.full in
    let total = refilled.total in
    let all : y.accepted ≡ length (input k) = elim full [ inl is ↦ is | inr most ↦ omega (arith, most, total, short) ] in
    (all, ap (λ (z : Outgoing). z.clean) refilled.is ∙ refilled.closed all)

pub begun_whole : (p : ℕ) (input : ℕ → List ℕ) (money : ℕ → ℕ) (config : Config) (e : EndState) → ((k : ℕ) → length (input k) ≤ 262144) → IsBegun p (lengths input) money config e → AreWhole input e.sending
begun_whole p input money config e short begun k x at = whole_begun input k (money k) x (short k) (begun.streams k x at)

-- ---- whatever becomes of a Send

clash_none : (y : Outgoing) → ◌≡◌ {A = Option Outgoing} None (Some y) → ⊥
clash_none y e = cc

whole_answered : (input : ℕ → List ℕ) (s : Sending) (p : Load) (told : List Known) (k : ℕ) (y : Outgoing) (o : Option Outgoing) → outgoing_at s k ≡ o → ((x : Outgoing) → o ≡ Some x → (x.accepted ≡ length (input k)) × (x.clean ≡ true)) → outgoing_at (after_all_told (once_fulfilled s p) told) k ≡ Some y
    → (y.accepted ≡ length (input k)) × (y.clean ≡ true)
whole_answered input s p told k y None e whole here =
    let u = landed (with_flight s p) p.sequence in
    absurd (clash_none y (sym (none_stays_told (after_fulfilled (with_flight s p) (flight_of p)) k told (none_stays u k p.frames e)) ∙ here))
whole_answered input s p told k y (Some x) e whole here =
    let u = landed (with_flight s p) p.sequence in
    let v = after_fulfilled (with_flight s p) (flight_of p) in
    let one = all_own_acked k p.frames x in
    let at_one : outgoing_at v k ≡ Some one = all_acked_at u k p.frames x e in
    let both : ◌≡◌ {A = Option Outgoing} (Some (all_own_told k told one)) (Some y) = sym (all_told_at v k told one at_one) ∙ here in
    let same : all_own_told k told one ≡ y = cc in
    let kept = all_kept k p.frames x in
    let only = all_told_only k told one in
    let old = whole x refl in (
      ap (λ (z : Outgoing). z.accepted) (sym same) ∙ only.accepted ∙ kept.accepted ∙ old.0,
      ap (λ (z : Outgoing). z.clean) (sym same) ∙ only.clean ∙ kept.clean ∙ old.1,
    )

-- its answer arrived
pub answered_whole : {c : Tally} (n : ℕ → ℕ) (input : ℕ → List ℕ) (e f : EndState) → IsQuiet n e.sending → IsAhead n c e.sending f.receiving → AreJoined e f → CanTell f.receiving → AreWhole input e.sending → (w : Passage e) → AreWhole input (once_answered f w).sending
answered_whole n input e f quiet ahead joined tellable whole w =
    let p = w.goes.load in
    let told = reply_frames (effect f.receiving (packet_of_load p) p.amount) (frames_of (packet_of_load p)) in
    let came = both_came n e f quiet ahead joined tellable w in
    subst (λ (z : EndState). AreWhole input z.sending) (sym came.here) (λ k y here. whole_answered input e.sending p told k y (outgoing_at e.sending k) refl (λ x at. whole k x at) here)

-- a fault did
pub faulted_whole : (input : ℕ → List ℕ) (e gone : EndState) (iv bytes : List ℕ) (now : ℤ) (flight : flights.Open) → e.sending.flights ≡ [] → Goes e iv now flight bytes gone → AreWhole input e.sending → AreWhole input (ended gone flight None).sending
faulted_whole input e gone iv bytes now flight alone goes whole = subst (λ (z : EndState). AreWhole input z.sending) (sym (goes_faulted e gone iv bytes now flight alone goes)) (λ k x at. whole k x at)
