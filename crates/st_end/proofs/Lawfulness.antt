-- What is lawful at first, and what stays so.
use Rattle.std.proofs.Common.{◌≡◌, ◌≢◌, ◌<◌, ℕ, Bool, true, false, cond, Option, Some, None, Result, Ok, Err, refl, ap, ◌∙◌, sym, subst, List, [], ◌∷◌, nat_eq, inl, inr, arith}
use Rattle.std.specs.Prelude.{is_some, MatchOption}
use Rattle.std.specs.Ordering.{nat_cmp}
use Rattle.std.specs.FinMap as map
use Rattle.std.proofs.lemmas.Bool.{false≢true, cases_eq}
use Rattle.std.proofs.lemmas.Grind.{common_steps}
use Rattle.std.proofs.lemmas.Bool.Decides.{nat_tests}
use Rattle.st_oer.specs.Address.{is_address}
use Rattle.st_ilp.specs.Packets.{AnswerPacket, Fulfilled, Rejected}
use Rattle.st_ilp.specs.Spelling.{fulfill_kind, reject_kind}
use Rattle.st_ilp.specs.Reading.{answer_at}
use Rattle.st_ilp.specs.declared.error.IlpError.{IlpError}
use Rattle.st_frames.specs.Frames.{Known, Packet, frames_of, CloseFrame, ConnectionClose, OtherFrame, LimitFrame, ConnectionMaxData, BlockedFrame, ConnectionDataBlocked, StreamClose, StreamMoney, StreamMaxMoney, StreamMoneyBlocked, StreamData, StreamMaxData, StreamDataBlocked}
use Rattle.st_keys.specs.Keys.{DerivedKeys}
use Rattle.st_keys.specs.Sealed.{opened}
use Rattle.st_keys.specs.declared.error.KeyError.{KeyError}
use Rattle.st_sender.specs.Sending.{Outgoing, SentFrame, Data, Whole, Flight, Config, Sending, new_sending, changed_at, changed}
use Rattle.st_sender.specs.Flights.{flight_at, without_flight}
use Rattle.st_sender.specs.Answering.{after_acked, after_all_acked, landed, after_fulfilled, after_failed, Failure, Plain, after_told, after_all_told}
use Rattle.st_receiver.specs.Streams.{Receiving, new_receiving}
use Rattle.st_end.specs.declared.flight.Open.{Open}
use Rattle.st_end.specs.State.{EndState}
use Rattle.st_end.specs.Sending.{is_kept, open_flight, is_open}
use Rattle.st_end.specs.Unsealed.{known_if, known}
use Rattle.st_end.specs.Answers.{fits, raised, failure_of, answered_by, outcome_left, after_outcome, ended_with, ended}
use Rattle.st_end.specs.Lawful.{IsLawful}
use Rattle.st_end.proofs.Streams.{sends, receives, joined, alike, sends_stay}
use Rattle.st_end.proofs.Numbered.{AreNumbered, numbered_as, numbered_when_new}

none_in_empty : (n : ℕ) → is_some (map.get (map.empty {X = List ℕ} {R = nat_cmp}) n) ≡ false
none_in_empty n = ap is_some (map.get-empty nat_cmp n)

pub lawful_when_new : (e : EndState) (config : Config) (parity : ℕ) → e.conditions ≡ map.empty → is_address e.own ≡ true → is_address e.peer ≡ true → e.sending ≡ new_sending config → e.receiving ≡ new_receiving parity → parity < 2 → IsLawful e
lawful_when_new e config parity none o p s r low =
    let j = joined e.sending e.receiving (ap receives r ∙ sym (ap sends s)) in
    record { own = o; peer = p; kept = λ n h. absurd (false≢true (sym (ap (λ m. is_some (map.get m n)) none ∙ none_in_empty n) ∙ h)); both = j.both; places = j.places; numbers = numbered_when_new e.sending (ap (λ (x : Sending). x.streams) s); parity = subst (λ (x : Receiving). x.parity < 2) (sym r) low }

-- what flies, and which streams are open, is not changed by a call on a stream
at_flights : (s : Sending) (k : ℕ) (f : Outgoing → Outgoing) (o : Option Outgoing) → (changed_at s k f o).flights ≡ s.flights
at_flights s k f None = refl
at_flights s k f (Some x) = refl

pub flights_stay : (s : Sending) (k : ℕ) (f : Outgoing → Outgoing) → (changed s k f).flights ≡ s.flights
flights_stay s k f = at_flights s k f _

abbrev pub Stays : (t s : Sending) → Type 0
Stays t s = (s.flights ≡ t.flights) × (sends s ≡ sends t)

pub both_open : (e : EndState) → IsLawful e → receives e.receiving ≡ sends e.sending
both_open e l = alike e.sending e.receiving l.places l.both

-- an end that keeps its addresses, its conditions, what flies and which streams are open
pub lawful_as : (e : EndState) (s : Sending) (r : Receiving) → s.flights ≡ e.sending.flights → receives r ≡ sends s → AreNumbered s → r.parity ≡ e.receiving.parity → IsLawful e → IsLawful (record e { sending = s; receiving = r })
lawful_as e s r same alike_now numbers parity l =
    let j = joined s r alike_now in
    record { own = l.own; peer = l.peer; kept = λ n h. subst (λ ps. is_some (flight_at ps n) ≡ true) (sym same) (l.kept n h); both = j.both; places = j.places; numbers = numbers; parity = subst (λ n. n < 2) (sym parity) l.parity }

pub lawful_with : (e : EndState) (s : Sending) → Stays e.sending s → IsLawful e → IsLawful (record e { sending = s })
lawful_with e s same l = lawful_as e s e.receiving same.0 (both_open e l ∙ sym same.1) (numbered_as e.sending s same.1 l.numbers) refl l

pub lawful_changed : (e : EndState) (s : Sending) (k : ℕ) (f : Outgoing → Outgoing) → s ≡ changed e.sending k f → IsLawful e → IsLawful (record e { sending = s })
lawful_changed e s k f is l =
    lawful_with e s (ap (λ (x : Sending). x.flights) is ∙ flights_stay e.sending k f, ap sends is ∙ sends_stay e.sending k f) l

pub lawful_received : (e : EndState) (r : Receiving) → receives r ≡ receives e.receiving → r.parity ≡ e.receiving.parity → IsLawful e → IsLawful (record e { receiving = r })
lawful_received e r same parity l = lawful_as e e.sending r refl (same ∙ both_open e l) l.numbers parity l

-- ---- what answers and advertised limits do not change

with_same : (s : Sending) (k : ℕ) (f : Outgoing → Outgoing) (t : Sending) → Stays t s → Stays t (changed s k f)
with_same s k f t h = (flights_stay s k f ∙ h.0, sends_stay s k f ∙ h.1)

acked_stays : (s t : Sending) (f : SentFrame) → Stays t s → Stays t (after_acked s f)
acked_stays s t (Data k o n) h = with_same s k _ t h
acked_stays s t (Whole (StreamData k o xs)) h = h
acked_stays s t (Whole (StreamMoney k n)) h = with_same s k _ t h
acked_stays s t (Whole (CloseFrame (StreamClose k code message))) h = with_same s k _ t h
acked_stays s t (Whole (BlockedFrame (StreamDataBlocked k n))) h = with_same s k _ t h
acked_stays s t (Whole (BlockedFrame (StreamMoneyBlocked k n m))) h = with_same s k _ t h
acked_stays s t (Whole (BlockedFrame (ConnectionDataBlocked n))) h = h
acked_stays s t (Whole (LimitFrame (ConnectionMaxData n))) h = h
acked_stays s t (Whole (LimitFrame (StreamMaxData j n))) h = h
acked_stays s t (Whole (LimitFrame (StreamMaxMoney j n u))) h = h
acked_stays s t (Whole (CloseFrame (ConnectionClose code message))) h = h
acked_stays s t (Whole (OtherFrame o)) h = h

all_acked_stays : (t : Sending) (fs : List SentFrame) (s : Sending) → Stays t s → Stays t (after_all_acked s fs)
all_acked_stays t [] s h = h
all_acked_stays t (f ∷ fs) s h = all_acked_stays t fs (after_acked s f) (acked_stays s t f h)

told_stays : (s t : Sending) (f : Known) → Stays t s → Stays t (after_told s f)
told_stays s t (StreamData k o xs) h = h
told_stays s t (StreamMoney k n) h = h
told_stays s t (CloseFrame c) h = h
told_stays s t (BlockedFrame b) h = h
told_stays s t (LimitFrame (ConnectionMaxData n)) h = h
told_stays s t (LimitFrame (StreamMaxData k n)) h = with_same s k _ t h
told_stays s t (LimitFrame (StreamMaxMoney k n m)) h = with_same s k _ t h
told_stays s t (OtherFrame o) h = h

pub all_told_stays : (t : Sending) (fs : List Known) (s : Sending) → Stays t s → Stays t (after_all_told s fs)
all_told_stays t [] s h = h
all_told_stays t (f ∷ fs) s h = all_told_stays t fs (after_told s f) (told_stays s t f h)

either_stays : (b : Bool) (s t u : Sending) → Stays u s → Stays u t → Stays u (cond b s t)
either_stays true s t u h k = h
either_stays false s t u h k = k

pub itself : (s : Sending) → Stays s s
itself s = (refl, refl)

raised_stays : (s : Sending) (n : ℕ) (r : Result Packet KeyError) → Stays s (raised s n r)
raised_stays s n (Ok q) = either_stays (nat_eq q.sequence n) (after_all_told s (frames_of q)) s s (all_told_stays s (frames_of q) s (itself s)) (itself s)
raised_stays s n (Err e) = itself s

pub then_stays : (s t u : Sending) → Stays s t → Stays t u → Stays s u
then_stays s t u a b = (b.0 ∙ a.0, b.1 ∙ a.1)

-- what lands is in flight no more, and nothing else changes place
answered_stays : (keys : DerivedKeys) (s : Sending) (flight : Open) (p : Flight) (a : Result AnswerPacket IlpError) → Stays (landed s p.sequence) (answered_by keys s flight p a)
answered_stays keys s flight p (Ok (Fulfilled fulfillment payload)) =
    let l = landed s p.sequence in
    either_stays (fits flight fulfillment) (raised (after_fulfilled s p) flight.sequence (opened keys fulfill_kind payload)) (after_failed s p Plain) l
    (then_stays l (after_fulfilled s p) (raised (after_fulfilled s p) flight.sequence (opened keys fulfill_kind payload)) (all_acked_stays l p.frames l (itself l)) (raised_stays (after_fulfilled s p) flight.sequence (opened keys fulfill_kind payload)))
    (itself l)
answered_stays keys s flight p (Ok (Rejected code by message payload)) = raised_stays (after_failed s p (failure_of code payload)) flight.sequence (opened keys reject_kind payload)
answered_stays keys s flight p (Err e) = itself (landed s p.sequence)

outcome_stays : (e : EndState) (flight : Open) (p : Flight) (o : Option (List ℕ)) → Stays (landed e.sending p.sequence) (outcome_left e flight p o)
outcome_stays e flight p (Some bytes) = answered_stays e.keys e.sending flight p (answer_at bytes)
outcome_stays e flight p None = itself (landed e.sending p.sequence)

same_test : {A : Type 0} (m n : ℕ) (x y : A) → m ≡ n → cond (nat_eq m n) x y ≡ x
same_test m n x y e = grind (arith, nat_tests)

other_test : {A : Type 0} (m n : ℕ) (x y : A) → m ≢ n → cond (nat_eq m n) x y ≡ y
other_test m n x y e = grind (arith, nat_tests)

found_sequence : (ps : List Flight) (n : ℕ) (p : Flight) → flight_at ps n ≡ Some p → p.sequence ≡ n
found_sequence [] n p e = absurd cc
found_sequence (q ∷ ps) n p e = elim (cases_eq q.sequence n) [
  | inl same ↦ (let here : ◌≡◌ {A = Option Flight} (Some q) (Some p) = sym (same_test q.sequence n (Some q) (flight_at ps n) same) ∙ e in let is : q ≡ p = cc in sym (ap (λ (x : Flight). x.sequence) is) ∙ same)
  | inr apart ↦ found_sequence ps n p (sym (other_test q.sequence n (Some q) (flight_at ps n) apart) ∙ e)
]

others_fly : (ps : List Flight) (m n : ℕ) → n ≢ m → flight_at (without_flight ps m) n ≡ flight_at ps n
others_fly [] m n d = refl
others_fly (p ∷ ps) m n d = elim (cases_eq p.sequence m) [
  | inl same ↦ ap (λ (x : List Flight). flight_at x n) (same_test p.sequence m ps (p ∷ without_flight ps m) same) ∙ sym (other_test p.sequence n (Some p) (flight_at ps n) (λ e. d (sym e ∙ same)))
  | inr apart ↦ ap (λ (x : List Flight). flight_at x n) (other_test p.sequence m ps (p ∷ without_flight ps m) apart) ∙ ap (λ o. cond (nat_eq p.sequence n) (Some p) o) (others_fly ps m n d)
]

kept_apart : (m : map.FinMap nat_cmp (List ℕ)) (k q : ℕ) → q ≢ k → map.get (map.remove m k) q ≡ map.get m q
kept_apart m k q d = grind (arith, common_steps, map.gets)

kept_gone : (m : map.FinMap nat_cmp (List ℕ)) (k q : ℕ) → q ≡ k → map.get (map.remove m k) q ≡ None
kept_gone m k q e = grind (arith, common_steps, map.gets)

pub lawful_after : (e : EndState) (flight : Open) (p : Flight) (o : Option (List ℕ)) → flight_at e.sending.flights flight.sequence ≡ Some p → IsLawful e → IsLawful (after_outcome e flight p o)
lawful_after e flight p o at l =
    let left = outcome_stays e flight p o in
    let j = joined (outcome_left e flight p o) e.receiving (both_open e l ∙ sym left.1) in
    record {
      own = l.own;
      peer = l.peer;
      kept = λ n h. elim (cases_eq n flight.sequence) [
        | inl same ↦ absurd (false≢true (sym (ap is_some (kept_gone e.conditions flight.sequence n same)) ∙ h))
        | inr apart ↦
            ap (λ (ps : List Flight). is_some (flight_at ps n)) left.0
            ∙ ap is_some (others_fly e.sending.flights p.sequence n (λ s. apart (s ∙ found_sequence e.sending.flights flight.sequence p at)))
            ∙ l.kept n (sym (ap is_some (kept_apart e.conditions flight.sequence n apart)) ∙ h)
      ];
      both = j.both;
      places = j.places;
      numbers = numbered_as e.sending (outcome_left e flight p o) left.1 l.numbers;
      parity = l.parity;
    }

-- ---- open flights

pub kept_found : (kept : Option (List ℕ)) (condition : List ℕ) → is_kept condition kept ≡ true → is_some kept ≡ true
kept_found None condition h = absurd (false≢true h)
kept_found (Some c) condition h = refl

some_if : (b : Bool) (o : Option Flight) → (b ≡ true → is_some o ≡ true) → b ≡ is_some (cond b o None)
some_if true o h = sym (h refl)
some_if false o h = refl

-- a condition that is kept is that of an open flight
pub kept_is_open : (e : EndState) (flight : Open) → IsLawful e → is_kept flight.condition (map.get e.conditions flight.sequence) ≡ is_open e flight
kept_is_open e flight l = some_if (is_kept flight.condition (map.get e.conditions flight.sequence)) (flight_at e.sending.flights flight.sequence) (λ h. l.kept flight.sequence (kept_found (map.get e.conditions flight.sequence) flight.condition h))

-- what an open flight carries
pub record Found (e : EndState) (flight : Open) : Type 0 where
  pub carried : Flight
  pub at : flight_at e.sending.flights flight.sequence ≡ Some carried
  pub is : open_flight e flight ≡ Some carried

found_if : (e : EndState) (flight : Open) (b : Bool) (o : Option Flight) → flight_at e.sending.flights flight.sequence ≡ o → open_flight e flight ≡ cond b o None → is_some (cond b o None) ≡ true → Found e flight
found_if e flight true (Some p) at is h = record { carried = p; at = at; is = is }
found_if e flight true None at is h = absurd (false≢true h)
found_if e flight false o at is h = absurd (false≢true h)

pub open_found : (e : EndState) (flight : Open) → is_open e flight ≡ true → Found e flight
open_found e flight h = found_if e flight (is_kept flight.condition (map.get e.conditions flight.sequence)) (flight_at e.sending.flights flight.sequence) refl refl h

pub ended_is : (e : EndState) (flight : Open) (o : Option (List ℕ)) (p : Flight) → open_flight e flight ≡ Some p → ended e flight o ≡ after_outcome e flight p o
ended_is e flight o p h = ap (λ x. ended_with e flight x o) h

same_kept : (e f : EndState) → f.sending ≡ e.sending → f.conditions ≡ e.conditions → ((n : ℕ) → is_some (map.get e.conditions n) ≡ true → is_some (flight_at e.sending.flights n) ≡ true)
    → (n : ℕ) → is_some (map.get f.conditions n) ≡ true → is_some (flight_at f.sending.flights n) ≡ true
same_kept e f s c kept n h = ap (λ (x : Sending). is_some (flight_at x.flights n)) s ∙ kept n (sym (ap (λ (m : map.FinMap nat_cmp (List ℕ)). is_some (map.get m n)) c) ∙ h)

lawful_left : (e after : EndState) (flight : Open) (o : Option (List ℕ)) (p : Flight) → flight_at e.sending.flights flight.sequence ≡ Some p → IsLawful e
    → after.own ≡ e.own → after.peer ≡ e.peer → after.receiving ≡ e.receiving → after.sending ≡ outcome_left e flight p o → after.conditions ≡ map.remove e.conditions flight.sequence → IsLawful after
lawful_left e after flight o p at l own peer r s c =
    let left = lawful_after e flight p o at l in
    let j = joined after.sending after.receiving (ap receives r ∙ both_open (after_outcome e flight p o) left ∙ sym (ap sends s)) in
    record {
      own = ap is_address own ∙ l.own;
      peer = ap is_address peer ∙ l.peer;
      kept = same_kept (after_outcome e flight p o) after s c left.kept;
      both = j.both;
      places = j.places;
      numbers = numbered_as (outcome_left e flight p o) after.sending (ap sends s) left.numbers;
      parity = subst (λ (x : Receiving). x.parity < 2) (sym r) l.parity;
    }

pub lawful_ended : (e now after : EndState) (flight spent : Open) (o : Option (List ℕ)) → e ≡ now → spent ≡ flight → is_open now flight ≡ true → IsLawful e → after.own ≡ e.own → after.peer ≡ e.peer → after.receiving ≡ e.receiving
    → ((p : Flight) → flight_at e.sending.flights spent.sequence ≡ Some p → after.sending ≡ outcome_left e spent p o) → after.conditions ≡ map.remove e.conditions spent.sequence → IsLawful after
lawful_ended e now after flight spent o same is open_here l own peer r left c =
    let f = open_found e spent (subst (λ (x : Open). is_open e x ≡ true) (sym is) (subst (λ (x : EndState). is_open x flight ≡ true) (sym same) open_here)) in
    lawful_left e after spent o f.carried f.at l own peer r (left f.carried f.at) c

-- ---- a condition that becomes known

known_kept : (m : map.FinMap nat_cmp (List ℕ)) (k q : ℕ) (c : List ℕ) → is_some (map.get m k) ≡ true → is_some (map.get (map.insert m k c) q) ≡ true → is_some (map.get m q) ≡ true
known_kept m k q c here h = grind (arith, common_steps, map.gets)

known_lawful_if : (t : Bool) (e : EndState) (iv : List ℕ) (flight : Open) → is_kept iv (map.get e.conditions flight.sequence) ≡ t → IsLawful e → IsLawful (known_if t e flight)
known_lawful_if false e iv flight is l = l
known_lawful_if true e iv flight is l = record {
  own = l.own;
  peer = l.peer;
  kept = λ n h. l.kept n (known_kept e.conditions flight.sequence n flight.condition (kept_found (map.get e.conditions flight.sequence) iv is) h);
  both = l.both;
  places = l.places;
  numbers = l.numbers;
  parity = l.parity;
}

pub known_lawful : (e : EndState) (iv : List ℕ) (flight : Open) → IsLawful e → IsLawful (known e iv flight)
known_lawful e iv flight l = known_lawful_if (is_kept iv (map.get e.conditions flight.sequence)) e iv flight refl l

known_by : (t : Bool) (e : EndState) (flight : Open) (m : map.FinMap nat_cmp (List ℕ)) → (t ≡ true → m ≡ map.insert e.conditions flight.sequence flight.condition) → (t ≡ false → m ≡ e.conditions)
    → ◌≡◌ {A = EndState} (record e { conditions = m }) (known_if t e flight)
known_by true e flight m waiting other = ap (λ (y : map.FinMap nat_cmp (List ℕ)). record e { conditions = y }) (waiting refl)
known_by false e flight m waiting other = ap (λ (y : map.FinMap nat_cmp (List ℕ)). record e { conditions = y }) (other refl)

-- what a map keeps once it knows a condition, or not
abbrev Knows : (m : map.FinMap nat_cmp (List ℕ)) → (iv : List ℕ) → Open → map.FinMap nat_cmp (List ℕ) → Bool → Type 0
Knows m iv flight n true = is_kept iv (map.get m flight.sequence) ≡ true → n ≡ map.insert m flight.sequence flight.condition
Knows m iv flight n false = is_kept iv (map.get m flight.sequence) ≡ false → n ≡ m

pub knows_lawful : (e : EndState) (iv : List ℕ) (m : map.FinMap nat_cmp (List ℕ)) (read : Open) → IsLawful e → Knows e.conditions iv read m true → Knows e.conditions iv read m false → IsLawful (record e { conditions = m })
knows_lawful e iv m read l waiting other = subst IsLawful (sym (known_by (is_kept iv (map.get e.conditions read.sequence)) e read m waiting other)) (known_lawful e iv read l)

pub knows : (e now : EndState) (iv : List ℕ) (m : map.FinMap nat_cmp (List ℕ)) (read flight : Open) → e ≡ now → read ≡ flight → Knows e.conditions iv read m true → Knows e.conditions iv read m false
    → ◌≡◌ {A = EndState} (record e { conditions = m }) (known now iv flight)
knows e now iv m read flight same is waiting other =
    known_by (is_kept iv (map.get e.conditions read.sequence)) e read m waiting other
    ∙ ap (λ (x : EndState). known x iv read) same
    ∙ ap (λ (f : Open). known now iv f) is

-- what a failure does to what is in flight
pub failed_left : (s t : Sending) (n : ℕ) (p : Flight) (why : Failure) → flight_at s.flights n ≡ Some p → MatchOption (flight_at s.flights n) (t ≡ s) (λ q. t ≡ after_failed s q why) → t ≡ after_failed s p why
failed_left s t n p why at h = subst (λ (o : Option Flight). MatchOption o (t ≡ s) (λ q. t ≡ after_failed s q why)) at h
