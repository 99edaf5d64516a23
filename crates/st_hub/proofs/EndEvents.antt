-- What the calls of an end leave of its bytes and totals.
use Rattle.std.proofs.Common.{◌≡◌, ℕ, zero, suc, ◌+◌, ◌-◌, ◌*◌, ◌<◌, ◌≤◌, map, Bool, true, false, cond, List, [], ◌∷◌, refl, sym, ap, subst, ◌∙◌, arith, Option, None, Some, Result, Ok, Err}
use Rattle.std.specs.FinMap as fmap
use Rattle.std.specs.List.{range_with_len}
use Rattle.st_sender.specs.Sending.{Sending, Outgoing, Flight, outgoing_at, with_outgoing, changed_at, changed}
use Rattle.st_sender.specs.Accepting.{after_write, after_clean, after_offer}
use Rattle.st_receiver.specs.Streams.{incoming_at, may_name, with_receive_max}
use Rattle.st_streams.specs.declared.end_error.EndError.{EndError}
use Rattle.st_streams.specs.declared.end_error.EndError.TheVariants as end_errors
use Rattle.st_end.specs.declared.flight.Open as flights
use Rattle.st_end.specs.State.{EndState}
use Rattle.st_end.specs.Calls.{Answer, done, refusal_at, write, close, offer, set_receive_max, own_number, own_numbers, first_free, free_or, connection_refusal, with_stream, opened_unless, opening_as, open_stream}
use Rattle.st_end.specs.Sending.{Goes, is_kept}
use Rattle.st_end.specs.Unsealed.{GoesUnsealed, known_if, known}
use Rattle.st_end.proofs.Plain.{known_same}
use Rattle.st_end.specs.Answers.{ended_with, ended}
use Rattle.st_end.specs.Sending.{open_flight}
use Rattle.st_hub.specs.Keeping.{KeepsSent, Keeps}
use Rattle.st_hub.proofs.SentKeeping.{sent_same, sent_changed, out_alike, outcome_keeps, opening_keeps}
use Rattle.st_hub.proofs.ReadKeeping.{read_same, read_with, max_read}

pub keeps_same : (e : EndState) → Keeps 0 e e
keeps_same e = record { sent = sent_same e.sending; read = read_same e.receiving }

-- ---- calls on the sending side that are done or refused

pub done_is : (e b : EndState) (o : Option EndError) (s : Sending) → done e o s ≡ (Ok tt, b) → (o ≡ None) × (b ≡ record e { sending = s })
done_is e b None s h = (refl, sym (ap (λ p. p.1) h))
done_is e b (Some why) s h = absurd (let f : ◌≡◌ {A = Answer} (Err why) (Ok tt) = ap (λ p. p.0) h in cc)

pub refused_none : (e : EndState) (y : Option Outgoing) (o : Option _) → refusal_at e y o ≡ None → (x : Outgoing) × (y ≡ Some x)
refused_none e None o h = absurd (cc)
refused_none e (Some x) o h = (x, refl)

changed_is : (s : Sending) (k : ℕ) (f : Outgoing → Outgoing) (x : Outgoing) → outgoing_at s k ≡ Some x → changed s k f ≡ with_outgoing s k (f x)
changed_is s k f x e = ap (changed_at s k f) e

-- a write that is accepted
pub wrote : (e b : EndState) (k : ℕ) (xs : List ℕ) → write e k xs ≡ (Ok tt, b) → (x : Outgoing) × (outgoing_at e.sending k ≡ Some x) × (b ≡ record e { sending = with_outgoing e.sending k (after_write xs x) })
wrote e b k xs h =
    let d = done_is e b _ _ h in
    let x = refused_none e (outgoing_at e.sending k) _ d.0 in
    (x.0, x.1, d.1 ∙ ap (λ s. record e { sending = s }) (changed_is e.sending k (after_write xs) x.0 x.1))

done_keeps : (e b : EndState) (o : Option EndError) (s : Sending) (r : Answer) → KeepsSent e.sending s → done e o s ≡ (r, b) → Keeps 0 e b
done_keeps e b None s r keeps h = subst (Keeps 0 e) (ap (λ p. p.1) h) (record { sent = keeps; read = read_same e.receiving })
done_keeps e b (Some why) s r keeps h = subst (Keeps 0 e) (ap (λ p. p.1) h) (keeps_same e)

pub close_keeps : (e b : EndState) (k : ℕ) (r : Answer) → close e k ≡ (r, b) → Keeps 0 e b
close_keeps e b k r h = done_keeps e b _ _ r (sent_changed e.sending k after_clean (λ x. out_alike x _ refl refl)) h

pub offer_keeps : (e b : EndState) (k amount : ℕ) (r : Answer) → offer e k amount ≡ (r, b) → Keeps 0 e b
offer_keeps e b k amount r h = done_keeps e b _ _ r (sent_changed e.sending k (after_offer amount) (λ x. out_alike x _ refl refl)) h

max_either : (b : Bool) (e f : EndState) (r : Answer) (x y : Answer × EndState) → Keeps 0 e x.1 → Keeps 0 e y.1 → cond b x y ≡ (r, f) → Keeps 0 e f
max_either true e f r x y g h is = subst (Keeps 0 e) (ap (λ p. p.1) is) g
max_either false e f r x y g h is = subst (Keeps 0 e) (ap (λ p. p.1) is) h

pub max_keeps : (e b : EndState) (k amount : ℕ) (r : Answer) → set_receive_max e k amount ≡ (r, b) → Keeps 0 e b
max_keeps e b k amount r h =
    max_either (may_name e.receiving k) e b r (Ok tt, record e { receiving = with_receive_max e.receiving k amount }) (Err end_errors.NoStream, e)
    (record { sent = sent_same e.sending; read = max_read e.receiving k amount }) (keeps_same e) h

-- ---- a stream opens

free_none : (s : Sending) (k j : ℕ) (x : Option Outgoing) (rest : Option ℕ) → outgoing_at s k ≡ x → (rest ≡ Some j → outgoing_at s j ≡ None) → free_or x k rest ≡ Some j → outgoing_at s j ≡ None
free_none s k j None rest e h is = let same : k ≡ j = cc in rw (← same) e
free_none s k j (Some x) rest e h is = h is

first_none : (ks : List ℕ) (s : Sending) (j : ℕ) → first_free s ks ≡ Some j → outgoing_at s j ≡ None
first_none [] s j is = absurd (cc)
first_none (k ∷ ks) s j is = free_none s k j (outgoing_at s k) (first_free s ks) refl (λ e. first_none ks s j e) is

own_none : (e : EndState) (j : ℕ) → own_number e ≡ Some j → outgoing_at e.sending j ≡ None
unfolding own_number
own_none e j is = first_none (own_numbers e.receiving.parity) e.sending j is

free_within : (x : Option Outgoing) (k : ℕ) (later : Option ℕ) (j : ℕ) → (0 < k) × (k < 65) → (later ≡ Some j → (0 < j) × (j < 65)) → free_or x k later ≡ Some j → (0 < j) × (j < 65)
free_within None k later j here there e = let same : k ≡ j = cc in (omega (arith, here.0), omega (arith, here.1))
free_within (Some x) k later j here there e = there e

own_within : (s : Sending) (p n i j : ℕ) → p < 2 → i + n ≤ 32 → first_free s (map (λ i. 2 * i + (2 - p)) (range_with_len i n)) ≡ Some j → (0 < j) × (j < 65)
own_within s p zero i j low room e = absurd (cc)
own_within s p (suc n) i j low room e =
    let k = 2 * i + (2 - p) in
    free_within (outgoing_at s k) k (first_free s (map (λ i. 2 * i + (2 - p)) (range_with_len (i + 1) n))) j (omega arith, omega arith) (own_within s p n (i + 1) j low (omega arith)) e

number_within : (e : EndState) (j : ℕ) → e.receiving.parity < 2 → own_number e ≡ Some j → (0 < j) × (j < 65)
unfolding own_number
number_within e j low is = own_within e.sending e.receiving.parity 32 0 j low (omega arith) is

stream_keeps : (e : EndState) (k : ℕ) → outgoing_at e.sending k ≡ None → Keeps 0 e (with_stream e k)
stream_keeps e k none = record { sent = opening_keeps e.sending k none; read = read_with e.receiving k (incoming_at e.receiving k) refl }

-- a stream that opened was not open before
pub record Opened (e b : EndState) (k : ℕ) : Type 0 where
  pub number : e.receiving.parity < 2 → (0 < k) × (k < 65)
  pub none : outgoing_at e.sending k ≡ None
  pub after : b ≡ with_stream e k
  pub keeps : Keeps 0 e b

unless_is : (e b : EndState) (j k : ℕ) (o : Option EndError) → outgoing_at e.sending j ≡ None → (e.receiving.parity < 2 → (0 < j) × (j < 65)) → opened_unless e j o ≡ (Ok k, b) → Opened e b k
unless_is e b j k None none within h =
    let is : ◌≡◌ {A = Result ℕ EndError} (Ok j) (Ok k) = ap (λ p. p.0) h in
    let same : j ≡ k = cc in
    let after : b ≡ with_stream e j = sym (ap (λ p. p.1) h) in
    subst (λ i. Opened e b i) same (record { number = within; none = none; after = after; keeps = subst (Keeps 0 e) (sym after) (stream_keeps e j none) })
unless_is e b j k (Some why) none within h = absurd (let f : ◌≡◌ {A = Result ℕ EndError} (Err why) (Ok k) = ap (λ p. p.0) h in cc)

opening_is : (e b : EndState) (k : ℕ) (o : Option ℕ) → ((j : ℕ) → o ≡ Some j → (outgoing_at e.sending j ≡ None) × (e.receiving.parity < 2 → (0 < j) × (j < 65))) → opening_as e o ≡ (Ok k, b) → Opened e b k
opening_is e b k None none h = absurd (let f : ◌≡◌ {A = Result ℕ EndError} (Err end_errors.NoStream) (Ok k) = ap (λ p. p.0) h in cc)
opening_is e b k (Some j) none h = unless_is e b j k (connection_refusal e) (none j refl).0 (none j refl).1 h

pub opened_is : (e b : EndState) (k : ℕ) → open_stream e ≡ (Ok k, b) → Opened e b k
opened_is e b k h = opening_is e b k (own_number e) (λ j is. (own_none e j is, λ low. number_within e j low is)) h

-- ---- rounds

pub goes_keeps : (e : EndState) (iv : List ℕ) (now : _) (flight : flights.Open) (bytes : List ℕ) (b : EndState) → Goes e iv now flight bytes b → Keeps 0 e b
goes_keeps e iv now flight bytes b g =
    let t : KeepsSent e.sending g.sending = subst (KeepsSent e.sending) (sym g.sends.after) (record { width = refl; each = (sent_same e.sending).each; paid = omega arith }) in
    subst (Keeps 0 e) (sym g.after_is) (record { sent = t; read = read_same e.receiving })

-- what is not sealed yet has changed as much, apart from its condition
pub unsealed_keeps : (e : EndState) (iv : List ℕ) (now : _) (flight : flights.Open) (bytes : List ℕ) (b : EndState) → GoesUnsealed e iv now flight bytes b → Keeps 0 e b
unsealed_keeps e iv now flight bytes b g = let k = goes_keeps e iv now flight bytes _ g.goes in record { sent = k.sent; read = k.read }

-- what is in flight stays, once a condition is known
pub known_sending : (e b : EndState) (iv : List ℕ) (f : flights.Open) → b ≡ known e iv f → b.sending ≡ e.sending
known_sending e b iv f is = ap (λ (x : EndState). x.sending) is ∙ (known_same (is_kept iv (fmap.get e.conditions f.sequence)) e f).0

known_by : (t : Bool) (e : EndState) (f : flights.Open) → Keeps 0 e (known_if t e f)
known_by true e f = record { sent = sent_same e.sending; read = read_same e.receiving }
known_by false e f = keeps_same e

pub known_keeps : (e : EndState) (iv : List ℕ) (f : flights.Open) → Keeps 0 e (known e iv f)
known_keeps e iv f = known_by (is_kept iv (fmap.get e.conditions f.sequence)) e f

ended_by : (e : EndState) (f : flights.Open) (p : Option Flight) (o : Option (List ℕ)) → Keeps 0 e (ended_with e f p o)
ended_by e f None o = keeps_same e
ended_by e f (Some p) o = record { sent = outcome_keeps e f p o; read = read_same e.receiving }

pub ended_keeps : (e : EndState) (f : flights.Open) (o : Option (List ℕ)) → Keeps 0 e (ended e f o)
ended_keeps e f o = ended_by e f (open_flight e f) o
