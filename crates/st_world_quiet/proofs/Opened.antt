-- Each opening opens the client's next stream, so that `count` openings open `count` streams.
use Rattle.std.proofs.Common.{◌≡◌, ℕ, zero, suc, ◌+◌, ◌-◌, ◌*◌, ◌<◌, ◌≤◌, Bool, true, false, List, length, length-set, map, is_some, refl, sym, ap, subst, ◌∙◌, arith, Option, None, Some, Result, Ok, inl, inr, nat_eq}
use Rattle.std.specs.List.{range_with_len}
use Rattle.std.proofs.lemmas.Bool.{cases_eq, cases_lt}
use Rattle.st_streams.proofs.SlotLemmas.{slot_apart, slot_cases, slot_here}
use Rattle.st_sender.specs.Sending.{Outgoing, Sending, changed, changed_at, new_outgoing, outgoing_at, with_outgoing}
use Rattle.st_sender.specs.Accepting.{after_clean, after_offer, after_write}
use Rattle.st_sender.specs.Refusals.{close_refusal, offer_refusal, write_refusal}
use Rattle.st_streams.specs.declared.end_error.EndError.{EndError}
use Rattle.st_end.specs.State.{EndState}
use Rattle.st_end.specs.Calls.{connection_refusal, done, first_free, free_or, offer, open_stream, opened_unless, opening_as, own_number, own_numbers, refusal, with_stream, write}
use Rattle.st_world_quiet.specs.Calls.{begun, closed_if, fitting, written_at, written_on}

-- the place of the client's i-th stream, from 0
abbrev pub place_of : ℕ → ℕ
place_of i = 2 * i + (2 - 1)

-- its first j streams are open, and no more
pub record OpenTo (j : ℕ) (e : EndState) : Type 0 where
  pub opened : (i : ℕ) → i < j → is_some (outgoing_at e.sending (place_of i)) ≡ true
  pub left : (i : ℕ) → j ≤ i → i < 32 → is_some (outgoing_at e.sending (place_of i)) ≡ false
  pub slots : length e.sending.streams ≡ 65
  pub parity : e.receiving.parity ≡ 1

-- ---- calls open and close nothing

pub record Stays (e f : EndState) : Type 0 where
  pub open_as : (j : ℕ) → is_some (outgoing_at f.sending j) ≡ is_some (outgoing_at e.sending j)
  pub slots : length f.sending.streams ≡ length e.sending.streams
  pub parity : f.receiving.parity ≡ e.receiving.parity

stays_same : (e : EndState) → Stays e e
stays_same e = record { open_as = λ j. refl; slots = refl; parity = refl }

stays_then : (e f g : EndState) → Stays e f → Stays f g → Stays e g
stays_then e f g a b = record { open_as = λ j. b.open_as j ∙ a.open_as j; slots = b.slots ∙ a.slots; parity = b.parity ∙ a.parity }

open_changed : (s : Sending) (k : ℕ) (g : Outgoing → Outgoing) (o : Option Outgoing) → outgoing_at s k ≡ o → (j : ℕ) → is_some (outgoing_at (changed_at s k g o) j) ≡ is_some (outgoing_at s j)
open_changed s k g None at j = refl
open_changed s k g (Some x) at j = elim (slot_cases s.streams k (g x) j) [
  | inl same ↦ subst (λ i. is_some (outgoing_at (with_outgoing s k (g x)) i) ≡ is_some (outgoing_at s i)) (sym same.0) (ap is_some same.1 ∙ sym (ap is_some at))
  | inr apart ↦ ap is_some apart
]

long_changed : (s : Sending) (k : ℕ) (g : Outgoing → Outgoing) (o : Option Outgoing) → length (changed_at s k g o).streams ≡ length s.streams
long_changed s k g None = refl
long_changed s k g (Some x) = length-set s.streams k (Some (g x))

stays_done : (e : EndState) (k : ℕ) (why : Option EndError) (g : Outgoing → Outgoing) → Stays e (done e why (changed e.sending k g)).1
stays_done e k (Some why) g = stays_same e
stays_done e k None g = record { open_as = open_changed e.sending k g (outgoing_at e.sending k) refl; slots = long_changed e.sending k g (outgoing_at e.sending k); parity = refl }

stays_closed : (b : Bool) (e : EndState) (k : ℕ) → Stays e (closed_if b e k)
stays_closed false e k = stays_same e
stays_closed true e k = stays_done e k (refusal e k (close_refusal e.sending k)) after_clean

stays_written : (xs : List ℕ) (e : EndState) (k : ℕ) (o : Option Outgoing) → Stays e (written_at xs e k o)
stays_written xs e k None = stays_same e
stays_written xs e k (Some x) =
    let f = (write e k (fitting xs x)).1 in
    stays_then e f (closed_if (nat_eq (x.accepted + length (fitting xs x)) (length xs)) f k) (stays_done e k (refusal e k (write_refusal e.sending k (length (fitting xs x)))) (after_write (fitting xs x)))
    (stays_closed (nat_eq (x.accepted + length (fitting xs x)) (length xs)) f k)

open_stays : (j : ℕ) (e f : EndState) → OpenTo j e → Stays e f → OpenTo j f
open_stays j e f o s = record {
  opened = λ i l. s.open_as (place_of i) ∙ o.opened i l;
  left = λ i l m. s.open_as (place_of i) ∙ o.left i l m;
  slots = s.slots ∙ o.slots;
  parity = s.parity ∙ o.parity;
}

-- ---- the next number

free_is : (o : Option Outgoing) (k : ℕ) (later : Option ℕ) → is_some o ≡ false → free_or o k later ≡ Some k
free_is None k later e = refl
free_is (Some x) k later e = absurd (cc)

taken_is : (o : Option Outgoing) (k : ℕ) (later : Option ℕ) → is_some o ≡ true → free_or o k later ≡ later
taken_is None k later e = absurd (cc)
taken_is (Some x) k later e = refl

next_free : (s : Sending) (j a m : ℕ) → a ≤ j → j < a + m → ((i : ℕ) → i < j → is_some (outgoing_at s (place_of i)) ≡ true) → is_some (outgoing_at s (place_of j)) ≡ false → first_free s (map place_of (range_with_len a m)) ≡ Some (place_of j)
next_free s j a zero low high before here = absurd (omega (arith, low, high))
next_free s j a (suc m) low high before here = elim (cases_eq a j) [
  | inl same ↦ subst (λ k. free_or (outgoing_at s (place_of k)) (place_of k) (first_free s (map place_of (range_with_len (a + 1) m))) ≡ Some (place_of j)) (sym same)
      (free_is (outgoing_at s (place_of j)) (place_of j) (first_free s (map place_of (range_with_len (a + 1) m))) here)
  | inr apart ↦ taken_is (outgoing_at s (place_of a)) (place_of a) (first_free s (map place_of (range_with_len (a + 1) m))) (before a (omega (arith, low, apart)))
      ∙ next_free s j (a + 1) m (omega (arith, low, apart)) (omega (arith, high)) before here
]

none_free : (s : Sending) (a m : ℕ) → ((i : ℕ) → i < a + m → is_some (outgoing_at s (place_of i)) ≡ true) → first_free s (map place_of (range_with_len a m)) ≡ None
none_free s a zero before = refl
none_free s a (suc m) before =
    taken_is (outgoing_at s (place_of a)) (place_of a) (first_free s (map place_of (range_with_len (a + 1) m))) (before a (omega arith))
    ∙ none_free s (a + 1) m (λ i l. before i (omega (arith, l)))

pub number_next : (j : ℕ) (e : EndState) → OpenTo j e → j < 32 → own_number e ≡ Some (place_of j)
unfolding own_number
number_next j e o l = ap (λ p. first_free e.sending (own_numbers p)) o.parity ∙ next_free e.sending j 0 32 (omega arith) (omega (arith, l)) o.opened (o.left j (omega arith) l)

number_none : (j : ℕ) (e : EndState) → OpenTo j e → 32 ≤ j → own_number e ≡ None
unfolding own_number
number_none j e o l = ap (λ p. first_free e.sending (own_numbers p)) o.parity ∙ none_free e.sending 0 32 (λ i m. o.opened i (omega (arith, l, m)))

-- ---- one more

with_open : (j : ℕ) (e : EndState) → OpenTo j e → j < 32 → OpenTo (j + 1) (with_stream e (place_of j))
with_open j e o low = record {
  opened = λ i l. elim (cases_eq i j) [
    | inl same ↦ subst (λ m. is_some (outgoing_at (with_stream e (place_of j)).sending (place_of m)) ≡ true) (sym same) (ap is_some (slot_here e.sending.streams (place_of j) new_outgoing (let s = o.slots in omega (arith, s, low))))
    | inr apart ↦ ap is_some (slot_apart e.sending.streams (place_of j) new_outgoing (place_of i) (omega (arith, apart))) ∙ o.opened i (omega (arith, l, apart))
  ];
  left = λ i l m. ap is_some (slot_apart e.sending.streams (place_of j) new_outgoing (place_of i) (omega (arith, l))) ∙ o.left i (omega (arith, l)) m;
  slots = length-set e.sending.streams (place_of j) (Some new_outgoing) ∙ o.slots;
  parity = o.parity;
}

opens_by : (input : ℕ → List ℕ) (money : ℕ → ℕ) (j k : ℕ) (e : EndState) (why : Option EndError) → OpenTo j e → j < 32 → ◌≡◌ {A = Result ℕ EndError} (opened_unless e (place_of j) why).0 (Ok k) → OpenTo (j + 1) (begun input money (opened_unless e (place_of j) why))
opens_by input money j k e (Some why) o low told = absurd (cc)
opens_by input money j k e None o low told =
    let one = with_stream e (place_of j) in
    let two = (offer one (place_of j) (money (place_of j))).1 in
    open_stays (j + 1) two (written_on (input (place_of j)) two (place_of j))
    (open_stays (j + 1) one two (with_open j e o low) (stays_done one (place_of j) (refusal one (place_of j) (offer_refusal one.sending (place_of j) (money (place_of j)))) (after_offer (money (place_of j)))))
    (stays_written (input (place_of j)) two (place_of j) (outgoing_at two.sending (place_of j)))

pub opens_next : (input : ℕ → List ℕ) (money : ℕ → ℕ) (j k : ℕ) (e : EndState) → OpenTo j e → (open_stream e).0 ≡ Ok k → OpenTo (j + 1) (begun input money (open_stream e))
opens_next input money j k e o told = elim (cases_lt j 32) [
  | inl low ↦ (let number = number_next j e o low in
      subst (λ z. OpenTo (j + 1) (begun input money (opening_as e z))) (sym number)
      (opens_by input money j k e (connection_refusal e) o low (subst (λ z. ◌≡◌ {A = Result ℕ EndError} (opening_as e z).0 (Ok k)) number told)))
  | inr high ↦ absurd (let number = number_none j e o high in
      let none : ◌≡◌ {A = Result ℕ EndError} (opening_as e None).0 (Ok k) = subst (λ z. ◌≡◌ {A = Result ℕ EndError} (opening_as e z).0 (Ok k)) number told in cc)
]
