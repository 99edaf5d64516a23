-- What an end has once streams were opened on it, with money and input.
use Rattle.std.proofs.Common.{◌≡◌, ◌≢◌, ℕ, zero, suc, ◌+◌, ◌-◌, ◌*◌, ◌^◌, ◌<◌, ◌≤◌, false, cond, List, map, length, refl, sym, ap, subst, ◌∙◌, arith, Option, None, Some, inl, inr, nat_le}
use Rattle.std.specs.FinMap as fmap
use Rattle.std.specs.List.{range_with_len}
use Rattle.std.specs.Ordering.{nat_cmp}
use Rattle.std.proofs.lemmas.Bool.{cases_eq}
use Rattle.std.proofs.lemmas.Bool.Decides.{nat_tests}
use Rattle.std.proofs.lemmas.List.{length-set}
use Rattle.st_streams.proofs.SlotLemmas.{slot_apart, slot_here}
use Rattle.st_sender.specs.declared.error.OutboxError.TheVariants.{AmountTooLarge}
use Rattle.st_sender.specs.Sending.{Config, Outgoing, Sending, new_outgoing, new_sending, outgoing_at, with_outgoing}
use Rattle.st_sender.specs.Accepting.{after_offer}
use Rattle.st_sender.specs.Refusals.{accepted_of, all_offered, is_closed, offered_of, offer_refusal, refusal_at, too_much}
use Rattle.st_keys.specs.Keys.{DerivedKeys}
use Rattle.st_end.specs.declared.role.Role.{Role}
use Rattle.st_end.specs.declared.role.Role.TheVariants.{Client, Server}
use Rattle.st_end.specs.State.{EndState, new_end, parity}
use Rattle.st_end.specs.Calls.{connection_refusal, first_free, free_or, offer, open_stream, opened_unless, opening_as, own_number, with_stream}
use Rattle.st_world_quiet.specs.Rounds.{IsOpening, IsRefilled, Refilled}
use Rattle.st_world_quiet.specs.Exchanges.{IsModest}
use Rattle.st_world_quiet.specs.Calls.{AreHeldBack, IsFed, IsHeldBack, MaySend, begin_each, begun, lengths, written_on}
use Rattle.st_world_quiet.proofs.Lowering.{no_slot}
use Rattle.st_world_quiet.proofs.Feeding.{FedAt, Within, call_taken, fed_at, room_left, room_of, within_by}

-- ---- an own number that is free

pub record IsFree (p : ℕ) (s : Sending) (k : ℕ) : Type 0 where
  pub place : ℕ
  pub low : place < 32
  pub is : k ≡ 2 * place + (2 - p)
  pub none : outgoing_at s k ≡ None

abbrev FoundIn : (f : ℕ → ℕ) (s : Sending) (k a m : ℕ) → Type 0
FoundIn f s k a m = (i : ℕ) × (i < a + m) × (k ≡ f i) × (outgoing_at s k ≡ None)

found_by : (f : ℕ → ℕ) (s : Sending) (k a m : ℕ) (o : Option Outgoing) (later : Option ℕ) → outgoing_at s (f a) ≡ o → (later ≡ Some k → FoundIn f s k (a + 1) m) → free_or o (f a) later ≡ Some k → FoundIn f s k a (suc m)
found_by f s k a m None later at rest e = let is : f a ≡ k = cc in (a, omega arith, sym is, subst (λ j. outgoing_at s j ≡ None) is at)
found_by f s k a m (Some x) later at rest e = let found = rest e in let l = found.1 in (found.0, omega (arith, l), found.2, found.3)

found_free : (f : ℕ → ℕ) (s : Sending) (k a m : ℕ) → first_free s (map f (range_with_len a m)) ≡ Some k → FoundIn f s k a m
found_free f s k a zero e = absurd (cc)
found_free f s k a (suc m) e = found_by f s k a m (outgoing_at s (f a)) (first_free s (map f (range_with_len (a + 1) m))) refl (λ later. found_free f s k (a + 1) m later) e

own_free : (e : EndState) (k : ℕ) → own_number e ≡ Some k → IsFree e.receiving.parity e.sending k
unfolding own_number
own_free e k is = let h = found_free (λ i. 2 * i + (2 - e.receiving.parity)) e.sending k 0 32 is in let l = h.1 in record { place = h.0; low = omega (arith, l); is = h.2; none = h.3 }

-- ---- an end on which streams were opened

pub record IsBegun (p : ℕ) (n money : ℕ → ℕ) (config : Config) (e : EndState) : Type 0 where
  pub rest : e.sending ≡ record (new_sending config) { streams = e.sending.streams }
  pub slots : length e.sending.streams ≡ 65
  pub unclosed : e.receiving.closed ≡ false
  pub parity : e.receiving.parity ≡ p
  pub streams : (k : ℕ) (y : Outgoing) → outgoing_at e.sending k ≡ Some y → IsRefilled (n k) (record new_outgoing { offered = 0 + money k }) y
  pub own : (k : ℕ) (y : Outgoing) → outgoing_at e.sending k ≡ Some y → (i : ℕ) × (i < 32) × (k ≡ 2 * i + (2 - p))
  pub held_back : AreHeldBack n e.sending

fresh_fed : (n money : ℕ) → IsFed n (record new_outgoing { offered = money })
fresh_fed n money = record {
  row = record {
    front = λ q l. absurd (omega (arith, l));
    row = λ q from till. absurd (omega (arith, till));
    past = λ q l. fmap.get-empty nat_cmp q;
    within = omega arith;
  };
  alive = refl;
  total = omega arith;
  held_back = record { kept = omega arith; ended = λ e. absurd (cc) };
}

-- ---- one more

stream_begun : (p : ℕ) (input : ℕ → List ℕ) (money : ℕ → ℕ) (config : Config) (e : EndState) (k : ℕ) → p ≤ 1 → IsModest (lengths input) → IsModest money → IsBegun p (lengths input) money config e → IsFree p e.sending k
    → IsBegun p (lengths input) money config (written_on (input k) (offer (with_stream e k) k (money k)).1 k)
stream_begun p input money config e k few modest modest_money h free =
    subst (λ z. IsBegun p (lengths input) money config (written_on (input k) z k)) (sym offered) (record {
      rest = ap (λ (z : EndState). z.sending) fed.beside.rest ∙ ap (λ (z : Sending). record z { streams = last.sending.streams }) h.rest;
      slots = fed.beside.slots ∙ there_slots;
      unclosed = ap (λ (z : EndState). z.receiving.closed) fed.beside.rest ∙ h.unclosed;
      parity = ap (λ (z : EndState). z.receiving.parity) fed.beside.rest ∙ h.parity;
      streams = λ j y at. elim (cases_eq j k) [
        | inl same ↦ subst (λ i. IsRefilled (length (input i)) (record new_outgoing { offered = 0 + money i }) y) (sym same) (this y (subst (λ i. outgoing_at last.sending i ≡ Some y) same at))
        | inr apart ↦ h.streams j y (before j y apart at)
      ];
      own = λ j y at. elim (cases_eq j k) [
        | inl same ↦ (free.place, free.low, same ∙ free.is)
        | inr apart ↦ h.own j y (before j y apart at)
      ];
      held_back = λ j y at. elim (cases_eq j k) [
        | inl same ↦ subst (λ i. IsHeldBack (length (input i)) y) (sym same) (fed.held_back y (subst (λ i. outgoing_at last.sending i ≡ Some y) same at))
        | inr apart ↦ h.held_back j y (before j y apart at)
      ];
    })
  where
    x : Outgoing
    x = record new_outgoing { offered = 0 + money k }

    one : EndState
    one = with_stream e k

    two : EndState
    two = record one { sending = with_outgoing one.sending k x }

    last : EndState
    last = written_on (input k) two k

    alive : e.sending.failed ≡ false
    alive = ap (λ (z : Sending). z.failed) h.rest

    one_slots : length one.sending.streams ≡ 65
    one_slots = length-set e.sending.streams k (Some new_outgoing) ∙ h.slots

    there_slots : length two.sending.streams ≡ 65
    there_slots = length-set one.sending.streams k (Some x) ∙ one_slots

    below : k < 65
    below = let low = free.low in let is = free.is in omega (arith, few, low, is)

    at_one : outgoing_at one.sending k ≡ Some new_outgoing
    at_one = slot_here e.sending.streams k new_outgoing (let l = below in let s = h.slots in omega (arith, l, s))

    at_two : outgoing_at two.sending k ≡ Some x
    at_two = slot_here one.sending.streams k x (let l = below in let s = one_slots in omega (arith, l, s))

    other_one : (j : ℕ) → j ≢ k → outgoing_at one.sending j ≡ outgoing_at e.sending j
    other_one j n = slot_apart e.sending.streams k new_outgoing j n

    other_two : (j : ℕ) → j ≢ k → outgoing_at two.sending j ≡ outgoing_at e.sending j
    other_two j n = slot_apart one.sending.streams k x j n ∙ other_one j n

    offers : (j : ℕ) → offered_of (outgoing_at one.sending j) ≤ money j
    offers j = elim (cases_eq j k) [
      | inl same ↦ (let is : offered_of (outgoing_at one.sending j) ≡ 0 = ap (λ i. offered_of (outgoing_at one.sending i)) same ∙ ap offered_of at_one in omega (arith, is))
      | inr apart ↦ (let is = ap offered_of (other_one j apart) in let l = offered_by j (outgoing_at e.sending j) refl in omega (arith, is, l))
    ]
      where
        offered_by : (j : ℕ) (o : Option Outgoing) → outgoing_at e.sending j ≡ o → offered_of o ≤ money j
        offered_by j None at = omega arith
        offered_by j (Some y) at = let is : y.offered ≡ 0 + money j = ap (λ (z : Outgoing). z.offered) (h.streams j y at).is in omega (arith, is)

    fits : offer_refusal one.sending k (money k) ≡ None
    fits = ap (λ o. refusal_at o is_closed (too_much (all_offered one.sending.streams) (money k))) at_one ∙ small (all_offered one.sending.streams) (let room = room_of offered_of all_offered refl (λ o xs. refl) money one.sending.streams k new_outgoing one_slots modest_money offers at_one in omega (arith, room))
      where
        small : (all : ℕ) → all + money k < 2 ^ 63 → cond (nat_le (2 ^ 63) (all + money k)) (Some AmountTooLarge) None ≡ None
        small all l = let b : nat_le (2 ^ 63) (all + money k) ≡ false = grind (arith, nat_tests) in rw b refl

    offered : (offer one k (money k)).1 ≡ two
    offered = call_taken one k new_outgoing (offer_refusal one.sending k (money k)) (after_offer (money k)) at_one alive h.unclosed fits

    within : Within (lengths input) two.sending
    within j = elim (cases_eq j k) [
      | inl same ↦ (let is : accepted_of (outgoing_at two.sending j) ≡ 0 = ap (λ i. accepted_of (outgoing_at two.sending i)) same ∙ ap accepted_of at_two in omega (arith, is))
      | inr apart ↦ (let is = ap accepted_of (other_two j apart) in let l = within_by (length (input j)) (outgoing_at e.sending j) (λ y at. (h.streams j y at).total) in omega (arith, is, l))
    ]

    fed : FedAt (length (input k)) k two last
    fed = fed_at (input k) two k (outgoing_at two.sending k) refl alive h.unclosed
        (λ y at. (let is : ◌≡◌ {A = Option Outgoing} (Some x) (Some y) = sym at_two ∙ at in let same : x ≡ y = cc in subst (IsFed (length (input k))) same (fresh_fed (length (input k)) (0 + money k))))
        (λ y at. room_left (lengths input) two.sending k y there_slots modest within at)

    this : (y : Outgoing) → outgoing_at last.sending k ≡ Some y → IsRefilled (length (input k)) x y
    this y at =
        let r : Refilled (length (input k)) (Some x) (outgoing_at last.sending k) = subst (λ o. Refilled (length (input k)) o (outgoing_at last.sending k)) at_two fed.here in
        let is : ◌≡◌ {A = Option Outgoing} (Some r.0) (Some y) = sym r.1 ∙ at in
        let same : r.0 ≡ y = cc in
        subst (IsRefilled (length (input k)) x) same r.2

    before : (j : ℕ) (y : Outgoing) → j ≢ k → outgoing_at last.sending j ≡ Some y → outgoing_at e.sending j ≡ Some y
    before j y n at = sym (other_two j n) ∙ sym (fed.beside.others j n) ∙ at

one_begun : (p : ℕ) (input : ℕ → List ℕ) (money : ℕ → ℕ) (config : Config) (e : EndState) → p ≤ 1 → IsModest (lengths input) → IsModest money → IsBegun p (lengths input) money config e
    → IsBegun p (lengths input) money config (begun input money (open_stream e))
one_begun p input money config e few modest modest_money h = by (own_number e) refl
  where
    passes : connection_refusal e ≡ None
    passes = let alive : e.sending.failed ≡ false = ap (λ (z : Sending). z.failed) h.rest in let unclosed = h.unclosed in rw (alive, unclosed) refl

    by : (o : Option ℕ) → own_number e ≡ o → IsBegun p (lengths input) money config (begun input money (opening_as e o))
    by None is = h
    by (Some k) is =
        let free = subst (λ z. IsFree z e.sending k) h.parity (own_free e k is) in
        subst (λ z. IsBegun p (lengths input) money config (begun input money (opened_unless e k z))) (sym passes) (stream_begun p input money config e k few modest modest_money h free)

all_begun : (p : ℕ) (input : ℕ → List ℕ) (money : ℕ → ℕ) (config : Config) (count : ℕ) (e : EndState) → p ≤ 1 → IsModest (lengths input) → IsModest money → IsBegun p (lengths input) money config e
    → IsBegun p (lengths input) money config (begin_each input money count e)
unfolding begin_each
all_begun p input money config zero e few modest modest_money h = h
all_begun p input money config (suc m) e few modest modest_money h = all_begun p input money config m (begun input money (open_stream e)) few modest modest_money (one_begun p input money config e few modest modest_money h)

new_begun : (role : Role) (keys : DerivedKeys) (own peer : List ℕ) (n money : ℕ → ℕ) (config : Config) → IsBegun (parity role) n money config (new_end role keys own peer config)
new_begun role keys own peer n money config = record {
  rest = refl;
  slots = refl;
  unclosed = refl;
  parity = refl;
  streams = λ k y at. absurd (let none : ◌≡◌ {A = Option Outgoing} None (Some y) = sym (no_slot k) ∙ at in cc);
  own = λ k y at. absurd (let none : ◌≡◌ {A = Option Outgoing} None (Some y) = sym (no_slot k) ∙ at in cc);
  held_back = λ k y at. absurd (let none : ◌≡◌ {A = Option Outgoing} None (Some y) = sym (no_slot k) ∙ at in cc);
}

few_roles : (role : Role) → parity role ≤ 1
few_roles Client = omega arith
few_roles Server = omega arith

pub calls_begun : (role : Role) (keys : DerivedKeys) (own peer : List ℕ) (config : Config) (input : ℕ → List ℕ) (money : ℕ → ℕ) (count : ℕ) → IsModest (lengths input) → IsModest money
    → IsBegun (parity role) (lengths input) money config (begin_each input money count (new_end role keys own peer config))
calls_begun role keys own peer config input money count modest modest_money =
    all_begun (parity role) input money config count (new_end role keys own peer config) (few_roles role) modest modest_money (new_begun role keys own peer (lengths input) money config)

pub begun_opening : (p : ℕ) (n money : ℕ → ℕ) (config : Config) (e : EndState) → MaySend config → IsBegun p n money config e → IsOpening n config e.sending
begun_opening p n money config e may h = record {
  in_flight = may.in_flight;
  packets = may.packets;
  pays = may.pays;
  whole = may.whole;
  rest = h.rest;
  slots = h.slots;
  streams = λ k y at. (0 + money k, h.streams k y at);
}
