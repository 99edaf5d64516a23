-- Receive maxes that are set at an end to which nothing came.
use Rattle.std.proofs.Common.{◌≡◌, ℕ, zero, suc, ◌+◌, ◌-◌, ◌*◌, ◌%◌, ◌<◌, ◌≤◌, true, false, cond, List, [], ◌∷◌, max, set, length, replicate, refl, sym, ap, subst, ◌∙◌, arith, Option, None, Some, inl, inr, nat_eq, nat_le, slice_index}
use Rattle.std.specs.Prelude.{is_some}
use Rattle.std.proofs.lemmas.Bool.{cases_Bool, cases_eq, cases_lt}
use Rattle.std.proofs.lemmas.Bool.Decides.{nat_tests}
use Rattle.std.proofs.lemmas.List.{length-replicate, length-set}
use Rattle.std.proofs.lemmas.Nat.{mod-mul-add}
use Rattle.st_streams.specs.Slots.{slot}
use Rattle.st_streams.proofs.SlotLemmas.{set_here, set_or, set_there, slot_within}
use Rattle.st_sender.specs.Sending.{Config, Outgoing, outgoing_at}
use Rattle.st_receiver.specs.Streams.{Incoming, Receiving, fresh_incoming, incoming_at, incoming_or, may_name, new_receiving, with_incoming, with_kept, with_max, with_receive_max}
use Rattle.st_keys.specs.Keys.{DerivedKeys}
use Rattle.st_end.specs.declared.role.Role.{Role}
use Rattle.st_end.specs.declared.role.Role.TheVariants.{Client, Server}
use Rattle.st_end.specs.State.{EndState, new_end, parity}
use Rattle.st_end.specs.Calls.{set_receive_max}
use Rattle.st_world_quiet.specs.Left.{money_left}
use Rattle.st_world_quiet.specs.Mirrored.{IsAbreast}
use Rattle.st_world_quiet.specs.Exchanges.{IsModest, opened_receiving}
use Rattle.st_world_quiet.specs.Calls.{MaySend, allow_each, other}
use Rattle.st_world_quiet.specs.Trips.{CanTell}
use Rattle.st_world_quiet.proofs.Sums.{sum_below}
use Rattle.st_world_quiet.proofs.Lowering.{no_slot, place_below}
use Rattle.st_world_quiet.proofs.EndOpening.{opening_abreast}
use Rattle.st_world_quiet.proofs.Beginning.{IsBegun, begun_opening}

-- ---- the values that are kept

pub record Allows (q : ℕ) (money : ℕ → ℕ) (first : ℕ) (f : EndState) : Type 0 where
  pub kept : List ℕ
  pub is : f.receiving ≡ opened_receiving q kept
  pub long : length kept ≡ 65
  pub most : (k : ℕ) → k < first → k < 65 → may_name (new_receiving q) k ≡ true → money k ≤ slice_index kept k
  pub few : (k : ℕ) → slice_index kept k ≤ money k

kept_where_none : (r : Receiving) (k a : ℕ) → slot r.streams k ≡ None → with_receive_max r k a ≡ with_kept r k a
kept_where_none r k a none = ap (λ o. cond (is_some o) (with_incoming r k (with_max a (incoming_at r k))) (with_kept r k a)) none

kept_next : (q first a : ℕ) (kept : List ℕ) → with_receive_max (opened_receiving q kept) first a ≡ opened_receiving q (set kept first (max (slice_index kept first) a))
kept_next q first a kept = kept_where_none (opened_receiving q kept) first a (no_slot {A = Incoming} first)

one_allowed : (q : ℕ) (money : ℕ → ℕ) (first : ℕ) (f : EndState) → Allows q money first f → Allows q money (first + 1) (set_receive_max f first (money first)).1
one_allowed q money first f h = elim (cases_Bool (may_name (new_receiving q) first)) [
  | inl may ↦ subst (Allows q money (first + 1)) (sym (taken may)) (record {
    kept = next;
    is = ap (λ r. with_receive_max r first (money first)) h.is ∙ kept_next q first (money first) h.kept;
    long = length-set h.kept first _ ∙ h.long;
    most = λ k l within name. elim (cases_eq k first) [
      | inl same ↦ subst (λ i. money i ≤ slice_index next i) (sym same) (here (let w = within in omega (arith, w, same)))
      | inr apart ↦ (let was : slice_index next k ≡ slice_index h.kept k = set_there h.kept first (max (slice_index h.kept first) (money first)) 0 k apart in let old = h.most k (omega (arith, l, apart)) within name in omega (arith, was, old))
    ];
    few = λ k. elim (set_or h.kept first (max (slice_index h.kept first) (money first)) 0 k) [
      | inl here ↦ (let old = h.few first in let is = here.1 in subst (λ i. slice_index next i ≤ money i) (sym here.0) (omega (arith, old, is)))
      | inr there ↦ (let old = h.few k in omega (arith, old, there))
    ];
  })
  | inr never ↦ subst (Allows q money (first + 1)) (sym (refused never)) (record {
    kept = h.kept;
    is = h.is;
    long = h.long;
    most = λ k l within name. elim (cases_eq k first) [
      | inl same ↦ absurd (let no : may_name (new_receiving q) k ≡ false = ap (may_name (new_receiving q)) same ∙ never in cc)
      | inr apart ↦ h.most k (omega (arith, l, apart)) within name
    ];
    few = h.few;
  })
]
  where
    next : List ℕ
    next = set h.kept first (max (slice_index h.kept first) (money first))

    here : first < 65 → money first ≤ slice_index next first
    here l = let is : slice_index next first ≡ max (slice_index h.kept first) (money first) = set_here h.kept first (max (slice_index h.kept first) (money first)) 0 (let long = h.long in omega (arith, l, long)) in omega (arith, is)

    name : may_name f.receiving first ≡ may_name (new_receiving q) first
    name = ap (λ r. may_name r first) h.is

    taken : may_name (new_receiving q) first ≡ true → (set_receive_max f first (money first)).1 ≡ record f { receiving = with_receive_max f.receiving first (money first) }
    taken may = let b = name ∙ may in rw b refl

    refused : may_name (new_receiving q) first ≡ false → (set_receive_max f first (money first)).1 ≡ f
    refused never = let b = name ∙ never in rw b refl

all_allowed : (q : ℕ) (money : ℕ → ℕ) (first count : ℕ) (f : EndState) → Allows q money first f → Allows q money (first + count) (allow_each money first count f)
unfolding allow_each
all_allowed q money first zero f h = subst (λ n. Allows q money n f) (let z : first ≡ first + 0 = omega arith in z) h
all_allowed q money first (suc m) f h =
    subst (λ n. Allows q money n (allow_each money first (suc m) f)) (let z : first + 1 + m ≡ first + suc m = omega arith in z)
    (all_allowed q money (first + 1) m (set_receive_max f first (money first)).1 (one_allowed q money first f h))

no_kept : (m k : ℕ) → slice_index (replicate {A = ℕ} m 0) k ≡ 0
no_kept zero k = refl
no_kept (suc m) zero = refl
no_kept (suc m) (suc k) = no_kept m k

pub calls_allow : (role : Role) (keys : DerivedKeys) (own peer : List ℕ) (config : Config) (money : ℕ → ℕ) → Allows (parity role) money 65 (allow_each money 0 65 (new_end role keys own peer config))
calls_allow role keys own peer config money =
    all_allowed (parity role) money 0 65 (new_end role keys own peer config) (record { kept = replicate 65 0; is = refl; long = length-replicate {A = ℕ} 65 0; most = λ k l. absurd (omega (arith, l)); few = λ k. (let none = no_kept 65 k in omega (arith, none)) })

-- ---- the peer of an end that opened streams

named : (k q : ℕ) → 1 ≤ k → k ≤ 64 → nat_eq (k % 2) q ≡ false → may_name (new_receiving q) k ≡ true
named k q low high apart = let a : nat_le 1 k ≡ true = grind (arith, nat_tests) in let b : nat_le k 64 ≡ true = grind (arith, nat_tests) in let none = no_slot {A = Incoming} k in rw (a, b, none, apart) refl

pub may_peer : (role : Role) (k i : ℕ) → i < 32 → k ≡ 2 * i + (2 - parity role) → may_name (new_receiving (parity (other role))) k ≡ true
may_peer Client k i l is =
    let odd : k % 2 ≡ 1 = ap (λ n. n % 2) (let z : k ≡ i * 2 + 1 = omega (arith, is) in z) ∙ mod-mul-add i 2 1 (omega arith) in
    named k 0 (omega (arith, is)) (omega (arith, is, l)) (grind (arith, nat_tests))
may_peer Server k i l is =
    let even : k % 2 ≡ 0 = ap (λ n. n % 2) (let z : k ≡ (i + 1) * 2 + 0 = omega (arith, is) in z) ∙ mod-mul-add (i + 1) 2 0 (omega arith) in
    named k 1 (omega (arith, is)) (omega (arith, is, l)) (grind (arith, nat_tests))

pub money_within : (n : ℕ) (o : Option Outgoing) → ((x : Outgoing) → o ≡ Some x → x.offered ≤ n) → money_left o ≤ n
money_within n None h = omega arith
money_within n (Some x) h = let l = h x refl in omega (arith, l)

pub begun_abreast : (role : Role) (n money : ℕ → ℕ) (config : Config) (e f : EndState) → MaySend config → IsModest n → IsModest money → IsBegun (parity role) n money config e → Allows (parity (other role)) money 65 f → IsAbreast n e.sending f.receiving
begun_abreast role n money config e f may modest_input modest begun allows =
    subst (IsAbreast n e.sending) (sym allows.is) (opening_abreast n config e.sending (parity (other role)) allows.kept modest_input (begun_opening (parity role) n money config e may begun) (record {
      named = name;
      most = λ k x at. (let is = offer k x at in let within = slot_within e.sending.streams k x at in let slots = begun.slots in let l = allows.most k (omega (arith, within, slots)) (omega (arith, within, slots)) (name k x at) in omega (arith, is, l));
      credit = (let l = sum_below (λ k. money_left (outgoing_at e.sending k)) money (λ k. money_within (money k) (outgoing_at e.sending k) (λ x at. (let is = offer k x at in omega (arith, is)))) 0 65 in omega (arith, l, modest));
    }))
  where
    offer : (k : ℕ) (x : Outgoing) → outgoing_at e.sending k ≡ Some x → x.offered ≡ money k
    offer k x at = let is : x.offered ≡ 0 + money k = ap (λ (z : Outgoing). z.offered) (begun.streams k x at).is in omega (arith, is)

    name : (k : ℕ) (x : Outgoing) → outgoing_at e.sending k ≡ Some x → may_name (new_receiving (parity (other role))) k ≡ true
    name k x at = let own = begun.own k x at in may_peer role k own.0 own.1 own.2

pub allowed_tells : (q : ℕ) (money : ℕ → ℕ) (f : EndState) → IsModest money → Allows q money 65 f → CanTell f.receiving
allowed_tells q money f modest h k =
    let is : (incoming_at f.receiving k).receive_max ≡ slice_index h.kept k = ap (λ r. (incoming_at r k).receive_max) h.is ∙ ap (λ (x : Incoming). x.receive_max) (ap (incoming_or (fresh_incoming (slice_index h.kept k))) (no_slot {A = Incoming} k)) in
    elim (cases_lt k 65) [
      | inl low ↦ (let few = h.few k in let below = place_below money k 0 65 (omega arith) (omega (arith, low)) in omega (arith, is, few, below, modest))
      | inr past ↦ (let none = past_kept h.kept k (let long = h.long in omega (arith, long, past)) in omega (arith, is, none))
    ]
  where
    past_kept : (xs : List ℕ) (k : ℕ) → length xs ≤ k → slice_index xs k ≡ 0
    past_kept [] k l = refl
    past_kept (x ∷ xs) zero l = absurd (omega arith)
    past_kept (x ∷ xs) (suc k) l = past_kept xs k (omega arith)
