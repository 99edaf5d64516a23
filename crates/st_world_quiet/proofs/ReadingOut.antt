-- Reads of each open stream take all that can be read.
use Rattle.std.proofs.Common.{◌≡◌, ◌≢◌, ℕ, zero, suc, ◌+◌, ◌<◌, ◌≤◌, Bool, true, false, not, ◌&&◌, ◌||◌, cond, List, [], ◌∷◌, length, take, refl, sym, ap, subst, ◌∙◌, arith, Option, None, Some, ◌⊎◌, inl, inr, nat_eq, nat_le, slice_index}
use Rattle.std.specs.Prelude.{is_some, ◌%◌}
use Rattle.std.specs.FinMap as fmap
use Rattle.std.specs.Ordering.{nat_cmp}
use Rattle.std.proofs.lemmas.Bool.{cases_eq, cases_lt}
use Rattle.std.proofs.lemmas.Bool.Decides.{nat_tests}
use Rattle.std.proofs.lemmas.List.{length-set, take_all}
use Rattle.st_streams.specs.Slots.{Slots, slot, with_slot}
use Rattle.st_streams.proofs.SlotLemmas.{slot_cases}
use Rattle.st_reassembly.specs.Held.{Held, nothing_held}
use Rattle.st_reassembly.specs.Run.{run}
use Rattle.st_reassembly.proofs.Pointwise.{reads_after}
use Rattle.st_reassembly.proofs.Runs.{is_run}
use Rattle.st_receiver.specs.Streams.{Incoming, Receiving, fresh_incoming, incoming_at, incoming_or, is_open, with_incoming}
use Rattle.st_receiver.specs.Reading.{after_bytes, after_get, after_got, after_got_by}
use Rattle.st_world_quiet.specs.Mirrored.{IsReadOut}
use Rattle.st_world_quiet.specs.Exchanges.{read_each, read_open}
use Rattle.st_world_quiet.proofs.Receiving.{replaced_here}
use Rattle.st_world_quiet.proofs.Reading.{run_is_all}
use Rattle.st_world_quiet.proofs.Staying.{received_is}

-- ---- one read of what a stream holds

record Takes (h t : Held) : Type 0 where
  read : t.read ≡ h.read + length (run h)
  bytes : (q : ℕ) → t.read ≤ q → fmap.get t.bytes q ≡ fmap.get h.bytes q
  end : t.end ≡ h.end
  aborted : t.aborted ≡ h.aborted

bytes_taken : (limit : ℕ) (h : Held) (xs : List ℕ) → length (run h) ≤ limit → xs ≡ run h → Takes h (after_bytes limit h xs)
bytes_taken limit h [] short is = record { read = (let none : 0 ≡ length (run h) = ap length is in omega (arith, none)); bytes = λ q l. refl; end = refl; aborted = refl }
bytes_taken limit h (x ∷ xs) short is =
    let reads = reads_after (length (take limit (run h))) h in
    let all : length (take limit (run h)) ≡ length (run h) = ap length (take_all limit (run h) short) in
    let read = reads.read in
    record {
      read = omega (arith, read, all);
      bytes = λ q l. reads.bytes q ∙ past (h.read + length (take limit (run h))) q (fmap.get h.bytes q) (omega (arith, read, l));
      end = reads.end;
      aborted = reads.aborted;
    }
  where
    past : (n q : ℕ) (g : Option ℕ) → n ≤ q → cond (nat_le n q) g None ≡ g
    past n q g l = let b : nat_le n q ≡ true = grind (arith, nat_tests) in rw b refl

got_takes : (limit : ℕ) (h : Held) (a : Option ℕ) → a ≡ None → length (run h) ≤ limit → Takes h (after_got_by a limit h)
got_takes limit h None e short = bytes_taken limit h (take limit (run h)) short (take_all limit (run h) short)
got_takes limit h (Some code) e short = absurd (cc)

nothing_runs : length (run nothing_held) ≡ 0
nothing_runs =
    let all = run_is_all nothing_held (run nothing_held) 0 (is_run nothing_held) (omega arith) (λ q from till. absurd (omega (arith, till))) (λ q past. fmap.get-empty nat_cmp q) in
    omega (arith, all)

-- ---- a stream once each was read

abbrev got_if : Bool → ℕ → Incoming → Incoming
got_if b limit x = cond b (after_get limit x) x

read_other_if : (b : Bool) (limit : ℕ) (r : Receiving) (j k : ℕ) → k ≢ j → incoming_at (cond b (after_got r j limit) r) k ≡ incoming_at r k
read_other_if true limit r j k n = elim (replaced_here r j (after_get limit (incoming_at r j)) k) [ inl is ↦ absurd (n is.0) | inr is ↦ is ]
read_other_if false limit r j k n = refl

set_here : (r : Receiving) (k : ℕ) (y : Incoming) → is_open r k ≡ true → incoming_at (with_incoming r k y) k ≡ y
set_here r k y some = ap (incoming_or (fresh_incoming (slice_index r.kept k))) (there r.streams k some)
  where
    there : (xs : Slots Incoming) (k : ℕ) → is_some (slot xs k) ≡ true → slot (with_slot xs k y) k ≡ Some y
    there [] k some = absurd (cc)
    there (x ∷ xs) zero some = refl
    there (x ∷ xs) (suc k) some = there xs k some

read_here_if : (b : Bool) (limit : ℕ) (r : Receiving) (k : ℕ) → is_open r k ≡ b → incoming_at (cond b (after_got r k limit) r) k ≡ got_if b limit (incoming_at r k)
read_here_if true limit r k e = set_here r k (after_get limit (incoming_at r k)) e
read_here_if false limit r k e = refl

open_if : (b : Bool) (limit : ℕ) (r : Receiving) (j k : ℕ) → is_open r j ≡ b → is_open (cond b (after_got r j limit) r) k ≡ is_open r k
open_if false limit r j k e = refl
open_if true limit r j k e = elim (slot_cases r.streams j (after_get limit (incoming_at r j)) k) [
  | inl h ↦ (let now : is_some (slot (with_slot r.streams j (after_get limit (incoming_at r j))) j) ≡ true = ap is_some h.1 in
      subst (λ i. is_open (after_got r j limit) i ≡ is_open r i) (sym h.0) (now ∙ sym e))
  | inr h ↦ ap is_some h
]

record SameBeside (r t : Receiving) : Type 0 where
  slots : length t.streams ≡ length r.streams
  opens : (k : ℕ) → is_open t k ≡ is_open r k
  parity : t.parity ≡ r.parity
  closed : t.closed ≡ r.closed
  fulfilled : t.fulfilled ≡ r.fulfilled
  credit : t.credit ≡ r.credit

beside_if : (b : Bool) (limit : ℕ) (r : Receiving) (j : ℕ) → is_open r j ≡ b → SameBeside r (cond b (after_got r j limit) r)
beside_if true limit r j e = record { slots = length-set r.streams j _; opens = λ k. open_if true limit r j k e; parity = refl; closed = refl; fulfilled = refl; credit = refl }
beside_if false limit r j e = record { slots = refl; opens = λ k. refl; parity = refl; closed = refl; fulfilled = refl; credit = refl }

beside_each : (limit a m : ℕ) (r : Receiving) → SameBeside r (read_each limit a m r)
unfolding read_each
beside_each limit a zero r = record { slots = refl; opens = λ k. refl; parity = refl; closed = refl; fulfilled = refl; credit = refl }
beside_each limit a (suc m) r =
    let first = beside_if (is_open r a) limit r a refl in
    let rest = beside_each limit (a + 1) m (read_open limit r a) in
    record {
      slots = rest.slots ∙ first.slots;
      opens = λ k. rest.opens k ∙ first.opens k;
      parity = rest.parity ∙ first.parity;
      closed = rest.closed ∙ first.closed;
      fulfilled = rest.fulfilled ∙ first.fulfilled;
      credit = rest.credit ∙ first.credit;
    }

others_stay : (limit a m : ℕ) (r : Receiving) (k : ℕ) → (k < a) ⊎ (a + m ≤ k) → incoming_at (read_each limit a m r) k ≡ incoming_at r k
unfolding read_each
others_stay limit a zero r k h = refl
others_stay limit a (suc m) r k h = others_stay limit (a + 1) m (read_open limit r a) k (further h) ∙ read_other_if (is_open r a) limit r a k (apart h)
  where
    further : (k < a) ⊎ (a + suc m ≤ k) → (k < a + 1) ⊎ (a + 1 + m ≤ k)
    further (inl l) = inl (omega arith)
    further (inr l) = inr (omega arith)

    apart : (k < a) ⊎ (a + suc m ≤ k) → k ≢ a
    apart h = omega arith

each_at : (limit a m : ℕ) (r : Receiving) (k : ℕ) → a ≤ k → k < a + m → incoming_at (read_each limit a m r) k ≡ got_if (is_open r k) limit (incoming_at r k)
unfolding read_each
each_at limit a zero r k from till = absurd (omega arith)
each_at limit a (suc m) r k from till = elim (cases_eq k a) [
  | inl same ↦ others_stay limit (a + 1) m (read_open limit r a) k (inl (omega (arith, same)))
      ∙ subst (λ i. incoming_at (read_open limit r a) i ≡ got_if (is_open r i) limit (incoming_at r i)) (sym same) (read_here_if (is_open r a) limit r a refl)
  | inr apart ↦ (let was = read_other_if (is_open r a) limit r a k apart in
      let opened = (beside_if (is_open r a) limit r a refl).opens k in
      each_at limit (a + 1) m (read_open limit r a) k (omega (arith, from, apart)) (omega arith) ∙ ap (λ b. got_if b limit (incoming_at (read_open limit r a) k)) opened ∙ ap (λ x. got_if (is_open r k) limit x) was)
]

past_slots : (xs : Slots Incoming) (k : ℕ) → length xs ≤ k → is_some (slot xs k) ≡ false
past_slots [] k l = refl
past_slots (x ∷ xs) zero l = absurd (omega arith)
past_slots (x ∷ xs) (suc k) l = past_slots xs k (omega arith)

stream_at : (limit : ℕ) (r : Receiving) (k : ℕ) → length r.streams ≡ 65 → incoming_at (read_each limit 0 65 r) k ≡ got_if (is_open r k) limit (incoming_at r k)
stream_at limit r k slots = elim (cases_lt k 65) [
  | inl l ↦ each_at limit 0 65 r k (omega arith) (omega (arith, l))
  | inr past ↦ (let none = past_slots r.streams k (omega (arith, slots, past)) in others_stay limit 0 65 r k (inr (omega (arith, past))) ∙ ap (λ b. got_if b limit (incoming_at r k)) (sym none))
]

takes_if : (b : Bool) (limit m : ℕ) (o : Option Incoming) → is_some o ≡ b → (incoming_or (fresh_incoming m) o).held.aborted ≡ None → length (run (incoming_or (fresh_incoming m) o).held) ≤ limit
    → Takes (incoming_or (fresh_incoming m) o).held (got_if b limit (incoming_or (fresh_incoming m) o)).held
takes_if true limit m o e alive short = let x = incoming_or (fresh_incoming m) o in got_takes limit x.held x.held.aborted alive short
takes_if false limit m None e alive short = record { read = (let z = nothing_runs in omega (arith, z)); bytes = λ q l. refl; end = refl; aborted = refl }
takes_if false limit m (Some x) e alive short = absurd (cc)

kept_if : {A : Type 0} (g : Incoming → A) (b : Bool) (x y : Incoming) → g y ≡ g x → g (cond b y x) ≡ g x
kept_if g true x y e = e
kept_if g false x y e = refl

-- all that can be read was read, and nothing else has changed
pub each_read : (limit : ℕ) (r : Receiving) → length r.streams ≡ 65 → ((k : ℕ) → (incoming_at r k).held.aborted ≡ None) → ((k : ℕ) → length (run (incoming_at r k).held) ≤ limit) → IsReadOut r (read_each limit 0 65 r)
each_read limit r slots alive short = record {
  slots = beside.slots;
  names = λ k. ap (λ p. nat_le 1 k && nat_le k 64 && (is_open (read_each limit 0 65 r) k || not (nat_eq (k % 2) p))) beside.parity
      ∙ ap (λ b. nat_le 1 k && nat_le k 64 && (b || not (nat_eq (k % 2) r.parity))) (beside.opens k);
  read = λ k. ap (λ (x : Incoming). x.held.read) (stream_at limit r k slots) ∙ (takes k).read;
  bytes = λ k q l. (let at = stream_at limit r k slots in
      ap (λ (x : Incoming). fmap.get x.held.bytes q) at ∙ (takes k).bytes q (subst (λ (x : Incoming). x.held.read ≤ q) at l));
  end = λ k. ap (λ (x : Incoming). x.held.end) (stream_at limit r k slots) ∙ (takes k).end;
  aborted = λ k. ap (λ (x : Incoming). x.held.aborted) (stream_at limit r k slots) ∙ (takes k).aborted;
  highest = λ k. received_is (read_each limit 0 65 r) k ∙ ap (λ (x : Incoming). x.highest) (stream_at limit r k slots) ∙ kept_if (λ x. x.highest) (is_open r k) (incoming_at r k) _ refl ∙ sym (received_is r k);
  receive_max = λ k. ap (λ (x : Incoming). x.receive_max) (stream_at limit r k slots) ∙ kept_if (λ x. x.receive_max) (is_open r k) (incoming_at r k) _ refl;
  credited = λ k. ap (λ (x : Incoming). x.credited) (stream_at limit r k slots) ∙ kept_if (λ x. x.credited) (is_open r k) (incoming_at r k) _ refl;
  closed = beside.closed;
  fulfilled = beside.fulfilled;
  credit = beside.credit;
}
  where
    beside : SameBeside r (read_each limit 0 65 r)
    beside = beside_each limit 0 65 r

    takes : (k : ℕ) → Takes (incoming_at r k).held (got_if (is_open r k) limit (incoming_at r k)).held
    takes k = takes_if (is_open r k) limit (slice_index r.kept k) (slot r.streams k) refl (alive k) (short k)
