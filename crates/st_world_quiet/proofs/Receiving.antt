-- A receiver accepts the frames of a lossless run: none breaks a rule.
use Rattle.std.proofs.Common.{◌≡◌, ℕ, zero, suc, ◌+◌, ◌-◌, ◌*◌, ◌/◌, ◌^◌, ◌<◌, ◌≤◌, Bool, true, false, not, ◌&&◌, ◌||◌, cond, List, [], ◌∷◌, length, map, max, sum, set, refl, sym, ap, subst, ◌∙◌, arith, Option, None, Some, ◌⊎◌, inl, inr, nat_eq, nat_lt, nat_le}
use Rattle.std.specs.Prelude.{is_err, is_some, slice_index, ◌%◌}
use Rattle.std.proofs.lemmas.List.{length-set}
use Rattle.std.specs.List.{range_with_len, AllByRecursion}
use Rattle.std.proofs.Math.Nat.{mul-div_right}
use Rattle.std.proofs.lemmas.Bool.{cases_eq}
use Rattle.std.proofs.lemmas.Bool.Decides.{nat_tests}
use Rattle.st_streams.specs.Slots.{Slots, slot, with_slot}
use Rattle.st_frames.specs.Frames.{Known, CloseFrame, StreamClose, StreamData, StreamMoney}
use Rattle.st_reassembly.specs.Held.{is_over, Held}
use Rattle.st_reassembly.specs.Inserting.{inserted}
use Rattle.st_reassembly.proofs.Pointwise.{joins_after}
use Rattle.st_receiver.specs.Limits.{connection_limit}
use Rattle.st_receiver.specs.Streams.{Incoming, Receiving, all_received, fresh_incoming, incoming_at, incoming_or, is_open, may_name, opened_stream, read_of, received_of, with_incoming}
use Rattle.st_receiver.specs.Data.{after_data, after_frame, after_frames, data_fault, frame_fault, frames_fault, is_past_connection, stream_fault, with_data}
use Rattle.st_receiver.specs.Money.{parts, rounded, with_rest}
use Rattle.st_streams.proofs.SlotLemmas.{slot_cases}
use Rattle.st_world_quiet.proofs.Sums.{sum_next}

-- no stream has more than `ends` says, and all these ends lie within the connection's limit
pub record IsCalm (ends : ℕ → ℕ) (r : Receiving) : Type 0 where
  pub slots : length r.streams ≡ 65
  pub below : (k : ℕ) → received_of (slot r.streams k) ≤ ends k
  pub alive : (k : ℕ) → (incoming_at r k).held.aborted ≡ None
  pub enough : sum (map ends (range_with_len 0 65)) ≤ connection_limit r

-- a frame names a stream that it may name, and its data end within both windows
abbrev pub FrameFits : (ends : ℕ → ℕ) → Receiving → Known → Type 0
FrameFits ends r (StreamData k o xs) = (may_name r k ≡ true) × (o + length xs ≤ ends k) × (o + length xs ≤ (incoming_at r k).held.read + 65536) × (o + length xs < 2 ^ 64)
FrameFits ends r (StreamMoney k n) = may_name r k ≡ true
FrameFits ends r (CloseFrame (StreamClose k code message)) = may_name r k ≡ true
FrameFits ends r f = Unit {0}

-- frames open streams, and leave every read count and every abort
pub record IsOpened (r t : Receiving) : Type 0 where
  pub names : (k : ℕ) → may_name r k ≡ true → may_name t k ≡ true
  pub reads : (k : ℕ) → (incoming_at t k).held.read ≡ (incoming_at r k).held.read
  pub aborted : (k : ℕ) → (incoming_at t k).held.aborted ≡ (incoming_at r k).held.aborted

-- ---- the split: if the amount that arrives is the amount that was sent, each stream gets its shares

rounded_same : (all : ℕ) (ms : List ℕ) → 0 < all → rounded all all ms ≡ ms
rounded_same all [] some = refl
rounded_same all (m ∷ ms) some = let one : all * m / all ≡ m = mul-div_right m some in let rest = rounded_same all ms some in rw (one, rest) refl

no_rest : (ms : List ℕ) → with_rest 0 ms ms ≡ ms
no_rest [] = refl
no_rest (m ∷ ms) = elim (cases_eq m 0) [
  | inl none ↦ (let b : nat_eq m 0 ≡ true = grind (arith, nat_tests) in rw b (ap (λ l. m ∷ l) (no_rest ms)))
  | inr some ↦ (let b : nat_eq m 0 ≡ false = grind (arith, nat_tests) in let z : m + 0 ≡ m = omega arith in rw (b, z) refl)
]

pub parts_are_shares : (ms : List ℕ) → 0 < sum ms → parts (sum ms) ms ≡ ms
unfolding parts
parts_are_shares ms some =
    let r = rounded_same (sum ms) ms some in
    let z : sum ms - sum ms ≡ 0 = omega arith in
    rw (r, z) (no_rest ms)

-- ---- sums over slots

sum_slots : (g : Option Incoming → ℕ) (h : ℕ → ℕ) (xs : Slots Incoming) (a : ℕ) → ((i : ℕ) → i < length xs → g (slot xs i) ≤ h (a + i)) → sum (map g xs) ≤ sum (map h (range_with_len a (length xs)))
sum_slots g h [] a below = omega arith
sum_slots g h (x ∷ xs) a below =
    let s0 = sum_next (g x) (map g xs) in
    let s1 = sum_next (h a) (map h (range_with_len (a + 1) (length xs))) in
    let first : g x ≤ h (a + 0) = below 0 (omega arith) in
    let place : a + 0 ≡ a = omega arith in
    let first_at : g x ≤ h a = rw place at first in
    let rest = sum_slots g h xs (a + 1) (λ i l. let p : a + 1 + i ≡ a + suc i = omega arith in rw p (below (suc i) (omega arith))) in
    omega (arith, s0, s1, first_at, rest)

pub sum_slots_same : (g : Option Incoming → ℕ) (h : ℕ → ℕ) (xs : Slots Incoming) (a : ℕ) → ((i : ℕ) → g (slot xs i) ≡ h (a + i)) → sum (map g xs) ≡ sum (map h (range_with_len a (length xs)))
sum_slots_same g h [] a same = refl
sum_slots_same g h (x ∷ xs) a same =
    let s0 = sum_next (g x) (map g xs) in
    let s1 = sum_next (h a) (map h (range_with_len (a + 1) (length xs))) in
    let first : g x ≡ h (a + 0) = same 0 in
    let place : a + 0 ≡ a = omega arith in
    let first_at : g x ≡ h a = rw place at first in
    let rest = sum_slots_same g h xs (a + 1) (λ i. let p : a + 1 + i ≡ a + suc i = omega arith in rw p (same (suc i))) in
    omega (arith, s0, s1, first_at, rest)

sum_raised : (g : Option Incoming → ℕ) (xs : Slots Incoming) (k : ℕ) (y : Incoming) → g (slot xs k) ≤ g (Some y) → sum (map g xs) ≤ sum (map g (set xs k (Some y)))
sum_raised g [] k y l = omega arith
sum_raised g (x ∷ xs) zero y l = let s0 = sum_next (g x) (map g xs) in let s1 = sum_next (g (Some y)) (map g xs) in omega (arith, s0, s1, l)
sum_raised g (x ∷ xs) (suc k) y l = let s0 = sum_next (g x) (map g xs) in let s1 = sum_next (g x) (map g (set xs k (Some y))) in let rest = sum_raised g xs k y l in omega (arith, s0, s1, rest)

-- ---- a stream replaced

names_if : (a b c d : Bool) → (a && b && (c || d)) ≡ true → (a && b && (true || d)) ≡ true
names_if true true c d h = refl
names_if true false c d h = h
names_if false b c d h = h

pub read_some : (x : Incoming) → x.held.aborted ≡ None → read_of (Some x) ≡ x.held.read
read_some x alive = rw alive refl

read_slot : (fresh : Incoming) (o : Option Incoming) → (incoming_or fresh o).held.aborted ≡ None → read_of o ≤ (incoming_or fresh o).held.read
read_slot fresh None alive = omega arith
read_slot fresh (Some x) alive = let e = read_some x alive in omega (arith, e)

in_place : (r : Receiving) (k : ℕ) (y : Incoming) (j : ℕ) → ((j ≡ k) × (incoming_at (with_incoming r k y) k ≡ y) × (slot (with_slot r.streams k y) k ≡ Some y)) ⊎ (slot (with_slot r.streams k y) j ≡ slot r.streams j)
in_place r k y j = elim (slot_cases r.streams k y j) [
  | inl h ↦ inl (h.0, ap (incoming_or (fresh_incoming (slice_index r.kept k))) h.1, h.1)
  | inr h ↦ inr h
]

-- a change of one stream leaves what it keeps of that stream at all
pub replaced_at : {A : Type 0} (g : Incoming → A) (r : Receiving) (k : ℕ) (y : Incoming) (j : ℕ) → g y ≡ g (incoming_at r k) → g (incoming_at (with_incoming r k y) j) ≡ g (incoming_at r j)
replaced_at g r k y j same = elim (in_place r k y j) [
  | inl h ↦ rw (h.0) (ap g h.1 ∙ same)
  | inr h ↦ ap (λ o. g (incoming_or (fresh_incoming (slice_index r.kept j)) o)) h
]

-- which stream it is
pub replaced_here : (r : Receiving) (j : ℕ) (y : Incoming) (k : ℕ) → ((k ≡ j) × (incoming_at (with_incoming r j y) k ≡ y)) ⊎ (incoming_at (with_incoming r j y) k ≡ incoming_at r k)
replaced_here r j y k = elim (in_place r j y k) [
  | inl h ↦ inl (h.0, subst (λ i. incoming_at (with_incoming r j y) i ≡ y) (sym h.0) h.1)
  | inr h ↦ inr (ap (incoming_or (fresh_incoming (slice_index r.kept k))) h)
]

replaced_opened : (r : Receiving) (k : ℕ) (y : Incoming) → y.held.read ≡ (incoming_at r k).held.read → y.held.aborted ≡ (incoming_at r k).held.aborted → IsOpened r (with_incoming r k y)
replaced_opened r k y same alike = record {
  names = λ j may. elim (in_place r k y j) [
    | inl h ↦ (let some : is_open (with_incoming r k y) j ≡ true = rw (h.0) (ap is_some h.2) in rw some (names_if (nat_le 1 j) (nat_le j 64) (is_open r j) (not (nat_eq (j % 2) r.parity)) may))
    | inr h ↦ (let as_was : is_open (with_incoming r k y) j ≡ is_open r j = ap is_some h in rw as_was may)
  ];
  reads = λ j. replaced_at (λ x. x.held.read) r k y j same;
  aborted = λ j. replaced_at (λ x. x.held.aborted) r k y j alike;
}

replaced_calm : (ends : ℕ → ℕ) (r : Receiving) (k : ℕ) (y : Incoming) → IsCalm ends r → y.highest ≤ ends k → y.held.read ≡ (incoming_at r k).held.read → y.held.aborted ≡ None → IsCalm ends (with_incoming r k y)
replaced_calm ends r k y calm low same alive = record {
  slots = length-set r.streams k (Some y) ∙ calm.slots;
  below = λ j. elim (in_place r k y j) [
    | inl h ↦ (let P : ℕ → Type 0 = λ i. received_of (slot (with_slot r.streams k y) i) ≤ ends i in subst P (sym h.0) (let e = ap received_of h.2 in omega (arith, e, low)))
    | inr h ↦ (let e = ap received_of h in let b = calm.below j in omega (arith, e, b))
  ];
  alive = λ j. elim (in_place r k y j) [
    | inl h ↦ rw (h.0) (ap (λ (x : Incoming). x.held.aborted) h.1 ∙ alive)
    | inr h ↦ ap (λ o. (incoming_or (fresh_incoming (slice_index r.kept j)) o).held.aborted) h ∙ calm.alive j
  ];
  enough = (let a = calm.enough in
      let was = read_slot (fresh_incoming (slice_index r.kept k)) (slot r.streams k) (calm.alive k) in
      let now = read_some y alive in
      let rises = sum_raised read_of r.streams k y (omega (arith, was, now, same)) in
      omega (arith, a, rises));
}

-- ---- a frame

received_most : (ends : ℕ → ℕ) (r : Receiving) → IsCalm ends r → all_received r ≤ sum (map ends (range_with_len 0 65))
received_most ends r calm =
    let most = sum_slots received_of ends r.streams 0 (λ i l. let p : 0 + i ≡ i = omega arith in rw p (calm.below i)) in
    let l = ap (λ n. sum (map ends (range_with_len 0 n))) calm.slots in
    omega (arith, most, l)

highest_slot : (ends : ℕ) (fresh : Incoming) (o : Option Incoming) → fresh.highest ≡ 0 → received_of o ≤ ends → (incoming_or fresh o).highest ≤ ends
highest_slot ends fresh None z l = omega (arith, z)
highest_slot ends fresh (Some x) z l = l

raised_if : (b : Bool) (old end ends : ℕ) → old ≤ ends → end ≤ ends → cond b old (max old end) ≤ ends
raised_if true old end ends a c = a
raised_if false old end ends a c = omega arith

opened_calm : (ends : ℕ → ℕ) (r : Receiving) (k : ℕ) → IsCalm ends r → IsCalm ends (opened_stream r k)
opened_calm ends r k calm = replaced_calm ends r k (incoming_at r k) calm (highest_slot (ends k) (fresh_incoming (slice_index r.kept k)) (slot r.streams k) refl (calm.below k)) refl (calm.alive k)

data_calm : (ends : ℕ → ℕ) (r : Receiving) (k o : ℕ) (xs : List ℕ) → IsCalm ends r → o + length xs ≤ ends k → IsCalm ends (after_data r k o xs)
data_calm ends r k o xs calm l =
    let x = incoming_at r k in
    let reads = joins_after o xs x.held in
    replaced_calm ends r k (with_data o xs x) calm
    (raised_if _ x.highest (o + length xs) (ends k) (highest_slot (ends k) (fresh_incoming (slice_index r.kept k)) (slot r.streams k) refl (calm.below k)) l)
    reads.read (reads.aborted ∙ calm.alive k)

frame_calm : (ends : ℕ → ℕ) (r : Receiving) (f : Known) → IsCalm ends r → FrameFits ends r f → IsCalm ends (after_frame r f)
frame_calm ends r (StreamData k o xs) calm fits = data_calm ends r k o xs calm fits.1
frame_calm ends r (StreamMoney k n) calm fits = opened_calm ends r k calm
frame_calm ends r (CloseFrame (StreamClose k code message)) calm fits = opened_calm ends r k calm
frame_calm ends r f calm fits = calm

pub opened_same : (r : Receiving) → IsOpened r r
opened_same r = record { names = λ k may. may; reads = λ k. refl; aborted = λ k. refl }

opened_then : (r t u : Receiving) → IsOpened r t → IsOpened t u → IsOpened r u
opened_then r t u a b = record { names = λ k may. b.names k (a.names k may); reads = λ k. b.reads k ∙ a.reads k; aborted = λ k. b.aborted k ∙ a.aborted k }

frame_opened : (r : Receiving) (f : Known) → IsOpened r (after_frame r f)
frame_opened r (StreamData k o xs) = let joins = joins_after o xs (incoming_at r k).held in replaced_opened r k (with_data o xs (incoming_at r k)) joins.read joins.aborted
frame_opened r (StreamMoney k n) = replaced_opened r k (incoming_at r k) refl refl
frame_opened r (CloseFrame (StreamClose k code message)) = replaced_opened r k (incoming_at r k) refl refl
frame_opened r f = opened_same r

fits_on : (ends : ℕ → ℕ) (r t : Receiving) (f : Known) → IsOpened r t → FrameFits ends r f → FrameFits ends t f
fits_on ends r t (StreamData k o xs) opened fits = (opened.names k fits.0, fits.1, (let e = opened.reads k in let l = fits.2 in omega (arith, e, l)), fits.3)
fits_on ends r t (StreamMoney k n) opened fits = opened.names k fits
fits_on ends r t (CloseFrame (StreamClose k code message)) opened fits = opened.names k fits
fits_on ends r t f opened fits = tt

-- ---- no fault

stream_fine : (r : Receiving) (k : ℕ) → may_name r k ≡ true → stream_fault r k ≡ None
stream_fine r k may = rw may refl

and_false : (a b : Bool) → b ≡ false → (a && b) ≡ false
and_false true b e = e
and_false false b e = refl

inserted_fine : (o : ℕ) (xs : List ℕ) (s : Held) → o + length xs ≤ s.read + 65536 → o + length xs < 2 ^ 64 → is_err (inserted o xs s) ≡ false
unfolding inserted
inserted_fine o xs s near small =
    let a : nat_le (2 ^ 64) (o + length xs) ≡ false = grind (arith, nat_tests) in
    let b : nat_lt (s.read + 65536) (o + length xs) ≡ false = grind (arith, nat_tests) in
    let c = and_false (not (is_over s)) (nat_lt (s.read + 65536) (o + length xs)) b in
    rw (a, c) refl

data_fine : (ends : ℕ → ℕ) (r : Receiving) (k o : ℕ) (xs : List ℕ) → IsCalm ends r → FrameFits ends r (StreamData k o xs) → data_fault r k o xs ≡ None
data_fine ends r k o xs calm fits =
    let a = inserted_fine o xs (incoming_at r k).held fits.2 fits.3 in
    let after = data_calm ends r k o xs calm fits.1 in
    let most = received_most ends (after_data r k o xs) after in
    let room = calm.enough in
    let b = not_past (connection_limit r) (all_received (after_data r k o xs)) (omega (arith, most, room)) in
    let c : is_past_connection r k o xs ≡ false = and_false _ _ b in
    rw (a, c) refl
  where
    not_past : (m n : ℕ) → n ≤ m → nat_lt m n ≡ false
    not_past m n l = grind (arith, nat_tests)

frame_fine : (ends : ℕ → ℕ) (r : Receiving) (f : Known) → IsCalm ends r → FrameFits ends r f → frame_fault r f ≡ None
frame_fine ends r (StreamData k o xs) calm fits = rw (stream_fine r k fits.0) (data_fine ends r k o xs calm fits)
frame_fine ends r (StreamMoney k n) calm fits = stream_fine r k fits
frame_fine ends r (CloseFrame (StreamClose k code message)) calm fits = stream_fine r k fits
frame_fine ends r f calm fits = refl

all_fit_on : (ends : ℕ → ℕ) (r t : Receiving) (fs : List Known) → IsOpened r t → AllByRecursion (FrameFits ends r) fs → AllByRecursion (FrameFits ends t) fs
all_fit_on ends r t [] opened fits = tt
all_fit_on ends r t (f ∷ fs) opened fits = (fits_on ends r t f opened fits.0, all_fit_on ends r t fs opened fits.1)

pub frames_fine : (ends : ℕ → ℕ) (r : Receiving) (fs : List Known) → IsCalm ends r → AllByRecursion (FrameFits ends r) fs → frames_fault r fs ≡ None
unfolding frames_fault
frames_fine ends r [] calm fits = refl
frames_fine ends r (f ∷ fs) calm fits =
    rw (frame_fine ends r f calm fits.0) (frames_fine ends (after_frame r f) fs (frame_calm ends r f calm fits.0) (all_fit_on ends r (after_frame r f) fs (frame_opened r f) fits.1))

-- and every read count is as it was
pub frames_opened : (r : Receiving) (fs : List Known) → IsOpened r (after_frames r fs)
unfolding after_frames
frames_opened r [] = opened_same r
frames_opened r (f ∷ fs) = opened_then r (after_frame r f) (after_frames (after_frame r f) fs) (frame_opened r f) (frames_opened (after_frame r f) fs)

-- they keep within what was sent
pub frames_calm : (ends : ℕ → ℕ) (r : Receiving) (fs : List Known) → IsCalm ends r → AllByRecursion (FrameFits ends r) fs → IsCalm ends (after_frames r fs)
unfolding after_frames
frames_calm ends r [] calm fits = calm
frames_calm ends r (f ∷ fs) calm fits = frames_calm ends (after_frame r f) fs (frame_calm ends r f calm fits.0) (all_fit_on ends r (after_frame r f) fs (frame_opened r f) fits.1)
