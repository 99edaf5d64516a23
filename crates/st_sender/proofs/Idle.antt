-- The numbers by which a frame may be sent, and the current limits.
use Rattle.std.proofs.Common.{◌≡◌, ◌≢◌, ℕ, zero, suc, ◌+◌, ◌/◌, ◌<◌, ◌≤◌, Bool, true, false, cond, ◌||◌, List, [], ◌∷◌, length, max, slice_get, refl, sym, ap, subst, ◌∙◌, arith, Option, None, Some, inl, inr, eqb}
use Rattle.std.specs.Prelude.{is_some, slice_index, IsSome}
use Rattle.std.specs.List.{list_any, sum_by}
use Rattle.std.specs.FinMap as fmap
use Rattle.std.proofs.lemmas.Bool.{cases_eq}
use Rattle.std.proofs.lemmas.Bool.Decides.{nat_tests}
use Rattle.st_frames.specs.Frames.{Known, CloseFrame, ConnectionClose, OtherFrame, LimitFrame, BlockedFrame, StreamClose, StreamMoney, StreamData}
use Rattle.st_streams.specs.Slots.{Slots, slot}
use Rattle.st_sender.specs.Sending.{Outgoing, Data, Whole, SentFrame, Flight, Sending, outgoing_at}
use Rattle.st_sender.specs.Flights.{any_frame, carries, due_at, sent_end, flying_end, highest_end, all_ends, flying_least, room_for, due_money}
use Rattle.st_sender.specs.Due.{IsDueData, IsDueMoney, IsDueClose}
use Rattle.st_sender.specs.Loads.{Fits, MoneyFits, least_of, load_with}
use Rattle.st_sender.specs.Plain.{IsIdleOf}
use Rattle.st_oer.specs.Ratios.{Ratio, IsRatio, exchanged}
use Rattle.st_frames.specs.Told.{money_of, money_in, shares_of}
use Rattle.std.proofs.lemmas.List.Sums.{sum_by-cons}
use Rattle.st_sender.specs.Paying.{payable, payable_at, allowed_money}
use Rattle.st_frames.specs.Written.{packet_length}
use native.Mathlib.Nat.{zero-mul, zero-div}
use Rattle.st_sender.specs.Lanes.{SendStream, due_in, out_of, outs, flying_by, flying_in, AreBooked}
use Rattle.st_sender.specs.declared.bounds.Bounds.{Bounds}
use Rattle.st_sender.specs.Allowed.{bounds, end_in, end_at, lane_ends, IsAllowed, IsReadyAt, NoneReady, IsFinishedAt, NoneUnit, IsRest, AreBytes, least_for}
use Rattle.st_streams.proofs.SlotLemmas.{slot_within}
use Rattle.st_sender.proofs.Seen.{out_slot}
use Rattle.st_sender.proofs.Sums.{sum_over, sum_same, sum_with}
use Rattle.st_sender.proofs.Lengths.{data_rises, data_packet, close_packet, money_packet}
use Rattle.st_sender.proofs.Money.{own_amount}
use Rattle.st_sender.proofs.Rates.{fits_allowed, exchanged_rises}

abbrev pub data_alone : ℕ → ℕ → List ℕ → List Known
data_alone k o xs = StreamData k o xs ∷ []

abbrev pub data_flown : ℕ → ℕ → ℕ → List SentFrame
data_flown k o n = Data k o n ∷ []

abbrev pub close_alone : ℕ → ℕ → List Known
close_alone k code = CloseFrame (StreamClose k code []) ∷ []

pub own_end : (k o n : ℕ) → max (cond (eqb k k) (o + n) 0) 0 ≡ o + n
own_end k o n = grind (arith, nat_tests)

pub other_end : (k m o n : ℕ) → k ≢ m → max (cond (eqb k m) (o + n) 0) 0 ≡ 0
other_end k m o n h = grind (arith, nat_tests)

no_higher : (a c d : ℕ) → a ≡ d → c ≡ 0 → max a c ≡ d
no_higher a c d e z = omega arith

flown_test : (b c : Bool) (n : ℕ) (r : Option ℕ) → is_some r ≡ c → is_some (cond b (Some n) r) ≡ (b || c)
flown_test true c n r e = refl
flown_test false c n r e = e

-- a byte is in flight exactly if some flight carries it
pub flown : (k : ℕ) (ps : List Flight) (o : ℕ) → is_some (flying_by k ps o) ≡ any_frame (carries k o) ps
flown k [] o = refl
flown k (p ∷ ps) o = flown_test (list_any (carries k o) p.frames) (any_frame (carries k o) ps) p.sequence (flying_by k ps o) (flown k ps o)

-- nothing is exchanged for nothing
pub none_exchanged : (r : Ratio) → exchanged r 0 ≡ 0
none_exchanged r = ap (λ n. n / r.den) (zero-mul r.num) ∙ zero-div r.den

pub none_least : (s : Sending) → least_of s 0 ≡ 0
none_least s = omega (arith, none_exchanged s.config.least)

pub free_length : (s : Sending) (n room : ℕ) (fs : List Known) → packet_length n (least_of s 0) fs ≤ room → packet_length n 0 fs ≤ room
free_length s n room fs h = subst (λ (l : ℕ). packet_length n l fs ≤ room) (none_least s) h

pub length_free : (s : Sending) (n room : ℕ) (fs : List Known) → packet_length n 0 fs ≤ room → packet_length n (least_of s 0) fs ≤ room
length_free s n room fs h = subst (λ (l : ℕ). packet_length n l fs ≤ room) (sym (none_least s)) h

pub none_more : (t : Option (ℕ × ℕ)) (flying more : ℕ) → more ≡ 0 → MoneyFits t flying more
none_more None flying more e = tt
none_more (Some t) flying more e = omega arith

-- and nothing needs no room
pub none_needed : (r : Ratio) → room_for r 0 ≡ 0
none_needed r = omega (arith, none_exchanged r)

no_money : (s : Sending) (t : Option (ℕ × ℕ)) (flying : ℕ) → MoneyFits t flying (room_for s.config.least 0)
no_money s t flying = none_more t flying (room_for s.config.least 0) (none_needed s.config.least)

pub opened : (o : Option SendStream) (x : Outgoing) → out_of o ≡ Some x → (l : SendStream) × (o ≡ Some l) × (l.out ≡ x)
opened None x e = absurd (cc)
opened (Some l) x e = (l, refl, (let f : ◌≡◌ {A = Option Outgoing} (Some l.out) (Some x) = e in cc))

first_byte : (xs : List ℕ) → 0 < length xs → (b : ℕ) × (slice_get xs 0 ≡ Some b)
first_byte [] h = absurd (omega arith)
first_byte (x ∷ xs) h = (x, refl)

byte_at : (xs : List ℕ) (i : ℕ) → i < length xs → (b : ℕ) × (slice_get xs i ≡ Some b)
byte_at [] i h = absurd (omega arith)
byte_at (x ∷ xs) zero h = (x, refl)
byte_at (x ∷ xs) (suc i) h = byte_at xs i (omega arith)

index_get : (xs : List ℕ) (i b : ℕ) → slice_get xs i ≡ Some b → (i < length xs) × (slice_index xs i ≡ b)
index_get [] i b e = absurd (cc)
index_get (x ∷ xs) zero b e = (omega arith, cc)
index_get (x ∷ xs) (suc i) b e = let r = index_get xs i b e in (omega (arith, r.0), r.1)

same_end : (flights : List Flight) (k : ℕ) (s : Sending) (o : Option SendStream) → s.flights ≡ flights → sent_end s k (out_of o) ≡ end_in flights k o
same_end flights k s None e = refl
same_end flights k s (Some l) e = ap (λ ps. max l.out.acked_end (flying_end k ps)) e

module _ (s : Sending) (lanes : Slots SendStream) (room : ℕ) (is : s.streams ≡ outs lanes) (len : length lanes ≡ 65) (booked : AreBooked lanes s.flights) where
  abbrev b : Bounds
  b = bounds lanes s.flights s.told (s.last + 1) room

  lane_of : (k : ℕ) → outgoing_at s k ≡ out_of (slot lanes k)
  lane_of k = ap (λ (xs : Slots Outgoing). slot xs k) is ∙ out_slot lanes k

  pub lane_open : (k : ℕ) (x : Outgoing) → outgoing_at s k ≡ Some x → (l : SendStream) × (slot lanes k ≡ Some l) × (l.out ≡ x)
  lane_open k x e = opened (slot lanes k) x (sym (lane_of k) ∙ e)

  pub seen_open : (k : ℕ) (l : SendStream) → slot lanes k ≡ Some l → outgoing_at s k ≡ Some l.out
  seen_open k l e = lane_of k ∙ ap out_of e

  pub within : (k : ℕ) (l : SendStream) → slot lanes k ≡ Some l → k < 65
  within k l e = omega (arith, slot_within lanes k l e, len)

  -- what is due in the model is due in the lane
  pub due_same : (k : ℕ) (l : SendStream) → slot lanes k ≡ Some l → (q : ℕ) → due_at s k l.out q ≡ due_in l q
  due_same k l e q = ap (λ t. cond t None (fmap.get l.out.unacked q)) (sym (ap is_some (sym (ap (λ y. flying_in y q) e) ∙ booked k q) ∙ flown k s.flights q))

  due_lane : (k o : ℕ) (xs : List ℕ) (d : IsDueData s k o xs) (l : SendStream) → slot lanes k ≡ Some l → (i byte : ℕ) → slice_get xs i ≡ Some byte → due_in l (o + i) ≡ Some byte
  due_lane k o xs d l e i byte g =
      let a = d.is_open in
      let c = seen_open k l e in
      let same : d.stream ≡ l.out = cc in
      sym (due_same k l e (o + i)) ∙ ap (λ (x : Outgoing). due_at s k x (o + i)) (sym same) ∙ d.bytes i byte g

  pub sent_at : (k : ℕ) → sent_end s k (outgoing_at s k) ≡ end_at lanes s.flights k
  sent_at k = ap (λ y. sent_end s k y) (lane_of k) ∙ same_end s.flights k s (slot lanes k) refl

  pub ends_same : all_ends s [] ≡ lane_ends lanes s.flights 0 65
  unfolding all_ends lane_ends
  ends_same = sum_same (λ k. max (sent_end s k (outgoing_at s k)) 0) (end_at lanes s.flights) 0 65 (λ k h. omega (arith, sent_at k))

  pub ends_with : (k o n : ℕ) → k < 65 → all_ends s (data_flown k o n) + end_at lanes s.flights k ≡ lane_ends lanes s.flights 0 65 + max (end_at lanes s.flights k) (o + n)
  unfolding all_ends lane_ends
  ends_with k o n h =
      sum_with (end_at lanes s.flights) (λ j. max (sent_end s j (outgoing_at s j)) (highest_end j (data_flown k o n))) k 0 65 (omega arith) (omega arith)
      (λ j d. no_higher _ _ _ (sent_at j) (other_end k j o n (λ e. d (sym e))))
      ∙ ap (λ z. sum_over (end_at lanes s.flights) 0 65 + z) (ap (λ z. max z (highest_end k (data_flown k o n))) (sent_at k) ∙ ap (λ z. max (end_at lanes s.flights k) z) (own_end k o n))

  pub ends_whole : (g : Known) → all_ends s (Whole g ∷ []) ≡ lane_ends lanes s.flights 0 65
  unfolding all_ends lane_ends
  ends_whole g = sum_same (λ j. max (sent_end s j (outgoing_at s j)) 0) (end_at lanes s.flights) 0 65 (λ j h. omega (arith, sent_at j))

  pub end_here : (k : ℕ) (l : SendStream) → slot lanes k ≡ Some l → end_at lanes s.flights k ≡ max l.out.acked_end (flying_end k s.flights)
  end_here k l e = ap (λ y. end_in s.flights k y) e

  -- what fits is allowed by the numbers, and so is a part of it
  allowed_by : (k o : ℕ) (xs : List ℕ) (l : SendStream) → slot lanes k ≡ Some l → lane_ends lanes s.flights 0 65 ≤ s.told → Fits s room (load_with s (data_alone k o xs)) → (n : ℕ) → n ≤ length xs → IsAllowed s.flights b k l o n
  allowed_by k o xs l e under fits n short =
      let top = fits.streams k l.out (seen_open k l e) in
      let grown = ends_with k o (length xs) (within k l e) in
      let size = free_length s (s.last + 1) room (data_alone k o xs) fits.room_left in
      record {
        stream = omega (arith, top, own_end k o (length xs), short);
        connection = omega (arith, grown, end_here k l e, fits.connection, short, under);
        room_left = omega (arith, size, data_packet (s.last + 1) k o xs, data_rises (s.last + 1) k o o n (length xs) (omega arith) short);
      }

  -- if no byte is ready by the numbers, no bytes that are due fit
  pub no_data : lane_ends lanes s.flights 0 65 ≤ s.told → NoneReady lanes s.flights b 65 → (k o : ℕ) (xs : List ℕ) → IsDueData s k o xs → Fits s room (load_with s (data_alone k o xs)) → ⊥
  no_data under none k o xs due fits =
      let found = lane_open k due.stream due.is_open in
      let l = found.0 in
      let first = first_byte xs due.some in
      let at : o + 0 ≡ o = omega arith in
      none k l (within k l found.1) found.1 o first.0 (rw at at (due_lane k o xs due l found.1 0 first.0 first.1)) (allowed_by k o xs l found.1 under fits 1 (omega (arith, due.some)))

  -- if not even one unit may be sent, no due money fits
  pub no_unit : IsRatio s.config.least → NoneUnit lanes s.flights s.config.least s.packet_limit b 65 → (k n : ℕ) → IsDueMoney s k n → Fits s room (load_with s (StreamMoney k n ∷ [])) → ⊥
  no_unit ratio none k n due fits =
      let found = lane_open k due.stream due.is_open in
      let l = found.0 in
      let r = s.config.least in
      let x = due.stream in
      let shares : sum_by shares_of (StreamMoney k n ∷ []) ≡ n = omega (arith, sum_by-cons shares_of (StreamMoney k n) []) in
      let own : money_in k (StreamMoney k n ∷ []) ≡ n = omega (arith, sum_by-cons (money_of k) (StreamMoney k n) [], own_amount k n) in
      let money : MoneyFits x.advertised_money (flying_least s k) (room_for r n) = subst (λ m. MoneyFits x.advertised_money (flying_least s k) (room_for r m)) own (fits.money k x due.is_open) in
      let most = fits_allowed r ratio x.advertised_money (flying_least s k) (due_money s k x) n due.due money in
      let here : payable_at lanes r s.flights k ≡ allowed_money r x.advertised_money (flying_least s k) (due_money s k x) =
      ap (λ o. payable r s.flights k o) found.1 ∙ ap (λ (y : Outgoing). allowed_money r y.advertised_money (flying_least s k) (due_money s k y)) found.2 in
      let some : 0 < payable_at lanes r s.flights k = omega (arith, here, most, due.some) in
      let stops = none k (within k l found.1) some (omega (arith, fits.amount, shares, due.some)) in
      let least : least_for r 1 ≤ least_of s (sum_by shares_of (StreamMoney k n ∷ [])) = omega (arith, exchanged_rises r ratio 1 (sum_by shares_of (StreamMoney k n ∷ [])) (omega (arith, shares, due.some))) in
      omega (arith, stops, fits.room_left, money_packet (s.last + 1) (least_for r 1) (least_of s (sum_by shares_of (StreamMoney k n ∷ []))) k n least due.some)

  -- neither bytes, money nor a close may go
  pub idle : (limits : List Known) → lane_ends lanes s.flights 0 65 ≤ s.told → IsRatio s.config.least → IsRest lanes s.flights s.config.least s.packet_limit b → IsIdleOf true s limits room
  idle limits under ratio rest (StreamMoney k n) p due fits = no_unit ratio rest.1 k n due fits
  idle limits under ratio rest (StreamData k o xs) p due fits = no_data under rest.0.0 k o xs due fits
  idle limits under ratio rest (CloseFrame (StreamClose k code message)) p due fits =
      let d : IsDueClose s k code = due.0 in
      let found = lane_open k d.stream d.is_open in
      let empty : message ≡ [] = due.1 in
      let f : Fits s room (load_with s (close_alone k code)) = subst (λ m. Fits s room (load_with s ((CloseFrame (StreamClose k code m)) ∷ []))) empty fits in
      let size = free_length s (s.last + 1) room (close_alone k code) f.room_left in
      rest.0.1 k found.0 (within k found.0 found.1) found.1 code (record { idle = d.idle; asked = rw found.2 d.asked; room_left = omega (arith, size, close_packet (s.last + 1) k code) })
  idle limits under ratio rest (BlockedFrame b) p due fits = absurd (cc)
  idle limits under ratio rest (LimitFrame l) p due fits = absurd (cc)
  idle limits under ratio rest (CloseFrame (ConnectionClose code message)) p due fits = absurd (cc)
  idle limits under ratio rest (OtherFrame o) p due fits = absurd (cc)

  -- a frame that is ready by the numbers is due
  pub data_due : (c : Bounds) (k o n : ℕ) (r : IsReadyAt lanes s.flights c k o n) (xs : List ℕ) → AreBytes r.lane o n xs → IsDueData s k o xs
  data_due c k o n r xs bytes = record {
    stream = r.lane.out;
    is_open = seen_open k r.lane r.is_open;
    some = omega (arith, bytes.long, r.ready.some);
    short = omega (arith, bytes.long, r.ready.short);
    bytes = λ i byte g.
        let at = index_get xs i byte g in
        due_same k r.lane r.is_open (o + i)
        ∙ due_held (is_some (fmap.get r.lane.flying (o + i))) (fmap.get r.lane.out.unacked (o + i)) byte (r.ready.due (o + i) (omega arith) (omega (arith, at.0, bytes.long)))
        (bytes.bytes i (omega (arith, at.0, bytes.long)) ∙ ap (λ z. Some z) at.1);
  }
    where
      due_held : (t : Bool) (g : Option ℕ) (x : ℕ) → IsSome (cond t None g) → g ≡ Some x → cond t None g ≡ Some x
      due_held true g x h e = absurd (cc)
      due_held false g x h e = e

  pub close_due : (c : Bounds) (k code : ℕ) → IsFinishedAt lanes s.flights c k code → IsDueClose s k code
  close_due c k code r = record { stream = r.lane.out; is_open = seen_open k r.lane r.is_open; idle = r.finished.idle; asked = r.finished.asked }
