-- How far frames of several streams raise the sum of the streams' ends.
use Rattle.std.proofs.Common.{◌≡◌, ◌≢◌, ℕ, ◌+◌, ◌-◌, ◌<◌, ◌≤◌, Bool, true, false, ◌||◌, List, [], ◌∷◌, ◌++◌, length, max, refl, sym, ap, subst, ◌∙◌, arith, Some, inl, inr}
use Rattle.std.specs.Prelude.{nat_eq}
use Rattle.std.proofs.lemmas.Bool.{cases_eq}
use Rattle.std.proofs.lemmas.Bool.Decides.{nat_tests}
use Rattle.st_streams.specs.Slots.{Slots, slot}
use Rattle.st_frames.specs.Frames.{Known, CloseFrame, StreamClose}
use Rattle.st_sender.specs.declared.bounds.Bounds.{Bounds}
use Rattle.st_sender.specs.declared.load.SentFrame as code
use Rattle.st_sender.specs.declared.load.SentFrame.TheVariants as held
use Rattle.st_sender.specs.Sending.{Outgoing, Data, Whole, SentFrame, Flight, PeerBlocked, Sending, outgoing_at}
use Rattle.st_sender.specs.Flights.{end_of, highest_end, sent_end, all_ends}
use Rattle.st_sender.specs.Turns.{is_among}
use Rattle.st_sender.specs.Lanes.{SendStream, outs, AreBooked}
use Rattle.st_sender.specs.Shown.{kept, telling}
use Rattle.st_sender.specs.Allowed.{end_at, lane_ends, less, left_by, raise, raises, serves, IsReadyAt, AreNext}
use Rattle.st_sender.proofs.Sums.{sum_same, sum_with}
use Rattle.st_sender.proofs.Serving.{or_false}
use Rattle.st_sender.proofs.Idle.{seen_open, sent_at, ends_same, end_here}

pub own_top : (k o n : ℕ) → end_of k (Data k o n) ≡ o + n
own_top k o n = grind (arith, nat_tests)

pub other_top : (k j o n : ℕ) → nat_eq k j ≡ false → end_of k (Data j o n) ≡ 0
other_top k j o n e = grind (arith, nat_tests)

pub apart_top : (k j o n : ℕ) → j ≢ k → end_of j (Data k o n) ≡ 0
apart_top k j o n d = grind (arith, nat_tests)

-- frames of other streams have no end of a stream
pub no_top : (k : ℕ) (fs : List code.SentFrame) → is_among k (serves fs) ≡ false → highest_end k (kept fs) ≡ 0
no_top k [] e = refl
no_top k (held.Data j o c ∷ fs) e = let w = or_false (nat_eq k j) (is_among k (serves fs)) e in omega (arith, other_top k j o c w.0, no_top k fs w.1)
no_top k (held.Close j by ∷ fs) e = omega (arith, no_top k fs e)
no_top k (held.Notice n ∷ fs) e = omega (arith, no_top k fs e)

-- one summand changed: by how much the sum rises
more_by : (all more old new end top : ℕ) → more + old ≡ all + new → old ≡ end → new ≡ max end top → more ≡ all + (top - end)
more_by all more old new end top sum e f = omega (arith, sum, e, f)

top_none : (a b end : ℕ) → a ≡ end → b ≡ 0 → max a b ≡ end
top_none a b end e f = omega (arith, e, f)

top_own : (a t b end top : ℕ) → a ≡ end → t ≡ top → b ≡ 0 → max a (max t b) ≡ max end top
top_own a t b end top e f g = omega (arith, e, f, g)

module _ (s : Sending) (lanes : Slots SendStream) (is : s.streams ≡ outs lanes) (len : length lanes ≡ 65) (tied : AreBooked lanes s.flights) where
  -- data of a stream that has none among the others
  pub ends_more : (k o n : ℕ) (fs : List SentFrame) → k < 65 → highest_end k fs ≡ 0 → all_ends s (Data k o n ∷ fs) ≡ all_ends s fs + (o + n - end_at lanes s.flights k)
  unfolding all_ends
  ends_more k o n fs h none =
      let changed = sum_with (λ j. max (sent_end s j (outgoing_at s j)) (highest_end j fs)) (λ j. max (sent_end s j (outgoing_at s j)) (highest_end j (Data k o n ∷ fs))) k 0 65 (omega arith) (omega (arith, h))
      (λ j d. ap (λ e. max (sent_end s j (outgoing_at s j)) e) (let z : max (end_of j (Data k o n)) (highest_end j fs) ≡ highest_end j fs = omega (arith, apart_top k j o n d) in z)) in
      more_by _ _ _ _ (end_at lanes s.flights k) (o + n) changed (top_none _ _ _ (sent_at s lanes 0 is len tied k) none) (top_own _ _ _ _ _ (sent_at s lanes 0 is len tied k) (own_top k o n) none)

  ends_whole : (g : Known) (fs : List SentFrame) → all_ends s (Whole g ∷ fs) ≡ all_ends s fs
  unfolding all_ends
  ends_whole g fs = sum_same (λ j. max (sent_end s j (outgoing_at s j)) (highest_end j (Whole g ∷ fs))) (λ j. max (sent_end s j (outgoing_at s j)) (highest_end j fs)) 0 65 (λ j h. omega arith)

  pub next_ends : (m : PeerBlocked) (limits : List Known) (b : Bounds) (fs : List code.SentFrame) → AreNext lanes s.flights m limits b fs → all_ends s (kept fs) ≡ lane_ends lanes s.flights 0 65 + raises lanes s.flights fs
  next_ends m limits b [] p = omega (arith, ends_same s lanes 0 is len tied)
  next_ends m limits b (held.Data k o c ∷ fs) p =
      omega (arith, ends_more k o c (kept fs) p.0.is_own (no_top k fs p.1), next_ends m limits (left_by b (c + 32) (o + c - end_at lanes s.flights k)) fs p.2)
  next_ends m limits b (held.Close k by ∷ fs) p = omega (arith, ends_whole (CloseFrame (StreamClose k by [])) (kept fs), next_ends m limits (less b 20) fs p.1)
  next_ends m limits b (held.Notice n ∷ fs) p = omega (arith, ends_whole (telling n) (kept fs), next_ends m limits (less b 36) fs p.2)

  -- they take no more than is spare
  pub next_raises : (m : PeerBlocked) (limits : List Known) (b : Bounds) (fs : List code.SentFrame) → AreNext lanes s.flights m limits b fs → raises lanes s.flights fs ≤ b.spare
  next_raises m limits b [] p = omega arith
  next_raises m limits b (held.Data k o c ∷ fs) p =
      omega (arith, p.0.ready.allowed.connection, end_here s lanes 0 is len tied k p.0.lane p.0.is_open, next_raises m limits (left_by b (c + 32) (o + c - end_at lanes s.flights k)) fs p.2)
  next_raises m limits b (held.Close k by ∷ fs) p = omega (arith, next_raises m limits (less b 20) fs p.1)
  next_raises m limits b (held.Notice n ∷ fs) p = omega (arith, next_raises m limits (less b 36) fs p.2)

  -- and none ends past its stream's limit
  own_within : (b : Bounds) (k o c : ℕ) → IsReadyAt lanes s.flights b k o c → (j : ℕ) (x : Outgoing) → outgoing_at s j ≡ Some x → end_of j (Data k o c) ≤ x.told
  own_within b k o c r j x at = elim (cases_eq j k) [
    | inl same ↦ (let seen = seen_open s lanes 0 is len tied k r.lane r.is_open in
        let here : outgoing_at s k ≡ Some x = subst (λ i. outgoing_at s i ≡ Some x) same at in
        let own : r.lane.out ≡ x = cc in
        omega (arith, r.ready.allowed.stream, ap (λ (y : Outgoing). y.told) own, ap (λ i. end_of i (Data k o c)) same, own_top k o c))
    | inr other ↦ omega (arith, apart_top k j o c other)
  ]

  pub next_tops : (m : PeerBlocked) (limits : List Known) (b : Bounds) (fs : List code.SentFrame) → AreNext lanes s.flights m limits b fs → (j : ℕ) (x : Outgoing) → outgoing_at s j ≡ Some x → highest_end j (kept fs) ≤ x.told
  next_tops m limits b [] p j x at = omega arith
  next_tops m limits b (held.Data k o c ∷ fs) p j x at = omega (arith, own_within b k o c p.0 j x at, next_tops m limits (left_by b (c + 32) (o + c - end_at lanes s.flights k)) fs p.2 j x at)
  next_tops m limits b (held.Close k by ∷ fs) p j x at = omega (arith, next_tops m limits (less b 20) fs p.1 j x at)
  next_tops m limits b (held.Notice n ∷ fs) p j x at = omega (arith, next_tops m limits (less b 36) fs p.2 j x at)
