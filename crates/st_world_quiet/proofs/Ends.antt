-- The ends of streams while nothing is in flight.
use Rattle.std.proofs.Common.{◌≡◌, ◌≢◌, ℕ, zero, suc, ◌+◌, ◌-◌, ◌≤◌, List, [], ◌∷◌, length, max, refl, sym, ap, arith, Some, map}
use Rattle.std.specs.Prelude.{Contains}
use Rattle.st_frames.specs.Frames.{Known, StreamData}
use Rattle.st_sender.specs.Sending.{Outgoing, Sending, outgoing_at}
use Rattle.st_sender.specs.Flights.{all_ends, end_of, flown, flying_end, highest_end, sent_end}
use Rattle.st_world_quiet.proofs.Sums.{sum_below_but}
use Rattle.st_world_quiet.proofs.Acknowledging.{is_other, is_same}

pub end_apart : (j k o : ℕ) (xs : List ℕ) → j ≢ k → end_of j (flown (StreamData k o xs)) ≡ 0
end_apart j k o xs n = let b = is_other k j (λ e. n (sym e)) in rw b refl

pub end_here : (k o : ℕ) (xs : List ℕ) → end_of k (flown (StreamData k o xs)) ≡ o + length xs
end_here k o xs = let b = is_same k k refl in rw b refl

-- one more frame of a stream raises the sum by what it goes past the acknowledged end
pub ends_more : (s : Sending) (k o : ℕ) (xs : List ℕ) (x : Outgoing) → outgoing_at s k ≡ Some x
    → all_ends s (flown (StreamData k o xs) ∷ []) ≤ all_ends s [] + (o + length xs - x.acked_end)
unfolding all_ends
ends_more s k o xs x e =
    sum_below_but
    (λ j. max (sent_end s j (outgoing_at s j)) (highest_end j (flown (StreamData k o xs) ∷ [])))
    (λ j. max (sent_end s j (outgoing_at s j)) (highest_end j []))
    k (o + length xs - x.acked_end)
    (λ j n. let a = end_apart j k o xs n in omega (arith, a))
    (let a = end_here k o xs in let is : sent_end s k (outgoing_at s k) ≡ max x.acked_end (flying_end k s.flights) = ap (sent_end s k) e in omega (arith, a, is))
    0 65

pub end_within : (k : ℕ) (fs : List Known) (f : Known) → Contains fs f → end_of k (flown f) ≤ highest_end k (map flown fs)
end_within k [] f h = absurd (let l = h.1 in omega (arith, l))
end_within k (g ∷ fs) f (zero, l, e) = let same : end_of k (flown g) ≡ end_of k (flown f) = ap (λ h. end_of k (flown h)) e in omega (arith, same)
end_within k (g ∷ fs) f (suc i, l, e) = let rest = end_within k fs f (i, omega arith, e) in omega (arith, rest)
