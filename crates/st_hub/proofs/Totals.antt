-- Totals do not fall if nothing that an end counts falls.
use Rattle.std.proofs.Common.{◌≡◌, ℕ, suc, ◌+◌, ◌≤◌, List, [], ◌∷◌, map, length, refl, ◌∙◌, arith}
use Rattle.std.specs.Prelude.{sum}
use Rattle.std.proofs.lemmas.List.Sums.{sum_by-cons}
use Rattle.st_streams.specs.Slots.{Slots, slot}
use Rattle.st_sender.specs.Sending.{Outgoing}
use Rattle.st_sender.specs.Refusals.{accepted_of, all_accepted}
use Rattle.st_receiver.specs.Streams.{Incoming, delivered_of}
use Rattle.st_receiver.specs.Limits.{capped}
use Rattle.st_queues.specs.Watching.{IsUpTo}
use Rattle.st_end.specs.State.{EndState}
use Rattle.st_end.specs.Totals.{totals}
use Rattle.st_hub.specs.Keeping.{Keeps, Rises}

accepted_rise : (xs ys : Slots Outgoing) → length ys ≡ length xs → ((k : ℕ) → accepted_of (slot xs k) ≤ accepted_of (slot ys k)) → all_accepted xs ≤ all_accepted ys
accepted_rise [] ys w h = omega arith
accepted_rise (x ∷ xs) [] w h = absurd (omega arith)
accepted_rise (x ∷ xs) (y ∷ ys) w h = omega (arith, h 0, accepted_rise xs ys (omega arith) (λ k. h (suc k)))

sum-cons : (x : ℕ) (xs : List ℕ) → sum (x ∷ xs) ≡ x + sum xs
sum-cons x xs = sum_by-cons (λ n. n) x xs

delivered_rise : (xs ys : Slots Incoming) → length ys ≡ length xs → ((k : ℕ) → delivered_of (slot xs k) ≤ delivered_of (slot ys k)) → sum (map delivered_of xs) ≤ sum (map delivered_of ys)
delivered_rise [] ys w h = omega arith
delivered_rise (x ∷ xs) [] w h = absurd (omega arith)
delivered_rise (x ∷ xs) (y ∷ ys) w h =
    let a = sum-cons (delivered_of x) (map delivered_of xs) in
    let b = sum-cons (delivered_of y) (map delivered_of ys) in
    omega (arith, h 0, delivered_rise xs ys (omega arith) (λ k. h (suc k)))

capped_rise : (m n : ℕ) → m ≤ n → capped m ≤ capped n
capped_rise m n h = omega arith

pub totals_rise : (a b : EndState) → Rises a b → IsUpTo (totals a) (totals b)
totals_rise a b r = (
  capped_rise _ _ (accepted_rise a.sending.streams b.sending.streams r.sent_width r.accepted),
  capped_rise _ _ (delivered_rise a.receiving.streams b.receiving.streams r.read_width r.read),
  r.credit,
  capped_rise a.sending.paid b.sending.paid r.paid,
)

pub keeps_rises : (n : ℕ) (a b : EndState) → Keeps n a b → Rises a b
keeps_rises n a b h = record {
  sent_width = h.sent.width;
  accepted = λ k. omega (arith, (h.sent.each k).accepted);
  is_open = λ k. (h.sent.each k).is_open;
  read_width = h.read.width;
  read = λ k. omega (arith, h.read.each k);
  credit = omega (arith, h.read.credit);
  parity = h.read.parity;
  paid = h.sent.paid;
}

pub rises_same : (e : EndState) → Rises e e
rises_same e = record {
  sent_width = refl;
  accepted = λ k. omega arith;
  is_open = λ k e. e;
  read_width = refl;
  read = λ k. omega arith;
  credit = omega arith;
  parity = refl;
  paid = omega arith;
}

pub rises_join : (a b c : EndState) → Rises a b → Rises b c → Rises a c
rises_join a b c f g = record {
  sent_width = g.sent_width ∙ f.sent_width;
  accepted = λ k. omega (arith, f.accepted k, g.accepted k);
  is_open = λ k e. g.is_open k (f.is_open k e);
  read_width = g.read_width ∙ f.read_width;
  read = λ k. omega (arith, f.read k, g.read k);
  credit = omega (arith, f.credit, g.credit);
  parity = g.parity ∙ f.parity;
  paid = omega (arith, f.paid, g.paid);
}
