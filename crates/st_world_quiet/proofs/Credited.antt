-- The receiver credits the money of an outgoing packet.
use Rattle.std.proofs.Common.{◌≡◌, ℕ, zero, suc, ◌+◌, ◌^◌, ◌<◌, ◌≤◌, true, false, List, [], ◌∷◌, length, map, sum, get_or, refl, sym, ap, ◌∙◌, arith, Option, None, Some, inl, inr, nat_eq, nat_lt, nat_le}
use Rattle.std.specs.List.{range_with_len}
use Rattle.std.proofs.lemmas.Bool.{cases_lt}
use Rattle.std.proofs.lemmas.Bool.Decides.{nat_tests}
use Rattle.st_streams.specs.Slots.{Slots, slot}
use Rattle.st_frames.specs.Frames.{Known, max_packet}
use Rattle.st_frames.specs.Told.{money_in, shares}
use Rattle.st_sender.specs.Sending.{Load, Outgoing, Sending, outgoing_at}
use Rattle.st_sender.specs.Loads.{Sends, with_flight}
use Rattle.st_receiver.specs.Streams.{Incoming, Receiving, incoming_at}
use Rattle.st_receiver.specs.Data.{after_frames}
use Rattle.st_receiver.specs.Money.{any_over_max, is_over_max, money_fault, parts}
use Rattle.st_receiver.specs.Inside.{over_at}
use Rattle.st_receiver.proofs.Splits.{share_at}
use Rattle.st_receiver.proofs.Crediting.{fault_nothing, frames_credit, le_not, paid_fault}
use Rattle.st_world_quiet.specs.Quiet.{IsQuiet}
use Rattle.st_world_quiet.specs.Left.{all_money_left}
use Rattle.st_world_quiet.specs.Mirrored.{IsAhead, Tally}
use Rattle.st_world_quiet.proofs.Money.{all_over_streams, due_is_left, money_after, none_in}
use Rattle.st_world_quiet.proofs.Receiving.{parts_are_shares}

none_over : (xs : Slots Incoming) (f : ℕ → ℕ) (a m : ℕ) → ((i : ℕ) → is_over_max (slot xs i) (f (a + i)) ≡ false) → any_over_max xs (map f (range_with_len a m)) ≡ false
none_over [] f a m h = refl
none_over (x ∷ xs) f a zero h = refl
none_over (x ∷ xs) f a (suc m) h =
    let place : a + 0 ≡ a = omega arith in
    let first : is_over_max x (f a) ≡ false = rw place at (h 0) in
    let rest = none_over xs f (a + 1) m (λ i. let p : a + 1 + i ≡ a + suc i = omega arith in rw p (h (suc i))) in
    rw (first, rest) refl

none_over_shares : (r : Receiving) (fs : List Known) → ((k : ℕ) → is_over_max (slot r.streams k) (money_in k fs) ≡ false) → any_over_max r.streams (shares fs) ≡ false
unfolding shares
none_over_shares r fs h = none_over r.streams (λ k. money_in k fs) 0 65 (λ i. let p : 0 + i ≡ i = omega arith in rw p (h i))

pub money_fine : (r : Receiving) (amount : ℕ) (fs : List Known) → sum (shares fs) ≡ amount → r.credit + amount < 2 ^ 63 → ((k : ℕ) → is_over_max (slot r.streams k) (money_in k fs) ≡ false) → money_fault r amount fs ≡ None
money_fine r amount fs is few h = elim (cases_lt 0 amount) [
  | inl some ↦ (let a : nat_le (2 ^ 64) amount ≡ false = grind (arith, nat_tests) in
      let b : nat_eq amount 0 ≡ false = grind (arith, nat_tests) in
      let c : nat_lt 0 amount ≡ true = grind (arith, nat_tests) in
      let d : nat_le (2 ^ 63) (r.credit + amount) ≡ false = grind (arith, nat_tests) in
      let split : parts (sum (shares fs)) (shares fs) ≡ shares fs = parts_are_shares (shares fs) (omega (arith, is, some)) in
      let same : parts amount (shares fs) ≡ shares fs = rw is at split in
      let e = none_over_shares r fs h in
      rw (is, a, b, c, same, e, d) refl)
  | inr none ↦ (let z : amount ≡ 0 = omega (arith, none) in rw (is, z) refl)
]

-- ---- the money of an outgoing packet, at a receiver that is abreast

pub part_is_share : (amount : ℕ) (fs : List Known) (k : ℕ) → sum (shares fs) ≡ amount → 0 < amount → k < 65 → get_or (parts amount (shares fs)) k 0 ≡ money_in k fs
part_is_share amount fs k is some l =
    let split : parts (sum (shares fs)) (shares fs) ≡ shares fs = parts_are_shares (shares fs) (omega (arith, is, some)) in
    let same : parts amount (shares fs) ≡ shares fs = rw is at split in
    ap (λ ps. get_or ps k 0) same ∙ share_at fs k l

pub shares_amount : (s : Sending) (limits : List Known) (p : Load) → length s.streams ≡ 65 → Sends s limits max_packet p (with_flight s p) → sum (shares p.frames) ≡ p.amount
unfolding shares
shares_amount s limits p slots sends = all_over_streams s limits p.frames slots sends.due ∙ sym (ap (λ (z : Load). z.amount) sends.load)

pub part_within : {c : Tally} (n : ℕ → ℕ) (s : Sending) (limits : List Known) (p : Load) (r : Receiving) (k : ℕ) (o : Option Outgoing) → IsQuiet n s → Sends s limits max_packet p (with_flight s p) → IsAhead n c s r → k < 65 → outgoing_at s k ≡ o
    → (incoming_at r k).credited + money_in k p.frames ≤ (incoming_at r k).receive_max
part_within n s limits p r k None quiet sends abreast l e = let none = none_in s limits k p.frames sends.due e in let within = abreast.within k l in omega (arith, none, within)
part_within n s limits p r k (Some x) quiet sends abreast l e =
    let w = quiet.streams k x e in
    let due = due_is_left s k x quiet.alone w.alive in
    let few = sends.money k x e in
    let paid = w.paid in
    let credited = abreast.credited k x e in
    let most = abreast.most k x e in
    omega (arith, due, few, paid, credited, most)

pub amount_left : (n : ℕ → ℕ) (s : Sending) (limits : List Known) (p : Load) → IsQuiet n s → Sends s limits max_packet p (with_flight s p) → p.amount ≤ all_money_left s
amount_left n s limits p quiet sends = let m = money_after n s limits max_packet p (with_flight s p) quiet sends in omega (arith, m)

pub load_money : {c : Tally} (n : ℕ → ℕ) (s : Sending) (limits : List Known) (p : Load) (r : Receiving) → IsQuiet n s → Sends s limits max_packet p (with_flight s p) → IsAhead n c s r → money_fault (after_frames r p.frames) p.amount p.frames ≡ None
load_money n s limits p r quiet sends abreast =
    let fs = p.frames in
    let is = shares_amount s limits p quiet.slots sends in
    let few = amount_left n s limits p quiet sends in
    let credit = abreast.credit in
    elim (cases_lt 0 p.amount) [
      | inl some ↦ (let same = frames_credit r fs in
          let much : nat_le (2 ^ 63) ((after_frames r fs).credit + p.amount) ≡ false = le_not (2 ^ 63) ((after_frames r fs).credit + p.amount) (omega (arith, same, few, credit)) in
          sym (paid_fault r p.amount (sum (shares fs)) fs (shares fs) (parts p.amount (shares fs)) false false abreast.mirrored.slots refl (omega (arith, is, few, credit)) (λ z. omega (arith, z, some)) refl (λ z. omega (arith, z, is, some)) refl (over some) much))
      | inr none ↦ sym (fault_nothing (after_frames r fs) p.amount fs (omega (arith, is, few, credit)) (omega (arith, none)))
    ]
  where
    over_if : (most credited part share : ℕ) → part ≡ share → credited + share ≤ most → nat_lt most (credited + part) ≡ false
    over_if most credited part share e l = grind (arith, nat_tests)

    over : 0 < p.amount → (k : ℕ) → k < 65 → over_at r k (get_or (parts p.amount (shares p.frames)) k 0) ≡ false
    over some k l = over_if (incoming_at r k).receive_max (incoming_at r k).credited _ (money_in k p.frames) (part_is_share p.amount p.frames k (shares_amount s limits p quiet.slots sends) some l) (part_within n s limits p r k (outgoing_at s k) quiet sends abreast l refl)
