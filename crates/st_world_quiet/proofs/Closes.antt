-- Closes that a Send takes away.
use Rattle.std.proofs.Common.{◌≡◌, ℕ, ◌+◌, ◌≤◌, Bool, true, false, ◌&&◌, ◌||◌, cond, List, [], ◌∷◌, length, refl, ap, ◌∙◌, arith, Option, None, Some, nat_eq, map}
use Rattle.std.specs.List.{list_any}
use Rattle.st_frames.specs.Frames.{CloseFrame, ConnectionClose, BlockedFrame, ConnectionDataBlocked, LimitFrame, OtherFrame, Known, StreamClose, StreamData, StreamDataBlocked, StreamMoney, StreamMoneyBlocked}
use Rattle.st_sender.specs.Sending.{Outgoing, Sending, outgoing_at}
use Rattle.st_sender.specs.Flights.{flown, is_close}
use Rattle.st_sender.specs.Answering.{acked_data, acked_money, after_all_acked}
use Rattle.st_world_quiet.specs.Left.{all_closes_left, closes_left}
use Rattle.st_streams.proofs.SlotLemmas.{slot_within}
use Rattle.st_world_quiet.proofs.Sums.{sum_below, sum_less}
use Rattle.st_world_quiet.proofs.Acknowledging.{all_acked_at, all_own_acked, none_stays, own_acked}

or_true : (d : Bool) → true ≡ (d || true)
or_true true = refl
or_true false = refl

or_false : (d : Bool) → d ≡ (d || false)
or_false true = refl
or_false false = refl

or_assoc : (a b c : Bool) → ((a || b) || c) ≡ (a || (b || c))
or_assoc true b c = refl
or_assoc false b c = refl

close_if : (b c : Bool) (x : Outgoing) → (cond b (cond c (record x { clean_settled = true }) (record x { abort_settled = true })) x).clean_settled ≡ (x.clean_settled || (b && c))
close_if true true x = or_true x.clean_settled
close_if true false x = or_false x.clean_settled
close_if false c x = or_false x.clean_settled

same_if : (b : Bool) (x y : Outgoing) → y.clean_settled ≡ x.clean_settled → (cond b y x).clean_settled ≡ (x.clean_settled || false)
same_if true x y e = e ∙ or_false x.clean_settled
same_if false x y e = or_false x.clean_settled

acked_closes : (k : ℕ) (f : Known) (x : Outgoing) → (own_acked k f x).clean_settled ≡ (x.clean_settled || is_close k 1 f)
acked_closes k (CloseFrame (StreamClose j code message)) x = close_if (nat_eq j k) (nat_eq code 1) x
acked_closes k (StreamData j o xs) x = same_if (nat_eq j k) x (acked_data o (length xs) x) refl
acked_closes k (StreamMoney j n) x = same_if (nat_eq j k) x (acked_money n x) refl
acked_closes k (BlockedFrame (StreamDataBlocked j n)) x = same_if (nat_eq j k) x _ refl
acked_closes k (BlockedFrame (StreamMoneyBlocked j n t)) x = same_if (nat_eq j k) x _ refl
acked_closes k (BlockedFrame (ConnectionDataBlocked n)) x = or_false x.clean_settled
acked_closes k (LimitFrame l) x = or_false x.clean_settled
acked_closes k (CloseFrame (ConnectionClose code message)) x = or_false x.clean_settled
acked_closes k (OtherFrame o) x = or_false x.clean_settled

pub all_acked_closes : (k : ℕ) (fs : List Known) (x : Outgoing) → (all_own_acked k fs x).clean_settled ≡ (x.clean_settled || list_any (is_close k 1) fs)
all_acked_closes k [] x = or_false x.clean_settled
all_acked_closes k (f ∷ fs) x =
    all_acked_closes k fs (own_acked k f x) ∙ ap (λ b. b || list_any (is_close k 1) fs) (acked_closes k f x) ∙ or_assoc x.clean_settled (is_close k 1 f) (list_any (is_close k 1) fs)

fewer : (b c : Bool) → cond (b || c) 0 1 ≤ cond b 0 1
fewer true c = omega arith
fewer false true = omega arith
fewer false false = omega arith

left_after : (s : Sending) (k : ℕ) (fs : List Known) (y : Option Outgoing) → outgoing_at s k ≡ y → closes_left (outgoing_at (after_all_acked s (map flown fs)) k) ≤ closes_left y
left_after s k fs None e = let is = ap closes_left (none_stays s k fs e) in omega (arith, is)
left_after s k fs (Some x) e =
    let is = ap closes_left (all_acked_at s k fs x e) in
    let b = ap {B = ℕ} (λ b. cond b 0 1) (all_acked_closes k fs x) in
    let less = fewer x.clean_settled (list_any (is_close k 1) fs) in
    omega (arith, is, b, less)

pub closes_below : (s : Sending) (fs : List Known) → all_closes_left (after_all_acked s (map flown fs)) ≤ all_closes_left s
closes_below s fs = sum_below (λ k. closes_left (outgoing_at (after_all_acked s (map flown fs)) k)) (λ k. closes_left (outgoing_at s k)) (λ k. left_after s k fs (outgoing_at s k) refl) 0 65

pub closes_lower : (s : Sending) (fs : List Known) (k : ℕ) (x : Outgoing) → length s.streams ≡ 65 → outgoing_at s k ≡ Some x → x.clean_settled ≡ false → list_any (is_close k 1) fs ≡ true
    → all_closes_left (after_all_acked s (map flown fs)) + 1 ≤ all_closes_left s
closes_lower s fs k x slots e open_still closed =
    let is = ap closes_left (all_acked_at s k fs x e) in
    let b : (all_own_acked k fs x).clean_settled ≡ true = rw (all_acked_closes k fs x, open_still) closed in
    let gone : closes_left (outgoing_at (after_all_acked s (map flown fs)) k) ≡ 0 = is ∙ ap {B = ℕ} (λ b. cond b 0 1) b in
    let was : closes_left (outgoing_at s k) ≡ 1 = ap closes_left e ∙ ap {B = ℕ} (λ b. cond b 0 1) open_still in
    sum_less (λ j. closes_left (outgoing_at (after_all_acked s (map flown fs)) j)) (λ j. closes_left (outgoing_at s j)) k
    (λ j. left_after s j fs (outgoing_at s j) refl) (omega (arith, gone, was))
    0 65 (omega arith) (let w = slot_within s.streams k x e in omega (arith, w, slots))
