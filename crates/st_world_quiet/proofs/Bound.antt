-- The bound, from the opening on.
use Rattle.std.proofs.Common.{◌≡◌, ◌≢◌, ℕ, ◌+◌, ◌*◌, ◌<◌, ◌≤◌, Bool, true, false, cond, [], max, refl, sym, ap, subst, ◌∙◌, arith, Option, None, Some}
use Rattle.std.specs.FinMap as fmap
use Rattle.std.specs.Ordering.{nat_cmp}
use Rattle.st_sender.specs.Sending.{Config, Outgoing, Sending, new_outgoing, outgoing_at}
use Rattle.st_sender.specs.Flights.{all_ends, highest_end, sent_end}
use Rattle.st_world_quiet.specs.Quiet.{IsQuiet}
use Rattle.st_world_quiet.specs.Left.{all_closes_left, all_frames_left, all_money_left, all_open, bound, closes_left, one_open, prepares_left, work_left}
use Rattle.st_world_quiet.specs.Rounds.{IsDone, IsOpening, Rounds}
use Rattle.st_world_quiet.proofs.Sums.{sum_below, sum_same}
use Rattle.st_world_quiet.proofs.Money.{zeros}
use Rattle.st_world_quiet.proofs.Lowering.{no_bytes, no_close, no_money, zero_prepares}
use Rattle.st_world_quiet.proofs.Keeping.{IsLeft}
use Rattle.st_world_quiet.proofs.EndRounds.{refilled_waits, rounds_lower}

-- ---- the opening is quiet

new_left : (n money : ℕ) → IsLeft n (record new_outgoing { offered = money })
new_left n money = record {
  front = λ q l. absurd (omega arith);
  row = λ q from till. absurd (omega arith);
  past = λ q l. fmap.get-empty nat_cmp q;
  within = omega arith;
  total = omega arith;
  alive = refl;
  paid = omega arith;
  may_pay = λ told e. absurd (cc);
}

pub nothing_sent : (n : ℕ → ℕ) (config : Config) (s : Sending) (k : ℕ) (o : Option Outgoing) → IsOpening n config s → outgoing_at s k ≡ o → s.flights ≡ [] → max (sent_end s k o) (highest_end k []) ≡ 0
nothing_sent n config s k None opening e none = refl
nothing_sent n config s k (Some y) opening e none =
    let is = (opening.streams k y e).1.is in
    let end : y.acked_end ≡ 0 = ap (λ (z : Outgoing). z.acked_end) is in
    rw (none, end) refl

opening_ends : (n : ℕ → ℕ) (config : Config) (s : Sending) → IsOpening n config s → s.flights ≡ [] → all_ends s [] ≡ 0
unfolding all_ends
opening_ends n config s opening none =
    sum_same (λ k. max (sent_end s k (outgoing_at s k)) (highest_end k [])) (λ k. 0) (λ k. nothing_sent n config s k (outgoing_at s k) opening refl none) 0 65 ∙ zeros 0 65

pub opening_quiet : (n : ℕ → ℕ) (config : Config) (s : Sending) → IsOpening n config s → IsQuiet n s
opening_quiet n config s opening =
    let rest = opening.rest in
    let none : s.flights ≡ [] = ap (λ (z : Sending). z.flights) rest in
    let same : s.config ≡ config = ap (λ (z : Sending). z.config) rest in
    let last : s.last ≡ 0 = ap (λ (z : Sending). z.last) rest in
    let told : s.told ≡ 65536 = ap (λ (z : Sending). z.told) rest in
    let limit : s.packet_limit ≡ config.packet_limit = ap (λ (z : Sending). z.packet_limit) rest in
    record {
      alone = none;
      whole = ap (λ (c : Config). c.least) same ∙ opening.whole;
      alive = ap (λ (z : Sending). z.failed) rest;
      in_flight = subst (λ (c : Config). 0 < c.in_flight) (sym same) opening.in_flight;
      packets = (let l = opening.packets in let p : s.config.packets ≡ config.packets = ap (λ (c : Config). c.packets) same in omega (arith, l, last, p));
      unmarked = ap (λ (z : Sending). z.marks) rest;
      pays = (let l = opening.pays in omega (arith, l, limit));
      slots = opening.slots;
      connection = (let e = opening_ends n config s opening none in omega (arith, e, told));
      streams = λ k y e. (let r = opening.streams k y e in refilled_waits (n k) (record new_outgoing { offered = r.0 }) y (new_left (n k) r.0) (omega arith) r.1);
    }

-- ---- the bound

close_most : (b : Bool) → cond b 0 1 ≤ 1
close_most true = omega arith
close_most false = omega arith

close_open : (o : Option Outgoing) → closes_left o ≤ one_open o
close_open None = omega arith
close_open (Some x) = close_most x.clean_settled

pub within_bound : (n : ℕ → ℕ) (s : Sending) → work_left n s + 1 ≤ bound n s
within_bound n s =
    let c : all_closes_left s ≤ all_open s = sum_below (λ k. closes_left (outgoing_at s k)) (λ k. one_open (outgoing_at s k)) (λ k. close_open (outgoing_at s k)) 0 65 in
    counts _ _ _ _ c
  where
    counts : (a b c d : ℕ) → c ≤ d → max a b + c + 1 ≤ a + b + 2 * d + 2
    counts a b c d l = omega arith

pub sends_bounded : (n : ℕ → ℕ) (config : Config) (m : ℕ) (s t : Sending) → IsOpening n config s → Rounds n m s t → m + 1 ≤ bound n s
sends_bounded n config m s t opening run =
    let l = (rounds_lower n m s t (opening_quiet n config s opening) run).0 in
    let b = within_bound n s in
    counts _ _ _ _ l b
  where
    counts : (m last first most : ℕ) → m + last ≤ first → first + 1 ≤ most → m + 1 ≤ most
    counts m last first most l b = omega arith

-- ---- when no work is left, every stream is done

not_false : (b : Bool) → b ≢ false → b ≡ true
not_false true n = refl
not_false false n = absurd (n refl)

pub all_done : (n : ℕ → ℕ) (s : Sending) (k : ℕ) (x : Outgoing) → IsQuiet n s → work_left n s ≡ 0 → outgoing_at s k ≡ Some x → IsDone (n k) x
all_done n s k x quiet done e =
    let w = quiet.streams k x e in
    let none : all_frames_left n s ≡ 0 = first _ _ _ done in
    let spent : prepares_left s ≡ 0 = second _ _ _ done in
    let closed : all_closes_left s ≡ 0 = third _ _ _ done in
    let poor = zero_prepares s.packet_limit (all_money_left s) quiet.pays spent in
    let acked = no_bytes n s k x quiet.slots none e in
    let paid = no_money s k x quiet.slots poor e in
    let within = w.within in
    let total = w.total in
    let most = w.paid in
    record {
      bytes = omega (arith, acked, within, total);
      all_bytes = omega (arith, acked, within, total);
      money = omega (arith, paid, most);
      close = not_false x.clean_settled (no_close s k x quiet.slots closed e);
    }
  where
    first : (a b c : ℕ) → max a b + c ≡ 0 → a ≡ 0
    first a b c e = omega arith

    second : (a b c : ℕ) → max a b + c ≡ 0 → b ≡ 0
    second a b c e = omega arith

    third : (a b c : ℕ) → max a b + c ≡ 0 → c ≡ 0
    third a b c e = omega arith
