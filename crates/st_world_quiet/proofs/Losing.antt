-- A Send that was lost leaves a quiet state, and as much to do as before; so a run has one Send more for each that is lost.
use Rattle.std.proofs.Common.{◌≡◌, ℕ, suc, ◌+◌, ◌<◌, ◌≤◌, Bool, false, ◌||◌, List, [], ◌∷◌, length, max, refl, sym, ap, subst, ◌∙◌, arith, Option, None, Some, nat_le}
use Rattle.std.proofs.lemmas.Bool.Decides.{nat_tests}
use Rattle.st_frames.specs.Frames.{CloseFrame, BlockedFrame, LimitFrame, ConnectionMaxData, OtherFrame, Known, StreamData, StreamMaxData, StreamMaxMoney, StreamMoney}
use Rattle.st_sender.specs.Sending.{Config, Load, Outgoing, Sending, changed_at, outgoing_at}
use Rattle.st_sender.specs.Flights.{all_ends, flight_of, highest_end, sent_end}
use Rattle.st_sender.specs.Loads.{with_flight}
use Rattle.st_sender.specs.Answering.{after_all_told, after_fulfilled, after_told, told_data, advertised_receive_max}
use Rattle.st_world_quiet.specs.Quiet.{IsQuiet, IsWaiting}
use Rattle.st_world_quiet.specs.Left.{all_money_left, bound, money_left, work_left}
use Rattle.st_world_quiet.specs.Rounds.{IsOpening, IsRefilled, IsWritten, Refilled, Round, once_fulfilled}
use Rattle.st_world_quiet.specs.Losses.{AnswerLost, AreFew, Attempt, Attempts, Delivered, Fate, Miss, PrepareLost, losses, once_lost}
use Rattle.st_world_quiet.proofs.Sums.{sum_same}
use Rattle.st_world_quiet.proofs.Lowering.{work_lowers}
use Rattle.st_world_quiet.proofs.Keeping.{IsLeft}
use Rattle.st_world_quiet.proofs.EndRounds.{Alike, alike, none_flies, offer_of, refilled_waits, round_keeps, same_ends, same_money, work_same}
use Rattle.st_world_quiet.proofs.Bound.{opening_quiet, within_bound}

-- ---- a stream that was written on

pub record Kept (n : ℕ → ℕ) (s : Sending) (k : ℕ) (y : Outgoing) : Type 0 where
  pub old : Outgoing
  pub is_open : outgoing_at s k ≡ Some old
  pub more : IsRefilled (n k) old y

kept_by : (n : ℕ → ℕ) (s t : Sending) (k : ℕ) (y : Outgoing) (o : Option Outgoing) → outgoing_at s k ≡ o → Refilled (n k) o (outgoing_at t k) → outgoing_at t k ≡ Some y → Kept n s k y
kept_by n s t k y None e r here = absurd (let clash : ◌≡◌ {A = Option Outgoing} None (Some y) = sym r ∙ here in cc)
kept_by n s t k y (Some x) e r here =
    let both : ◌≡◌ {A = Option Outgoing} (Some r.0) (Some y) = sym r.1 ∙ here in
    let same : r.0 ≡ y = cc in
    record { old = x; is_open = e; more = subst (λ z. IsRefilled (n k) x z) same r.2 }

pub kept_at : (n : ℕ → ℕ) (s t : Sending) → IsWritten n s t → (k : ℕ) (y : Outgoing) → outgoing_at t k ≡ Some y → Kept n s k y
kept_at n s t writes k y here = kept_by n s t k y (outgoing_at s k) refl (writes.streams k) here

-- ---- a Send that was lost

pub miss_alike : (n : ℕ → ℕ) (s t : Sending) (m : Miss n s t) (k : ℕ) → Alike (outgoing_at s k) (outgoing_at t k)
miss_alike n s t m k = alike n (once_lost s m.load) t [] m.writes k (outgoing_at s k) refl

offer_same : (o p : Option Outgoing) → Alike o p → offer_of p ≡ offer_of o
offer_same None p h = ap offer_of h
offer_same (Some x) p h = ap offer_of h.1 ∙ ap {B = Option ℕ} Some h.2.offered

pub miss_offers : (n : ℕ → ℕ) (s t : Sending) → Miss n s t → (k : ℕ) → offer_of (outgoing_at t k) ≡ offer_of (outgoing_at s k)
miss_offers n s t m k = offer_same (outgoing_at s k) (outgoing_at t k) (miss_alike n s t m k)

pub miss_work : (n : ℕ → ℕ) (s t : Sending) → Miss n s t → work_left n t ≡ work_left n s
miss_work n s t m = work_same n (once_lost s m.load) t [] m.writes

pub miss_money : (n : ℕ → ℕ) (s t : Sending) → Miss n s t → all_money_left t ≡ all_money_left s
miss_money n s t m = sum_same (λ k. money_left (outgoing_at t k)) (λ k. money_left (outgoing_at s k)) (λ k. same_money (outgoing_at s k) (outgoing_at t k) (miss_alike n s t m k)) 0 65

pub miss_last : (n : ℕ → ℕ) (s t : Sending) (m : Miss n s t) → t.last ≡ s.last + 1
miss_last n s t m = ap (λ (z : Sending). z.last) m.writes.rest ∙ ap (λ (z : Load). z.sequence) m.sends.load

pub miss_limit : (n : ℕ → ℕ) (s t : Sending) → Miss n s t → t.packet_limit ≡ s.packet_limit
miss_limit n s t m = ap (λ (z : Sending). z.packet_limit) m.writes.rest

pub miss_flights : (n : ℕ → ℕ) (s t : Sending) → IsQuiet n s → Miss n s t → t.flights ≡ []
miss_flights n s t quiet m = ap (λ (z : Sending). z.flights) m.writes.rest ∙ none_flies s m.load quiet.alone

miss_ends : (n : ℕ → ℕ) (s t : Sending) → IsQuiet n s → Miss n s t → all_ends t [] ≡ all_ends s []
unfolding all_ends
miss_ends n s t quiet m =
    sum_same
    (λ k. max (sent_end t k (outgoing_at t k)) (highest_end k []))
    (λ k. max (sent_end s k (outgoing_at s k)) (highest_end k []))
    (λ k. ap (λ z. max z 0) (same_ends s t k (outgoing_at s k) (outgoing_at t k) quiet.alone (miss_flights n s t quiet m) (miss_alike n s t m k)))
    0 65

waiting_left : (n : ℕ) (x : Outgoing) → IsWaiting n x → IsLeft n x
waiting_left n x w = record { front = w.front; row = w.row; past = w.past; within = w.within; total = w.total; alive = w.alive; paid = w.paid; may_pay = w.may_pay }

miss_waits : (n : ℕ → ℕ) (s t : Sending) (k : ℕ) (y : Outgoing) → IsQuiet n s → Miss n s t → outgoing_at t k ≡ Some y → IsWaiting (n k) y
miss_waits n s t k y quiet m here =
    let kept = kept_at n (once_lost s m.load) t m.writes k y here in
    let w = quiet.streams k kept.old kept.is_open in
    refilled_waits (n k) kept.old y (waiting_left (n k) kept.old w) w.window kept.more

-- it leaves a quiet state, unless the connection failed
pub miss_keeps : (n : ℕ → ℕ) (s t : Sending) → IsQuiet n s → Miss n s t → t.failed ≡ false → IsQuiet n t
miss_keeps n s t quiet m alive =
    let config : t.config ≡ s.config = ap (λ (z : Sending). z.config) m.writes.rest in
    let last = miss_last n s t m in
    let limit = miss_limit n s t m in
    record {
      alone = miss_flights n s t quiet m;
      alive = alive;
      in_flight = subst (λ (d : Config). 0 < d.in_flight) (sym config) quiet.in_flight;
      packets = (let l = m.left in let same = ap (λ (d : Config). d.packets) config in omega (arith, l, last, same));
      whole = ap (λ (d : Config). d.least) config ∙ quiet.whole;
      unmarked = ap (λ (z : Sending). z.marks) m.writes.rest ∙ quiet.unmarked;
      pays = (let h = quiet.pays in omega (arith, h, limit));
      slots = m.writes.slots ∙ quiet.slots;
      connection = (let h = quiet.connection in let ends = miss_ends n s t quiet m in
          let told : t.told ≡ s.told = ap (λ (z : Sending). z.told) m.writes.rest in omega (arith, h, ends, told));
      streams = λ k y here. miss_waits n s t k y quiet m here;
    }

-- ---- when the connection fails

miss_failures : (n : ℕ → ℕ) (s t : Sending) → Miss n s t → t.failures ≡ s.failures + 1
miss_failures n s t m = ap (λ (z : Sending). z.failures) m.writes.rest

either_of : (a b c : Bool) → a ≡ false → c ≡ false → b ≡ false → (a || b || c) ≡ false
either_of a b c x y z = rw (x, y, z) refl

pub once_alive : (s : Sending) (p : Load) → s.failed ≡ false → s.failures + 1 < 200 → (once_lost s p).failed ≡ false
once_alive s p alive few = either_of s.failed false (nat_le 200 (s.failures + 1)) alive (under (s.failures + 1) few) refl
  where
    under : (j : ℕ) → j < 200 → nat_le 200 j ≡ false
    under j l = grind (arith, nat_tests)

pub miss_alive : (n : ℕ → ℕ) (s t : Sending) (in_row : ℕ) → Miss n s t → s.failed ≡ false → s.failures ≡ in_row → in_row + 1 < 200 → t.failed ≡ false
miss_alive n s t in_row m alive is few = ap (λ (z : Sending). z.failed) m.writes.rest ∙ once_alive s m.load alive (omega (arith, is, few))

failures_changed : (s : Sending) (j : ℕ) (f : Outgoing → Outgoing) (y : Option Outgoing) → (changed_at s j f y).failures ≡ s.failures
failures_changed s j f None = refl
failures_changed s j f (Some x) = refl

failures_told : (s : Sending) (f : Known) → (after_told s f).failures ≡ s.failures
failures_told s (LimitFrame (StreamMaxData j v)) = failures_changed s j (told_data v) (outgoing_at s j)
failures_told s (LimitFrame (StreamMaxMoney j a t)) = failures_changed s j (advertised_receive_max a t) (outgoing_at s j)
failures_told s (LimitFrame (ConnectionMaxData v)) = refl
failures_told s (StreamData j o xs) = refl
failures_told s (StreamMoney j n) = refl
failures_told s (CloseFrame c) = refl
failures_told s (BlockedFrame b) = refl
failures_told s (OtherFrame o) = refl

failures_all_told : (s : Sending) (fs : List Known) → (after_all_told s fs).failures ≡ s.failures
failures_all_told s [] = refl
failures_all_told s (f ∷ fs) = failures_all_told (after_told s f) fs ∙ failures_told s f

pub round_failures : (n : ℕ → ℕ) (s t : Sending) (p : Load) (told : List Known) → IsWritten n (after_all_told (once_fulfilled s p) told) t → t.failures ≡ 0
round_failures n s t p told writes = ap (λ (z : Sending). z.failures) writes.rest ∙ failures_all_told (once_fulfilled s p) told

-- ---- one Send for each fate, and no more than the bound

attempt_alive : (f : Fate) (n : ℕ → ℕ) (s t : Sending) → Attempt f n s t → s.failed ≡ false
attempt_alive Delivered n s t x = x.sends.fits.alive
attempt_alive PrepareLost n s t x = x.sends.fits.alive
attempt_alive AnswerLost n s t x = x.sends.fits.alive

round_lowers : (n : ℕ → ℕ) (s t : Sending) → IsQuiet n s → Round n s t → work_left n t + 1 ≤ work_left n s
round_lowers n s t quiet x =
    let first = work_lowers n s x.limits x.load quiet x.sends x.fills in
    let same = work_same n (after_fulfilled (with_flight s x.load) (flight_of x.load)) t x.told x.writes in
    lower _ _ _ first same
  where
    lower : (before after now : ℕ) → after + 1 ≤ before → now ≡ after → now + 1 ≤ before
    lower before after now a b = omega arith

-- a lost one costs itself
attempt_costs : (f : Fate) (fs : List Fate) (n : ℕ → ℕ) (s t : Sending) → IsQuiet n s → Attempt f n s t → suc (work_left n t + losses fs) ≤ work_left n s + losses (f ∷ fs)
attempt_costs Delivered fs n s t quiet x = let l = round_lowers n s t quiet x in kept _ _ (losses fs) l
  where
    kept : (now before lost : ℕ) → now + 1 ≤ before → suc (now + lost) ≤ before + lost
    kept now before lost l = omega arith
attempt_costs PrepareLost fs n s t quiet x = let same = miss_work n s t x in spent _ _ (losses fs) same
  where
    spent : (now before lost : ℕ) → now ≡ before → suc (now + lost) ≤ before + suc lost
    spent now before lost e = omega arith
attempt_costs AnswerLost fs n s t quiet x = let same = miss_work n s t x in spent _ _ (losses fs) same
  where
    spent : (now before lost : ℕ) → now ≡ before → suc (now + lost) ≤ before + suc lost
    spent now before lost e = omega arith

attempt_keeps : (f : Fate) (n : ℕ → ℕ) (s t : Sending) → IsQuiet n s → Attempt f n s t → t.failed ≡ false → IsQuiet n t
attempt_keeps Delivered n s t quiet x alive = round_keeps n s t quiet x
attempt_keeps PrepareLost n s t quiet x alive = miss_keeps n s t quiet x alive
attempt_keeps AnswerLost n s t quiet x alive = miss_keeps n s t quiet x alive

pub attempts_lower : (n : ℕ → ℕ) (fs : List Fate) (s t : Sending) → (s.failed ≡ false → IsQuiet n s) → Attempts n fs s t → (length fs + work_left n t ≤ work_left n s + losses fs) × (t.failed ≡ false → IsQuiet n t)
attempts_lower n [] s t quiet run = ((let same : work_left n t ≡ work_left n s = ap (work_left n) run in nothing _ _ same), (let P : Sending → Type 0 = λ z. z.failed ≡ false → IsQuiet n z in subst P (sym run) quiet))
  where
    nothing : (now before : ℕ) → now ≡ before → 0 + now ≤ before + 0
    nothing now before e = omega arith
attempts_lower n (f ∷ fs) s t quiet run =
    let mid = run.0 in
    let x = run.1 in
    let still = quiet (attempt_alive f n s mid x) in
    let rest = attempts_lower n fs mid t (attempt_keeps f n s mid still x) run.2 in
    let first = attempt_costs f fs n s mid still x in
    (counts (length fs) _ _ (losses fs) _ rest.0 first, rest.1)
  where
    counts : (m last middle lost before : ℕ) → m + last ≤ middle + lost → suc (middle + lost) ≤ before → suc m + last ≤ before
    counts m last middle lost before a b = omega arith

pub attempts_bounded : (n : ℕ → ℕ) (config : Config) (fs : List Fate) (s t : Sending) → IsOpening n config s → Attempts n fs s t → length fs + 1 ≤ bound n s + losses fs
attempts_bounded n config fs s t opening run =
    counts (length fs) _ _ _ (losses fs) (attempts_lower n fs s t (λ alive. opening_quiet n config s opening) run).0 (within_bound n s)
  where
    counts : (m last first most lost : ℕ) → m + last ≤ first + lost → first + 1 ≤ most → m + 1 ≤ most + lost
    counts m last first most lost l b = omega arith

-- a round in a row of lost ones begins the count anew
pub attempt_fails : (f : Fate) (fs : List Fate) (n : ℕ → ℕ) (s t : Sending) (in_row : ℕ) → IsQuiet n s → Attempt f n s t → s.failures ≡ in_row → AreFew in_row (f ∷ fs) → (t.failed ≡ false) × ((j : ℕ) × (t.failures ≡ j) × AreFew j fs)
attempt_fails Delivered fs n s t in_row quiet x is few = ((round_keeps n s t quiet x).alive, (0, round_failures n s t x.load x.told x.writes, few))
attempt_fails PrepareLost fs n s t in_row quiet x is few = (miss_alive n s t in_row x quiet.alive is few.0, (in_row + 1, miss_failures n s t x ∙ ap (λ j. j + 1) is, few.1))
attempt_fails AnswerLost fs n s t in_row quiet x is few = (miss_alive n s t in_row x quiet.alive is few.0, (in_row + 1, miss_failures n s t x ∙ ap (λ j. j + 1) is, few.1))

pub attempts_alive : (n : ℕ → ℕ) (fs : List Fate) (s t : Sending) (in_row : ℕ) → IsQuiet n s → Attempts n fs s t → s.failures ≡ in_row → AreFew in_row fs → t.failed ≡ false
attempts_alive n [] s t in_row quiet run is few = ap (λ (z : Sending). z.failed) run ∙ quiet.alive
attempts_alive n (f ∷ fs) s t in_row quiet run is few =
    let mid = run.0 in
    let x = run.1 in
    let next = attempt_fails f fs n s mid in_row quiet x is few in
    attempts_alive n fs mid t next.1.0 (attempt_keeps f n s mid quiet x next.0) run.2 next.1.1 next.1.2

-- fewer than 200 losses in all are few
pub few_enough : (fs : List Fate) (in_row : ℕ) → in_row + losses fs < 200 → AreFew in_row fs
few_enough [] in_row l = tt
few_enough (Delivered ∷ fs) in_row l = few_enough fs 0 (omega arith)
few_enough (PrepareLost ∷ fs) in_row l = (omega arith, few_enough fs (in_row + 1) (omega arith))
few_enough (AnswerLost ∷ fs) in_row l = (omega arith, few_enough fs (in_row + 1) (omega arith))
