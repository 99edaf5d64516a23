-- Money that a filled Send takes away.
use Rattle.std.proofs.Common.{◌≡◌, ℕ, zero, suc, ◌+◌, ◌-◌, ◌/◌, ◌<◌, ◌≤◌, Bool, true, false, cond, List, [], ◌∷◌, length, map, min, sum, refl, sym, ap, ◌∙◌, arith, Option, None, Some, inl, inr, nat_eq}
use Rattle.std.specs.List.{sum_by, range_with_len, AllByRecursion}
use Rattle.std.proofs.Math.Nat.{add-div_right, div-eq_of_lt, div-mul-le_self}
use Rattle.std.proofs.lemmas.Nat.{le-div}
use Rattle.std.proofs.lemmas.Bool.{cases_eq, cases_lt}
use Rattle.std.proofs.lemmas.List.Sums.{sum_by-cons}
use Rattle.st_oer.specs.Ratios.{Ratio, exchanged, ratio}
use Rattle.st_frames.specs.Frames.{CloseFrame, ConnectionClose, BlockedFrame, ConnectionDataBlocked, LimitFrame, OtherFrame, Known, StreamClose, StreamData, StreamDataBlocked, StreamMoney, StreamMoneyBlocked}
use Rattle.st_frames.specs.Told.{money_in, money_of, shares_of}
use Rattle.st_sender.specs.Sending.{Load, Outgoing, Sending, outgoing_at}
use Rattle.st_sender.specs.Flights.{flying_least, room_for, due_money, flight_of, flown, flying_money}
use Rattle.st_sender.specs.Due.{IsDue}
use Rattle.st_sender.specs.Loads.{Sends}
use Rattle.st_sender.specs.Filling.{all_free_money, free_money, money_room}
use Rattle.st_sender.specs.Answering.{acked_close, acked_data, acked_money, after_all_acked, after_fulfilled, landed}
use Rattle.st_world_quiet.specs.Quiet.{IsQuiet}
use Rattle.st_world_quiet.specs.Left.{all_money_left, money_left}
use Rattle.st_streams.proofs.SlotLemmas.{slot_within}
use Rattle.st_world_quiet.proofs.Sums.{sum_next, sum_same}
use Rattle.st_world_quiet.proofs.Acknowledging.{all_acked_at, all_kept, all_own_acked, is_other, is_same, none_stays, own_acked}

-- ---- what a Fulfill adds to a stream

if_paid : (b : Bool) (x : Outgoing) (n : ℕ) → (cond b (acked_money n x) x).fulfilled ≡ x.fulfilled + cond b n 0
if_paid true x n = refl
if_paid false x n = omega arith

if_same : (b : Bool) (x y : Outgoing) → y.fulfilled ≡ x.fulfilled → (cond b y x).fulfilled ≡ x.fulfilled + 0
if_same true x y e = omega (arith, e)
if_same false x y e = omega arith

close_paid : (b : Bool) (x : Outgoing) → (cond b (record x { clean_settled = true }) (record x { abort_settled = true })).fulfilled ≡ x.fulfilled
close_paid true x = refl
close_paid false x = refl

plain : (x : Outgoing) → x.fulfilled ≡ x.fulfilled + 0
plain x = omega arith

acked_paid : (k : ℕ) (f : Known) (x : Outgoing) → (own_acked k f x).fulfilled ≡ x.fulfilled + money_of k f
acked_paid k (StreamData j o xs) x = if_same (nat_eq j k) x (acked_data o (length xs) x) refl
acked_paid k (StreamMoney j n) x = if_paid (nat_eq j k) x n
acked_paid k (CloseFrame (StreamClose j code message)) x = if_same (nat_eq j k) x (acked_close code x) (close_paid (nat_eq code 1) x)
acked_paid k (BlockedFrame (StreamDataBlocked j n)) x = if_same (nat_eq j k) x _ refl
acked_paid k (BlockedFrame (StreamMoneyBlocked j n t)) x = if_same (nat_eq j k) x _ refl
acked_paid k (BlockedFrame (ConnectionDataBlocked n)) x = plain x
acked_paid k (LimitFrame l) x = plain x
acked_paid k (CloseFrame (ConnectionClose code message)) x = plain x
acked_paid k (OtherFrame o) x = plain x

pub all_acked_paid : (k : ℕ) (fs : List Known) (x : Outgoing) → (all_own_acked k fs x).fulfilled ≡ x.fulfilled + money_in k fs
all_acked_paid k [] x = plain x
all_acked_paid k (f ∷ fs) x =
    let a = all_acked_paid k fs (own_acked k f x) in
    let b = acked_paid k f x in
    let c = sum_by-cons (money_of k) f fs in
    omega (arith, a, b, c)

-- ---- sums

-- one place of a sum
pub one_place : (j n a m : ℕ) → a ≤ j → j < a + m → sum (map (λ k. cond (nat_eq j k) n 0) (range_with_len a m)) ≡ n
one_place j n a zero from till = absurd (omega arith)
one_place j n a (suc m) from till =
    let step = sum_next (cond (nat_eq j a) n 0) (map (λ k. cond (nat_eq j k) n 0) (range_with_len (a + 1) m)) in
    elim (cases_eq j a) [
      | inl same ↦ (let b = is_same j a same in let first : cond (nat_eq j a) n 0 ≡ n = rw b refl in
          let rest = no_place (a + 1) m (omega (arith, same)) in omega (arith, step, first, rest))
      | inr apart ↦ (let b = is_other j a apart in let first : cond (nat_eq j a) n 0 ≡ 0 = rw b refl in
          let rest = one_place j n (a + 1) m (omega arith) (omega arith) in omega (arith, step, first, rest))
    ]
  where
    no_place : (b l : ℕ) → j < b → sum (map (λ k. cond (nat_eq j k) n 0) (range_with_len b l)) ≡ 0
    no_place b zero h = refl
    no_place b (suc l) h =
        let step = sum_next (cond (nat_eq j b) n 0) (map (λ k. cond (nat_eq j k) n 0) (range_with_len (b + 1) l)) in
        let t = is_other j b (omega (arith, h)) in let first : cond (nat_eq j b) n 0 ≡ 0 = rw t refl in
        let rest = no_place (b + 1) l (omega (arith, h)) in omega (arith, step, first, rest)

pub zeros : (a m : ℕ) → sum (map (λ k. 0) (range_with_len a m)) ≡ 0
zeros a zero = refl
zeros a (suc m) = let step = sum_next 0 (map (λ k. 0) (range_with_len (a + 1) m)) in let rest = zeros (a + 1) m in omega (arith, step, rest)

pub sum_plus : (f g : ℕ → ℕ) (a m : ℕ) → sum (map (λ k. f k + g k) (range_with_len a m)) ≡ sum (map f (range_with_len a m)) + sum (map g (range_with_len a m))
sum_plus f g a zero = refl
sum_plus f g a (suc m) =
    let s0 = sum_next (f a + g a) (map (λ k. f k + g k) (range_with_len (a + 1) m)) in
    let s1 = sum_next (f a) (map f (range_with_len (a + 1) m)) in
    let s2 = sum_next (g a) (map g (range_with_len (a + 1) m)) in
    let rest = sum_plus f g (a + 1) m in
    omega (arith, s0, s1, s2, rest)

-- the money of a frame, over the streams
abbrev IsInSlots : Known → Type 0
IsInSlots (StreamMoney j n) = j < 65
IsInSlots f = Unit {0}

over_streams : (f : Known) → IsInSlots f → sum (map (λ k. money_of k f) (range_with_len 0 65)) ≡ shares_of f
over_streams (StreamMoney j n) h = one_place j n 0 65 (omega arith) (omega (arith, h))
over_streams (StreamData j o xs) h = zeros 0 65
over_streams (CloseFrame c) h = zeros 0 65
over_streams (BlockedFrame b) h = zeros 0 65
over_streams (LimitFrame l) h = zeros 0 65
over_streams (OtherFrame o) h = zeros 0 65

pub in_slots : (s : Sending) (limits : List Known) (f : Known) → length s.streams ≡ 65 → IsDue s limits f → IsInSlots f
in_slots s limits (StreamMoney j n) l due = let w = slot_within s.streams j due.stream due.is_open in omega (arith, w, l)
in_slots s limits (StreamData j o xs) l due = tt
in_slots s limits (CloseFrame c) l due = tt
in_slots s limits (BlockedFrame b) l due = tt
in_slots s limits (LimitFrame limit) l due = tt
in_slots s limits (OtherFrame o) l due = tt

pub all_over_streams : (s : Sending) (limits : List Known) (fs : List Known) → length s.streams ≡ 65 → AllByRecursion (IsDue s limits) fs
    → sum (map (λ k. money_in k fs) (range_with_len 0 65)) ≡ sum_by shares_of fs
all_over_streams s limits [] l due = zeros 0 65
all_over_streams s limits (f ∷ fs) l due =
    let split = sum_same (λ k. money_in k (f ∷ fs)) (λ k. money_of k f + money_in k fs) (λ k. sum_by-cons (money_of k) f fs) 0 65 in
    let plus = sum_plus (λ k. money_of k f) (λ k. money_in k fs) 0 65 in
    let one = over_streams f (in_slots s limits f l due.0) in
    let rest = all_over_streams s limits fs l due.1 in
    let cons = sum_by-cons shares_of f fs in
    omega (arith, split, plus, one, rest, cons)

-- ---- in a quiet state all money is free to go

-- if all that is sent should arrive
pub whole_arrives : (r : Ratio) (n : ℕ) → r ≡ ratio 1 1 → exchanged r n ≡ n
whole_arrives r n e = rw e (omega arith)

pub whole_needs : (r : Ratio) (n : ℕ) → r ≡ ratio 1 1 → room_for r n ≡ n
whole_needs r n e = omega (arith, whole_arrives r n e)

pub flies_none : (s : Sending) (k : ℕ) → s.flights ≡ [] → flying_money s k ≡ 0
flies_none s k e = rw e refl

pub least_flies_none : (s : Sending) (k : ℕ) → s.flights ≡ [] → flying_least s k ≡ 0
least_flies_none s k e = rw e refl

pub due_is_left : (s : Sending) (k : ℕ) (x : Outgoing) → s.flights ≡ [] → x.abort ≡ None → due_money s k x ≡ x.offered - x.fulfilled
due_is_left s k x none alive = let f = flies_none s k none in rw (alive, f) (omega arith)

room_is : (o : Option (ℕ × ℕ)) (flying due : ℕ) → flying ≡ 0 → ((told : ℕ × ℕ) → o ≡ Some told → due ≤ told.0 - told.1) → money_room o flying due ≡ due
room_is None flying due z h = refl
room_is (Some told) flying due z h = let l = h told refl in omega (arith, z, l)

free_is : (n : ℕ → ℕ) (s : Sending) (k : ℕ) (y : Option Outgoing) → outgoing_at s k ≡ y → IsQuiet n s → free_money s k y ≡ money_left y
free_is n s k None e quiet = refl
free_is n s k (Some x) e quiet =
    let w = quiet.streams k x e in
    let d = due_is_left s k x quiet.alone w.alive in
    rw d (room_is x.advertised_money (flying_money s k) (x.offered - x.fulfilled) (flies_none s k quiet.alone) (λ told e. let h = w.may_pay told e in omega (arith, h)))

pub all_free : (n : ℕ → ℕ) (s : Sending) → IsQuiet n s → all_free_money s ≡ all_money_left s
all_free n s quiet = sum_same (λ k. free_money s k (outgoing_at s k)) (λ k. money_left (outgoing_at s k)) (λ k. free_is n s k (outgoing_at s k) refl quiet) 0 65

-- ---- what is left after a Fulfill

left_after : (n : ℕ → ℕ) (s : Sending) (k : ℕ) (fs : List Known) (y : Option Outgoing) → outgoing_at s k ≡ y → ((x : Outgoing) → y ≡ Some x → money_in k fs ≤ x.offered - x.fulfilled)
    → (y ≡ None → money_in k fs ≡ 0) → money_left (outgoing_at (after_all_acked s (map flown fs)) k) + money_in k fs ≡ money_left y
left_after n s k fs None e fits none = let same = ap money_left (none_stays s k fs e) in let z = none refl in omega (arith, same, z)
left_after n s k fs (Some x) e fits none =
    let same = ap money_left (all_acked_at s k fs x e) in
    let paid = all_acked_paid k fs x in
    let offered = (all_kept k fs x).offered in
    let l = fits x refl in
    omega (arith, same, paid, offered, l)

-- money only on streams that are open
pub none_in : (s : Sending) (limits : List Known) (k : ℕ) (fs : List Known) → AllByRecursion (IsDue s limits) fs → outgoing_at s k ≡ None → money_in k fs ≡ 0
none_in s limits k [] due e = refl
none_in s limits k (f ∷ fs) due e = let rest = none_in s limits k fs due.1 e in let c = sum_by-cons (money_of k) f fs in let one = none_of f due.0 in omega (arith, rest, c, one)
  where
    none_of : (f : Known) → IsDue s limits f → money_of k f ≡ 0
    none_of (StreamMoney j n) due = elim (cases_eq j k) [
      | inl same ↦ absurd (let here : outgoing_at s k ≡ Some due.stream = rw same at due.is_open in let clash : ◌≡◌ {A = Option Outgoing} None (Some due.stream) = sym e ∙ here in cc)
      | inr apart ↦ (let b = is_other j k apart in rw b refl)
    ]
    none_of f due = refl

pub money_after : (n : ℕ → ℕ) (s : Sending) (limits : List Known) (room : ℕ) (p : Load) (t : Sending) → IsQuiet n s → Sends s limits room p t
    → all_money_left (after_fulfilled t (flight_of p)) + p.amount ≡ all_money_left s
money_after n s limits room p t quiet sends =
    let u = landed t p.sequence in
    let alike : (k : ℕ) → outgoing_at u k ≡ outgoing_at s k = (λ k. ap (λ (z : Sending). outgoing_at z k) sends.after) in
    let each : (k : ℕ) → money_left (outgoing_at (after_all_acked u (map flown p.frames)) k) + money_in k p.frames ≡ money_left (outgoing_at s k) =
    (λ k. left_after n u k p.frames (outgoing_at s k) (alike k)
    (λ x e. let w = quiet.streams k x e in let d = due_is_left s k x quiet.alone w.alive in let m = sends.money k x e in omega (arith, d, m))
    (λ e. none_in s limits k p.frames sends.due e)) in
    let plus = sum_plus (λ k. money_left (outgoing_at (after_all_acked u (map flown p.frames)) k)) (λ k. money_in k p.frames) 0 65 in
    let same = sum_same (λ k. money_left (outgoing_at (after_all_acked u (map flown p.frames)) k) + money_in k p.frames) (λ k. money_left (outgoing_at s k)) each 0 65 in
    let amount : p.amount ≡ sum_by shares_of p.frames = ap (λ (z : Load). z.amount) sends.load in
    let over = all_over_streams s limits p.frames quiet.slots sends.due in
    omega (arith, plus, same, amount, over)

-- ---- Prepares for an amount

pub div_rises : (a b k : ℕ) → 0 < k → a ≤ b → a / k ≤ b / k
div_rises a b k some le = let m = div-mul-le_self a k in le-div (a / k) b k some (omega (arith, m, le))

pub prepares_lower : (limit m taken : ℕ) → 0 < limit → 0 < m → min limit m ≤ taken → (m - taken + limit - 1) / limit + 1 ≤ (m + limit - 1) / limit
prepares_lower limit m taken some left full = elim (cases_lt m limit) [
  | inl all ↦ (let none : m - taken + limit - 1 ≡ limit - 1 = omega (arith, all, full) in
      let low : (limit - 1) / limit ≡ 0 = div-eq_of_lt (omega (arith, some)) in
      let one : 1 ≤ (m + limit - 1) / limit = le-div 1 (m + limit - 1) limit some (omega (arith, left)) in
      rw (none, low) (omega (arith, one)))
  | inr more ↦ (let up : (m - taken + limit - 1 + limit) / limit ≡ (m - taken + limit - 1) / limit + 1 = add-div_right (m - taken + limit - 1) some in
      let rise = div_rises (m - taken + limit - 1 + limit) (m + limit - 1) limit some (omega (arith, more, full, some)) in
      omega (arith, up, rise))
]
