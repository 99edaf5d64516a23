-- Each Send of a lossless run lowers what is left. While something is left there is a Send, and then there is none.
use Rattle.std.proofs.Common.{◌≡◌, ◌≢◌, ℕ, zero, suc, ◌+◌, ◌-◌, ◌/◌, ◌<◌, ◌≤◌, Bool, true, false, cond, List, [], ◌∷◌, length, map, max, min, sum, replicate, slice_get, refl, sym, ap, ◌∙◌, arith, Option, None, Some, ◌⊎◌, inl, inr}
use Rattle.std.specs.FinMap as fmap
use Rattle.std.specs.List.{list_any, range_with_len, AllByRecursion}
use Rattle.std.proofs.Math.Nat.{div-eq_of_lt}
use Rattle.std.proofs.lemmas.Nat.{le-div}
use Rattle.std.proofs.lemmas.Bool.{cases_eq, cases_lt}
use Rattle.st_streams.specs.Slots.{no_slots, slot}
use Rattle.st_frames.specs.Frames.{CloseFrame, ConnectionClose, BlockedFrame, ConnectionDataBlocked, LimitFrame, ConnectionMaxData, OtherFrame, Known, StreamClose, StreamData, StreamDataBlocked, StreamMaxData, StreamMaxMoney, StreamMoney, StreamMoneyBlocked, max_packet}
use Rattle.st_sender.specs.Sending.{Load, PeerBlocked, Outgoing, Sending, changed_at, outgoing_at}
use Rattle.st_sender.specs.Flights.{due_money, due_at, flight_of, flown, is_close}
use Rattle.st_sender.specs.Due.{IsAbort, IsCleanClose, IsDue, IsDueData, IsDueLimit}
use Rattle.st_sender.specs.Loads.{IsIdle, Sends, with_flight}
use Rattle.st_sender.specs.Filling.{Fills}
use Rattle.st_sender.specs.Answering.{after_acked, after_all_acked, after_fulfilled, landed}
use Rattle.st_world_quiet.specs.Quiet.{IsQuiet}
use Rattle.st_world_quiet.specs.Left.{all_closes_left, all_frames_left, all_money_left, closes_left, frames_left, money_left, prepares_left, work_left}
use Rattle.st_streams.proofs.SlotLemmas.{slot_within}
use Rattle.st_world_quiet.proofs.Sums.{sum_next}
use Rattle.st_world_quiet.proofs.Acknowledging.{is_same}
use Rattle.st_world_quiet.proofs.Data.{data_lowers, due_is, frames_below}
use Rattle.st_world_quiet.proofs.Money.{whole_arrives, all_free, div_rises, due_is_left, money_after, prepares_lower}
use Rattle.st_world_quiet.proofs.Going.{bytes_go, close_due, close_fits, money_goes}
use Rattle.st_world_quiet.proofs.Closes.{closes_below, closes_lower}

pub some_place : (f : ℕ → ℕ) (a m : ℕ) → 0 < sum (map f (range_with_len a m)) → (k : ℕ) × (a ≤ k) × (k < a + m) × (0 < f k)
some_place f a zero l = absurd (omega arith)
some_place f a (suc m) l = elim (cases_lt 0 (f a)) [
  | inl here ↦ (a, omega arith, omega arith, here)
  | inr none ↦ (let step = sum_next (f a) (map f (range_with_len (a + 1) m)) in let rest = some_place f (a + 1) m (omega (arith, step, none, l)) in
      (rest.0, (let h = rest.1 in omega (arith, h)), (let h = rest.2 in omega (arith, h)), rest.3))
]

pub place_below : (f : ℕ → ℕ) (k a m : ℕ) → a ≤ k → k < a + m → f k ≤ sum (map f (range_with_len a m))
place_below f k a zero from till = absurd (omega arith)
place_below f k a (suc m) from till =
    let step = sum_next (f a) (map f (range_with_len (a + 1) m)) in
    elim (cases_eq a k) [
      | inl same ↦ (let is : f a ≡ f k = ap f same in omega (arith, is, step))
      | inr apart ↦ (let rest = place_below f k (a + 1) m (omega arith) (omega arith) in omega (arith, rest, step))
    ]

-- ---- what is left of one stream

has_bytes : (n : ℕ) (y : Option Outgoing) → 0 < frames_left n y → (x : Outgoing) × (y ≡ Some x) × (x.acked_end < n)
has_bytes n None l = absurd (omega arith)
has_bytes n (Some x) l = (x, refl, omega arith)

has_money : (y : Option Outgoing) → 0 < money_left y → (x : Outgoing) × (y ≡ Some x) × (0 < x.offered - x.fulfilled)
has_money None l = absurd (omega arith)
has_money (Some x) l = (x, refl, l)

is_zero_if : (b : Bool) → 0 < cond b 0 1 → b ≡ false
is_zero_if true l = absurd (omega arith)
is_zero_if false l = refl

has_close : (y : Option Outgoing) → 0 < closes_left y → (x : Outgoing) × (y ≡ Some x) × (x.clean_settled ≡ false)
has_close None l = absurd (omega arith)
has_close (Some x) l = (x, refl, is_zero_if x.clean_settled l)

abbrev SomeBytes : Sending → Type 0
SomeBytes s = (k : ℕ) × (x : Outgoing) × (outgoing_at s k ≡ Some x) × (x.acked_end < x.accepted)

abbrev SomeMoney : Sending → Type 0
SomeMoney s = (k : ℕ) × (x : Outgoing) × (outgoing_at s k ≡ Some x) × (0 < x.offered - x.fulfilled)

abbrev SomeClose : Sending → Type 0
SomeClose s = (k : ℕ) × (x : Outgoing) × (outgoing_at s k ≡ Some x) × (x.clean_settled ≡ false)

bytes_left : (n : ℕ → ℕ) (s : Sending) → IsQuiet n s → 0 < all_frames_left n s → SomeBytes s
bytes_left n s quiet l =
    let at = some_place (λ k. frames_left (n k) (outgoing_at s k)) 0 65 l in
    let x = has_bytes (n at.0) (outgoing_at s at.0) at.3 in
    let w = quiet.streams at.0 x.0 x.1 in
    (at.0, x.0, x.1, waits (n at.0) x.0.acked_end x.0.accepted x.2 w.written)
  where
    waits : (n low accepted : ℕ) → low < n → (accepted ≡ n) ⊎ (low + 16000 ≤ accepted) → low < accepted
    waits n low accepted l h = omega arith

some_money_left : (s : Sending) → 0 < all_money_left s → SomeMoney s
some_money_left s l =
    let at = some_place (λ k. money_left (outgoing_at s k)) 0 65 l in
    let x = has_money (outgoing_at s at.0) at.3 in
    (at.0, x.0, x.1, x.2)

some_close_left : (s : Sending) → 0 < all_closes_left s → SomeClose s
some_close_left s l =
    let at = some_place (λ k. closes_left (outgoing_at s k)) 0 65 l in
    let x = has_close (outgoing_at s at.0) at.3 in
    (at.0, x.0, x.1, x.2)

-- and nothing left
pub no_bytes : (n : ℕ → ℕ) (s : Sending) (k : ℕ) (x : Outgoing) → length s.streams ≡ 65 → all_frames_left n s ≡ 0 → outgoing_at s k ≡ Some x → n k ≤ x.acked_end
no_bytes n s k x slots none e =
    let within = slot_within s.streams k x e in
    let below = place_below (λ j. frames_left (n j) (outgoing_at s j)) k 0 65 (omega arith) (omega (arith, within, slots)) in
    let is = ap (frames_left (n k)) e in
    omega (arith, below, is, none)

pub no_money : (s : Sending) (k : ℕ) (x : Outgoing) → length s.streams ≡ 65 → all_money_left s ≡ 0 → outgoing_at s k ≡ Some x → x.offered - x.fulfilled ≡ 0
no_money s k x slots none e =
    let within = slot_within s.streams k x e in
    let below = place_below (λ j. money_left (outgoing_at s j)) k 0 65 (omega arith) (omega (arith, within, slots)) in
    let is = ap money_left e in
    omega (arith, below, is, none)

pub no_close : (s : Sending) (k : ℕ) (x : Outgoing) → length s.streams ≡ 65 → all_closes_left s ≡ 0 → outgoing_at s k ≡ Some x → x.clean_settled ≢ false
no_close s k x slots none e still =
    let within = slot_within s.streams k x e in
    let below = place_below (λ j. closes_left (outgoing_at s j)) k 0 65 (omega arith) (omega (arith, within, slots)) in
    let is : closes_left (outgoing_at s k) ≡ 1 = ap closes_left e ∙ ap {B = ℕ} (λ b. cond b 0 1) still in
    omega (arith, below, is, none)

no_prepares : (s : Sending) → 0 < s.packet_limit → all_money_left s ≡ 0 → prepares_left s ≡ 0
no_prepares s some none = let same : all_money_left s + s.packet_limit - 1 ≡ s.packet_limit - 1 = omega (arith, none, some) in rw same (div-eq_of_lt (omega (arith, some)))

-- ---- while something is left a Send goes

pub some_goes : (n : ℕ → ℕ) (s : Sending) (limits : List Known) → IsQuiet n s → 0 < work_left n s → ¬ IsIdle s limits max_packet
some_goes n s limits quiet left idle =
    elim (cases_lt 0 (all_frames_left n s)) [
      | inl bytes ↦ (let b = bytes_left n s quiet bytes in bytes_go n s limits b.0 b.1 quiet b.2 b.3 idle)
      | inr none ↦ elim (cases_lt 0 (all_money_left s)) [
        | inl money ↦ (let m = some_money_left s money in money_goes n s limits m.0 m.1 quiet m.2 m.3 idle)
        | inr poor ↦ (let z = no_prepares s quiet.pays (omega (arith, poor)) in
            let c = some_close_left s (omega (arith, z, none, left)) in
            idle (CloseFrame (StreamClose c.0 1 []))
            (close_due n s limits c.0 c.1 quiet c.2 (no_bytes n s c.0 c.1 quiet.slots (omega (arith, none)) c.2) (no_money s c.0 c.1 quiet.slots (omega (arith, poor)) c.2) c.3)
            (close_fits n s c.0 quiet))
      ]
    ]

-- ---- what is due, once no byte and no money is left

pub data_needs_bytes : (n : ℕ → ℕ) (s : Sending) (k o : ℕ) (x : Outgoing) (b : ℕ) → IsQuiet n s → outgoing_at s k ≡ Some x → due_at s k x o ≡ Some b → (x.acked_end ≤ o) × (o < x.accepted)
data_needs_bytes n s k o x b quiet e due =
    let w = quiet.streams k x e in
    let got : fmap.get x.unacked o ≡ Some b = sym (due_is s k x o quiet.alone) ∙ due in (
      elim (cases_lt o x.acked_end) [ inl low ↦ absurd (let none = w.front o low in cc) | inr high ↦ high ],
      elim (cases_lt o x.accepted) [ inl low ↦ low | inr high ↦ absurd (let none = w.past o high in cc) ],
    )

first_byte : (xs : List ℕ) → 0 < length xs → (b : ℕ) × (slice_get xs 0 ≡ Some b)
first_byte [] l = absurd (omega arith)
first_byte (b ∷ xs) l = (b, refl)

no_data_due : (n : ℕ → ℕ) (s : Sending) (k o : ℕ) (xs : List ℕ) → IsQuiet n s → all_frames_left n s ≡ 0 → ¬ IsDueData s k o xs
no_data_due n s k o xs quiet none due =
    let head = first_byte xs due.some in
    let at = data_needs_bytes n s k (o + 0) due.stream head.0 quiet due.is_open (due.bytes 0 head.0 head.1) in
    let acked = no_bytes n s k due.stream quiet.slots none due.is_open in
    let w = (quiet.streams k due.stream due.is_open).total in
    let a = at.0 in let b = at.1 in
    omega (arith, a, b, acked, w)

pub clean_asked : (n : ℕ → ℕ) (s : Sending) (k c : ℕ) (x : Outgoing) → IsQuiet n s → outgoing_at s k ≡ Some x → IsAbort x c ⊎ IsCleanClose x c → (c ≡ 1) × (x.clean_settled ≡ false)
clean_asked n s k c x quiet e (inl h) = absurd (let a = (quiet.streams k x e).alive in let b = h.asked in let clash : ◌≡◌ {A = Option ℕ} None (Some c) = sym a ∙ b in cc)
clean_asked n s k c x quiet e (inr h) = (h.code_is, h.unsettled)

pub no_slot : {A : Type 0} (k : ℕ) → slot {A = A} no_slots k ≡ None
no_slot {A} k = none_in 65 k
  where
    none_in : (m k : ℕ) → slot {A = A} (replicate m None) k ≡ None
    none_in zero k = refl
    none_in (suc m) zero = refl
    none_in (suc m) (suc k) = none_in m k

pub no_limit_due : (s : Sending) (limits : List Known) (value : ℕ) (mark : Option ℕ) (f : Known) → mark ≡ None → ¬ IsDueLimit s limits mark value f
no_limit_due s limits value mark f none due = let m = due.marked in let e = m.1 in let clash : ◌≡◌ {A = Option ℕ} None (Some m.0) = sym none ∙ e in absurd (cc)

-- then each frame that is due is a close of a stream that is still open
only_closes : (n : ℕ → ℕ) (s : Sending) (limits : List Known) (f : Known) → IsQuiet n s → all_frames_left n s ≡ 0 → all_money_left s ≡ 0 → IsDue s limits f
    → (k : ℕ) × (x : Outgoing) × (outgoing_at s k ≡ Some x) × (x.clean_settled ≡ false) × (is_close k 1 f ≡ true)
only_closes n s limits (CloseFrame (StreamClose k c message)) quiet none poor due =
    let d = due.0 in
    let asked = clean_asked n s k c d.stream quiet d.is_open d.asked in
    (k, d.stream, d.is_open, asked.1, (let a = is_same k k refl in let b = is_same c 1 asked.0 in rw (a, b) refl))
only_closes n s limits (StreamData k o xs) quiet none poor due = absurd (no_data_due n s k o xs quiet none due)
only_closes n s limits (StreamMoney k m) quiet none poor due =
    absurd (let w = quiet.streams k due.stream due.is_open in let d = due_is_left s k due.stream quiet.alone w.alive in let z = no_money s k due.stream quiet.slots poor due.is_open in
    let a = due.some in let b = due.due in omega (arith, d, z, a, b))
only_closes n s limits (BlockedFrame (StreamDataBlocked k m)) quiet none poor due =
    absurd (let waits = due.waits in let at = data_needs_bytes n s k waits.0 due.stream waits.1 quiet due.is_open waits.2 in
    let acked = no_bytes n s k due.stream quiet.slots none due.is_open in let w = (quiet.streams k due.stream due.is_open).total in let a = at.0 in let b = at.1 in omega (arith, a, b, acked, w))
only_closes n s limits (BlockedFrame (ConnectionDataBlocked m)) quiet none poor due =
    absurd (let waits = due.waits in let at = data_needs_bytes n s waits.0 waits.1 waits.3 waits.2 quiet waits.4 waits.5 in
    let acked = no_bytes n s waits.0 waits.3 quiet.slots none waits.4 in let w = (quiet.streams waits.0 waits.3 waits.4).total in let a = at.0 in let b = at.1 in omega (arith, a, b, acked, w))
only_closes n s limits (BlockedFrame (StreamMoneyBlocked k m t)) quiet none poor due =
    absurd (let w = quiet.streams k due.stream due.is_open in let d = due_is_left s k due.stream quiet.alone w.alive in let z = no_money s k due.stream quiet.slots poor due.is_open in
    let arrives = whole_arrives s.config.least (due_money s k due.stream) quiet.whole in
    let a = due.waits in omega (arith, arrives, d, z, a))
only_closes n s limits (LimitFrame (ConnectionMaxData v)) quiet none poor due = absurd (no_limit_due s limits v s.marks.connection (LimitFrame (ConnectionMaxData v)) (ap (λ (m : PeerBlocked). m.connection) quiet.unmarked) due)
only_closes n s limits (LimitFrame (StreamMaxData k v)) quiet none poor due = absurd (no_limit_due s limits v (slot s.marks.offsets k) (LimitFrame (StreamMaxData k v)) (ap (λ (m : PeerBlocked). slot m.offsets k) quiet.unmarked ∙ no_slot k) due)
only_closes n s limits (LimitFrame (StreamMaxMoney k v t)) quiet none poor due = absurd (no_limit_due s limits v (slot s.marks.money k) (LimitFrame (StreamMaxMoney k v t)) (ap (λ (m : PeerBlocked). slot m.money k) quiet.unmarked ∙ no_slot k) due)
only_closes n s limits (CloseFrame (ConnectionClose code message)) quiet none poor due = absurd due
only_closes n s limits (OtherFrame o) quiet none poor due = absurd due

first_closes : (n : ℕ → ℕ) (s : Sending) (limits : List Known) (fs : List Known) → IsQuiet n s → all_frames_left n s ≡ 0 → all_money_left s ≡ 0 → fs ≢ [] → AllByRecursion (IsDue s limits) fs
    → (k : ℕ) × (x : Outgoing) × (outgoing_at s k ≡ Some x) × (x.clean_settled ≡ false) × (list_any (is_close k 1) fs ≡ true)
first_closes n s limits [] quiet none poor some due = absurd (some refl)
first_closes n s limits (f ∷ fs) quiet none poor some due =
    let c = only_closes n s limits f quiet none poor due.0 in
    (c.0, c.1, c.2, c.3, (let e = c.4 in rw e refl))

-- ---- each Send lowers what is left

limit_at : (s : Sending) (j : ℕ) (f : Outgoing → Outgoing) (y : Option Outgoing) → (changed_at s j f y).packet_limit ≡ s.packet_limit
limit_at s j f None = refl
limit_at s j f (Some x) = refl

limit_acked : (s : Sending) (f : Known) → (after_acked s (flown f)).packet_limit ≡ s.packet_limit
limit_acked s (StreamData j o xs) = limit_at s j _ (outgoing_at s j)
limit_acked s (StreamMoney j n) = limit_at s j _ (outgoing_at s j)
limit_acked s (CloseFrame (StreamClose j code message)) = limit_at s j _ (outgoing_at s j)
limit_acked s (BlockedFrame (StreamDataBlocked j n)) = limit_at s j _ (outgoing_at s j)
limit_acked s (BlockedFrame (StreamMoneyBlocked j n t)) = limit_at s j _ (outgoing_at s j)
limit_acked s (BlockedFrame (ConnectionDataBlocked n)) = refl
limit_acked s (LimitFrame (ConnectionMaxData n)) = refl
limit_acked s (LimitFrame (StreamMaxData j n)) = refl
limit_acked s (LimitFrame (StreamMaxMoney j n u)) = refl
limit_acked s (CloseFrame (ConnectionClose code message)) = refl
limit_acked s (OtherFrame o) = refl

limit_all_acked : (s : Sending) (fs : List Known) → (after_all_acked s (map flown fs)).packet_limit ≡ s.packet_limit
limit_all_acked s [] = refl
limit_all_acked s (f ∷ fs) = limit_all_acked (after_acked s (flown f)) fs ∙ limit_acked s f

abbrev LowersTo : (old new : ℕ) → Type 0
LowersTo old new = (new ≤ old) × (0 < old → new + 1 ≤ old)

data_lowers_to : (n : ℕ → ℕ) (s : Sending) (limits : List Known) (p : Load) → IsQuiet n s → Fills s limits max_packet p
    → LowersTo (all_frames_left n s) (all_frames_left n (after_fulfilled (with_flight s p) (flight_of p)))
data_lowers_to n s limits p quiet fills = (
  frames_below n (landed (with_flight s p) p.sequence) p.frames,
  λ left. let b = bytes_left n s quiet left in data_lowers n s limits max_packet p b.0 b.1 quiet fills b.2 b.3,
)

money_numbers : (limit m new amount after : ℕ) → 0 < limit → new + amount ≡ m → min limit m ≤ amount → after ≡ limit → LowersTo ((m + limit - 1) / limit) ((new + after - 1) / after)
money_numbers limit m new amount after some sum_is full same = rw same (
  div_rises (new + limit - 1) (m + limit - 1) limit some (omega (arith, sum_is)),
  λ left. elim (cases_lt 0 m) [
    | inl more ↦ (let is : new ≡ m - amount = omega (arith, sum_is) in rw is (prepares_lower limit m amount some more full))
    | inr none ↦ absurd (let z : (m + limit - 1) / limit ≡ 0 = div-eq_of_lt (omega (arith, none, some)) in omega (arith, z, left))
  ],
)

money_lowers_to : (n : ℕ → ℕ) (s : Sending) (limits : List Known) (p : Load) → IsQuiet n s → Sends s limits max_packet p (with_flight s p) → Fills s limits max_packet p
    → LowersTo (prepares_left s) (prepares_left (after_fulfilled (with_flight s p) (flight_of p)))
money_lowers_to n s limits p quiet sends fills =
    money_numbers s.packet_limit (all_money_left s) (all_money_left (after_fulfilled (with_flight s p) (flight_of p))) p.amount (after_fulfilled (with_flight s p) (flight_of p)).packet_limit
    quiet.pays
    (money_after n s limits max_packet p (with_flight s p) quiet sends)
    (let f = fills.money in let a = all_free n s quiet in rw a at f)
    (limit_all_acked (landed (with_flight s p) p.sequence) p.frames)

work_numbers : (d e m o c b : ℕ) → LowersTo d e → LowersTo m o → b ≤ c → 0 < max d m → max e o + b + 1 ≤ max d m + c
work_numbers d e m o c b hd hm hc some =
    let d0 = hd.0 in let m0 = hm.0 in
    elim (cases_lt 0 d) [
      | inl data_left ↦ (let d1 = hd.1 data_left in elim (cases_lt 0 m) [
        | inl money_too ↦ (let m1 = hm.1 money_too in omega (arith, d1, m1, hc))
        | inr none ↦ omega (arith, d1, m0, hc)
      ])
      | inr none ↦ (let m1 = hm.1 (omega (arith, none, some)) in omega (arith, d0, m1, hc, none))
    ]

close_numbers : (d e m o c b : ℕ) → LowersTo d e → LowersTo m o → b + 1 ≤ c → max e o + b + 1 ≤ max d m + c
close_numbers d e m o c b hd hm hc = let d0 = hd.0 in let m0 = hm.0 in omega (arith, d0, m0, hc)

pub zero_prepares : (limit m : ℕ) → 0 < limit → (m + limit - 1) / limit ≡ 0 → m ≡ 0
zero_prepares limit m some z = elim (cases_lt 0 m) [
  | inl more ↦ absurd (let one : 1 ≤ (m + limit - 1) / limit = le-div 1 (m + limit - 1) limit some (omega (arith, more)) in omega (arith, one, z))
  | inr none ↦ omega (arith, none)
]

last_lowers : (n : ℕ → ℕ) (s : Sending) (limits : List Known) (p : Load) → IsQuiet n s → Sends s limits max_packet p (with_flight s p) → all_frames_left n s ≡ 0 → all_money_left s ≡ 0
    → all_closes_left (after_fulfilled (with_flight s p) (flight_of p)) + 1 ≤ all_closes_left s
last_lowers n s limits p quiet sends none poor =
    let c = first_closes n s limits p.frames quiet none poor sends.some sends.due in
    closes_lower (landed (with_flight s p) p.sequence) p.frames c.0 c.1 quiet.slots c.2 c.3 c.4

pub work_lowers : (n : ℕ → ℕ) (s : Sending) (limits : List Known) (p : Load) → IsQuiet n s → Sends s limits max_packet p (with_flight s p) → Fills s limits max_packet p
    → work_left n (after_fulfilled (with_flight s p) (flight_of p)) + 1 ≤ work_left n s
work_lowers n s limits p quiet sends fills =
    elim (cases_lt 0 (max (all_frames_left n s) (prepares_left s))) [
      | inl work ↦ work_numbers _ _ _ _ _ _ (data_lowers_to n s limits p quiet fills) (money_lowers_to n s limits p quiet sends fills) (closes_below (landed (with_flight s p) p.sequence) p.frames) work
      | inr none ↦ close_numbers _ _ _ _ _ _ (data_lowers_to n s limits p quiet fills) (money_lowers_to n s limits p quiet sends fills)
          (last_lowers n s limits p quiet sends (omega (arith, none)) (zero_prepares s.packet_limit (all_money_left s) quiet.pays (omega (arith, none))))
    ]

-- and once nothing is left none goes
pub none_goes : (n : ℕ → ℕ) (s : Sending) (limits : List Known) (p : Load) → IsQuiet n s → work_left n s ≡ 0 → ¬ Sends s limits max_packet p (with_flight s p)
none_goes n s limits p quiet done sends =
    let c = last_lowers n s limits p quiet sends (omega (arith, done)) (zero_prepares s.packet_limit (all_money_left s) quiet.pays (omega (arith, done))) in
    omega (arith, done, c)
