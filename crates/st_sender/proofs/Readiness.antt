-- No frame goes by the numbers.
use Rattle.std.proofs.Common.{◌≡◌, ℕ, ◌+◌, ◌-◌, ◌<◌, ◌∙◌, true, false, arith, Option, None, Some, inl, inr, subst, sym, List}
use Rattle.std.proofs.lemmas.Bool.{cases_lt}
use Rattle.st_streams.specs.Slots.{Slots, slot}
use Rattle.st_sender.specs.Sending.{Flight}
use Rattle.st_sender.specs.Flights.{any_frame, closes}
use Rattle.st_sender.specs.Lanes.{SendStream, due_in}
use Rattle.st_sender.specs.declared.bounds.Bounds.{Bounds}
use Rattle.st_sender.specs.Allowed.{IsAllowed, IsStopped, IsFinished, NoneReady, NoneFinished, IsNone, bounds, lane_ends}
use Rattle.st_sender.proofs.Lengths.{data_rises}

-- if the lowest byte that is due may not be sent, none may
pub stopped_by : (flights : List Flight) (b : Bounds) (k : ℕ) (l : SendStream) (low : ℕ) → ((p : ℕ) → p < low → due_in l p ≡ None) → ¬ IsAllowed flights b k l low 1 → IsStopped flights b k l
stopped_by flights b k l low below stopped o byte e a = elim (cases_lt o low) [
  | inl h ↦ (let n = below o h in absurd (cc))
  | inr h ↦ stopped (record { stream = omega (arith, a.stream); connection = omega (arith, a.connection); room_left = omega (arith, data_rises b.sequence k low o 1 1 h (omega arith), a.room_left) })
]

pub none_more : (lanes : Slots SendStream) (flights : List Flight) (b : Bounds) (n : ℕ) → NoneFinished lanes flights b n → ((l : SendStream) → slot lanes n ≡ Some l → (code : ℕ) → ¬ IsFinished flights b n l code) → NoneFinished lanes flights b (n + 1)
none_more lanes flights b n before here k l h e code f = elim (cases_lt k n) [
  | inl low ↦ before k l low e code f
  | inr high ↦ (let same : k ≡ n = omega arith in here l (subst (λ i. slot lanes i ≡ Some l) same e) code (subst (λ i. IsFinished flights b i l code) same f))
]

pub none_of : (lanes : Slots SendStream) (flights : List Flight) (told sequence room spare : ℕ) → spare ≡ told - lane_ends lanes flights 0 65
    → NoneReady lanes flights (record { spare = spare; sequence = sequence; room = room }) 65 → NoneFinished lanes flights (record { spare = spare; sequence = sequence; room = room }) 65
    → IsNone lanes flights (bounds lanes flights told sequence room)
none_of lanes flights told sequence room spare e r f = (
  subst (λ n. NoneReady lanes flights (record { spare = n; sequence = sequence; room = room }) 65) e r,
  subst (λ n. NoneFinished lanes flights (record { spare = n; sequence = sequence; room = room }) 65) e f,
)

-- a close that is in flight is not due
pub closing_abort : (flights : List Flight) (b : Bounds) (k : ℕ) (l : SendStream) (by : ℕ) → l.out.abort ≡ Some by → any_frame (closes k by) flights ≡ true → (code : ℕ) → ¬ IsFinished flights b k l code
closing_abort flights b k l by a t code f = elim f.asked [
  | inl x ↦ (let same : ◌≡◌ {A = Option ℕ} (Some by) (Some code) = sym a ∙ x.asked in
      let e : by ≡ code = cc in
      let idle : any_frame (closes k by) flights ≡ false = subst (λ c. any_frame (closes k c) flights ≡ false) (sym e) f.idle in absurd (cc))
  | inr x ↦ (let alive = x.alive in absurd (cc))
]

pub closing_clean : (flights : List Flight) (b : Bounds) (k : ℕ) (l : SendStream) → l.out.abort ≡ None → any_frame (closes k 1) flights ≡ true → (code : ℕ) → ¬ IsFinished flights b k l code
closing_clean flights b k l a t code f = elim f.asked [
  | inl x ↦ (let asked = x.asked in absurd (cc))
  | inr x ↦ (let idle : any_frame (closes k 1) flights ≡ false = subst (λ c. any_frame (closes k c) flights ≡ false) x.code_is f.idle in absurd (cc))
]
