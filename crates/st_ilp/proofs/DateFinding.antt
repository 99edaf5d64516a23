-- Each value of four-digit years has one date and time, and `date_and_time` is it.
use Rattle.std.proofs.Common.{◌≡◌, ℕ, zero, suc, ◌+◌, ◌-◌, ◌*◌, ◌/◌, ◌%◌, ◌<◌, ◌≤◌, Bool, true, false, cond, refl, sym, ap, ◌∙◌, subst, inl, inr, arith, ℤ, pos, neg_ℤ, ◌+ℤ◌, ◌-ℤ◌, ◌*ℤ◌, ◌<ℤ◌, ◌≤ℤ◌, unsigned_abs}
use Rattle.std.specs.Prelude.{int_le, ◌&&◌}
use Rattle.std.specs.Int.{int_div_euclid, int_rem_euclid}
use Rattle.std.proofs.lemmas.Bool.{cases_lt}
use Rattle.std.proofs.lemmas.Int.{ints}
use Rattle.jiff_core.specs.Calendar.{days_from_civil, day_count, days_in_month}
use Rattle.jiff_core.proofs.SignedLemmas.{signed_arith}
use Rattle.jiff_core.proofs.CalendarLemmas.{day_count-day_of_year, day_count-later_year, day_count-last_of_year, day_count-lt_year, day_count-lt_month, day_count-day, day_count-next_month, day_count-next_year, day_count-end, day_count_bounds, days_from_civil-day_count}
use Rattle.jiff_core.proofs.MarchLemmas.{day_count-early}
use Rattle.st_ilp.specs.Calendar.{DateAndTime, Exists, milliseconds, since_midnight, day_length, last_until, year_of, month_of, on_day, date_and_time}
use Rattle.st_ilp.specs.Expiry.{is_expiry}
use Rattle.st_ilp.proofs.DateLemmas.{civil_date, year_number}

-- ---- the last number that passes a test

pub last_is : (n k : ℕ) (test : ℕ → Bool) → k ≤ n → test k ≡ true → ((j : ℕ) → k < j → j ≤ n → test j ≡ false) → last_until n test ≡ k
unfolding last_until
last_is zero k test le passes after = omega arith
last_is (suc n) k test le passes after =
    elim (cases_lt k (suc n)) [
      | inl below ↦ rw (after (suc n) below (omega arith)) (last_is n k test (omega arith) passes (λ j lo hi. after j lo (omega arith)))
      | inr top ↦
          let e : k ≡ suc n = omega arith in
          let last : test (suc n) ≡ true = subst (λ x. test x ≡ true) e passes in
          rw last (sym e)
    ]

no_both : {b : Bool} → b ≡ true → b ≡ false → ⊥
no_both t f = let bad = sym t ∙ f in absurd cc

pub record IsLast (n k : ℕ) (test : ℕ → Bool) (last : ℕ) : Type 0 where
  pub passes : test last ≡ true
  pub least : k ≤ last
  pub most : last ≤ n
  pub after : last < n → test (suc last) ≡ false

pub last_found : (n k : ℕ) (test : ℕ → Bool) → k ≤ n → test k ≡ true → IsLast n k test (last_until n test)
unfolding last_until
last_found zero k test le passes =
    let e : k ≡ 0 = omega arith in
    record { passes = subst (λ x. test x ≡ true) e passes; least = le; most = omega arith; after = λ lt. absurd (omega arith) }
last_found (suc n) k test le passes =
    let by : (b : Bool) → test (suc n) ≡ b → IsLast (suc n) k test (cond b (suc n) (last_until n test)) = λ b. elim b as (λ b. test (suc n) ≡ b → IsLast (suc n) k test (cond b (suc n) (last_until n test))) [
      | true ↦ λ e. record { passes = e; least = le; most = omega arith; after = λ lt. absurd (omega arith) }
      | false ↦ λ e.
          let lower : k ≤ n = elim (cases_lt n k) [
            | inl above ↦
                let same : k ≡ suc n = omega arith in
                let bad : test (suc n) ≡ true = subst (λ x. test x ≡ true) same passes in
                absurd (no_both bad e)
            | inr low ↦ low
          ] in
          let h = last_found n k test lower passes in
          record {
            passes = h.passes;
            least = h.least;
            most = omega (arith, h.most);
            after = λ lt. elim (cases_lt (last_until n test) n) [
              | inl below ↦ h.after below
              | inr top ↦
                  let same : suc n ≡ suc (last_until n test) = omega (arith, h.most) in
                  subst (λ x. test x ≡ false) same e
            ];
          }
    ] in
    by (test (suc n)) refl

-- ---- tests on signed numbers

pub is_le : (a b : ℤ) → a ≤ℤ b → int_le a b ≡ true
is_le a b h = grind (arith, ints)

pub is_not_le : (a b : ℤ) → b <ℤ a → int_le a b ≡ false
is_not_le a b h = grind (arith, ints)

pub le_is : (a b : ℤ) → int_le a b ≡ true → a ≤ℤ b
le_is a b h = grind (arith, ints)

pub not_le_is : (a b : ℤ) → int_le a b ≡ false → b <ℤ a
not_le_is a b h = grind (arith, ints)

-- ---- the date of a day number

year_is : (t : DateAndTime) → Exists t → year_of (days_from_civil (pos t.year) t.month t.day) ≡ t.year
unfolding year_of
year_is t h =
    let day = days_from_civil (pos t.year) t.month t.day in
    let date = civil_date t h in
    last_is 9999 t.year (λ year. int_le (days_from_civil (pos year) 1 1) day) (omega (arith, h.year))
    (is_le (days_from_civil (pos t.year) 1 1) day (omega (arith, signed_arith, days_from_civil-day_count, day_count-day_of_year (pos t.year) t.month t.day h.day.0, h.day)))
    (λ j lo hi. is_not_le (days_from_civil (pos j) 1 1) day
    (omega (arith, signed_arith, days_from_civil-day_count, day_count-lt_year (pos t.year) t.month t.day (pos j) 1 1 date (omega arith) (omega (arith, signed_arith, lo)))))

month_is : (t : DateAndTime) → Exists t → month_of t.year (days_from_civil (pos t.year) t.month t.day) ≡ t.month
unfolding month_of
month_is t h =
    let day = days_from_civil (pos t.year) t.month t.day in
    let date = civil_date t h in
    last_is 12 t.month (λ month. int_le (days_from_civil (pos t.year) month 1) day) h.month.1
    (is_le (days_from_civil (pos t.year) t.month 1) day (omega (arith, signed_arith, days_from_civil-day_count, day_count-day (pos t.year) t.month t.day 1 h.day.0 (omega arith), h.day)))
    (λ j lo hi. is_not_le (days_from_civil (pos t.year) j 1) day
    (omega (arith, signed_arith, days_from_civil-day_count, day_count-lt_month (pos t.year) t.month t.day j 1 date (omega arith) lo)))

-- how far a number lies above another
difference : (a b : ℤ) (k : ℕ) → a ≡ b +ℤ pos k → unsigned_abs (a -ℤ b) ≡ k
difference a b k e =
    let d : a -ℤ b ≡ pos k = omega (arith, signed_arith, e) in
    ap unsigned_abs d

difference_back : (a b : ℤ) → b ≤ℤ a → a ≡ b +ℤ pos (unsigned_abs (a -ℤ b))
difference_back a b h =
    rw (year_number (a -ℤ b) (omega (arith, signed_arith, h))) (omega (arith, signed_arith))

day_is : (t : DateAndTime) → Exists t → unsigned_abs (days_from_civil (pos t.year) t.month t.day -ℤ days_from_civil (pos t.year) t.month 1) + 1 ≡ t.day
day_is t h =
    let day = days_from_civil (pos t.year) t.month t.day in
    let first = days_from_civil (pos t.year) t.month 1 in
    let sum : day ≡ first +ℤ pos (t.day - 1) = omega (arith, signed_arith, days_from_civil-day_count, day_count-day (pos t.year) t.month t.day 1 h.day.0 (omega arith), h.day) in
    omega (arith, difference day first (t.day - 1) sum, h.day)

on_day_is : (t : DateAndTime) → Exists t → on_day (days_from_civil (pos t.year) t.month t.day) (since_midnight t) ≡ t
on_day_is t h =
    let hour : since_midnight t / 3_600_000 ≡ t.hour = omega (arith, h.hour, h.minute, h.second, h.milli) in
    let minute : since_midnight t / 60_000 % 60 ≡ t.minute = omega (arith, h.hour, h.minute, h.second, h.milli) in
    let second : since_midnight t / 1_000 % 60 ≡ t.second = omega (arith, h.hour, h.minute, h.second, h.milli) in
    let milli : since_midnight t % 1_000 ≡ t.milli = omega (arith, h.milli) in
    rw (year_is t h, month_is t h, day_is t h, hour, minute, second, milli) refl

-- a value is a number of days and a number of milliseconds
parts_is : (day : ℤ) (since : ℕ) → since < day_length → (int_div_euclid (day *ℤ pos day_length +ℤ pos since) (pos day_length) ≡ day)
    × (unsigned_abs (int_rem_euclid (day *ℤ pos day_length +ℤ pos since) (pos day_length)) ≡ since)
parts_is day since h = (omega (arith, signed_arith, h), omega (arith, signed_arith, h))

since_bound : (t : DateAndTime) → Exists t → since_midnight t < day_length
since_bound t h = omega (arith, h.hour, h.minute, h.second, h.milli)

-- a date and time that exists is the one with its value
pub date_and_time-milliseconds : (t : DateAndTime) → Exists t → date_and_time (milliseconds t) ≡ t
unfolding date_and_time
date_and_time-milliseconds t h =
    let p = parts_is (days_from_civil (pos t.year) t.month t.day) (since_midnight t) (since_bound t h) in
    rw (p.0, p.1) (on_day_is t h)

first_day : day_count (pos 0) 1 1 ≡ 3_652_425
first_day = day_count-early (pos 0) 9999 1 1 refl (omega arith) (omega arith) (omega arith)

-- a date that exists lies from the first day of the year 0 to the last of the year 9999
days_bounds : (t : DateAndTime) → Exists t → (3_652_425 ≤ day_count (pos t.year) t.month t.day) × (day_count (pos t.year) t.month t.day ≤ 7_304_849)
days_bounds t h =
    let high = day_count_bounds (pos t.year) t.month t.day (civil_date t h) in
    let low : 3_652_425 ≤ day_count (pos t.year) t.month t.day = elim (cases_lt 0 t.year) [
      | inl later ↦ omega (arith, first_day, day_count-later_year (pos 0) (pos t.year) (omega (arith, signed_arith)) (omega (arith, signed_arith, later)), day_count-day_of_year (pos t.year) t.month t.day h.day.0, h.day)
      | inr none ↦
          let e : t.year ≡ 0 = omega arith in
          rw e (omega (arith, first_day, day_count-day_of_year (pos 0) t.month t.day h.day.0, h.day))
    ] in
    (low, high.1)

pub both : (a b : Bool) → a ≡ true → b ≡ true → (a && b) ≡ true
both a b p q = rw (p, q) refl

-- and its value lies in that range
pub milliseconds-is_expiry : (t : DateAndTime) → Exists t → is_expiry (milliseconds t) ≡ true
milliseconds-is_expiry t h =
    let b = days_bounds t h in
    both (int_le (neg_ℤ (pos 62_167_219_200_000)) (milliseconds t)) (int_le (milliseconds t) (pos 253_402_300_799_999))
    (is_le (neg_ℤ (pos 62_167_219_200_000)) (milliseconds t) (omega (arith, signed_arith, days_from_civil-day_count, b.0)))
    (is_le (milliseconds t) (pos 253_402_300_799_999) (omega (arith, signed_arith, days_from_civil-day_count, b.1, since_bound t h)))

-- ---- each value of the range has a date and time

abbrev IsInYears : ℤ → Type 0
IsInYears day = (neg_ℤ (pos 719_528) ≤ℤ day) × (day ≤ℤ pos 2_932_896)

record HasYear (year : ℕ) (day : ℤ) : Type 0 where
  most : year ≤ 9999
  first : days_from_civil (pos year) 1 1 ≤ℤ day
  last : day <ℤ days_from_civil (pos (suc year)) 1 1

year_found : (day : ℤ) → IsInYears day → HasYear (year_of day) day
unfolding year_of
year_found day h =
    let test = λ (year : ℕ). int_le (days_from_civil (pos year) 1 1) day in
    let zeroth = is_le (days_from_civil (pos 0) 1 1) day (omega (arith, signed_arith, days_from_civil-day_count, first_day, h.0)) in
    let l = last_found 9999 0 test (omega arith) zeroth in
    let y = last_until 9999 test in
    record {
      most = l.most;
      first = le_is (days_from_civil (pos y) 1 1) day l.passes;
      last = elim (cases_lt y 9999) [
        | inl below ↦ not_le_is (days_from_civil (pos (suc y)) 1 1) day (l.after below)
        | inr top ↦
            let e : suc y ≡ 10000 = omega (arith, l.most) in
            rw e (omega (arith, signed_arith, days_from_civil-day_count, day_count-end, h.1))
      ];
    }

record HasMonth (year month : ℕ) (day : ℤ) : Type 0 where
  least : 1 ≤ month
  most : month ≤ 12
  first : days_from_civil (pos year) month 1 ≤ℤ day
  last : day <ℤ (days_from_civil (pos year) month 1 +ℤ pos (days_in_month (pos year) month))

month_found : (year : ℕ) (day : ℤ) → HasYear year day → HasMonth year (month_of year day) day
unfolding month_of
month_found year day h =
    let test = λ (month : ℕ). int_le (days_from_civil (pos year) month 1) day in
    let l = last_found 12 1 test (omega arith) (is_le (days_from_civil (pos year) 1 1) day h.first) in
    let m = last_until 12 test in
    let next = day_count-next_month (pos year) m l.least in
    record {
      least = l.least;
      most = l.most;
      first = le_is (days_from_civil (pos year) m 1) day l.passes;
      last = elim (cases_lt m 12) [
        | inl below ↦
            let e : suc m ≡ m + 1 = omega arith in
            let before = rw e at (not_le_is (days_from_civil (pos year) (suc m) 1) day (l.after below)) in
            omega (arith, signed_arith, days_from_civil-day_count, next, before)
        | inr top ↦
            let e : m ≡ 12 = omega (arith, l.most) in
            let n : pos (suc year) ≡ pos year +ℤ pos 1 = omega (arith, signed_arith) in
            rw e (omega (arith, signed_arith, days_from_civil-day_count, day_count-next_year (pos year) (pos (suc year)) (omega (arith, signed_arith)) n, day_count-last_of_year (pos year), day_count-day (pos year) 12 31 1 (omega arith) (omega arith), h.last))
      ];
    }

exists_on : (day : ℤ) (since : ℕ) → IsInYears day → since < day_length → Exists (on_day day since) × (milliseconds (on_day day since) ≡ day *ℤ pos day_length +ℤ pos since)
exists_on day since h small =
    let y = year_found day h in
    let m = month_found (year_of day) day y in
    let first = days_from_civil (pos (year_of day)) (month_of (year_of day) day) 1 in
    let k = unsigned_abs (day -ℤ first) in
    let sum : day ≡ first +ℤ pos k = difference_back day first m.first in
    let date : days_from_civil (pos (year_of day)) (month_of (year_of day) day) (k + 1) ≡ day = omega (
      arith,
      signed_arith,
      days_from_civil-day_count,
      sum,
      day_count-day (pos (year_of day)) (month_of (year_of day) day) (k + 1) 1 (omega arith) (omega arith),
    ) in
    let time : since / 3_600_000 * 3_600_000 + since / 60_000 % 60 * 60_000 + since / 1_000 % 60 * 1_000 + since % 1_000 ≡ since = omega arith in
    let last : k + 1 ≤ days_in_month (pos (year_of day)) (month_of (year_of day) day) = omega (arith, signed_arith, sum, m.last) in (
      record {
        year = omega (arith, y.most);
        month = (m.least, m.most);
        day = (omega arith, last);
        hour = omega (arith, small);
        minute = omega arith;
        second = omega arith;
        milli = omega arith;
      },
      ap (λ (z : ℤ). z *ℤ pos day_length +ℤ pos (since_midnight (on_day day since))) date ∙ ap (λ (n : ℕ). day *ℤ pos day_length +ℤ pos n) time,
    )

pub two_parts : (a b : Bool) → (a && b) ≡ true → (a ≡ true) × (b ≡ true)
two_parts true true e = (refl, refl)
two_parts true false e = absurd cc
two_parts false b e = absurd cc

-- each value of the range is that of the date and time found for it
pub date_and_time_found : (millis : ℤ) → is_expiry millis ≡ true → Exists (date_and_time millis) × (milliseconds (date_and_time millis) ≡ millis)
unfolding date_and_time
date_and_time_found millis e =
    let p = two_parts (int_le (neg_ℤ (pos 62_167_219_200_000)) millis) (int_le millis (pos 253_402_300_799_999)) e in
    let low = le_is (neg_ℤ (pos 62_167_219_200_000)) millis p.0 in
    let high = le_is millis (pos 253_402_300_799_999) p.1 in
    let day = int_div_euclid millis (pos day_length) in
    let since = unsigned_abs (int_rem_euclid millis (pos day_length)) in
    let within : IsInYears day = (omega (arith, signed_arith, low), omega (arith, signed_arith, high)) in
    let small : since < day_length = omega (arith, signed_arith) in
    let on = exists_on day since within small in
    let sum : day *ℤ pos day_length +ℤ pos since ≡ millis = omega (arith, signed_arith) in
    (on.0, on.1 ∙ sum)
