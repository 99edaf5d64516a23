-- What the library says of dates and times of day.
use Rattle.std.proofs.Common.{◌≡◌, ℕ, ◌%◌, ◌≤◌, refl, arith, ℤ, pos, negsuc, ◌-ℤ◌, ◌*ℤ◌, ◌<ℤ◌, ◌≤ℤ◌, unsigned_abs, int_div}
use Rattle.std.proofs.lemmas.Int.{ints}
use Rattle.std.proofs.lemmas.Bool.Decides.{nat_tests}
use Rattle.jiff_core.specs.declared.civil.datetime.DateTime.{DateTime}
use Rattle.jiff_core.specs.Calendar.{days_from_civil, day_count, days_in_month, IsCivilDate}
use Rattle.jiff_core.specs.Time.{time_nanos}
use Rattle.jiff_core.specs.DateTime.{civil_nanos, IsCivilNanos}
use Rattle.jiff_core.proofs.SignedLemmas.{signed_arith}
use Rattle.jiff_core.proofs.StandardFacts.{known_days}
use Rattle.jiff_core.proofs.DateLemmas.{civil}
use Rattle.jiff_core.proofs.DateTimeLemmas.{civil_nanos-parts, time_nanos_bound}
use Rattle.jiff_core.proofs.CalendarLemmas.{day_count-epoch, day_count_bounds, day_count-lt_year}
use Rattle.st_ilp.specs.Calendar.{DateAndTime, Exists, milliseconds}
use Rattle.st_ilp.specs.Dates.{seen}

-- a day number counts from the first day of 1970
pub day_number : (y : ℤ) (m d : ℕ) → days_from_civil y m d ≡ pos (day_count y m d) -ℤ pos 4_371_953
unfolding days_from_civil
day_number y m d = rw day_count-epoch refl

-- the start of 1970
pub epoch_nanos : (dt : DateTime) → dt.date.year ≡ pos 1970 → dt.date.month ≡ 1 → dt.date.day ≡ 1 → time_nanos dt.time ≡ 0 → civil_nanos dt ≡ pos 0
epoch_nanos dt y m d t =
    let k : days_from_civil dt.date.year dt.date.month dt.date.day ≡ pos 0 = rw (y, m, d) known_days.0 in
    omega (arith, signed_arith, civil_nanos-parts dt, k, t)

-- a year from 0 on is its number
pub year_number : (y : ℤ) → pos 0 ≤ℤ y → pos (unsigned_abs y) ≡ y
year_number (pos n) h = refl
year_number (negsuc n) h = absurd (omega (arith, signed_arith))

-- a date and time of the library with a year from 0 on exists
pub date_is : (at : DateTime) → pos 0 ≤ℤ at.date.year → Exists (seen at)
date_is at h =
    let date = civil at.date in
    let year : pos (unsigned_abs at.date.year) ≡ at.date.year = year_number at.date.year h in
    record {
      year = omega (arith, signed_arith, date.0, year);
      month = date.1;
      day = date.2;
      hour = omega arith;
      minute = omega arith;
      second = omega arith;
      milli = omega arith;
    }

-- and has its value
pub date_value : (at : DateTime) (millis : ℤ) → pos 0 ≤ℤ at.date.year → civil_nanos at ≡ millis *ℤ pos 1_000_000 → millis ≡ milliseconds (seen at)
date_value at millis h e =
    rw (year_number at.date.year h) (omega (arith, signed_arith, civil_nanos-parts at, e))

-- the calendar has the date
pub civil_date : (m : DateAndTime) → Exists m → IsCivilDate (pos m.year) m.month m.day
civil_date m h = (omega (arith, signed_arith, h.year), h.month, h.day)

-- each date and time that exists is within the library's range
pub date_in_range : (m : DateAndTime) → Exists m → IsCivilNanos (milliseconds m *ℤ pos 1_000_000)
date_in_range m h =
    omega (arith, signed_arith, day_number (pos m.year) m.month m.day, day_count_bounds (pos m.year) m.month m.day (civil_date m h), h.hour, h.minute, h.second, h.milli)

-- none has the value of a date and time before the year 0
pub no_date_before : (at : DateTime) (m : DateAndTime) → at.date.year <ℤ pos 0 → Exists m → civil_nanos at ≡ milliseconds m *ℤ pos 1_000_000 → ⊥
no_date_before at m before h e =
    let later = day_count-lt_year at.date.year at.date.month at.date.day (pos m.year) m.month m.day (civil at.date) h.day.0 (omega (arith, signed_arith, before)) in
    omega (arith, signed_arith, civil_nanos-parts at, time_nanos_bound at.time, later, e, day_number (pos m.year) m.month m.day, day_number at.date.year at.date.month at.date.day)

-- a whole number of milliseconds, taken back
pub whole_millis : (at : DateTime) (nanos : ℤ) → pos 0 ≤ℤ at.date.year → at.time.subsec_nanosecond % 1_000_000 ≡ 0 → nanos ≡ civil_nanos at → int_div nanos (pos 1_000_000) ≡ milliseconds (seen at)
whole_millis at nanos h w e =
    rw (year_number at.date.year h) (omega (arith, signed_arith, ints, civil_nanos-parts at, e, w))

-- no month has more than 31 days
pub most_days : (y : ℤ) (m : ℕ) → days_in_month y m ≤ 31
most_days y m = grind (arith, nat_tests)
