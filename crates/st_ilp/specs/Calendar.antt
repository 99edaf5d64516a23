-- Dates and times of day in UTC, counted in milliseconds since the start of 1970.
use Rattle.std.specs.Prelude.{ℕ, zero, suc, ◌+◌, ◌*◌, ◌/◌, ◌%◌, ◌<◌, ◌≤◌, nat_lt, nat_le, Bool, ◌&&◌, if◌then◌else◌, ℤ, pos, ◌+ℤ◌, ◌-ℤ◌, ◌*ℤ◌, int_le, unsigned_abs}
use Rattle.std.specs.Int.{int_div_euclid, int_rem_euclid}
use Rattle.jiff_core.specs.Calendar.{days_from_civil, days_in_month}

-- a date and a time of day
pub record DateAndTime : Type 0 where
  pub year : ℕ
  pub month : ℕ
  pub day : ℕ
  pub hour : ℕ
  pub minute : ℕ
  pub second : ℕ
  pub milli : ℕ

-- the calendar has the date, and a clock shows the time
pub record Exists (t : DateAndTime) : Type 0 where
  pub year : t.year < 10000
  pub month : (1 ≤ t.month) × (t.month ≤ 12)
  pub day : (1 ≤ t.day) × (t.day ≤ days_in_month (pos t.year) t.month)
  pub hour : t.hour < 24
  pub minute : t.minute < 60
  pub second : t.second < 60
  pub milli : t.milli < 1000

-- the same as tests
abbrev pub is_date : DateAndTime → Bool
is_date t = nat_lt t.year 10000 && (nat_le 1 t.month && (nat_le t.month 12 && (nat_le 1 t.day && nat_le t.day (days_in_month (pos t.year) t.month))))

abbrev pub is_time : DateAndTime → Bool
is_time t = nat_lt t.hour 24 && (nat_lt t.minute 60 && (nat_lt t.second 60 && nat_lt t.milli 1000))

abbrev pub exists : DateAndTime → Bool
exists t = is_date t && is_time t

-- milliseconds in a day
abbrev pub day_length : ℕ
day_length = 86_400_000

-- milliseconds since midnight
abbrev pub since_midnight : DateAndTime → ℕ
since_midnight t = t.hour * 3_600_000 + t.minute * 60_000 + t.second * 1_000 + t.milli

-- milliseconds since the start of 1970: the days, by the day number, and those since midnight
abbrev pub milliseconds : DateAndTime → ℤ
milliseconds t = days_from_civil (pos t.year) t.month t.day *ℤ pos day_length +ℤ pos (since_midnight t)

-- the last of the numbers up to n that passes a test, or 0
unfoldable pub last_until : ℕ → (ℕ → Bool) → ℕ
last_until zero test = 0
last_until (suc n) test = if test (suc n) then suc n else last_until n test

-- the year of a day: the last that begins on it or before
unfoldable pub year_of : ℤ → ℕ
year_of day = last_until 9999 (λ year. int_le (days_from_civil (pos year) 1 1) day)

-- the month of a day in its year: the last that begins on it or before
unfoldable pub month_of : ℕ → ℤ → ℕ
month_of year day = last_until 12 (λ month. int_le (days_from_civil (pos year) month 1) day)

-- the date with a day number, and a time this many milliseconds after midnight
abbrev pub on_day : ℤ → ℕ → DateAndTime
on_day day millis = record {
  year = year_of day;
  month = month_of (year_of day) day;
  day = unsigned_abs (day -ℤ days_from_civil (pos (year_of day)) (month_of (year_of day) day) 1) + 1;
  hour = millis / 3_600_000;
  minute = millis / 60_000 % 60;
  second = millis / 1_000 % 60;
  milli = millis % 1_000;
}

-- the date and time that many milliseconds after the start of 1970
unfoldable pub date_and_time : ℤ → DateAndTime
date_and_time millis = on_day (int_div_euclid millis (pos day_length)) (unsigned_abs (int_rem_euclid millis (pos day_length)))
