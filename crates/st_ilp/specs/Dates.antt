-- The dates of the library as the definitions see them.
use Rattle.std.specs.Prelude.{◌/◌, unsigned_abs}
use Rattle.jiff_core.specs.declared.civil.datetime.DateTime.{DateTime}
use Rattle.st_ilp.specs.Calendar.{DateAndTime}

-- a date and time of the library, whose year is not negative
abbrev pub seen : DateTime → DateAndTime
seen at = record {
  year = unsigned_abs at.date.year;
  month = at.date.month;
  day = at.date.day;
  hour = at.time.hour;
  minute = at.time.minute;
  second = at.time.second;
  milli = at.time.subsec_nanosecond / 1_000_000;
}
