-- What the code reads off a text before it is known to be a date.
use Rattle.st_ilp.specs.declared.expiry.Numbers.{Numbers}
use Rattle.st_ilp.specs.Calendar.{DateAndTime}

-- the numbers of a text, which may name no date and time
abbrev pub named_by : Numbers → DateAndTime
named_by n = record { year = n.year; month = n.month; day = n.day; hour = n.hour; minute = n.minute; second = n.second; milli = n.milli }
