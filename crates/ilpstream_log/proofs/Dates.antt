-- The text of a moment.
use Rattle.std.proofs.Common.{◌≡◌, ℕ, ℤ, true, List, refl, arith}
use Rattle.std.specs.Prelude.{Ok}
use Rattle.std.proofs.lemmas.Int.{ints}
use Rattle.st_ilp.specs.Calendar.{DateAndTime, date_and_time}
use Rattle.st_ilp.specs.Expiry.{digits_of, is_expiry, expiry_text, written_expiry}
use Rattle.st_ilp.specs.Moments.{IsMoment}
use Rattle.ilpstream_log.specs.Lines.{written_date, date_text}

moment_is_expiry : (ms : ℤ) → IsMoment ms → is_expiry ms ≡ true
moment_is_expiry ms h = grind (arith, ints)

pub written : (ms : ℤ) → IsMoment ms → written_expiry ms ≡ Ok (expiry_text ms)
written ms h = rw (moment_is_expiry ms h) refl

-- the digits of a moment, with the separators between them
pub date_is : (ms : ℤ) (digits out : List ℕ) → digits ≡ expiry_text ms → ((t : DateAndTime) → digits ≡ digits_of t → out ≡ written_date t) → out ≡ date_text ms
unfolding expiry_text date_text
date_is ms digits out e separated = separated (date_and_time ms) e
