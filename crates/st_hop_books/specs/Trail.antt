-- What the books have in addition to the accounts: the payments outside Interledger, and the fulfillments that
-- prove claims.
use Rattle.std.specs.Prelude.{ℕ, ◌+◌, max, List, [], length, fold}
use Rattle.sqlite_value.specs.Order.{Row}
use Rattle.st_links.specs.declared.booking.Booking.{Booking}
use Rattle.st_hop_books.specs.declared.balance.Payment.{Payment}
use Rattle.st_hop_books.specs.declared.balance.Tally.{Tally}
use Rattle.st_hop_books.specs.Payments.{latest_in, payment_line, with_payment}
use Rattle.st_hop_books.specs.Fulfillments.{last_id, last_after, with_proofs}

pub record Trail : Type 0 where
  pub paid : List Row
  pub proofs : List Row

abbrev pub no_trail : Trail
no_trail = record { paid = []; proofs = [] }

-- these payments alone
abbrev pub paid_alone : List Row → Trail
paid_alone paid = record { paid = paid; proofs = [] }

abbrev pub with_entry : Trail → List (List ℕ) → Payment → (text : List ℕ) → Trail
with_entry t names p text = record { paid = with_payment t.paid names p text; proofs = t.proofs }

abbrev pub with_bookings : Trail → List (List ℕ) → List Booking → Trail
with_bookings t names bookings = record { paid = t.paid; proofs = with_proofs names t.proofs bookings }

-- how many payments there are, the moment of the last one, and the id of the last fulfillment
abbrev pub tally_of : Trail → Tally
tally_of t = record { lines = length t.paid; latest = latest_in t.paid; filed = last_id t.proofs }

-- with one payment more
abbrev pub next_tally : Tally → Payment → Tally
next_tally t p = record { lines = t.lines + 1; latest = max t.latest p.moment; filed = t.filed }

-- the line of the payment that comes after those of this tally
abbrev pub next_line : Tally → (name text : List ℕ) → Payment → Row
next_line t name text p = payment_line (t.lines + 1) name text p.amount (max t.latest p.moment)

-- with bookings
abbrev pub later_tally : Tally → List Booking → Tally
later_tally t bookings = record { lines = t.lines; latest = t.latest; filed = fold last_after t.filed bookings }
