-- What bookings make of the sums of accounts.
use Rattle.std.specs.Prelude.{◌≡◌, ◌⊎◌, ℕ, ◌+◌, ◌^◌, ◌≤◌, List, length, take, fold, slice_set, slice_get, slice_index_or, Some}
use Rattle.st_hop_books.specs.declared.balance.Amounts.{Amounts}
use Rattle.st_links.specs.declared.booking.Booking.{Booking}

abbrev pub nothing : Amounts
nothing = record { claims = 0; dues = 0 }

abbrev pub amounts_at : List Amounts → ℕ → Amounts
amounts_at all at = slice_index_or all at nothing

-- the amounts of an account that owes, or is owed, so much more
abbrev pub with_claim : List Amounts → (at amount : ℕ) → Amounts
with_claim all at amount = record { claims = (amounts_at all at).claims + amount; dues = (amounts_at all at).dues }

abbrev pub with_due : List Amounts → (at amount : ℕ) → Amounts
with_due all at amount = record { claims = (amounts_at all at).claims; dues = (amounts_at all at).dues + amount }

abbrev pub claimed : List Amounts → (at amount : ℕ) → List Amounts
claimed all at amount = slice_set all at (with_claim all at amount)

abbrev pub owed : List Amounts → (at amount : ℕ) → List Amounts
owed all at amount = slice_set all at (with_due all at amount)

-- the payer's claims and the payee's dues
abbrev pub booked_one : List Amounts → Booking → List Amounts
booked_one all b = owed (claimed all b.payer b.claim) b.payee b.due

abbrev pub booked : List Amounts → List Booking → List Amounts
booked = fold booked_one

-- ---- bookings that do not fit

-- one of its two accounts is not among these
abbrev pub IsOfNoAccount : List Amounts → Booking → Type 0
IsOfNoAccount all b = (length all ≤ b.payer) ⊎ (length all ≤ b.payee)

-- a sum above 2^63 - 1
abbrev pub IsAbove : Amounts → Type 0
IsAbove a = (2 ^ 63 ≤ a.claims) ⊎ (2 ^ 63 ≤ a.dues)

-- the payer's or the payee's line would have such a sum
abbrev pub Overflows : List Amounts → Booking → Type 0
Overflows all b = IsAbove (with_claim all b.payer b.claim) ⊎ IsAbove (with_due (claimed all b.payer b.claim) b.payee b.due)

-- so it is of one of the bookings, after those before it
abbrev pub ForOne : (List Amounts → Booking → Type 0) → List Amounts → List Booking → Type 0
ForOne P all bookings = (n : ℕ) × (b : Booking) × (slice_get bookings n ≡ Some b) × P (booked all (take n bookings)) b
