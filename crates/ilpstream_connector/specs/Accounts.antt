-- What a hop has of each of its accounts.
use Rattle.std.specs.Prelude.{◌≡◌, ℕ, ◌<◌, List, length, slice_get, slice_index, Some}
use Rattle.st_hop.specs.Hop.{Hop, held_of}
use Rattle.ilpstream_connector.specs.declared.accounts.AccountTotals.{AccountTotals}

-- what an account owes the hop, what the hop owes it, and what it has reserved
abbrev pub totals_at : Hop → (account : ℕ) → AccountTotals
totals_at h a = record { claims = slice_index h.claims a; dues = slice_index h.dues a; held = held_of h a }

-- of an account of which a hop has nothing
abbrev pub no_totals : AccountTotals
no_totals = record { claims = 0; dues = 0; held = 0 }

-- these are, by their places, what the hop has of its accounts
abbrev pub AreTotalsOf : Hop → List AccountTotals → Type 0
AreTotalsOf h told = (a : ℕ) → a < length h.accounts → a < length told → slice_get told a ≡ Some (totals_at h a)
