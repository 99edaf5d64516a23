-- What a seat has seen, for its contracts.
use Rattle.std.specs.Prelude.{ℕ, ◌≤◌, List, Bool, false, nat_lt, slice_index}
use Rattle.st_streams.specs.declared.totals.EndTotals.{EndTotals}

-- a watcher's seat has seen totals, whether to stop, and whether it asked for that itself
pub record Watched : Type 0 where
  pub totals : EndTotals
  pub stop : Bool
  pub asked : Bool

-- the totals among the words that were seen
abbrev pub totals_seen : List ℕ → EndTotals
totals_seen ws = record { accepted = slice_index ws 1; delivered = slice_index ws 2; credited = slice_index ws 3; paid = slice_index ws 4 }

abbrev pub watched : List ℕ → Bool → Watched
watched ws asked = record { totals = totals_seen ws; stop = nat_lt 0 (slice_index ws 0); asked = asked }

-- none of the totals a is above that of b
abbrev pub IsUpTo : EndTotals → EndTotals → Type 0
IsUpTo a b = (a.accepted ≤ b.accepted) × (a.delivered ≤ b.delivered) × (a.credited ≤ b.credited) × (a.paid ≤ b.paid)

abbrev pub no_totals : EndTotals
no_totals = record { accepted = 0; delivered = 0; credited = 0; paid = 0 }

abbrev pub nothing_seen : Watched
nothing_seen = record { totals = no_totals; stop = false; asked = false }
