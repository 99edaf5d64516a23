-- The highest end of each stream's data in flight, in a table by the stream's number.
use Rattle.std.specs.Prelude.{◌≡◌, ℕ, ◌<◌, ◌^◌, List, max, slice_index}
use Rattle.st_sender.specs.Sending.{Flight}
use Rattle.st_sender.specs.Flights.{flying_end}

-- each place of a table is raised to a value of its own
abbrev pub IsRaised : (old new : List ℕ) → (ℕ → ℕ) → Type 0
IsRaised old new to = (k : ℕ) → k < 65 → slice_index new k ≡ max (slice_index old k) (to k)

-- each place is an end
abbrev pub AreSmall : List ℕ → Type 0
AreSmall table = (k : ℕ) → k < 65 → slice_index table k < 2 ^ 65

-- the table of these packets
pub record AreEnds (flights : List Flight) (table : List ℕ) : Type 0 where
  pub ends : (k : ℕ) → k < 65 → slice_index table k ≡ flying_end k flights
  pub small : AreSmall table
