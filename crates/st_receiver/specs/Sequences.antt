-- The sequences that were fulfilled, as runs of numbers in a row.
use Rattle.std.specs.Prelude.{ℕ, zero, suc, ◌+◌, ◌-◌, ◌≡◌, ◌<◌, ◌≤◌, ◌&&◌, ◌||◌, Bool, List, [], ◌∷◌, length, nat_le, nat_eq}
use Rattle.std.specs.List.{flat_map, range_with_len, list_any}
use Rattle.std.specs.Ordering.{nat_cmp}
use Rattle.std.specs.FinSet.{FinSet, from_list}
use Rattle.st_receiver.specs.declared.sequences.Run.{Run}

-- whether a number is one of a run
abbrev pub is_in : ℕ → Run → Bool
is_in q r = nat_le r.first q && nat_le q r.last

abbrev pub is_among : ℕ → List Run → Bool
is_among q rs = list_any (is_in q) rs

-- the numbers of a run
abbrev pub numbers : Run → List ℕ
numbers r = range_with_len r.first (r.last + 1 - r.first)

-- the set of the runs' numbers
unfoldable pub set_of : List Run → FinSet nat_cmp
set_of rs = from_list (flat_map numbers rs)

-- the runs rise from a number on, and a number that is in none lies between two of them: so they are as few as can be
abbrev pub Rise : ℕ → List Run → Type 0
Rise low [] = Unit {0}
Rise low (r ∷ rs) = (low ≤ r.first) × (r.first ≤ r.last) × Rise (r.last + 2) rs

-- the end of the run at a place
abbrev pub last_at : List Run → ℕ → ℕ
last_at [] k = 0
last_at (r ∷ rs) zero = r.last
last_at (r ∷ rs) (suc k) = last_at rs k

-- and its start
abbrev pub first_at : List Run → ℕ → ℕ
first_at [] k = 0
first_at (r ∷ rs) zero = r.first
first_at (r ∷ rs) (suc k) = first_at rs k

-- `place` runs end before a number, and they rise
pub record IsPlace (rs : List Run) (place q : ℕ) : Type 0 where
  pub rise : Rise 0 rs
  pub within : place ≤ length rs
  pub before : (k : ℕ) → k < place → last_at rs k < q
  pub behind : (k : ℕ) → place ≤ k → k < length rs → q ≤ last_at rs k

-- runs with one number more
pub record IsMore (rs : List Run) (s : ℕ) (ts : List Run) : Type 0 where
  pub rise : Rise 0 ts
  pub among : (q : ℕ) → is_among q ts ≡ (nat_eq q s || is_among q rs)
