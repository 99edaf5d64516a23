-- Counts that stop at the greatest number of 64 bits, and when a count of errors rose.
use Rattle.std.specs.Prelude.{ℕ, ◌+◌, ◌-◌, ◌^◌, ◌<◌, ◌≤◌, ◌⊎◌, max, min}

-- the greatest count, where it stays
abbrev pub last_count : ℕ
last_count = 2 ^ 64 - 1

-- a count after n more, as far as it goes
abbrev pub count_after : ℕ → ℕ → ℕ
count_after n count = max count (min (count + n) last_count)

-- the count rose, or was at its greatest
abbrev pub Rose : ℕ → ℕ → Type 0
Rose old new = (old < new) ⊎ (last_count ≤ old)
