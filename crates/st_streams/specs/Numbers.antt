-- The numbers of streams.
use Rattle.std.specs.Prelude.{ℕ, ◌≤◌}

-- RFC 0029, sections 4.1 and 5.3: numbers begin at 1. This profile ends them at 64
abbrev pub IsStreamNumber : ℕ → Type 0
IsStreamNumber n = (1 ≤ n) × (n ≤ 64)
