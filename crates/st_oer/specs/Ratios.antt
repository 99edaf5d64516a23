-- The numbers of an exchange rate, and what an amount is exchanged for.
use Rattle.std.specs.Prelude.{ℕ, ◌*◌, ◌/◌, ◌<◌}

-- num outgoing units for den incoming units
pub record Ratio : Type 0 where
  pub num : ℕ
  pub den : ℕ

abbrev pub ratio : ℕ → ℕ → Ratio
ratio num den = record { num = num; den = den }

-- neither number is 0
abbrev pub IsRatio : Ratio → Type 0
IsRatio r = (0 < r.num) × (0 < r.den)

-- the outgoing amount for an incoming amount, rounded down
abbrev pub exchanged : Ratio → ℕ → ℕ
exchanged r amount = amount * r.num / r.den
