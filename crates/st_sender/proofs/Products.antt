-- Products of amounts.
use Rattle.std.proofs.Common.{ℕ, ◌*◌, ◌^◌, ◌-◌, ◌<◌, arith}
use Rattle.std.proofs.lemmas.Nat.{mul-le}

-- two numbers of 64 bits
pub product_fits : (m n : ℕ) → m < 2 ^ 64 → n < 2 ^ 64 → m * n < 2 ^ 128
product_fits m n small few = let most = mul-le m n (2 ^ 64 - 1) (2 ^ 64 - 1) (omega (arith, small)) (omega (arith, few)) in omega (arith, most)
