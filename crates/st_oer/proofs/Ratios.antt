-- Products of amounts and the numbers of a rate.
use Rattle.std.proofs.Common.{ℕ, ◌*◌, ◌^◌, ◌-◌, ◌<◌, arith}
use Rattle.std.proofs.lemmas.Nat.{mul-le}

-- an amount of 64 bits times a number of 32
pub product_fits : (amount num : ℕ) → amount < 2 ^ 64 → num < 2 ^ 32 → amount * num < 2 ^ 128
product_fits amount num small few = let most = mul-le amount num (2 ^ 64 - 1) (2 ^ 32 - 1) (omega (arith, small)) (omega (arith, few)) in omega (arith, most)
