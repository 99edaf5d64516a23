-- Numbers that stay within a bound.
use Rattle.std.proofs.Common.{◌≡◌, ℕ, ◌<◌, ◌≤◌, ◌^◌, min, arith, sym, subst, Fits, w64}
use Rattle.st_sender.specs.declared.bounds.Bounds.{Bounds}
use Rattle.st_sender.specs.Allowed.{less}

-- a place below the length of a list, by the number that it has
pub within : (n k l : ℕ) → l ≡ n → k < n → k < l
within n k l e h = omega (arith, e, h)

pub up_to : (n k l : ℕ) → l ≡ n → k < n → k ≤ l
up_to n k l e h = omega (arith, e, h)

pub fits_below : (k : ℕ) → k < 65 → Fits w64 k
fits_below k h = omega (arith, h)

pub at_most : (n k m : ℕ) → n ≡ min k m → n ≤ m
at_most n k m e = omega (arith, e)

-- less room leaves the credit as it is
pub spare_less : (b at : Bounds) (n : ℕ) → at ≡ less b n → b.spare < 2 ^ 64 → at.spare < 2 ^ 64
spare_less b at n e h = subst (λ (d : Bounds). d.spare < 2 ^ 64) (sym e) h
