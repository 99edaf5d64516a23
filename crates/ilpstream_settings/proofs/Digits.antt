-- Numbers in decimal digits.
use Rattle.std.proofs.Common.{◌≡◌, ℕ, ◌+◌, ◌-◌, ◌*◌, ◌<◌, List, length, take, get_or, arith}
use Rattle.std.proofs.lemmas.List.Sums.{fold_more}
use Rattle.st_http.specs.Length.{number}
use Rattle.st_http.proofs.Numbers.{front_is_less}
use Rattle.ilpstream_settings.specs.Numbers.{IsNumber}

-- one digit more
pub number_more : (text : List ℕ) (k : ℕ) → k < length text → number (take (k + 1) text) ≡ 10 * number (take k text) + (get_or text k 0 - 48)
number_more text k within = fold_more (λ n d. 10 * n + (d - 48)) 0 text k 0 within

-- a number whose digits in front are past the most
pub past_most : (most : ℕ) (text : List ℕ) (k m : ℕ) → k < length text → m ≡ number (take k text) → most < 10 * m + (get_or text k 0 - 48)
    → (n : ℕ) → ¬ (IsNumber most text n)
past_most most text k m within is above n has =
    absurd (omega (arith, number_more text k within, front_is_less (k + 1) text, has.value, has.bounded))
