-- No row has a number above all of the table.
use Rattle.std.proofs.Common.{◌≡◌, ◌<◌, ◌+◌, ◌*◌, ◌/◌, ◌&&◌, ℕ, Bool, true, false, List, [], ◌∷◌, None, refl, sym, ap, arith, true≢false}
use Rattle.std.specs.Prelude.{filter, nat_eq, nat_lt}
use Rattle.std.specs.List.{list_all}
use Rattle.std.proofs.lemmas.Bool.Decides.{nat_tests}
use Rattle.ilpstream_output.specs.Row.{Row}
use Rattle.ilpstream_output.specs.Rows.{last_ten, rows}
use Rattle.ilpstream_output.specs.Explaining.{explanation, text_of}

-- the first number above
abbrev bound : ℕ
bound = 10 * last_ten + 10

abbrev is_below : Row → Bool
is_below r = nat_lt r.number bound

both : (a b : Bool) → (a && b) ≡ true → (a ≡ true) × (b ≡ true)
both true b is = (refl, is)
both false b is = absurd (true≢false (sym is))

none_has : (rs : List Row) (n : ℕ) → list_all is_below rs ≡ true → last_ten < n / 10 → filter (λ r. nat_eq r.number n) rs ≡ []
none_has [] n all above = refl
none_has (r ∷ rs) n all above =
    let here = both (is_below r) (list_all is_below rs) all in
    let other : nat_eq r.number n ≡ false = grind (arith, nat_tests, here.0, above) in
    rw other (none_has rs n here.1 above)

all_below : list_all is_below rows ≡ true
unfolding rows
all_below = refl

pub none_above : (n : ℕ) → last_ten < n / 10 → explanation n ≡ None
unfolding explanation
none_above n above = ap text_of (none_has rows n all_below above)
