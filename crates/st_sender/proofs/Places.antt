-- The flight of a sequence, by its place.
use Rattle.std.proofs.Common.{◌≡◌, ◌≢◌, ℕ, zero, suc, ◌<◌, List, [], ◌∷◌, length, get_or, refl, sym, ap, ◌∙◌, arith, None, Some}
use Rattle.std.specs.List.{remove}
use Rattle.st_sender.specs.Sending.{Flight}
use Rattle.st_sender.specs.Flights.{flight_at, without_flight}
use Rattle.st_sender.proofs.FlightsLeft.{same_test, other_test}

abbrev pub NoneBefore : List Flight → ℕ → ℕ → Type 0
NoneBefore xs i n = (k : ℕ) (d : Flight) → k < i → (get_or xs k d).sequence ≢ n

pub found_flight : (xs : List Flight) (i n : ℕ) (d : Flight) → i < length xs → NoneBefore xs i n → (get_or xs i d).sequence ≡ n → flight_at xs n ≡ Some (get_or xs i d)
found_flight [] i n d h before e = absurd (omega arith)
found_flight (x ∷ xs) zero n d h before e = same_test x.sequence n (Some x) (flight_at xs n) e
found_flight (x ∷ xs) (suc i) n d h before e =
    other_test x.sequence n (Some x) (flight_at xs n) (before zero d (omega arith)) ∙ found_flight xs i n d (omega arith) (λ k c l. before (suc k) c (omega arith)) e

pub rest_flights : (xs : List Flight) (i n : ℕ) (d : Flight) → i < length xs → NoneBefore xs i n → (get_or xs i d).sequence ≡ n → remove xs i ≡ without_flight xs n
rest_flights [] i n d h before e = absurd (omega arith)
rest_flights (x ∷ xs) zero n d h before e = sym (same_test x.sequence n xs (x ∷ without_flight xs n) e)
rest_flights (x ∷ xs) (suc i) n d h before e =
    ap (λ l. x ∷ l) (rest_flights xs i n d (omega arith) (λ k c l. before (suc k) c (omega arith)) e)
    ∙ sym (other_test x.sequence n xs (x ∷ without_flight xs n) (before zero d (omega arith)))

pub no_flight : (xs : List Flight) (n : ℕ) → NoneBefore xs (length xs) n → flight_at xs n ≡ None
no_flight [] n before = refl
no_flight (x ∷ xs) n before = other_test x.sequence n (Some x) (flight_at xs n) (before zero x (omega arith)) ∙ no_flight xs n (λ k c l. before (suc k) c (omega arith))

pub all_flights : (xs : List Flight) (n : ℕ) → NoneBefore xs (length xs) n → xs ≡ without_flight xs n
all_flights [] n before = refl
all_flights (x ∷ xs) n before =
    ap (λ l. x ∷ l) (all_flights xs n (λ k c l. before (suc k) c (omega arith))) ∙ sym (other_test x.sequence n xs (x ∷ without_flight xs n) (before zero x (omega arith)))
