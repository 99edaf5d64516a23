-- Own numbers, one after another.
use Rattle.std.proofs.Common.{◌≡◌, ℕ, suc, ◌+◌, ◌*◌, ◌-◌, ◌<◌, ◌≤◌, map, ap, refl, arith}
use Rattle.std.specs.declared.option.Option.{Option}
use Rattle.std.specs.declared.option.Option.TheVariants.{None}
use Rattle.std.specs.List.{range_with_len}
use Rattle.st_sender.specs.Sending.{Sending, outgoing_at}
use Rattle.st_end.specs.State.{EndState}
use Rattle.st_end.specs.Calls.{first_free, free_or, own_number}

-- the first free number from a place on
unfoldable pub free_from : Sending → (parity i : ℕ) → Option ℕ
free_from s parity i = first_free s (map (λ j. 2 * j + (2 - parity)) (range_with_len i (32 - i)))

pub from_first : (e : EndState) → own_number e ≡ free_from e.sending e.receiving.parity 0
unfolding own_number free_from
from_first e = refl

first_of : (s : Sending) (f : ℕ → ℕ) (i n m : ℕ) → n ≡ suc m → first_free s (map f (range_with_len i n)) ≡ free_or (outgoing_at s (f i)) (f i) (first_free s (map f (range_with_len (i + 1) m)))
first_of s f i n m e = ap (λ n. first_free s (map f (range_with_len i n))) e

pub next_number : (s : Sending) (parity i : ℕ) → i < 32 → free_from s parity i ≡ free_or (outgoing_at s (2 * i + (2 - parity))) (2 * i + (2 - parity)) (free_from s parity (i + 1))
unfolding free_from
next_number s parity i l = first_of s (λ j. 2 * j + (2 - parity)) i (32 - i) (32 - (i + 1)) (omega arith)

none_of : (s : Sending) (f : ℕ → ℕ) (i n : ℕ) → n ≡ 0 → first_free s (map f (range_with_len i n)) ≡ None
none_of s f i n e = ap (λ n. first_free s (map f (range_with_len i n))) e

pub no_number : (s : Sending) (parity i : ℕ) → 32 ≤ i → free_from s parity i ≡ None
unfolding free_from
no_number s parity i l = none_of s (λ j. 2 * j + (2 - parity)) i (32 - i) (omega arith)
