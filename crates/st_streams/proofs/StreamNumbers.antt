-- What is made of a number from 1 to 64.
use Rattle.std.proofs.Common.{◌≡◌, ℕ, Option, None, Some, IsSome, refl, subst}
use Rattle.std.specs.Prelude.{MatchOption}
use Rattle.st_streams.specs.Numbers.{IsStreamNumber}

-- what `StreamId::new` gives
abbrev pub IsMade : (k : ℕ) → Option ℕ → Type 0
IsMade k o = MatchOption o (¬ (IsStreamNumber k)) (λ s. (s ≡ k) × IsStreamNumber k)

pub some_stream : (o : Option ℕ) (k : ℕ) → IsMade k o → IsStreamNumber k → IsSome o
some_stream None k made number = absurd (made number)
some_stream (Some s) k made number = refl

pub stream_is : (o : Option ℕ) (k s : ℕ) → o ≡ Some s → IsMade k o → (s ≡ k) × IsStreamNumber k
stream_is o k s same made = subst (IsMade k) same made
