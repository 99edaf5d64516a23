-- The place of the first newline.
use Rattle.std.proofs.Common.{◌≡◌, ◌<◌, ℕ, ◌+◌, ◌==◌, Bool, true, false, refl, List, [], ◌∷◌, ◌++◌, length, take, get_or, slice_index, ap, ◌∙◌, arith}
use Rattle.std.specs.List.{All}
use Rattle.std.proofs.lemmas.Bool.{eqb-true}
use Rattle.std.proofs.lemmas.List.{get_or_default, take_more}
use Rattle.memchr.specs.Find.{Nowhere, Passes, is_byte}

-- a byte that is not a newline, as a test
not_newline : (b : ℕ) → ((b == 10) ≡ true → ⊥) → (b == 10) ≡ false
not_newline b h = by_test (b == 10) h
  where
    by_test : (t : Bool) → (t ≡ true → ⊥) → t ≡ false
    by_test true wrong = absurd (wrong refl)
    by_test false wrong = refl

-- there is no newline anywhere
pub clean : (hay : List ℕ) → Nowhere (Passes (is_byte 10) hay) 0 (length hay) → All (λ b. (b == 10) ≡ false) hay
clean hay none = λ i d lt.
    let same : get_or hay i d ≡ slice_index hay i = get_or_default hay i d 0 lt in
    rw same (not_newline (slice_index hay i) (none i (omega arith) lt))

-- up to a newline and with it
pub with_newline : (hay : List ℕ) (k : ℕ) → k < length hay → Passes (is_byte 10) hay k → take (k + 1) hay ≡ take k hay ++ 10 ∷ []
with_newline hay k lt is = take_more hay k 0 lt ∙ ap (λ (b : ℕ). take k hay ++ b ∷ []) (eqb-true (slice_index hay k) 10 is)
