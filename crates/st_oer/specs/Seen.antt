-- What a function returned, against what is defined. `view` is how a definition sees the value that was returned.
use Rattle.std.specs.Prelude.{◌≡◌, ◌≢◌, ◌⊎◌, List, ℕ, Result, Ok, Err, IsOk}

-- a function that returns what is defined
abbrev pub Gives : {X Y E : Type 0} → (X → Y) → Result X E → Result Y E → Type 0
Gives view (Ok x) defined = defined ≡ Ok (view x)
Gives view (Err e) defined = defined ≡ Err e

-- a method that moves a cut on, or refuses and leaves it
abbrev pub Reads : {X Y E : Type 0} → (X → Y) → List ℕ → List ℕ → Result X E → Result (Y × List ℕ) E → Type 0
Reads view old new (Ok x) read = read ≡ Ok (view x, new)
Reads view old new (Err e) read = (read ≡ Err e) × (new ≡ old)

-- a function that returns what is defined, or ran out of memory for it: that error is returned in place of a value
-- only, never in place of another refusal
abbrev pub Writes : {X Y E : Type 0} → E → (X → Y) → Result X E → Result Y E → Type 0
Writes no_memory view (Ok x) defined = defined ≡ Ok (view x)
Writes no_memory view (Err e) defined = ((e ≡ no_memory) × IsOk defined) ⊎ ((e ≢ no_memory) × (defined ≡ Err e))
