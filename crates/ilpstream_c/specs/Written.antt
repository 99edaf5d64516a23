-- What a call that keeps nothing writes to the caller's buffer.
use Rattle.std.specs.Prelude.{◌≡◌, ◌⊎◌, ℕ, List, Result, Ok, Err, IsOk}
use Rattle.ilpstream_c.specs.Handles.{Copies}

-- the text that is defined is written; or it is refused, by the number of why; or memory for it is refused
abbrev pub Written : {E : Type 0} → (number : E → ℕ) (no_memory : E) (defined : Result (List ℕ) E) (before after : List ℕ) (code len : ℕ) → Type 0
Written {E} number no_memory defined before after code len =
    ((text : List ℕ) × ((defined ≡ Ok text) × Copies text before after code len))
    ⊎ (((e : E) × ((defined ≡ Err e) × ((code ≡ number e) × (after ≡ before))))
    ⊎ ((code ≡ number no_memory) × (IsOk defined × (after ≡ before))))
