-- What a request that was served was answered by.
use Rattle.std.specs.Prelude.{◌≡◌, ◌⊎◌, ℕ, List, Option, IsSome}
use Rattle.st_http.specs.Message.{Standing}
use Rattle.st_http.specs.Progress.{account_of, body_of}

-- an answerer was asked once, or not at all
abbrev pub AskedOnce : {T : Type 0} → (T → ℕ → List ℕ → Option (List ℕ) → T → Type 0) → T → T → Type 0
AskedOnce gives old new = (new ≡ old) ⊎ ((account : ℕ) × (body : List ℕ) × (answer : Option (List ℕ)) × gives old account body answer new)

-- a request has arrived intact: it has an account and a body
abbrev pub IsWholeAt : Standing → Type 0
IsWholeAt standing = IsSome (account_of standing) × IsSome (body_of standing)
