-- What a sink accepted.
use Rattle.std.specs.Prelude.{◌≡◌, ℕ, ◌+◌, List, ◌++◌, Bool, true, Option, Some, None}
use Rattle.st_file.specs.declared.sink.Put.{Put}
use Rattle.st_file.specs.declared.sink.Put.TheVariants as answers

-- what was put into a sink: the bytes that it accepted, in order, whether it accepted an end, and how often it was asked, if
-- that is known
pub record Taken : Type 0 where
  pub bytes : List ℕ
  pub ended : Bool
  pub calls : Option ℕ

-- a known number of calls after n more
abbrev pub calls_after : ℕ → Option ℕ → Option ℕ
calls_after n None = None
calls_after n (Some calls) = Some (calls + n)

-- a chunk was accepted whole, or it was given back
abbrev pub Puts : {C : Type 0} → (C → List ℕ) → Taken → Taken → C → Put C → Type 0
Puts bytes old new chunk answers.Taken = new ≡ record { bytes = old.bytes ++ bytes chunk; ended = old.ended; calls = calls_after 1 old.calls }
Puts bytes old new chunk (answers.Again back) = (back ≡ chunk) × (new ≡ record { bytes = old.bytes; ended = old.ended; calls = calls_after 1 old.calls })
Puts bytes old new chunk (answers.Closed back) = (back ≡ chunk) × (new ≡ record { bytes = old.bytes; ended = old.ended; calls = calls_after 1 old.calls })

-- an end was accepted, or it was not
abbrev pub Ends : {T : Type 0} → Taken → Taken → Put T → Type 0
Ends old new answers.Taken = new ≡ record { bytes = old.bytes; ended = true; calls = calls_after 1 old.calls }
Ends old new (answers.Again x) = new ≡ record { bytes = old.bytes; ended = old.ended; calls = calls_after 1 old.calls }
Ends old new (answers.Closed x) = new ≡ record { bytes = old.bytes; ended = old.ended; calls = calls_after 1 old.calls }
