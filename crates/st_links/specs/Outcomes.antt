-- The outcome of an exchange, in the definitions' terms.
use Rattle.std.specs.Prelude.{ℕ, List, Option, Some, None}
use Rattle.st_links.specs.declared.outcome.Outcome.{Outcome}
use Rattle.st_links.specs.declared.outcome.Outcome.TheVariants.{Answered, Fault}

-- the bytes of the answer, or none
abbrev pub outcome_seen : {X : Type 0} → Outcome X → Option (List ℕ)
outcome_seen (Answered bytes) = Some bytes.items
outcome_seen Fault = None
