-- What an exchange answered, and what is passed back, in the definitions' terms.
use Rattle.std.specs.Prelude.{ℕ, List, Option, Some, None, Result, Ok, Err, Vec}
use Rattle.st_links.specs.declared.link.LinkFault.{LinkFault}

-- the bytes of the answer, or why there is none
abbrev pub answer_seen : {X : Type 0} → Result (Vec ℕ X) LinkFault → Result (List ℕ) LinkFault
answer_seen (Ok bytes) = Ok bytes.items
answer_seen (Err fault) = Err fault

-- the bytes that are passed back, or none
abbrev pub told : {X : Type 0} → Option (Vec ℕ X) → Option (List ℕ)
told (Some bytes) = Some bytes.items
told None = None
