-- Pairs of options of a command, of which exactly one has to be given, and words that clap's rules do not count. clap takes them both, or neither: with groups, or with rules on one
-- another, its contracts would say less of all arguments.
use Rattle.std.specs.Prelude.{Bool, true, false, not, ◌&&◌, ◌||◌, ◌==◌, [], ◌∷◌, List, length, codes, Option, Some, None, is_some, unwrap_or, if◌then◌else◌}
use Rattle.std.specs.Str.{bytes_eq}
use Rattle.clap.specs.Kinds.{or_else}
use Rattle.clap.specs.Words.{Kinds, Row, Text, all_of, first_of}
use Rattle.clap.specs.declared.error.kind.ErrorKind.TheVariants.{ArgumentConflict, MissingRequiredArgument, WrongNumberOfValues}

-- what is answered by whether the one and the other are given
abbrev pub pair_fault : Bool → Bool → Kinds
pair_fault true true = ArgumentConflict ∷ []
pair_fault true false = []
pair_fault false true = []
pair_fault false false = MissingRequiredArgument ∷ []

-- the option is given
abbrev pub is_given : Text → List Row → Bool
is_given name rows = is_some (first_of name rows)

-- an option without a value is given
abbrev pub is_set : Text → List Row → Bool
is_set name rows = bytes_eq (unwrap_or (first_of name rows) []) (codes "true")

-- what is answered if the number of requests is needed, or that there is no such number
abbrev pub requests_fault : List Row → Kinds
requests_fault rows = pair_fault (is_given (codes "requests") rows) (is_set (codes "endless") rows)

-- what is answered if fulfillments are to be kept, which needs books
abbrev pub keeping_fault : List Row → Kinds
keeping_fault rows = if is_set (codes "keep-fulfillments") rows && not (is_given (codes "ledger") rows) then MissingRequiredArgument ∷ [] else []

-- what is answered to the options of `connector`
abbrev pub connector_fault : List Row → Kinds
connector_fault rows = or_else (requests_fault rows) (keeping_fault rows)

-- what is answered if a token and a secret are needed
abbrev pub keys_fault : List Row → Kinds
keys_fault rows = or_else (pair_fault (is_given (codes "token") rows) (is_given (codes "token-file") rows))
    (pair_fault (is_given (codes "secret") rows) (is_given (codes "secret-file") rows))

-- What is answered to the words after the file of `ledger`: a payment has three, and two more with a reference, and an adjustment has
-- six.
abbrev pub count_fault : Option (List Text) → Kinds
count_fault None = []
count_fault (Some words) = if length words == 4 then WrongNumberOfValues ∷ [] else []

-- what is answered by the command and its options: `send` and `receive` need a token and a secret, `connector` a number of requests
-- or that there is none, and books if it is to keep fulfillments; and `ledger` no four words
abbrev pub pairs_fault : Option (Text × List Row) → Kinds
pairs_fault None = []
pairs_fault (Some (name, rows)) = if bytes_eq name (codes "send") || bytes_eq name (codes "receive") then keys_fault rows
    else (if bytes_eq name (codes "connector") then connector_fault rows
    else (if bytes_eq name (codes "ledger") then count_fault (all_of (codes "payment") rows) else []))
