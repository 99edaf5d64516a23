-- The totals that a command writes to a file, and how it ends then.
use Rattle.std.specs.Prelude.{◌≡◌, ℕ, suc, List, [], ◌∷◌, ◌++◌, nat_eq, if◌then◌else◌, codes, decimal, Option, Some, None, Result, Ok, Err, ⊤}
use Rattle.ilpstream_output.specs.declared.error.Fault.{Fault}
use Rattle.ilpstream_connector.specs.declared.accounts.AccountTotals.{AccountTotals}
use Rattle.ilpstream_connector.specs.declared.counts.AccountCounts.{AccountCounts}
use Rattle.ilpstream_connector.specs.declared.counts.CodeCount.{CodeCount}
use Rattle.ilpstream_net.specs.declared.counts.Line.{Line}
use Rattle.ilpstream_net.specs.declared.counts.Line.TheVariants as lines
use Rattle.ilpstream_net.specs.declared.error.RunError.{RunError}
use Rattle.ilpstream_net.specs.declared.error.RunError.TheVariants as run

-- the line of the account of this number: `account 0 claims 500 dues 0 held 0` and a newline
unfoldable pub account_text : (number : ℕ) → AccountTotals → List ℕ
account_text n a = codes "account " ++ decimal n ++ codes " claims " ++ decimal a.claims ++ codes " dues " ++ decimal a.dues
    ++ codes " held " ++ decimal a.held ++ 10 ∷ []

-- a text for each of some values, by their numbers from the first one on
unfoldable pub lines_from : {X : Type 0} → (text : ℕ → X → List ℕ) → (first : ℕ) → List X → List ℕ
lines_from text n [] = []
lines_from text n (x ∷ rest) = text n x ++ lines_from text (suc n) rest

-- the lines of accounts that are numbered from this one on
abbrev pub accounts_text : (first : ℕ) → List AccountTotals → List ℕ
accounts_text = lines_from account_text

-- the line of the Prepares that were answered with T00 because too many threads were busy: `overloaded 3` and a newline, or no
-- line if there were none
abbrev pub overloaded_text : ℕ → List ℕ
overloaded_text n = if nat_eq n 0 then [] else codes "overloaded " ++ decimal n ++ 10 ∷ []

-- how the Prepares of an account ended, in two halves of a line
unfoldable pub count_front : (number : ℕ) → AccountCounts → List ℕ
count_front n x = codes "count " ++ decimal n ++ codes " fulfilled " ++ decimal x.fulfilled ++ codes " rejected " ++ decimal x.rejected

unfoldable pub count_back : AccountCounts → List ℕ
count_back x = codes " lost " ++ decimal x.lost ++ codes " refused " ++ decimal x.refused ++ 10 ∷ []

-- the whole line: `count 0 fulfilled 12 rejected 3 lost 1 refused 2` and a newline
abbrev pub count_text : (number : ℕ) → AccountCounts → List ℕ
count_text n x = count_front n x ++ count_back x

-- the Rejects of one code: `code 0 T04 3` and a newline
unfoldable pub code_text : CodeCount → List ℕ
code_text x = codes "code " ++ decimal x.account ++ 32 ∷ x.code ++ 32 ∷ decimal x.count ++ 10 ∷ []

-- the Rejects of an account whose codes have no line: `code 0 other 1` and a newline, or no line if there were none
unfoldable pub other_text : (number : ℕ) → AccountCounts → List ℕ
other_text n x = if nat_eq x.other 0 then [] else codes "code " ++ decimal n ++ codes " other " ++ decimal x.other ++ 10 ∷ []

-- a line of an account
abbrev pub line_text : Line → (number : ℕ) → AccountCounts → List ℕ
line_text lines.Fates = count_text
line_text lines.OtherCodes = other_text

-- a line for each account, then one for each code of an account, and then those of other codes
abbrev pub counts_text : List AccountCounts → List CodeCount → List ℕ
counts_text xs cs = lines_from count_text 0 xs ++ lines_from (λ place. code_text) 0 cs ++ lines_from other_text 0 xs

-- the lines of what is owed
abbrev pub owed_text : List AccountTotals → (overloaded : ℕ) → List ℕ
owed_text accounts n = accounts_text 0 accounts ++ overloaded_text n

-- all lines of a connector
abbrev pub connector_text : List AccountTotals → (overloaded : ℕ) → List AccountCounts → List CodeCount → List ℕ
connector_text accounts n xs cs = owed_text accounts n ++ counts_text xs cs

-- how a command ends, by its own result and that of writing its totals: its own error comes first
abbrev pub ended_with : Result (Unit {0}) RunError → Result (Unit {0}) Fault → Result (Unit {0}) RunError
ended_with (Err e) told = Err e
ended_with (Ok x) (Ok y) = Ok x
ended_with (Ok x) (Err fault) = Err (run.Fault fault)

-- the new file for a place is empty, if it is known what the place holds
abbrev pub IsEmptyBeside : (held : Option (List ℕ)) → (file : Option (List ℕ)) → Type 0
IsEmptyBeside None file = ⊤
IsEmptyBeside (Some bytes) file = file ≡ Some []

-- the place holds what the new file had
abbrev pub TakesPlace : (held file now : Option (List ℕ)) → Type 0
TakesPlace None file now = ⊤
TakesPlace (Some bytes) file now = now ≡ file

-- the place holds this text, and nothing of what it had before
abbrev pub Replaced : (held now : Option (List ℕ)) → (text : List ℕ) → Type 0
Replaced None now text = ⊤
Replaced (Some bytes) now text = now ≡ Some text
