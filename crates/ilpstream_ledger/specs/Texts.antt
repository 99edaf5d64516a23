-- How books are printed.
use Rattle.std.specs.Prelude.{ℕ, List, [], ◌∷◌, ◌++◌, codes, decimal}
use Rattle.st_hop_books.specs.declared.balance.Amounts.{Amounts}
use Rattle.ilpstream_ledger.specs.Names.{Names}

-- the line of an account: `account alice claims 500 dues 0` and a newline
abbrev pub account_text : List ℕ → Amounts → List ℕ
account_text name a = codes "account " ++ name ++ codes " claims " ++ decimal a.claims ++ codes " dues " ++ decimal a.dues ++ 10 ∷ []

-- the same without the newline
abbrev pub sums_text : List ℕ → Amounts → List ℕ
sums_text name a = codes "account " ++ name ++ codes " claims " ++ decimal a.claims ++ codes " dues " ++ decimal a.dues

-- the line of an account whose entry was booked before: `account alice claims 500 dues 0 booked before` and a newline
abbrev pub repeated_text : List ℕ → Amounts → List ℕ
repeated_text name a = sums_text name a ++ codes " booked before\n"

-- a line for each account, in the order of the books
unfoldable pub accounts_text : Names → List Amounts → List ℕ
accounts_text [] all = []
accounts_text (name ∷ names) [] = []
accounts_text (name ∷ names) (a ∷ all) = account_text name a ++ accounts_text names all

-- the line of the starts: `starts 3` and a newline
abbrev pub starts_text : ℕ → List ℕ
starts_text starts = codes "starts " ++ decimal starts ++ 10 ∷ []

-- the accounts, and how often a connector was started with the books
abbrev pub ledger_text : (starts : ℕ) → Names → List Amounts → List ℕ
ledger_text starts names all = accounts_text names all ++ starts_text starts
