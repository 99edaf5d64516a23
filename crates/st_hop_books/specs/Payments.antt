-- Payments outside Interledger, adjustments, and the rows that sqlite3 shows of them.
use Rattle.std.specs.Prelude.{◌≡◌, ◌⊎◌, ℕ, suc, pos, max, ◌+◌, ◌-◌, ◌^◌, ◌<◌, ◌≤◌, List, [], ◌∷◌, ◌++◌, length, slice_set, slice_index_or, codes, Option, Some, None, ⊤}
use Rattle.std.specs.List.{AllByRecursion}
use Rattle.sqlite_value.specs.declared.value.Value.{Value}
use Rattle.sqlite_value.specs.declared.value.Value.TheVariants.{Null, Int, Text}
use Rattle.sqlite_value.specs.Order.{Row, column}
use Rattle.st_hop_books.specs.declared.balance.Amounts.{Amounts}
use Rattle.st_links.specs.declared.side.BalanceSide.{BalanceSide}
use Rattle.st_links.specs.declared.side.BalanceSide.TheVariants.{Claims, Dues}
use Rattle.st_hop_books.specs.declared.balance.Kind.{Kind}
use Rattle.st_hop_books.specs.declared.balance.Kind.TheVariants.{Paid, Adjusted}
use Rattle.st_hop_books.specs.declared.balance.Payment.{Payment}
use Rattle.st_hop_books.specs.declared.balance.Entry.{Entry}
use Rattle.st_hop_books.specs.Sums.{amounts_at}

abbrev pub paying : Kind → (account : ℕ) (side : BalanceSide) (amount moment : ℕ) → Payment
paying kind account side amount moment = record { account = account; kind = kind; side = side; amount = amount; moment = moment }

-- what is owed on a side
abbrev pub on_side : BalanceSide → Amounts → ℕ
on_side Claims a = a.claims
on_side Dues a = a.dues

-- the amounts of an account, of which an amount was paid on a side
abbrev pub less : BalanceSide → (amount : ℕ) → Amounts → Amounts
less Claims amount a = record { claims = a.claims - amount; dues = a.dues }
less Dues amount a = record { claims = a.claims; dues = a.dues - amount }

-- the same, to which an amount was added
abbrev pub more : BalanceSide → (amount : ℕ) → Amounts → Amounts
more Claims amount a = record { claims = a.claims + amount; dues = a.dues }
more Dues amount a = record { claims = a.claims; dues = a.dues + amount }

-- a payment is taken off, and an adjustment is added
abbrev pub changed : Kind → BalanceSide → (amount : ℕ) → Amounts → Amounts
changed Paid = less
changed Adjusted = more

abbrev pub paid_off : List Amounts → Payment → List Amounts
paid_off all p = slice_set all p.account (changed p.kind p.side p.amount (amounts_at all p.account))

-- the amount is owed, if it is to be taken off
abbrev pub Covers : Kind → BalanceSide → (amount : ℕ) → Amounts → Type 0
Covers Paid side amount a = amount ≤ on_side side a
Covers Adjusted side amount a = ⊤

-- less is owed than is to be taken off
abbrev pub FallsShort : Kind → BalanceSide → (amount : ℕ) → Amounts → Type 0
FallsShort Paid side amount a = on_side side a < amount
FallsShort Adjusted side amount a = ⊥

-- the account is one of these, and as much is owed
pub record IsCovered (all : List Amounts) (p : Payment) : Type 0 where
  pub known : p.account < length all
  pub stands : Covers p.kind p.side p.amount (amounts_at all p.account)

-- less is owed than is paid
abbrev pub IsShort : List Amounts → Payment → Type 0
IsShort all p = FallsShort p.kind p.side p.amount (amounts_at all p.account)

-- ---- the second table

abbrev pub payment_text : List ℕ
payment_text = codes "CREATE TABLE payment (id INTEGER PRIMARY KEY, name TEXT NOT NULL, side TEXT NOT NULL, amount INTEGER NOT NULL, moment INTEGER NOT NULL) STRICT"

abbrev pub side_text : BalanceSide → List ℕ
side_text Claims = codes "claims"
side_text Dues = codes "dues"

-- The text of the column `side`: the side, with a plus in front if the amount was added, and after it a space and the reference, if it has
-- one.
abbrev pub sign_text : Kind → List ℕ
sign_text Paid = []
sign_text Adjusted = codes "+"

abbrev pub reference_text : List ℕ → List ℕ
reference_text [] = []
reference_text (b ∷ reference) = 32 ∷ b ∷ reference

abbrev pub entry_text : Kind → BalanceSide → (reference : List ℕ) → List ℕ
entry_text kind side reference = sign_text kind ++ side_text side ++ reference_text reference

-- a text of an entry of this kind and side
abbrev pub IsEntryText : Kind → BalanceSide → (text : List ℕ) → Type 0
IsEntryText kind side text = (rest : List ℕ) × (text ≡ sign_text kind ++ side_text side ++ rest)

-- a row of it: the id, NULL in the column of the key, the account's name, the text of the entry, the amount and the moment
abbrev pub payment_line : (id : ℕ) (name text : List ℕ) (amount moment : ℕ) → Row
payment_line id name text amount moment = Int (pos id) ∷ Null ∷ Text name ∷ Text text ∷ Int (pos amount) ∷ Int (pos moment) ∷ []

pub record IsPaymentLine (id : ℕ) (row : Row) : Type 0 where
  pub name : List ℕ
  pub kind : Kind
  pub side : BalanceSide
  pub text : List ℕ
  pub text_is : IsEntryText kind side text
  pub amount : ℕ
  pub moment : ℕ
  pub is : row ≡ payment_line id name text amount moment

abbrev pub ArePaymentsFrom : ℕ → List Row → Type 0
ArePaymentsFrom id [] = ⊤
ArePaymentsFrom id (row ∷ rows) = IsPaymentLine id row × ArePaymentsFrom (suc id) rows

-- the payments are numbered from 1
abbrev pub ArePayments : List Row → Type 0
ArePayments = ArePaymentsFrom 1

abbrev pub name_at : List (List ℕ) → ℕ → List ℕ
name_at names at = slice_index_or names at []

-- the moment of the last one
abbrev pub count_of : Value → ℕ
count_of (Int (pos n)) = n
count_of _ = 0

abbrev pub moment_in : Row → ℕ
moment_in row = count_of (column row 5)

abbrev pub latest_in : List Row → ℕ
latest_in [] = 0
latest_in (row ∷ []) = moment_in row
latest_in (row ∷ next ∷ rows) = latest_in (next ∷ rows)

-- The row of one payment more, with this text. Its moment is not before the last one's.
abbrev pub payment_row : List Row → List (List ℕ) → Payment → (text : List ℕ) → Row
payment_row paid names p text = payment_line (length paid + 1) (name_at names p.account) text p.amount (max (latest_in paid) p.moment)

abbrev pub with_payment : List Row → List (List ℕ) → Payment → (text : List ℕ) → List Row
with_payment paid names p text = paid ++ payment_row paid names p text ∷ []

-- its amount or its moment is above 2^63 - 1
abbrev pub IsUncountable : Payment → Type 0
IsUncountable p = (2 ^ 63 ≤ p.amount) ⊎ (2 ^ 63 ≤ p.moment)

-- ---- what was entered under a reference

-- the row has this name and this text
abbrev pub HasText : (name text : List ℕ) → Row → Type 0
HasText name text row = (column row 2 ≡ Text name) × (column row 3 ≡ Text text)

-- the text of one of two kinds
abbrev pub text_for : (paid adjusted : List ℕ) → Kind → List ℕ
text_for paid adjusted Paid = paid
text_for paid adjusted Adjusted = adjusted

-- one of the rows has this name, this text and this amount
pub record HasLine (rows : List Row) (name text : List ℕ) (amount : ℕ) : Type 0 where
  pub before : List Row
  pub row : Row
  pub after : List Row
  pub here : rows ≡ before ++ row ∷ after
  pub has : HasText name text row
  pub amount_is : column row 4 ≡ Int (pos amount)

-- none of them has the name with one of two texts
abbrev pub HasNone : (name paid adjusted : List ℕ) → List Row → Type 0
HasNone name paid adjusted rows = AllByRecursion (λ row. (¬ HasText name paid row) × (¬ HasText name adjusted row)) rows

abbrev pub FindsText : List Row → (name paid adjusted : List ℕ) → Option Entry → Type 0
FindsText rows name paid adjusted None = HasNone name paid adjusted rows
FindsText rows name paid adjusted (Some e) = HasLine rows name (text_for paid adjusted e.kind) e.amount

-- what the rows have under a reference, of one account and side: nothing, or one entry of either kind
abbrev pub Finds : List Row → (name : List ℕ) → BalanceSide → (reference : List ℕ) → Option Entry → Type 0
Finds rows name side reference found = FindsText rows name (entry_text Paid side reference) (entry_text Adjusted side reference) found
