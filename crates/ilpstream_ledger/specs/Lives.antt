-- Lives of a connector one after another, and what its accounts owe and are owed by their names: by its books, over all lives. A life
-- begins with a table: it has the accounts of the life before or more or others, on other terms. Payments outside Interledger and
-- adjustments are booked between lives.
use Rattle.std.specs.Prelude.{◌≡◌, ℕ, suc, ◌+◌, ◌≤◌, true, List, [], ◌∷◌, Option, Some, None, length, map, slice_index, slice_index_or, bytes_eq, if◌then◌else◌, ⊤}
use Rattle.std.specs.List.{sum_by}
use Rattle.st_hop.specs.declared.account.Account.{Account}
use Rattle.st_hop.specs.declared.ticket.Open.{Open}
use Rattle.st_hop.specs.Books.{AreBooks, restored}
use Rattle.st_hop.specs.Hop.{Hop, Way, held_for, due_for, last_next}
use Rattle.st_hop.specs.Runs.{Act, run, fulfilled}
use Rattle.st_hop.specs.Table.{is_table, new_hop}
use Rattle.st_links.specs.declared.booking.Booking.{Booking}
use Rattle.st_links.specs.declared.booking.Proof.{Proof}
use Rattle.st_hop_books.specs.declared.balance.Amounts.{Amounts}
use Rattle.st_links.specs.declared.side.BalanceSide.{BalanceSide}
use Rattle.st_links.specs.declared.side.BalanceSide.TheVariants.{Claims, Dues}
use Rattle.st_hop_books.specs.declared.balance.Kind.{Kind}
use Rattle.st_hop_books.specs.declared.balance.Kind.TheVariants.{Paid, Adjusted}
use Rattle.st_hop_books.specs.Payments.{changed, on_side}
use Rattle.st_hop_books.specs.Sums.{nothing}
use Rattle.ilpstream_ledger.specs.Names.{Names}

-- what the account of a name owes and is owed
abbrev pub Owed : Type 0
Owed = List ℕ → Amounts

-- one life: the table with which it begins, the number of its first ticket, and what happens until it ends or crashes
pub record Life : Type 0 where
  pub own : List ℕ
  pub names : Names  -- of its accounts, by line
  pub accounts : List Account
  pub routes : List Way
  pub first : ℕ
  pub acts : List Act

pub data Chapter : Type 0 where
  Lives : Life → Chapter
  Pays : (name : List ℕ) (side : BalanceSide) (amount : ℕ) → Chapter
  Adjusts : (name : List ℕ) (side : BalanceSide) (amount : ℕ) → Chapter

abbrev pub claims_by : Owed → Names → List ℕ
claims_by owed names = map (λ name. (owed name).claims) names

abbrev pub dues_by : Owed → Names → List ℕ
dues_by owed names = map (λ name. (owed name).dues) names

-- the hop with which a life begins: it has its table, and what its accounts owe and are owed
abbrev pub hop_of : Owed → Life → Hop
hop_of owed l = restored (new_hop l.own l.accounts l.routes) (claims_by owed l.names) (dues_by owed l.names) l.first

abbrev pub next_line : Option ℕ → Option ℕ
next_line None = None
next_line (Some a) = Some (suc a)

-- the line of a name in a table
unfoldable pub line_of : Names → List ℕ → Option ℕ
line_of [] name = None
line_of (n ∷ names) name = if bytes_eq n name then Some 0 else next_line (line_of names name)

-- what an account owes and is owed at the end of a life: of one without a line, what it was
abbrev pub left_at : Hop → Option ℕ → Amounts → Amounts
left_at h None before = before
left_at h (Some a) before = record { claims = slice_index h.claims a; dues = slice_index h.dues a }

abbrev pub after_life : Owed → Life → Owed
after_life owed l name = left_at (run (hop_of owed l) l.acts) (line_of l.names name) (owed name)

-- a payment is taken off the side of one name, and an adjustment is added
abbrev pub after_entry : Kind → Owed → (to : List ℕ) → BalanceSide → (amount : ℕ) → Owed
after_entry kind owed to side amount name = if bytes_eq to name then changed kind side amount (owed name) else owed name

abbrev pub after : Owed → Chapter → Owed
after owed (Lives l) = after_life owed l
after owed (Pays name side amount) = after_entry Paid owed name side amount
after owed (Adjusts name side amount) = after_entry Adjusted owed name side amount

-- books without an account
abbrev pub none : Owed
none name = nothing

abbrev pub history : Owed → List Chapter → Owed
history owed [] = owed
history owed (c ∷ cs) = history (after owed c) cs

-- a life begins only with a table, and with what its accounts may owe on its terms
pub record Begins (owed : Owed) (l : Life) : Type 0 where
  pub table : is_table l.own l.accounts l.routes ≡ true
  pub lines : length l.names ≡ length l.accounts
  pub books : AreBooks l.accounts (claims_by owed l.names) (dues_by owed l.names)
  pub numbered : l.first ≤ last_next

-- no more is paid than is owed
abbrev pub Fits : Owed → Chapter → Type 0
Fits owed (Lives l) = Begins owed l
Fits owed (Pays name side amount) = amount ≤ on_side side (owed name)
Fits owed (Adjusts name side amount) = ⊤

abbrev pub AllFit : Owed → List Chapter → Type 0
AllFit owed [] = ⊤
AllFit owed (c ∷ cs) = Fits owed c × AllFit (after owed c) cs

-- ---- sums

-- over the fulfilled Prepares of a life, if the name has a line
abbrev pub sum_at : (by : ℕ → Open → ℕ) → List Open → Option ℕ → ℕ
sum_at by bag None = 0
sum_at by bag (Some a) = sum_by (by a) bag

abbrev pub earned_in : (by : ℕ → Open → ℕ) → Owed → (name : List ℕ) → Chapter → ℕ
earned_in by owed name (Lives l) = sum_at by (fulfilled (hop_of owed l) l.acts) (line_of l.names name)
earned_in by owed name (Pays to side amount) = 0
earned_in by owed name (Adjusts to side amount) = 0

-- over those of all lives: by held_for the amounts that arrived from the account, by due_for those that were forwarded to it
abbrev pub earned : (by : ℕ → Open → ℕ) → Owed → (name : List ℕ) → List Chapter → ℕ
earned by owed name [] = 0
earned by owed name (c ∷ cs) = earned_in by owed name c + earned by (after owed c) name cs

abbrev pub amount_if : BalanceSide → BalanceSide → (amount : ℕ) → ℕ
amount_if Claims Claims amount = amount
amount_if Claims Dues amount = 0
amount_if Dues Claims amount = 0
amount_if Dues Dues amount = amount

abbrev pub paid_in : BalanceSide → (name : List ℕ) → Chapter → ℕ
paid_in side name (Lives l) = 0
paid_in side name (Pays to on amount) = if bytes_eq to name then amount_if side on amount else 0
paid_in side name (Adjusts to on amount) = 0

-- what was paid on a side of the account of a name
abbrev pub paid : BalanceSide → (name : List ℕ) → List Chapter → ℕ
paid side name [] = 0
paid side name (c ∷ cs) = paid_in side name c + paid side name cs

abbrev pub adjusted_in : BalanceSide → (name : List ℕ) → Chapter → ℕ
adjusted_in side name (Lives l) = 0
adjusted_in side name (Pays to on amount) = 0
adjusted_in side name (Adjusts to on amount) = if bytes_eq to name then amount_if side on amount else 0

-- what was added to a side of the account of a name
abbrev pub adjusted : BalanceSide → (name : List ℕ) → List Chapter → ℕ
adjusted side name [] = 0
adjusted side name (c ∷ cs) = adjusted_in side name c + adjusted side name cs

-- ---- the same in the books, by the places of accounts

-- what a fulfilled Prepare books, its accounts at their places in the books; none is that of no account,
-- and its proof is what this gives
abbrev pub booking_at : (places : List ℕ) (none : ℕ) (proves : Open → Option Proof) → Open → Booking
booking_at places none proves t = record {
  payer = slice_index_or places t.incoming none;
  claim = t.amount_in;
  payee = slice_index_or places t.outgoing none;
  due = t.amount_out;
  proof = proves t;
}

-- the amounts of an account that earned these
abbrev pub gained : Amounts → List Open → Option ℕ → Amounts
gained a bag line = record { claims = a.claims + sum_at held_for bag line; dues = a.dues + sum_at due_for bag line }
