-- The laws of the books of a connector, as sentences.
use Rattle.std.specs.Prelude.{◌≡◌, ◌+◌, ◌++◌, ℕ, List, length, map, replicate, slice_get, Option, Some}
use Rattle.std.specs.List.{AllByRecursion}
use Rattle.st_hop.specs.declared.ticket.Open.{Open}
use Rattle.st_hop.specs.Lawful.{IsNamed}
use Rattle.st_hop.specs.Hop.{held_for, due_for}
use Rattle.st_links.specs.declared.booking.Proof.{Proof}
use Rattle.st_hop_books.specs.declared.balance.Amounts.{Amounts}
use Rattle.st_hop_books.specs.Sums.{booked, nothing}
use Rattle.st_links.specs.declared.side.BalanceSide.TheVariants.{Claims, Dues}
use Rattle.st_hop_books.specs.declared.balance.Kind.{Kind}
use Rattle.st_links.specs.declared.side.BalanceSide.{BalanceSide}
use Rattle.st_hop_books.specs.Payments.{paid_off, paying}
use Rattle.st_hop_books.specs.Table.{AreDistinct}
use Rattle.ilpstream_ledger.specs.Lives.{AllFit, Chapter, adjusted, after_entry, booking_at, earned, gained, history, line_of, none, paid}
use Rattle.ilpstream_ledger.specs.Placed.{ArePlaces}
use Rattle.ilpstream_ledger.specs.Names.{Names, amounts_of, claims_of, dues_of}

-- names that are added, at which nothing is owed, change no claim of the accounts of a table
abbrev pub AddedNamesClaimNothing : Type 0
AddedNamesClaimNothing =
    (names more table : Names) (all : List Amounts)
    → length names ≡ length all
    → claims_of (names ++ more) (all ++ replicate (length more) nothing) table ≡ claims_of names all table

-- and none of their dues
abbrev pub AddedNamesOweNothing : Type 0
AddedNamesOweNothing =
    (names more table : Names) (all : List Amounts)
    → length names ≡ length all
    → dues_of (names ++ more) (all ++ replicate (length more) nothing) table ≡ dues_of names all table

-- what an account owes, and what was paid of it, were earned by fulfilled Prepares from it, or adjusted
abbrev pub ClaimsAreEarnedOrAdjusted : Type 0
ClaimsAreEarnedOrAdjusted =
    (name : List ℕ) (cs : List Chapter)
    → AllFit none cs
    → (history none cs name).claims + paid Claims name cs ≡ earned held_for none name cs + adjusted Claims name cs

-- what it is owed, and what was paid of that, were earned by Prepares that were forwarded to it, or adjusted
abbrev pub DuesAreEarnedOrAdjusted : Type 0
DuesAreEarnedOrAdjusted =
    (name : List ℕ) (cs : List Chapter)
    → AllFit none cs
    → (history none cs name).dues + paid Dues name cs ≡ earned due_for none name cs + adjusted Dues name cs

-- a payment or an adjustment at the place of a name is one of this name
abbrev pub EntriesAreByName : Type 0
EntriesAreByName =
    (names : Names) (all : List Amounts) (kind : Kind) (at : ℕ) (to name : List ℕ) (side : BalanceSide) (amount moment : ℕ)
    → AreDistinct names
    → length names ≡ length all
    → slice_get names at ≡ Some to
    → amounts_of names (paid_off all (paying kind at side amount moment)) name
    ≡ after_entry kind (amounts_of names all) to side amount name

-- books that booked fulfilled Prepares, at the places of their accounts, gained at each name what the hop gained there
abbrev pub BookingsAreByName : Type 0
BookingsAreByName =
    (names table : Names) (places : List ℕ) (all : List Amounts) (none : ℕ) (proves : Open → Option Proof) (bag : List Open) (name : List ℕ)
    → AreDistinct names
    → AreDistinct table
    → length names ≡ length all
    → ArePlaces names table places
    → AllByRecursion (IsNamed (length table)) bag
    → amounts_of names (booked all (map (booking_at places none proves) bag)) name
    ≡ gained (amounts_of names all name) bag (line_of table name)
