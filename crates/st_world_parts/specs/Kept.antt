-- What is kept with its owner: values that are to be spent once, and the ledgers of streams by number.
use Rattle.std.specs.Prelude.{◌≡◌, ℕ, ◌+◌, List, [], ◌∷◌, nat_eq, slice_get}
use Rattle.std.specs.List.{remove}
use Rattle.std.specs.declared.option.Option.{Option}
use Rattle.std.specs.declared.option.Option.TheVariants.{None, Some}
use Rattle.std.specs.Ordering.{nat_cmp}
use Rattle.std.specs.FinMap as fmap
use Rattle.std.specs.HashMap.{HashMap, get}
use Rattle.st_hop.specs.declared.ticket.Open.{Open}
use Rattle.st_hop.specs.Tickets.{ticket_at}
use Rattle.st_end.specs.declared.flight.Open as flights
use Rattle.st_world_parts.specs.StreamLogs.{StreamLog}

-- x is in the list
abbrev pub Stands : {A : Type 0} → List A → A → Type 0
Stands xs x = (i : ℕ) × (slice_get xs i ≡ Some x)

-- the flight of each condition that an end keeps is in the list
abbrev pub AreKept : fmap.FinMap nat_cmp (List ℕ) → List flights.Open → Type 0
AreKept conditions kept = (n : ℕ) (condition : List ℕ) → fmap.get conditions n ≡ Some condition → Stands kept (record { sequence = n; condition = condition })

-- x was removed from xs
abbrev pub IsTaken : {A : Type 0} → (xs : List A) → A → (ys : List A) → Type 0
IsTaken xs x ys = (i : ℕ) × (slice_get xs i ≡ Some x) × (ys ≡ remove xs i)

-- the ticket that is open under a number is kept under it, and no other is
abbrev pub AreByNumber : {S : Type 0} → HashMap ℕ Open S → List Open → Type 0
AreByNumber kept tickets = (n : ℕ) → get nat_eq kept n ≡ ticket_at tickets n

-- ledgers in a list by number, as a map of those that there are
abbrev pub put_if : Option StreamLog → ℕ → fmap.FinMap nat_cmp StreamLog → fmap.FinMap nat_cmp StreamLog
put_if None k m = m
put_if (Some x) k m = fmap.insert m k x

unfoldable pub all_from : ℕ → List (Option StreamLog) → fmap.FinMap nat_cmp StreamLog
all_from k [] = fmap.empty
all_from k (o ∷ os) = put_if o k (all_from (k + 1) os)
