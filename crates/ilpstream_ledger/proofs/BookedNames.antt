-- What bookings at places of the books make of the amounts of names.
use Rattle.std.proofs.Common.{◌≡◌, ◌≢◌, ℕ, zero, suc, ◌+◌, ◌<◌, Bool, true, false, List, [], ◌∷◌, length, get_or, set, map, slice_get, Option, Some, None, refl, sym, ap, ◌∙◌, arith, nat_eq, if◌then◌else◌, length-set}
use Rattle.std.specs.Prelude.{bytes_eq}
use Rattle.std.specs.List.{AllByRecursion}
use Rattle.std.proofs.lemmas.List.Sums.{sum_by-append}
use Rattle.std.proofs.lemmas.Bool.Decides.{nat_tests}
use Rattle.std.proofs.lemmas.Option.{same_Some, none-some}
use Rattle.std.proofs.lemmas.Slice.Eq.{bytes_eq-Decides}
use Rattle.st_hop.specs.declared.ticket.Open.{Open}
use Rattle.st_hop.specs.Hop.{held_for, due_for}
use Rattle.st_hop.specs.Lawful.{IsNamed}
use Rattle.st_links.specs.declared.booking.Booking.{Booking}
use Rattle.st_links.specs.declared.booking.Proof.{Proof}
use Rattle.st_hop_books.specs.declared.balance.Amounts.{Amounts}
use Rattle.st_hop_books.specs.Sums.{nothing, amounts_at, with_claim, with_due, claimed, booked_one, booked}
use Rattle.st_hop_books.specs.Table.{AreDistinct}
use Rattle.ilpstream_ledger.specs.Names.{Names, amounts_of}
use Rattle.ilpstream_ledger.specs.Placed.{ArePlaces}
use Rattle.ilpstream_ledger.specs.Lives.{line_of, next_line, sum_at, booking_at, gained}
use Rattle.ilpstream_ledger.proofs.ByName.{all_at, found, unlike}
use Rattle.ilpstream_ledger.proofs.Histories.{set_named, same_amounts}

-- ---- a line and a name

abbrev amount_for : Option ℕ → (line amount : ℕ) → ℕ
amount_for None line amount = 0
amount_for (Some a) line amount = if nat_eq line a then amount else 0

apart_first : (a : ℕ) → nat_eq 0 (suc a) ≡ false
apart_first a = grind (arith, nat_tests)

apart_later : (a : ℕ) → nat_eq (suc a) 0 ≡ false
apart_later a = grind (arith, nat_tests)

equal_later : (a b : ℕ) → nat_eq (suc a) (suc b) ≡ nat_eq a b
equal_later a b = grind (arith, nat_tests)

first_none : (o : Option ℕ) (amount : ℕ) → amount_for (next_line o) 0 amount ≡ 0
first_none None amount = refl
first_none (Some a) amount = ap (λ (b : Bool). if b then amount else 0) (apart_first a)

later_same : (o : Option ℕ) (line amount : ℕ) → amount_for (next_line o) (suc line) amount ≡ amount_for o line amount
later_same None line amount = refl
later_same (Some a) line amount = ap (λ (b : Bool). if b then amount else 0) (equal_later line a)

first_line : (o : Option ℕ) (amount : ℕ) (b : Bool) → amount_for (if b then Some 0 else next_line o) 0 amount ≡ (if b then amount else 0)
first_line o amount true = refl
first_line o amount false = first_none o amount

later_line : (n to name : List ℕ) (o : Option ℕ) (line amount : ℕ) (b : Bool) → bytes_eq n name ≡ b → n ≢ to → amount_for o line amount ≡ (if bytes_eq to name then amount else 0)
    → amount_for (if b then Some 0 else next_line o) (suc line) amount ≡ (if bytes_eq to name then amount else 0)
later_line n to name o line amount true same apart e = ap (λ (b : Bool). if b then amount else 0) (apart_later line) ∙ sym (ap (λ (c : Bool). if c then amount else 0) (unlike to name (λ is. apart ((bytes_eq-Decides n name).0 same ∙ sym is))))
later_line n to name o line amount false same apart e = later_same o line amount ∙ e

-- the line of a name is that of a ticket's account if the account has this name
amount_at : (table : Names) (line : ℕ) (to name : List ℕ) (amount : ℕ) → AreDistinct table → slice_get table line ≡ Some to
    → amount_for (line_of table name) line amount ≡ (if bytes_eq to name then amount else 0)
unfolding line_of
amount_at [] line to name amount apart here = absurd (none-some to here)
amount_at (n ∷ ns) zero to name amount apart here =
    first_line (line_of ns name) amount (bytes_eq n name) ∙ ap (λ t. if bytes_eq t name then amount else 0) (same_Some n to here)
amount_at (n ∷ ns) (suc line) to name amount apart here =
    later_line n to name (line_of ns name) line amount (bytes_eq n name) refl (λ e. all_at (λ other. other ≢ n) ns line to apart.0 here (sym e))
    (amount_at ns line to name amount apart.1 here)

-- ---- one booking

-- if a part of the amounts that are set rises by `more`, it rises by `more` at the name that is there
field_named : (f : Amounts → ℕ) (names : Names) (all : List Amounts) (at : ℕ) (to name : List ℕ) (a : Amounts) (more : ℕ) → AreDistinct names → length names ≡ length all → slice_get names at ≡ Some to
    → f a ≡ f (amounts_at all at) + more → f (amounts_of names (set all at a) name) ≡ f (amounts_of names all name) + (if bytes_eq to name then more else 0)
field_named f names all at to name a more apart same here rises =
    ap f (set_named names all at to name a apart same here) ∙ chosen (bytes_eq to name) refl
  where
    chosen : (b : Bool) → bytes_eq to name ≡ b → f (if b then a else amounts_of names all name) ≡ f (amounts_of names all name) + (if b then more else 0)
    chosen true is = let e = ap f (sym (found names all at to nothing apart same here) ∙ ap (amounts_of names all) ((bytes_eq-Decides to name).0 is)) in omega (arith, e, rises)
    chosen false is = omega arith

none_if : (b : Bool) → ◌≡◌ {A = ℕ} (if b then 0 else 0) 0
none_if true = refl
none_if false = refl

here_at : (xs : Names) (i : ℕ) → i < length xs → slice_get xs i ≡ Some (get_or xs i [])
here_at [] i lt = absurd (omega (arith, lt))
here_at (x ∷ xs) zero lt = refl
here_at (x ∷ xs) (suc i) lt = here_at xs i (omega (arith, lt))

abbrev rest_of : {X : Type 0} → List X → List X
rest_of [] = []
rest_of (x ∷ xs) = xs

place_named : (names table : Names) (places : List ℕ) (i none : ℕ) (to : List ℕ) → map (slice_get names) places ≡ map Some table → slice_get table i ≡ Some to → slice_get names (get_or places i none) ≡ Some to
place_named names [] places i none to is here = absurd (none-some to here)
place_named names (t ∷ table) [] i none to is here = absurd (let e = ap length is in omega (arith, e))
place_named names (t ∷ table) (p ∷ places) zero none to is here = ap (λ xs. get_or xs 0 None) is ∙ here
place_named names (t ∷ table) (p ∷ places) (suc i) none to is here = place_named names table places i none to (ap rest_of is) here

-- books, a table and the places of its accounts
pub record IsOver (names table : Names) (places : List ℕ) (all : List Amounts) : Type 0 where
  names_apart : AreDistinct names
  table_apart : AreDistinct table
  same : length names ≡ length all
  places_are : ArePlaces names table places

over_booked : (names table : Names) (places : List ℕ) (all : List Amounts) (b : Booking) → IsOver names table places all → IsOver names table places (booked_one all b)
over_booked names table places all b o = record {
  names_apart = o.names_apart;
  table_apart = o.table_apart;
  same = o.same ∙ sym (length-set all b.payer _) ∙ sym (length-set (claimed all b.payer b.claim) b.payee _);
  places_are = o.places_are;
}

one_claims : (names table : Names) (places : List ℕ) (all : List Amounts) (none : ℕ) (proves : Open → Option Proof) (t : Open) (name : List ℕ) → IsOver names table places all → IsNamed (length table) t
    → (amounts_of names (booked_one all (booking_at places none proves t)) name).claims ≡ (amounts_of names all name).claims + amount_for (line_of table name) t.incoming t.amount_in
one_claims names table places all none proves t name o is =
    let to = get_or table t.incoming [] in
    let on = get_or table t.outgoing [] in
    let p = get_or places t.incoming none in
    let q = get_or places t.outgoing none in
    let to_here = here_at table t.incoming is.incoming in
    let from = place_named names table places t.incoming none to o.places_are to_here in
    let onto = place_named names table places t.outgoing none on o.places_are (here_at table t.outgoing is.outgoing) in
    let long = o.same ∙ sym (length-set all p (with_claim all p t.amount_in)) in
    let a = field_named (λ (x : Amounts). x.claims) names all p to name (with_claim all p t.amount_in) t.amount_in o.names_apart o.same from refl in
    let b = field_named (λ (x : Amounts). x.claims) names (claimed all p t.amount_in) q on name (with_due (claimed all p t.amount_in) q t.amount_out) 0 o.names_apart long onto (omega arith) in
    let c = amount_at table t.incoming to name t.amount_in o.table_apart to_here in
    let z = none_if (bytes_eq on name) in
    omega (arith, a, b, c, z)

one_dues : (names table : Names) (places : List ℕ) (all : List Amounts) (none : ℕ) (proves : Open → Option Proof) (t : Open) (name : List ℕ) → IsOver names table places all → IsNamed (length table) t
    → (amounts_of names (booked_one all (booking_at places none proves t)) name).dues ≡ (amounts_of names all name).dues + amount_for (line_of table name) t.outgoing t.amount_out
one_dues names table places all none proves t name o is =
    let to = get_or table t.incoming [] in
    let on = get_or table t.outgoing [] in
    let p = get_or places t.incoming none in
    let q = get_or places t.outgoing none in
    let on_here = here_at table t.outgoing is.outgoing in
    let from = place_named names table places t.incoming none to o.places_are (here_at table t.incoming is.incoming) in
    let onto = place_named names table places t.outgoing none on o.places_are on_here in
    let long = o.same ∙ sym (length-set all p (with_claim all p t.amount_in)) in
    let a = field_named (λ (x : Amounts). x.dues) names all p to name (with_claim all p t.amount_in) 0 o.names_apart o.same from (omega arith) in
    let b = field_named (λ (x : Amounts). x.dues) names (claimed all p t.amount_in) q on name (with_due (claimed all p t.amount_in) q t.amount_out) t.amount_out o.names_apart long onto refl in
    let c = amount_at table t.outgoing on name t.amount_out o.table_apart on_here in
    let z = none_if (bytes_eq to name) in
    omega (arith, a, b, c, z)

-- ---- any number of bookings

held_more : (t : Open) (bag : List Open) (o : Option ℕ) → sum_at held_for (t ∷ bag) o ≡ amount_for o t.incoming t.amount_in + sum_at held_for bag o
held_more t bag None = omega arith
held_more t bag (Some a) = let e = sum_by-append (held_for a) (t ∷ []) bag in omega (arith, e)

due_more : (t : Open) (bag : List Open) (o : Option ℕ) → sum_at due_for (t ∷ bag) o ≡ amount_for o t.outgoing t.amount_out + sum_at due_for bag o
due_more t bag None = omega arith
due_more t bag (Some a) = let e = sum_by-append (due_for a) (t ∷ []) bag in omega (arith, e)

none_more : (a : Amounts) (o : Option ℕ) → a ≡ gained a [] o
none_more a None = same_amounts a (gained a [] None) (omega arith) (omega arith)
none_more a (Some line) = same_amounts a (gained a [] (Some line)) (omega arith) (omega arith)

pub all_booked : (names table : Names) (places : List ℕ) (all : List Amounts) (none : ℕ) (proves : Open → Option Proof) (bag : List Open) (name : List ℕ) → IsOver names table places all → AllByRecursion (IsNamed (length table)) bag
    → amounts_of names (booked all (map (booking_at places none proves) bag)) name ≡ gained (amounts_of names all name) bag (line_of table name)
all_booked names table places all none proves [] name o named = none_more (amounts_of names all name) (line_of table name)
all_booked names table places all none proves (t ∷ bag) name o named =
    let b = booking_at places none proves t in
    let rest = all_booked names table places (booked_one all b) none proves bag name (over_booked names table places all b o) named.1 in
    let c = one_claims names table places all none proves t name o named.0 in
    let d = one_dues names table places all none proves t name o named.0 in
    let h = held_more t bag (line_of table name) in
    let u = due_more t bag (line_of table name) in
    rest ∙ same_amounts (gained (amounts_of names (booked_one all b) name) bag (line_of table name)) (gained (amounts_of names all name) (t ∷ bag) (line_of table name)) (omega (arith, c, h)) (omega (arith, d, u))

pub books_gain : (names table : Names) (places : List ℕ) (all : List Amounts) (none : ℕ) (proves : Open → Option Proof) (bag : List Open) (name : List ℕ) → AreDistinct names → AreDistinct table → length names ≡ length all → ArePlaces names table places → AllByRecursion (IsNamed (length table)) bag
    → amounts_of names (booked all (map (booking_at places none proves) bag)) name ≡ gained (amounts_of names all name) bag (line_of table name)
books_gain names table places all none proves bag name apart lines same are named = all_booked names table places all none proves bag name (record { names_apart = apart; table_apart = lines; same = same; places_are = are }) named
