-- Lines of the third table, and one that is written after the others.
use Rattle.std.proofs.Common.{◌≡◌, ℕ, ℤ, pos, ◌+◌, ◌<◌, ◌++◌, List, [], ◌∷◌, Option, None, Some, length, fold, take, get_or, refl, sym, ap, subst, ◌∙◌, arith}
use Rattle.std.specs.List.{AllByRecursion}
use Rattle.std.specs.declared.cmp.Ordering.TheVariants.{Less}
use Rattle.std.proofs.lemmas.Bool.Decides.{nat_tests}
use Rattle.std.proofs.lemmas.List.Sums.{fold_more}
use Rattle.sqlite_value.specs.declared.value.Value.TheVariants.{Null, Int, Text, Blob}
use Rattle.sqlite_value.specs.Order.{Row, column, value_cmp}
use Rattle.sqlite_value.proofs.OrderLemmas.{value_cmp-Int}
use Rattle.sqlite_trees.specs.Tree.{Trees, IsTable, put_row, rowid, with_tree}
use Rattle.sqlite_trees.specs.Objects.{catalog_tree, version_tree}
use Rattle.sqlite_trees.specs.declared.store.Shape.{Shape}
use Rattle.sqlite_trees.specs.declared.store.Shape.TheVariants.{Table}
use Rattle.sqlite_trees.specs.View.{View, IsShaped, OnlyWrites, SetsTree}
use Rattle.st_links.specs.declared.booking.Booking.{Booking}
use Rattle.st_links.specs.declared.booking.Proof.{Proof}
use Rattle.st_hop_books.specs.declared.balance.Amounts.{Amounts}
use Rattle.st_hop_books.specs.declared.balance.Tally.{Tally}
use Rattle.st_hop_books.specs.Payments.{count_of, name_at, ArePayments}
use Rattle.st_hop_books.specs.Fulfillments.{proof_line, proof_row, proof_tree, last_id, id_after, last_after, with_proof, with_proof_of, with_proofs, AreProofs, IsProofLine}
use Rattle.st_hop_books.specs.Trail.{Trail, later_tally, tally_of, with_bookings}
use Rattle.st_hop_books.specs.Table.{payment_tree, AreBooks, ListsTables}
use Rattle.st_hop_books.specs.Standing.{Draws, Enters}
use Rattle.st_hop_books.proofs.LineLemmas.{lower_id}
use Rattle.st_hop_books.proofs.PaymentLemmas.{none_more}
use Rattle.st_hop_books.proofs.Steps.{only_writes_then, other_tree, same_tree}

-- ---- ids in order

lower_of : (m n : ℕ) → value_cmp (Int (pos m)) (Int (pos n)) ≡ Less → m < n
lower_of m n e = let f = sym (value_cmp-Int (pos m) (pos n)) ∙ e in grind (arith, nat_tests)

-- each id is below one that is above the last
below : (rows : List Row) (n : ℕ) → AreProofs rows → IsTable rows → last_id rows < n → AllByRecursion (λ r. value_cmp (rowid r) (Int (pos n)) ≡ Less) rows
below [] n all table low = tt
below (r ∷ []) n all table low =
    let it = all.0 in
    let first : column r 0 ≡ Int (pos it.id) = ap (λ w. column w 0) it.is in
    let count : count_of (column r 0) ≡ it.id = ap count_of first in
    (subst (λ v. value_cmp v (Int (pos n)) ≡ Less) (sym first) (lower_id it.id n (omega (arith, count, low))), tt)
below (r ∷ s ∷ rows) n all table low =
    let later = below (s ∷ rows) n all.1 table.1 low in
    let it = all.0 in
    let next = all.1.0 in
    let first : column r 0 ≡ Int (pos it.id) = ap (λ w. column w 0) it.is in
    let second : column s 0 ≡ Int (pos next.id) = ap (λ w. column w 0) next.is in
    let after : next.id < n = lower_of next.id n (subst (λ v. value_cmp v (Int (pos n)) ≡ Less) second later.0) in
    let between : it.id < next.id = lower_of it.id next.id (subst (λ v. value_cmp v (Int (pos next.id)) ≡ Less) first (subst (λ v. value_cmp (column r 0) v ≡ Less) second table.0.0)) in
    (subst (λ v. value_cmp v (Int (pos n)) ≡ Less) (sym first) (lower_id it.id n (omega (arith, after, between))), later)

put_above : (new : Row) (rows : List Row) → AllByRecursion (λ r. value_cmp (rowid r) (rowid new) ≡ Less) rows → put_row new rows ≡ rows ++ new ∷ []
put_above new [] all = refl
put_above new (r ∷ rows) all = rw all.0 (ap (λ l. r ∷ l) (put_above new rows all.1))

-- a table's rows, in order
pub ordered_table : (s : Shape) (rows : List Row) → s ≡ Table → IsShaped s rows → IsTable rows
ordered_table s rows is h = (let P : Shape → Type 0 = λ t. IsShaped t rows in subst P is h).0

pub put_proof : (rows : List Row) (last : ℕ) (name condition fulfillment : List ℕ) (amount : ℕ) (moment : ℤ) → AreProofs rows → IsTable rows → last_id rows ≡ last
    → put_row (proof_line (last + 1) name condition fulfillment amount moment) rows ≡ rows ++ proof_line (last + 1) name condition fulfillment amount moment ∷ []
put_proof rows last name condition fulfillment amount moment all table is = put_above (proof_line (last + 1) name condition fulfillment amount moment) rows (below rows (last + 1) all table (omega (arith, is)))

-- ---- the last id

pub last_of_push : (rows : List Row) (row : Row) → last_id (rows ++ row ∷ []) ≡ count_of (column row 0)
last_of_push [] row = refl
last_of_push (r ∷ []) row = refl
last_of_push (r ∷ s ∷ rows) row = last_of_push (s ∷ rows) row

one_with : (names : List (List ℕ)) (rows : List Row) (b : Booking) (p : Option Proof) (last : ℕ) → last_id rows ≡ last → last_id (with_proof_of names rows b p) ≡ id_after last p
one_with names rows b None last is = is
one_with names rows b (Some p) last is = last_of_push rows (proof_row (last_id rows + 1) names b p) ∙ ap (λ n. n + 1) is

pub last_with : (names : List (List ℕ)) (rows : List Row) (bookings : List Booking) (last : ℕ) → last_id rows ≡ last → last_id (with_proofs names rows bookings) ≡ fold last_after last bookings
last_with names rows [] last is = is
last_with names rows (b ∷ bookings) last is = last_with names (with_proof names rows b) bookings (last_after last b) (one_with names rows b b.proof last is)

pub later_is : (trail : Trail) (names : List (List ℕ)) (bookings : List Booking) (count : Tally) → tally_of trail ≡ count → tally_of (with_bookings trail names bookings) ≡ later_tally count bookings
later_is trail names bookings count is =
    let last = last_with names trail.proofs bookings (last_id trail.proofs) refl in
    let now : tally_of (with_bookings trail names bookings) ≡ later_tally (tally_of trail) bookings = λ i. let t : Tally = record { lines = length trail.paid; latest = (tally_of trail).latest; filed = last i } in t in
    now ∙ ap (λ (t : Tally). later_tally t bookings) is

-- ---- bookings entered

proof_written : (db : Trees) (rows : List Row) (starts : ℕ) (names : List (List ℕ)) (all : List Amounts) (trail more : Trail) → AreBooks db starts names all trail → rows ≡ more.proofs → AreProofs more.proofs → more.paid ≡ trail.paid
    → AreBooks (with_tree db proof_tree rows) starts names all more
proof_written db rows starts names all trail more h is lawful same = record {
  rows = other_tree db proof_tree rows 0 (omega arith) ∙ h.rows;
  named = h.named;
  audit = other_tree db proof_tree rows payment_tree (omega arith) ∙ (h.audit ∙ sym same);
  payments = subst ArePayments (sym same) h.payments;
  filed = same_tree db proof_tree rows ∙ is;
  proofs = lawful;
  counted = other_tree db proof_tree rows version_tree (omega arith) ∙ h.counted;
  objects = subst ListsTables (sym (other_tree db proof_tree rows catalog_tree (omega arith))) h.objects;
}

-- one that has no proof
pub enters_plain : (old new : View) (names : List (List ℕ)) (before after : List Amounts) (last : ℕ) (b : Booking) → b.proof ≡ None → Draws old new names before after → Enters old new names before after last (b ∷ [])
enters_plain old new names before after last b none draws = record {
  frame = draws.frame;
  books = λ starts trail is h.
      let P : Option Proof → Type 0 = λ p. AreBooks new.trees starts names after (record { paid = trail.paid; proofs = with_proof_of names trail.proofs b p }) in
      subst P (sym none) (draws.books starts trail h);
}

-- a booking whose proof was written after the others
pub enters_filed : (old mid new : View) (names : List (List ℕ)) (before after : List Amounts) (last : ℕ) (b : Booking) (p : Proof) (name : List ℕ) (edit : List Row → List Row) → b.proof ≡ Some p → name_at names b.payer ≡ name → Draws old mid names before after
    → OnlyWrites mid new → SetsTree mid new proof_tree edit
    → (AreProofs (mid.trees proof_tree) → last_id (mid.trees proof_tree) ≡ last → new.trees proof_tree ≡ mid.trees proof_tree ++ proof_line (last + 1) name p.condition p.fulfillment b.claim p.moment ∷ [])
    → Enters old new names before after last (b ∷ [])
enters_filed old mid new names before after last b p name edit proven named draws frame sets behind = record {
  frame = only_writes_then old mid new draws.frame frame;
  books = λ starts trail is h.
      let m = draws.books starts trail h in
      let line : ℕ → List ℕ → Row = λ n k. proof_line n k p.condition p.fulfillment b.claim p.moment in
      let more : Trail = record { paid = trail.paid; proofs = trail.proofs ++ proof_row (last_id trail.proofs + 1) names b p ∷ [] } in
      let put : new.trees proof_tree ≡ mid.trees proof_tree ++ line (last + 1) name ∷ [] = behind (subst AreProofs (sym m.filed) m.proofs) (ap last_id m.filed ∙ is) in
      let here : new.trees proof_tree ≡ more.proofs = put ∙ (ap (λ rows. rows ++ line (last + 1) name ∷ []) m.filed
      ∙ (ap (λ k. trail.proofs ++ line (last + 1) k ∷ []) (sym named) ∙ ap (λ n. trail.proofs ++ line (n + 1) (name_at names b.payer) ∷ []) (sym is))) in
      let there : edit (mid.trees proof_tree) ≡ more.proofs = sym (ap (λ (v : View). v.trees proof_tree) sets.is ∙ same_tree mid.trees proof_tree (edit (mid.trees proof_tree))) ∙ here in
      let one : IsProofLine (proof_row (last_id trail.proofs + 1) names b p) = record { id = last_id trail.proofs + 1; name = name_at names b.payer; condition = p.condition; fulfillment = p.fulfillment; amount = b.claim; moment = p.moment; is = refl } in
      let written = proof_written mid.trees (edit (mid.trees proof_tree)) starts names after trail more m there (none_more IsProofLine trail.proofs (proof_row (last_id trail.proofs + 1) names b p) m.proofs one) refl in
      let P : Option Proof → Type 0 = λ q. AreBooks new.trees starts names after (record { paid = trail.paid; proofs = with_proof_of names trail.proofs b q }) in
      subst P (sym proven) (subst (λ (db : Trees). AreBooks db starts names after more) (sym (ap (λ (v : View). v.trees) sets.is)) written);
}

-- one after those before it
pub enters_next : (a b c : View) (names : List (List ℕ)) (x y z : List Amounts) (last : ℕ) (bookings : List Booking) (i : ℕ) (d : Booking) → i < length bookings → Enters a b names x y last (take i bookings)
    → Enters b c names y z (fold last_after last (take i bookings)) (get_or bookings i d ∷ []) → Enters a c names x z last (take (i + 1) bookings)
enters_next a b c names x y z last bookings i d low p q = record {
  frame = only_writes_then a b c p.frame q.frame;
  books = λ starts trail is h.
      let done = take i bookings in
      let one = p.books starts trail is h in
      let two = q.books starts (with_bookings trail names done) (last_with names trail.proofs done last is) one in
      subst (λ rows. AreBooks c.trees starts names z (record { paid = trail.paid; proofs = rows })) (sym (fold_more (with_proof names) trail.proofs bookings i d low)) two;
}

-- ---- reading lines

-- a row of seven columns
pub seven : (r : Row) (id : ℕ) (name condition fulfillment : List ℕ) (amount : ℕ) (moment : ℤ) → length r ≡ 7 → column r 0 ≡ Int (pos id) → column r 1 ≡ Null → column r 2 ≡ Text name → column r 3 ≡ Blob condition → column r 4 ≡ Blob fulfillment
    → column r 5 ≡ Int (pos amount) → column r 6 ≡ Int moment → r ≡ proof_line id name condition fulfillment amount moment
seven (v0 ∷ v1 ∷ v2 ∷ v3 ∷ v4 ∷ v5 ∷ v6 ∷ []) id name condition fulfillment amount moment len c0 c1 c2 c3 c4 c5 c6 = rw (c0, c1, c2, c3, c4, c5, c6) refl
seven [] id name condition fulfillment amount moment len c0 c1 c2 c3 c4 c5 c6 = absurd (omega arith)
seven (v0 ∷ []) id name condition fulfillment amount moment len c0 c1 c2 c3 c4 c5 c6 = absurd (omega arith)
seven (v0 ∷ v1 ∷ []) id name condition fulfillment amount moment len c0 c1 c2 c3 c4 c5 c6 = absurd (omega arith)
seven (v0 ∷ v1 ∷ v2 ∷ []) id name condition fulfillment amount moment len c0 c1 c2 c3 c4 c5 c6 = absurd (omega arith)
seven (v0 ∷ v1 ∷ v2 ∷ v3 ∷ []) id name condition fulfillment amount moment len c0 c1 c2 c3 c4 c5 c6 = absurd (omega arith)
seven (v0 ∷ v1 ∷ v2 ∷ v3 ∷ v4 ∷ []) id name condition fulfillment amount moment len c0 c1 c2 c3 c4 c5 c6 = absurd (omega arith)
seven (v0 ∷ v1 ∷ v2 ∷ v3 ∷ v4 ∷ v5 ∷ []) id name condition fulfillment amount moment len c0 c1 c2 c3 c4 c5 c6 = absurd (omega arith)
seven (v0 ∷ v1 ∷ v2 ∷ v3 ∷ v4 ∷ v5 ∷ v6 ∷ v7 ∷ r) id name condition fulfillment amount moment len c0 c1 c2 c3 c4 c5 c6 = absurd (omega arith)
