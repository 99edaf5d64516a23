-- The fulfillments that prove claims, and the rows that sqlite3 shows of them.
use Rattle.std.specs.Prelude.{◌≡◌, ℕ, ℤ, pos, ◌+◌, List, [], ◌∷◌, ◌++◌, fold, codes, Option, Some, None}
use Rattle.std.specs.List.{AllByRecursion}
use Rattle.sqlite_value.specs.declared.value.Value.TheVariants.{Null, Int, Text, Blob}
use Rattle.sqlite_value.specs.Order.{Row, column}
use Rattle.st_links.specs.declared.booking.Booking.{Booking}
use Rattle.st_links.specs.declared.booking.Proof.{Proof}
use Rattle.st_hop_books.specs.Payments.{count_of, name_at}

-- their table comes after the view
abbrev pub proof_tree : ℕ
proof_tree = 3

abbrev pub proof_text : List ℕ
proof_text = codes "CREATE TABLE fulfillment (id INTEGER PRIMARY KEY, name TEXT NOT NULL, condition BLOB NOT NULL, fulfillment BLOB NOT NULL, amount INTEGER NOT NULL, moment INTEGER NOT NULL) STRICT"

-- a row: the id, NULL in the column of the key, the name of the account that owes the claim, the condition, the fulfillment, the claim
-- and the moment
abbrev pub proof_line : (id : ℕ) (name condition fulfillment : List ℕ) (amount : ℕ) (moment : ℤ) → Row
proof_line id name condition fulfillment amount moment =
    Int (pos id) ∷ Null ∷ Text name ∷ Blob condition ∷ Blob fulfillment ∷ Int (pos amount) ∷ Int moment ∷ []

-- that of this proof
abbrev pub line_of_proof : (id : ℕ) (name : List ℕ) (amount : ℕ) → Proof → Row
line_of_proof id name amount p = proof_line id name p.condition p.fulfillment amount p.moment

pub record IsProofLine (row : Row) : Type 0 where
  pub id : ℕ
  pub name : List ℕ
  pub condition : List ℕ
  pub fulfillment : List ℕ
  pub amount : ℕ
  pub moment : ℤ
  pub is : row ≡ proof_line id name condition fulfillment amount moment

abbrev pub AreProofs : List Row → Type 0
AreProofs = AllByRecursion IsProofLine

-- the id of the last one, and 0 if there is none
abbrev pub last_id : List Row → ℕ
last_id [] = 0
last_id (row ∷ []) = count_of (column row 0)
last_id (row ∷ next ∷ rows) = last_id (next ∷ rows)

-- this row is added after proofs whose last id is this
abbrev pub AddsProof : (old new : List Row) → (last : ℕ) → Row → Type 0
AddsProof old new last row = AreProofs old → last_id old ≡ last → new ≡ old ++ row ∷ []

-- what is kept of the proof of a booking's claim
abbrev pub proof_row : (id : ℕ) → List (List ℕ) → Booking → Proof → Row
proof_row id names b p = proof_line id (name_at names b.payer) p.condition p.fulfillment b.claim p.moment

-- the proof of a booking after those that are there, if it has one
abbrev pub with_proof_of : List (List ℕ) → List Row → Booking → Option Proof → List Row
with_proof_of names rows b None = rows
with_proof_of names rows b (Some p) = rows ++ proof_row (last_id rows + 1) names b p ∷ []

abbrev pub with_proof : List (List ℕ) → List Row → Booking → List Row
with_proof names rows b = with_proof_of names rows b b.proof

abbrev pub with_proofs : List (List ℕ) → List Row → List Booking → List Row
with_proofs names = fold (with_proof names)

-- the id of the last one then
abbrev pub id_after : ℕ → Option Proof → ℕ
id_after last None = last
id_after last (Some p) = last + 1

abbrev pub last_after : ℕ → Booking → ℕ
last_after last b = id_after last b.proof
