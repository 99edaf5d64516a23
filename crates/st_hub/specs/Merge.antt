-- What was removed from the eight rings of one stream, as one list.
use Rattle.std.specs.Prelude.{◌≡◌, ℕ, ◌<◌, List, [], ◌∷◌, ◌++◌, nat_eq, if◌then◌else◌}
use Rattle.std.specs.List.{AllByRecursion}
use Rattle.st_queues.specs.declared.items.Item.{Item}

-- an item, with the number of its writer among the stream's eight
abbrev pub Took : Type 0 → Type 0
Took A = ℕ × Item A

module _ {A : Type 0} where
  abbrev pub number : Took A → ℕ
  number p = p.0

  abbrev pub item : Took A → Item A
  item p = p.1

  -- the items of one writer, in order
  abbrev pub of_writer : ℕ → List (Took A) → List (Item A)
  of_writer j [] = []
  of_writer j (p ∷ ps) = if nat_eq p.0 j then p.1 ∷ of_writer j ps else of_writer j ps

  abbrev pub IsWriter : Took A → Type 0
  IsWriter p = p.0 < 8

  -- the first of a ring's items, as a list
  abbrev pub first : List (Item A) → List (Item A)
  first [] = []
  first (x ∷ xs) = x ∷ []

  abbrev pub rest : List (Item A) → List (Item A)
  rest [] = []
  rest (x ∷ xs) = xs

  abbrev pub without_first : (ℕ → List (Item A)) → ℕ → ℕ → List (Item A)
  without_first rings j i = if nat_eq j i then rest (rings i) else rings i

  -- the merge by a list of writers' numbers: each takes the first item that its ring still has
  abbrev pub merge : List ℕ → (ℕ → List (Item A)) → List (Item A)
  merge [] rings = []
  merge (j ∷ js) rings = first (rings j) ++ merge js (without_first rings j)

-- the merge has all items of each ring, in their order, and no others
pub record MergeOf {A : Type 0} (log : List (Took A)) (rings : ℕ → List (Item A)) : Type 0 where
  pub numbers : AllByRecursion IsWriter log
  pub each : (j : ℕ) → j < 8 → of_writer j log ≡ rings j
