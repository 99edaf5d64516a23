-- Amounts by name, and by the place of the name.
use Rattle.std.proofs.Common.{◌≡◌, ◌≢◌, ℕ, zero, suc, ◌+◌, ◌<◌, ◌++◌, Bool, true, false, List, [], ◌∷◌, length, get_or, map, take, slice_get, Some, refl, sym, ap, subst, ◌∙◌, arith}
use Rattle.std.specs.Prelude.{bytes_eq, if◌then◌else◌}
use Rattle.std.specs.Bool.{Decides}
use Rattle.std.specs.List.{AllByRecursion}
use Rattle.std.proofs.lemmas.List.{map_more, map-append}
use Rattle.std.proofs.lemmas.Option.{same_Some, none-some}
use Rattle.std.proofs.lemmas.Slice.Eq.{bytes_eq-Decides}
use Rattle.st_hop_books.specs.declared.balance.Amounts.{Amounts}
use Rattle.st_hop_books.specs.Sums.{nothing}
use Rattle.st_hop_books.specs.Table.{AreDistinct}
use Rattle.ilpstream_ledger.specs.Names.{Names, amounts_of}

-- a test that decides a false fact is false
false_from_Decides : {P : Type 0} (r : Bool) → Decides r P → ¬ P → r ≡ false
false_from_Decides true d refutes = absurd (refutes (d.0 refl))
false_from_Decides false d refutes = refl

pub unlike : (a b : List ℕ) → a ≢ b → bytes_eq a b ≡ false
unlike a b apart = false_from_Decides (bytes_eq a b) (bytes_eq-Decides a b) apart

-- what holds of all holds of the one at this place
pub all_at : {X : Type 0} (P : X → Type 0) (xs : List X) (i : ℕ) (x : X) → AllByRecursion P xs → slice_get xs i ≡ Some x → P x
all_at P [] i x all here = absurd (none-some x here)
all_at P (y ∷ xs) zero x all here = subst P (same_Some y x here) all.0
all_at P (y ∷ xs) (suc i) x all here = all_at P xs i x all.1 here

-- names that are there once: the amounts of a name are those at its place
pub found : (names : Names) (all : List Amounts) (at : ℕ) (name : List ℕ) (d : Amounts) → AreDistinct names → length names ≡ length all → slice_get names at ≡ Some name
    → amounts_of names all name ≡ get_or all at d
unfolding amounts_of
found [] all at name d apart same here = absurd (none-some name here)
found (n ∷ names) [] at name d apart same here = absurd (omega (arith, same))
found (n ∷ names) (a ∷ all) zero name d apart same here = ap (λ (b : Bool). if b then a else amounts_of names all name) ((bytes_eq-Decides n name).1 (same_Some n name here))
found (n ∷ names) (a ∷ all) (suc at) name d apart same here =
    ap (λ (b : Bool). if b then a else amounts_of names all name) (unlike n name (λ e. all_at (λ other. other ≢ n) names at name apart.0 here (sym e)))
    ∙ found names all at name d apart.1 (omega (arith, same)) here

pub missing : (names : Names) (all : List Amounts) (name : List ℕ) → AllByRecursion (λ other. other ≢ name) names → amounts_of names all name ≡ nothing
unfolding amounts_of
missing [] all name none = refl
missing (n ∷ names) [] name none = refl
missing (n ∷ names) (a ∷ all) name none = ap (λ (b : Bool). if b then a else amounts_of names all name) (unlike n name none.0) ∙ missing names all name none.1

-- what is made of the first texts of a table, and of one more
pub one_more : {X Y Z : Type 0} (f : Y → Z) (h : X → Y) (xs : List X) (i : ℕ) (d : X) → i < length xs
    → map f (map h (take (i + 1) xs)) ≡ map f (map h (take i xs)) ++ f (h (get_or xs i d)) ∷ []
one_more f h xs i d lt = ap (map f) (map_more h xs i d lt) ∙ map-append f (map h (take i xs)) (h (get_or xs i d) ∷ [])
