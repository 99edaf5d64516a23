-- Names that are there once.
use Rattle.std.proofs.Common.{◌≢◌, ℕ, ◌++◌, List, [], ◌∷◌, sym}
use Rattle.std.specs.List.{AllByRecursion}
use Rattle.st_hop_books.specs.Table.{AreDistinct}

pub all_push : {X : Type 0} (P : X → Type 0) (xs : List X) (x : X) → AllByRecursion P xs → P x → AllByRecursion P (xs ++ x ∷ [])
all_push P [] x all last = (last, tt)
all_push P (y ∷ xs) x all last = (all.0, all_push P xs x all.1 last)

-- a name other than all of these, added at the end
pub distinct_push : (names : List (List ℕ)) (name : List ℕ) → AreDistinct names → AllByRecursion (λ other. other ≢ name) names → AreDistinct (names ++ name ∷ [])
distinct_push [] name apart new = (tt, tt)
distinct_push (n ∷ names) name apart new = (all_push (λ other. other ≢ n) names name apart.0 (λ e. new.0 (sym e)), distinct_push names name apart.1 new.1)
