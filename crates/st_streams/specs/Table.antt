-- Finite maps given by a function, and what is put into a map at a row of numbers.
use Rattle.std.specs.Prelude.{ℕ, zero, suc, ◌+◌, ◌&&◌, Bool, nat_le, nat_lt, List, [], ◌∷◌, Option, Some, None}
use Rattle.std.specs.Ordering.{nat_cmp}
use Rattle.std.specs.FinMap.{FinMap, empty, insert}

-- whether q lies from low on and below high
abbrev pub is_between : ℕ → ℕ → ℕ → Bool
is_between low high q = nat_le low q && nat_lt q high

-- the map with a value put in, if there is one
abbrev pub put_if : Option ℕ → ℕ → FinMap nat_cmp ℕ → FinMap nat_cmp ℕ
put_if None q m = m
put_if (Some b) q m = insert m q b

-- the values of f at the n numbers from first on, if it has one there
unfoldable pub table : (ℕ → Option ℕ) → ℕ → ℕ → FinMap nat_cmp ℕ
table f first zero = empty
table f first (suc n) = put_if (f (first + n)) (first + n) (table f first n)

-- bytes put into a map from a number on
unfoldable pub put_bytes : FinMap nat_cmp ℕ → ℕ → List ℕ → FinMap nat_cmp ℕ
put_bytes m offset [] = m
put_bytes m offset (x ∷ xs) = put_bytes (insert m offset x) (offset + 1) xs

-- one value put into a map at n numbers
unfoldable pub put_same : FinMap nat_cmp ℕ → ℕ → ℕ → ℕ → FinMap nat_cmp ℕ
put_same m offset zero x = m
put_same m offset (suc n) x = insert (put_same m offset n x) (offset + n) x
