-- A table's look-ups, that it is the one map with them, and the look-ups of what is put into a map and taken out of it.
use Rattle.std.proofs.Common.{◌≡◌, ℕ, zero, suc, ◌+◌, ◌<◌, ◌≤◌, Bool, true, false, cond, Option, Some, None, IsSome, refl, ap, ◌∙◌, sym, subst, arith, inl, inr}
use Rattle.std.specs.Ordering.{nat_cmp, eq_by_cmp}
use Rattle.std.specs.Cmp.{nat_cmp_total}
use Rattle.std.specs.FinMap as map
use Rattle.std.proofs.lemmas.Bool.{cases_eq}
use Rattle.std.proofs.lemmas.Bool.Decides.{nat_tests}
use Rattle.std.specs.Prelude.{◌↔◌, List, [], ◌∷◌, length, slice_index, ◌-◌}
use Rattle.st_streams.specs.Table.{is_between, put_if, table, put_bytes, put_same}

same_key : (q k : ℕ) (b o : Option ℕ) → (q ≡ k → o ≡ b) → o ≡ cond (eq_by_cmp nat_cmp q k) b o
same_key q k b o h = grind (arith, nat_tests)

get-put_if : (b : Option ℕ) (k : ℕ) (m : map.FinMap nat_cmp ℕ) (q : ℕ) → map.get m k ≡ None → map.get (put_if b k m) q ≡ cond (eq_by_cmp nat_cmp q k) b (map.get m q)
get-put_if None k m q none = same_key q k None (map.get m q) (λ e. ap (map.get m) e ∙ none)
get-put_if (Some b) k m q none = map.get-insert nat_cmp_total m k b q

none_yet : (b : Option ℕ) (first q : ℕ) → None ≡ cond (is_between first (first + 0) q) b None
none_yet b first q = grind (arith, nat_tests)

beyond : (b : Option ℕ) (first n : ℕ) → cond (is_between first (first + n) (first + n)) b None ≡ None
beyond b first n = grind (arith, nat_tests)

one_more : (f : ℕ → Option ℕ) (first n q : ℕ) → cond (eq_by_cmp nat_cmp q (first + n)) (f (first + n)) (cond (is_between first (first + n) q) (f q) None) ≡ cond (is_between first (first + suc n) q) (f q) None
one_more f first n q =
    elim (cases_eq q (first + n)) [
      | inl e ↦ subst (λ a. cond (eq_by_cmp nat_cmp a (first + n)) (f (first + n)) (cond (is_between first (first + n) a) (f a) None) ≡ cond (is_between first (first + suc n) a) (f a) None) (sym e) (grind (arith, nat_tests))
      | inr n ↦ grind (arith, nat_tests)
    ]

pub get-table : (f : ℕ → Option ℕ) (first n q : ℕ) → map.get (table f first n) q ≡ cond (is_between first (first + n) q) (f q) None
unfolding table
get-table f first zero q = map.get-empty nat_cmp q ∙ none_yet (f q) first q
get-table f first (suc n) q =
    get-put_if (f (first + n)) (first + n) (table f first n) q (get-table f first n (first + n) ∙ beyond (f (first + n)) first n)
    ∙ ap (cond (eq_by_cmp nat_cmp q (first + n)) (f (first + n))) (get-table f first n q) ∙ one_more f first n q

always_none : (b : Bool) (o : Option ℕ) → o ≡ None → cond b o None ≡ None
always_none true o e = e
always_none false o e = refl

-- nothing is in a table of nothing
pub table-empty : (f : ℕ → Option ℕ) (first n : ℕ) → ((q : ℕ) → f q ≡ None) → table f first n ≡ map.empty
table-empty f first n none = map.same_map nat_cmp_total map.nat_cmp-IsAntisymmetric _ _
    (λ q. get-table f first n q ∙ always_none (is_between first (first + n) q) (f q) (none q) ∙ sym (map.get-empty nat_cmp q))

within : (b : Option ℕ) (first n q : ℕ) → first ≤ q → q < first + n → cond (is_between first (first + n) q) b None ≡ b
within b first n q l h = grind (arith, nat_tests)

pub get-table_in : (f : ℕ → Option ℕ) (first n q : ℕ) → first ≤ q → q < first + n → map.get (table f first n) q ≡ f q
get-table_in f first n q l h = get-table f first n q ∙ within (f q) first n q l h

-- q is one of the n numbers from first on, and f has a value there
pub record IsInside (f : ℕ → Option ℕ) (first n q : ℕ) : Type 0 where
  pub from : first ≤ q
  pub before : q < first + n
  pub some : IsSome (f q)

inside_of : (b : Option ℕ) (first n q : ℕ) → IsSome (cond (is_between first (first + n) q) b None) → (first ≤ q) × (q < first + n) × IsSome b
inside_of None first n q h = absurd (grind (arith, nat_tests))
inside_of (Some x) first n q h = (grind (arith, nat_tests), grind (arith, nat_tests), refl)

pub table-inside : (f : ℕ → Option ℕ) (first n q : ℕ) → IsSome (map.get (table f first n) q) → IsInside f first n q
table-inside f first n q h = let w = inside_of (f q) first n q (subst IsSome (get-table f first n q) h) in record { from = w.0; before = w.1; some = w.2 }

-- a map is a table if it has the table's values
pub table_is : (f : ℕ → Option ℕ) (first n : ℕ) (m : map.FinMap nat_cmp ℕ) → ((q : ℕ) → cond (is_between first (first + n) q) (f q) None ≡ map.get m q) → table f first n ≡ m
table_is f first n m h = map.same_map nat_cmp_total map.nat_cmp-IsAntisymmetric (table f first n) m (λ q. get-table f first n q ∙ h q)

pub table_is_its_values : (f : ℕ → Option ℕ) (first n : ℕ) (m : map.FinMap nat_cmp ℕ) → ((q : ℕ) → map.get m q ≡ cond (is_between first (first + n) q) (f q) None) ↔ (m ≡ table f first n)
table_is_its_values f first n m = (λ h. sym (table_is f first n m (λ q. sym (h q))), λ e q. ap (λ t. map.get t q) e ∙ get-table f first n q)

-- what is put into a map, and taken out of it
pub get-put_bytes : (xs : List ℕ) (m : map.FinMap nat_cmp ℕ) (o q : ℕ) → map.get (put_bytes m o xs) q ≡ cond (is_between o (o + length xs) q) (Some (slice_index xs (q - o))) (map.get m q)
unfolding put_bytes
get-put_bytes [] m o q = no_bytes (map.get m q) o q
  where
    no_bytes : (g : Option ℕ) (o q : ℕ) → g ≡ cond (is_between o (o + 0) q) (Some 0) g
    no_bytes g o q = grind (arith, nat_tests)
get-put_bytes (x ∷ xs) m o q =
    get-put_bytes xs (map.insert m o x) (o + 1) q ∙ ap (λ g. cond (is_between (o + 1) (o + 1 + length xs) q) (Some (slice_index xs (q - (o + 1)))) g) (map.get-insert nat_cmp_total m o x q)
    ∙ elim (cases_eq q o) [
      | inl e ↦ at_first (map.get m q) x (slice_index (x ∷ xs) (q - o)) (slice_index xs (q - (o + 1))) o (length xs) q e (ap (slice_index (x ∷ xs)) (let z : q - o ≡ 0 = omega arith in z))
      | inr n ↦ elsewhere (map.get m q) x (slice_index (x ∷ xs) (q - o)) (slice_index xs (q - (o + 1))) o (length xs) q n (λ l. ap (slice_index (x ∷ xs)) (let z : q - o ≡ suc (q - (o + 1)) = omega arith in z))
    ]
  where
    at_first : (g : Option ℕ) (x y z o n q : ℕ) → q ≡ o → y ≡ x → cond (is_between (o + 1) (o + 1 + n) q) (Some z) (cond (eq_by_cmp nat_cmp q o) (Some x) g) ≡ cond (is_between o (o + suc n) q) (Some y) g
    at_first g x y z o n q e f = grind (arith, nat_tests)

    elsewhere : (g : Option ℕ) (x y z o n q : ℕ) → (q ≡ o → ⊥) → (o < q → y ≡ z) → cond (is_between (o + 1) (o + 1 + n) q) (Some z) (cond (eq_by_cmp nat_cmp q o) (Some x) g) ≡ cond (is_between o (o + suc n) q) (Some y) g
    elsewhere g x y z o n q e f = grind (arith, nat_tests)

pub get-put_same : (n : ℕ) (m : map.FinMap nat_cmp ℕ) (o x q : ℕ) → map.get (put_same m o n x) q ≡ cond (is_between o (o + n) q) (Some x) (map.get m q)
unfolding put_same
get-put_same zero m o x q = none (map.get m q) o x q
  where
    none : (g : Option ℕ) (o x q : ℕ) → g ≡ cond (is_between o (o + 0) q) (Some x) g
    none g o x q = grind (arith, nat_tests)
get-put_same (suc n) m o x q =
    map.get-insert nat_cmp_total (put_same m o n x) (o + n) x q ∙ ap (cond (eq_by_cmp nat_cmp q (o + n)) (Some x)) (get-put_same n m o x q)
    ∙ elim (cases_eq q (o + n)) [ inl e ↦ here (map.get m q) o n x q e | inr e ↦ apart (map.get m q) o n x q e ]
  where
    here : (g : Option ℕ) (o n x q : ℕ) → q ≡ o + n → cond (eq_by_cmp nat_cmp q (o + n)) (Some x) (cond (is_between o (o + n) q) (Some x) g) ≡ cond (is_between o (o + suc n) q) (Some x) g
    here g o n x q e = grind (arith, nat_tests)

    apart : (g : Option ℕ) (o n x q : ℕ) → (q ≡ o + n → ⊥) → cond (eq_by_cmp nat_cmp q (o + n)) (Some x) (cond (is_between o (o + n) q) (Some x) g) ≡ cond (is_between o (o + suc n) q) (Some x) g
    apart g o n x q e = grind (arith, nat_tests)

pub get-kept : (m : map.FinMap nat_cmp ℕ) (p : ℕ → Bool) (q : ℕ) → map.get (map.retain_keys m p) q ≡ cond (p q) (map.get m q) None
get-kept m p q = map.get-retain_keys m p q (λ x e. ap p (sym (map.nat_cmp-IsAntisymmetric q x e)))
