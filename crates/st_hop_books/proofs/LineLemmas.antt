-- Lines of the table, and one of them written.
use Rattle.std.proofs.Common.{◌≡◌, ℕ, zero, suc, ◌+◌, ◌<◌, ◌++◌, pos, List, [], ◌∷◌, length, set, get_or, refl, sym, ap, ap₂, subst, ◌∙◌, arith}
use Rattle.std.specs.declared.cmp.Ordering.TheVariants.{Less, Equal}
use Rattle.std.proofs.lemmas.Bool.Decides.{nat_tests}
use Rattle.sqlite_value.specs.declared.value.Value.TheVariants.{Null, Int, Text}
use Rattle.sqlite_value.specs.Order.{Row, column, value_cmp}
use Rattle.sqlite_value.proofs.OrderLemmas.{value_cmp-Int}
use Rattle.sqlite_value.specs.declared.keys.Order.{Order}
use Rattle.sqlite_trees.specs.Tree.{put_row, from_key}
use Rattle.st_hop_books.specs.declared.balance.Amounts.{Amounts}
use Rattle.st_hop_books.specs.Table.{line, lines_from, lines}

-- ---- ids in order

pub same_id : (n : ℕ) → value_cmp (Int (pos n)) (Int (pos n)) ≡ Equal
same_id n = value_cmp-Int (pos n) (pos n) ∙ grind (arith, nat_tests)

pub lower_id : (m n : ℕ) → m < n → value_cmp (Int (pos m)) (Int (pos n)) ≡ Less
lower_id m n h = value_cmp-Int (pos m) (pos n) ∙ grind (arith, nat_tests)

-- ---- writing a line

pub put_line : (id : ℕ) (names : List (List ℕ)) (all : List Amounts) (at : ℕ) (name : List ℕ) (a : Amounts) → at < length all → length names ≡ length all → name ≡ get_or names at name
    → put_row (line (id + at) name a) (lines_from id names all) ≡ lines_from id names (set all at a)
put_line id [] [] at name a low same is = absurd (omega arith)
put_line id [] (x ∷ all) at name a low same is = absurd (omega arith)
put_line id (n ∷ names) [] at name a low same is = absurd (omega arith)
put_line id (n ∷ names) (x ∷ all) zero name a low same is =
    let here : id + 0 ≡ id = omega arith in
    rw (here, same_id id) (ap (λ k. line id k a ∷ lines_from (suc id) names all) is)
put_line id (n ∷ names) (x ∷ all) (suc at) name a low same is =
    let below : id < id + suc at = omega arith in
    let moved : id + suc at ≡ suc id + at = omega arith in
    let there : put_row (line (id + suc at) name a) (lines_from (suc id) names all) ≡ lines_from (suc id) names (set all at a) =
    subst (λ k. put_row (line k name a) (lines_from (suc id) names all) ≡ lines_from (suc id) names (set all at a)) (sym moved) (put_line (suc id) names all at name a (omega arith) (omega arith) is) in
    rw (lower_id id (id + suc at) below) (ap (λ rows. line id n x ∷ rows) there)

-- the same in the whole table
pub put_at : (names : List (List ℕ)) (all : List Amounts) (at : ℕ) (name : List ℕ) (a : Amounts) → at < length all → length names ≡ length all → name ≡ get_or names at name
    → put_row (line (at + 1) name a) (lines names all) ≡ lines names (set all at a)
put_at names all at name a low same is =
    let moved : at + 1 ≡ 1 + at = omega arith in
    subst (λ k. put_row (line k name a) (lines names all) ≡ lines names (set all at a)) (sym moved) (put_line 1 names all at name a low same is)

-- a line at the end
pub lines_push : (id : ℕ) (names : List (List ℕ)) (all : List Amounts) (name : List ℕ) (a : Amounts) → length names ≡ length all
    → lines_from id (names ++ name ∷ []) (all ++ a ∷ []) ≡ lines_from id names all ++ line (id + length names) name a ∷ []
lines_push id [] [] name a same = let here : id + 0 ≡ id = omega arith in rw here refl
lines_push id [] (x ∷ all) name a same = absurd (omega arith)
lines_push id (n ∷ names) [] name a same = absurd (omega arith)
lines_push id (n ∷ names) (x ∷ all) name a same =
    let moved : id + suc (length names) ≡ suc id + length names = omega arith in
    rw moved (ap (λ rows. line id n x ∷ rows) (lines_push (suc id) names all name a (omega arith)))

-- and written at the end
pub put_last : (id : ℕ) (names : List (List ℕ)) (all : List Amounts) (name : List ℕ) (a : Amounts) → length names ≡ length all
    → put_row (line (id + length names) name a) (lines_from id names all) ≡ lines_from id (names ++ name ∷ []) (all ++ a ∷ [])
put_last id [] [] name a same = let here : id + 0 ≡ id = omega arith in rw here refl
put_last id [] (x ∷ all) name a same = absurd (omega arith)
put_last id (n ∷ names) [] name a same = absurd (omega arith)
put_last id (n ∷ names) (x ∷ all) name a same =
    let below : id < id + suc (length names) = omega arith in
    let moved : id + suc (length names) ≡ suc id + length names = omega arith in
    let there : put_row (line (id + suc (length names)) name a) (lines_from (suc id) names all) ≡ lines_from (suc id) (names ++ name ∷ []) (all ++ a ∷ []) =
    subst (λ k. put_row (line k name a) (lines_from (suc id) names all) ≡ lines_from (suc id) (names ++ name ∷ []) (all ++ a ∷ [])) (sym moved) (put_last (suc id) names all name a (omega arith)) in
    rw (lower_id id (id + suc (length names)) below) (ap (λ rows. line id n x ∷ rows) there)

pub put_end : (names : List (List ℕ)) (all : List Amounts) (name : List ℕ) (a : Amounts) → length names ≡ length all
    → put_row (line (length names + 1) name a) (lines names all) ≡ lines (names ++ name ∷ []) (all ++ a ∷ [])
put_end names all name a same =
    let moved : length names + 1 ≡ 1 + length names = omega arith in
    subst (λ k. put_row (line k name a) (lines names all) ≡ lines (names ++ name ∷ []) (all ++ a ∷ [])) (sym moved) (put_last 1 names all name a same)

pub push_end : (names : List (List ℕ)) (all : List Amounts) (name : List ℕ) (a : Amounts) → length names ≡ length all
    → lines (names ++ name ∷ []) (all ++ a ∷ []) ≡ lines names all ++ line (length names + 1) name a ∷ []
push_end names all name a same =
    let moved : length names + 1 ≡ 1 + length names = omega arith in
    subst (λ k. lines (names ++ name ∷ []) (all ++ a ∷ []) ≡ lines names all ++ line k name a ∷ []) (sym moved) (lines_push 1 names all name a same)

-- ---- reading lines

pub from_no_key : (o : Order) (es : List Row) → from_key o [] es ≡ es
from_no_key o [] = refl
from_no_key o (e ∷ es) = refl

pub snoc_append : {X : Type 0} (xs : List X) (x : X) (ys : List X) → (xs ++ x ∷ []) ++ ys ≡ xs ++ x ∷ ys
snoc_append [] x ys = refl
snoc_append (z ∷ xs) x ys = ap (λ l. z ∷ l) (snoc_append xs x ys)

-- one line more was read
pub read_more : (rows : List Row) (names : List (List ℕ)) (all : List Amounts) (row : Row) (left : List Row) (name : List ℕ) (a : Amounts) → length names ≡ length all
    → rows ≡ lines names all ++ row ∷ left → row ≡ line (length names + 1) name a → rows ≡ lines (names ++ name ∷ []) (all ++ a ∷ []) ++ left
read_more rows names all row left name a same is at =
    is ∙ (ap (λ r. lines names all ++ r ∷ left) at ∙ (sym (snoc_append (lines names all) (line (length names + 1) name a) left) ∙ ap (λ l. l ++ left) (sym (push_end names all name a same))))

-- a row of five columns
pub five : (r : Row) (id name : _) (a : Amounts) → length r ≡ 5 → column r 0 ≡ Int (pos id) → column r 1 ≡ Null → column r 2 ≡ Text name → column r 3 ≡ Int (pos a.claims) → column r 4 ≡ Int (pos a.dues)
    → r ≡ line id name a
five (v0 ∷ v1 ∷ v2 ∷ v3 ∷ v4 ∷ []) id name a len c0 c1 c2 c3 c4 = rw (c0, c1, c2, c3, c4) refl
five [] id name a len c0 c1 c2 c3 c4 = absurd (omega arith)
five (v0 ∷ []) id name a len c0 c1 c2 c3 c4 = absurd (omega arith)
five (v0 ∷ v1 ∷ []) id name a len c0 c1 c2 c3 c4 = absurd (omega arith)
five (v0 ∷ v1 ∷ v2 ∷ []) id name a len c0 c1 c2 c3 c4 = absurd (omega arith)
five (v0 ∷ v1 ∷ v2 ∷ v3 ∷ []) id name a len c0 c1 c2 c3 c4 = absurd (omega arith)
five (v0 ∷ v1 ∷ v2 ∷ v3 ∷ v4 ∷ v5 ∷ r) id name a len c0 c1 c2 c3 c4 = absurd (omega arith)

-- lines determine their names and amounts
pub lines_apart : (id : ℕ) (names others : List (List ℕ)) (all more : List Amounts) → length names ≡ length all → length others ≡ length more
    → lines_from id names all ≡ lines_from id others more → (names ≡ others) × (all ≡ more)
lines_apart id [] [] [] [] a b e = (refl, refl)
lines_apart id [] others (x ∷ all) more a b e = absurd (omega arith)
lines_apart id (n ∷ names) others [] more a b e = absurd (omega arith)
lines_apart id names [] all (y ∷ more) a b e = absurd (omega arith)
lines_apart id names (m ∷ others) all [] a b e = absurd (omega arith)
lines_apart id [] (m ∷ others) [] (y ∷ more) a b e = absurd (let k = e in cc)
lines_apart id (n ∷ names) [] (x ∷ all) [] a b e = absurd (let k = e in cc)
lines_apart id (n ∷ names) (m ∷ others) (x ∷ all) (y ∷ more) a b e =
    let rest : lines_from (suc id) names all ≡ lines_from (suc id) others more = cc in
    let same = lines_apart (suc id) names others all more (omega arith) (omega arith) rest in
    let name : n ≡ m = cc in
    let claims : x.claims ≡ y.claims = cc in
    let dues : x.dues ≡ y.dues = cc in
    (ap₂ (λ p q. p ∷ q) name same.0, ap₂ (λ p q. p ∷ q) (λ i. record { claims = claims i; dues = dues i }) same.1)
