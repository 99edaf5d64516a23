-- StreamLogs in a list, each at the place of its number, as a map.
use Rattle.std.proofs.Common.{◌≡◌, ◌≢◌, ℕ, zero, suc, ◌+◌, ◌<◌, List, [], ◌∷◌, length, set, get_or, refl, sym, ap, subst, ◌∙◌, arith, Option, None, Some, replicate}
use Rattle.std.specs.Ordering.{nat_cmp}
use Rattle.std.specs.Cmp.{nat_cmp_total}
use Rattle.std.specs.FinMap as fmap
use Rattle.std.proofs.lemmas.Grind.{common_steps}
use Rattle.st_world_parts.specs.StreamLogs.{StreamLog}
use Rattle.st_world_parts.specs.Kept.{put_if, all_from}

abbrev Map : Type 0
Map = fmap.FinMap nat_cmp StreamLog

here : (m : Map) (k : ℕ) (x : StreamLog) → fmap.get (fmap.insert m k x) k ≡ Some x
here m k x = grind (arith, common_steps, fmap.gets)

apart : (m : Map) (k : ℕ) (x : StreamLog) (q : ℕ) → q ≢ k → fmap.get (fmap.insert m k x) q ≡ fmap.get m q
apart m k x q n = grind (arith, common_steps, fmap.gets)

again : (m : Map) (k : ℕ) (x y : StreamLog) → fmap.insert m k x ≡ fmap.insert (fmap.insert m k y) k x
again m k x y = fmap.same_map nat_cmp_total fmap.nat_cmp-IsAntisymmetric _ _ (λ q. grind (arith, common_steps, fmap.gets))

swapped : (m : Map) (n k : ℕ) (x y : StreamLog) → n ≢ k → fmap.insert (fmap.insert m k x) n y ≡ fmap.insert (fmap.insert m n y) k x
swapped m n k x y d = fmap.same_map nat_cmp_total fmap.nat_cmp-IsAntisymmetric _ _ (λ q. grind (arith, common_steps, fmap.gets))

if_apart : (o : Option StreamLog) (m : Map) (k q : ℕ) → q ≢ k → fmap.get (put_if o k m) q ≡ fmap.get m q
if_apart None m k q n = refl
if_apart (Some x) m k q n = apart m k x q n

if_swapped : (o : Option StreamLog) (m : Map) (n k : ℕ) (x : StreamLog) → n ≢ k → put_if o n (fmap.insert m k x) ≡ fmap.insert (put_if o n m) k x
if_swapped None m n k x d = refl
if_swapped (Some y) m n k x d = swapped m n k x y d

if_again : (o : Option StreamLog) (m : Map) (k : ℕ) (x : StreamLog) → fmap.insert m k x ≡ fmap.insert (put_if o k m) k x
if_again None m k x = refl
if_again (Some y) m k x = again m k x y

below : (os : List (Option StreamLog)) (n q : ℕ) → q < n → fmap.get (all_from n os) q ≡ None
unfolding all_from
below [] n q l = fmap.get-empty nat_cmp q
below (o ∷ os) n q l = if_apart o (all_from (n + 1) os) n q (omega (arith, l)) ∙ below os (n + 1) q (omega (arith, l))

if_here : (o : Option StreamLog) (m : Map) (k : ℕ) → fmap.get m k ≡ None → fmap.get (put_if o k m) k ≡ o
if_here None m k e = e
if_here (Some x) m k e = here m k x

from_at : (os : List (Option StreamLog)) (n k q : ℕ) → q ≡ n + k → fmap.get (all_from n os) q ≡ get_or os k None
unfolding all_from
from_at [] n k q e = fmap.get-empty nat_cmp q
from_at (o ∷ os) n zero q e =
    let is : q ≡ n = omega (arith, e) in
    subst (λ (p : ℕ). fmap.get (put_if o n (all_from (n + 1) os)) p ≡ o) (sym is) (if_here o (all_from (n + 1) os) n (below os (n + 1) n (omega arith)))
from_at (o ∷ os) n (suc k) q e = if_apart o (all_from (n + 1) os) n q (omega (arith, e)) ∙ from_at os (n + 1) k q (omega (arith, e))

-- the ledger of a number
pub log_at : (os : List (Option StreamLog)) (k : ℕ) → fmap.get (all_from 0 os) k ≡ get_or os k None
log_at os k = from_at os 0 k k (omega arith)

set_at : (os : List (Option StreamLog)) (n k q : ℕ) (x : StreamLog) → q ≡ n + k → k < length os → all_from n (set os k (Some x)) ≡ fmap.insert (all_from n os) q x
unfolding all_from
set_at [] n k q x e l = absurd (omega (arith, l))
set_at (o ∷ os) n zero q x e l =
    let is : q ≡ n = omega (arith, e) in
    subst (λ (p : ℕ). fmap.insert (all_from (n + 1) os) n x ≡ fmap.insert (put_if o n (all_from (n + 1) os)) p x) (sym is) (if_again o (all_from (n + 1) os) n x)
set_at (o ∷ os) n (suc k) q x e l =
    ap (put_if o n) (set_at os (n + 1) k q x (omega (arith, e)) (omega (arith, l))) ∙ if_swapped o (all_from (n + 1) os) n q x (omega (arith, e))

-- a ledger more
pub with_ledger : (os : List (Option StreamLog)) (k : ℕ) (x : StreamLog) → k < length os → all_from 0 (set os k (Some x)) ≡ fmap.insert (all_from 0 os) k x
with_ledger os k x l = set_at os 0 k k x (omega arith) l

none_from : (n k : ℕ) → all_from k (replicate n None) ≡ fmap.empty
unfolding all_from
none_from zero k = refl
none_from (suc n) k = none_from n (k + 1)

-- no ledger
pub no_ledger : (os : List (Option StreamLog)) (n : ℕ) → os ≡ replicate n None → all_from 0 os ≡ fmap.empty
no_ledger os n e = ap (all_from 0) e ∙ none_from n 0

-- a place that is set to what it has
pub set_same : {X : Type 0} (xs : List X) (k : ℕ) (d x : X) → x ≡ get_or xs k d → set xs k x ≡ xs
set_same [] k d x e = refl
set_same (y ∷ ys) zero d x e = ap (λ z. z ∷ ys) e
set_same (y ∷ ys) (suc k) d x e = ap (λ zs. y ∷ zs) (set_same ys k d x e)
