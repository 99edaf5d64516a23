-- Lanes in the lists of the links.
use Rattle.std.proofs.Common.{◌≡◌, ◌≢◌, ℕ, zero, suc, ◌+◌, ◌<◌, Bool, true, false, List, [], ◌∷◌, ◌++◌, length, set, get_or, refl, sym, ap, ◌∙◌, arith, None, Some}
use Rattle.st_world_parts.specs.Sides.{Side, Client, Server, Both, at, put}
use Rattle.st_world_parts.specs.State.{World, Direction, SentPrepare, empty_link, nth}
use Rattle.st_world_parts.specs.Ends.{taken_if}
use Rattle.st_world_parts.specs.Parts.{lane_in, with_lane_in, with_taken_in}
use Rattle.st_world.specs.Places.{Links}

pub put_same : {A : Type 0} (b : Both A) (a : Side) → put b a (at b a) ≡ b
put_same b Client = refl
put_same b Server = refl

pub at_put : {A : Type 0} (b : Both A) (a : Side) (x : A) → at (put b a x) a ≡ x
at_put b Client x = refl
at_put b Server x = refl

pub set_same : {A : Type 0} (xs : List A) (i : ℕ) (d : A) → set xs i (get_or xs i d) ≡ xs
set_same [] i d = refl
set_same (x ∷ xs) zero d = refl
set_same (x ∷ xs) (suc i) d = ap (λ l. x ∷ l) (set_same xs i d)

pub set_here : {A : Type 0} (xs : List A) (i : ℕ) (x : A) → x ≡ get_or xs i x → set xs i x ≡ xs
set_here xs i x e = ap (set xs i) e ∙ set_same xs i x

set_there : {A : Type 0} (xs : List A) (i j : ℕ) (x d : A) → i ≢ j → get_or (set xs i x) j d ≡ get_or xs j d
set_there [] i j x d n = refl
set_there (y ∷ ys) zero zero x d n = absurd (n refl)
set_there (y ∷ ys) zero (suc j) x d n = refl
set_there (y ∷ ys) (suc i) zero x d n = refl
set_there (y ∷ ys) (suc i) (suc j) x d n = set_there ys i j x d (λ e. n (ap suc e))

pub any_or : {A : Type 0} (xs : List A) (i : ℕ) (d x : A) → i < length xs → get_or xs i d ≡ get_or xs i x
any_or [] i d x l = absurd (omega (arith, l))
any_or (y ∷ ys) zero d x l = refl
any_or (y ∷ ys) (suc i) d x l = any_or ys i d x (omega (arith, l))

-- a link that is in the list
pub is_link : (ls : Links) (i : ℕ) (x : Both Direction) → i < length ls → x ≡ get_or ls i x → get_or ls i empty_link ≡ x
is_link ls i x l e = any_or ls i empty_link x l ∙ sym e

-- a lane that is put back
pub lane_same : (ls : Links) (i : ℕ) (a : Side) → with_lane_in ls i a (lane_in ls i a) ≡ ls
lane_same ls i a = ap (set ls i) (put_same (get_or ls i empty_link) a) ∙ set_same ls i empty_link

pub lane_apart : (ls : Links) (i j : ℕ) (a b : Side) (x : Direction) → i ≢ j → lane_in (with_lane_in ls i a x) j b ≡ lane_in ls j b
lane_apart ls i j a b x n = ap (λ (k : Both Direction). at k b) (set_there ls i j (put (get_or ls i empty_link) a x) empty_link n)

-- another lane that is put back
pub other_same : (ls : Links) (i j : ℕ) (a : Side) (x : Direction) → i ≢ j → with_lane_in (with_lane_in ls i a x) j a (lane_in ls j a) ≡ with_lane_in ls i a x
other_same ls i j a x n = ap (with_lane_in (with_lane_in ls i a x) j a) (sym (lane_apart ls i j a a x n)) ∙ lane_same (with_lane_in ls i a x) j a

-- one place of a list is changed
pub over_lane : (ls : Links) (i : ℕ) (l : Both Direction) (a : Side) (y : Direction) (k : Both Direction) → i < length ls → l ≡ get_or ls i l → k ≡ put l a y → set ls i k ≡ with_lane_in ls i a y
over_lane ls i l a y k h is e = ap (set ls i) (e ∙ ap (λ (z : Both Direction). put z a y) (sym (is_link ls i l h is)))

-- two neighbours are changed, by parts of the list
join_set : {A : Type 0} (xs ys : List A) (i : ℕ) (x : A) → i < length xs → set (xs ++ ys) i x ≡ set xs i x ++ ys
join_set [] ys i x l = absurd (omega (arith, l))
join_set (z ∷ zs) ys zero x l = refl
join_set (z ∷ zs) ys (suc i) x l = ap (λ r. z ∷ r) (join_set zs ys i x (omega (arith, l)))

join_after : {A : Type 0} (xs ys : List A) (i : ℕ) (y : A) → i ≡ length xs → set (xs ++ ys) i y ≡ xs ++ set ys 0 y
join_after [] ys zero y e = refl
join_after [] ys (suc i) y e = absurd (omega (arith, e))
join_after (z ∷ zs) ys zero y e = absurd (omega (arith, e))
join_after (z ∷ zs) ys (suc i) y e = ap (λ r. z ∷ r) (join_after zs ys i y (omega (arith, e)))

set_length : {A : Type 0} (xs : List A) (i : ℕ) (x : A) → length (set xs i x) ≡ length xs
set_length [] i x = refl
set_length (y ∷ ys) zero x = refl
set_length (y ∷ ys) (suc i) x = ap suc (set_length ys i x)

pub two_set : {A : Type 0} (ls xs ys : List A) (i : ℕ) (x y : A) → ls ≡ xs ++ ys → length xs ≡ i + 1 → set xs i x ++ set ys 0 y ≡ set (set ls i x) (i + 1) y
two_set ls xs ys i x y e l =
    sym (ap (λ (zs : List _). set (set zs i x) (i + 1) y) e ∙ ap (λ (zs : List _). set zs (i + 1) y) (join_set xs ys i x (omega (arith, l)))
    ∙ join_after (set xs i x) ys (i + 1) y (sym l ∙ sym (set_length xs i x)))

get_front : {A : Type 0} (xs ys : List A) (i : ℕ) (d : A) → i < length xs → get_or (xs ++ ys) i d ≡ get_or xs i d
get_front [] ys i d l = absurd (omega (arith, l))
get_front (z ∷ zs) ys zero d l = refl
get_front (z ∷ zs) ys (suc i) d l = get_front zs ys i d (omega (arith, l))

get_after : {A : Type 0} (xs ys : List A) (i : ℕ) (d : A) → i ≡ length xs → get_or (xs ++ ys) i d ≡ get_or ys 0 d
get_after [] ys zero d e = refl
get_after [] ys (suc i) d e = absurd (omega (arith, e))
get_after (z ∷ zs) ys zero d e = absurd (omega (arith, e))
get_after (z ∷ zs) ys (suc i) d e = get_after zs ys i d (omega (arith, e))

-- the two links of a split, and the list that their changes leave
pub record AreTwo (ls : Links) (i : ℕ) (x y : Both Direction) : Type 0 where
  pub first : get_or ls i empty_link ≡ x
  pub second : get_or ls (i + 1) empty_link ≡ y

pub are_two : (ls xs ys : Links) (i : ℕ) (x y : Both Direction) → ls ≡ xs ++ ys → length xs ≡ i + 1 → 0 < length ys → x ≡ get_or xs i x → y ≡ get_or ys 0 y → AreTwo ls i x y
are_two ls xs ys i x y e l more fx fy = record {
  first = ap (λ (zs : Links). get_or zs i empty_link) e ∙ get_front xs ys i empty_link (omega (arith, l)) ∙ any_or xs i empty_link x (omega (arith, l)) ∙ sym fx;
  second = ap (λ (zs : Links). get_or zs (i + 1) empty_link) e ∙ get_after xs ys (i + 1) empty_link (sym l) ∙ any_or ys 0 empty_link y more ∙ sym fy;
}

-- first the lane of the lower link, then that of the one after it
pub rising : (ls : Links) (i : ℕ) (x y : Both Direction) (a : Side) (u v : Direction) → AreTwo ls i x y → set (set ls i (put x a u)) (i + 1) (put y a v) ≡ with_lane_in (with_lane_in ls i a u) (i + 1) a v
rising ls i x y a u v two =
    ap (λ (k : Both Direction). set (set ls i (put k a u)) (i + 1) (put y a v)) (sym two.first)
    ∙ ap (λ (k : Both Direction). set (with_lane_in ls i a u) (i + 1) (put k a v)) (sym (set_there ls i (i + 1) (put (get_or ls i empty_link) a u) empty_link (λ e. omega (arith, e)) ∙ two.second))

swap_set : {A : Type 0} (xs : List A) (i j : ℕ) (x y : A) → i ≢ j → set (set xs i x) j y ≡ set (set xs j y) i x
swap_set [] i j x y n = refl
swap_set (z ∷ zs) zero zero x y n = absurd (n refl)
swap_set (z ∷ zs) zero (suc j) x y n = refl
swap_set (z ∷ zs) (suc i) zero x y n = refl
swap_set (z ∷ zs) (suc i) (suc j) x y n = ap (λ r. z ∷ r) (swap_set zs i j x y (λ e. n (ap suc e)))

-- the other order
pub falling : (ls : Links) (i : ℕ) (x y : Both Direction) (a : Side) (u v : Direction) → AreTwo ls i x y → set (set ls i (put x a u)) (i + 1) (put y a v) ≡ with_lane_in (with_lane_in ls (i + 1) a v) i a u
falling ls i x y a u v two =
    swap_set ls i (i + 1) (put x a u) (put y a v) (λ e. omega (arith, e))
    ∙ ap (λ (k : Both Direction). set (set ls (i + 1) (put k a v)) i (put x a u)) (sym two.second)
    ∙ ap (λ (k : Both Direction). set (with_lane_in ls (i + 1) a v) i (put k a u)) (sym (set_there ls (i + 1) i (put (get_or ls (i + 1) empty_link) a v) empty_link (λ e. omega (arith, e)) ∙ two.first))

-- an answer with_refusal as taken is a lane that is changed
pub taken_world : (b : Bool) (w : World) (link : ℕ) (way : Side) (j : ℕ) → record w { links = with_lane_in w.links link way (with_taken_in b (lane_in w.links link way) j) } ≡ taken_if b w link way j
taken_world false w link way j = ap (λ (ls : Links). record w { links = ls }) (lane_same w.links link way)
taken_world true w link way zero = ap (λ (ls : Links). record w { links = ls }) (lane_same w.links link way)
taken_world true w link way (suc j) = refl

nth_nothing : {X : Type 0} (which : ℕ) → nth {A = X} [] which ≡ None
nth_nothing zero = refl
nth_nothing (suc k) = refl

no_puts : (way : Side) (which : ℕ) → nth (at empty_link way).prepares which ≡ None
no_puts Client which = nth_nothing which
no_puts Server which = nth_nothing which

-- a Prepare was put on a link of the list
pub puts_within : (ls : Links) (link : ℕ) (way : Side) (which : ℕ) (p : SentPrepare) → nth (lane_in ls link way).prepares which ≡ Some p → link < length ls
puts_within [] link way which p e = let n = no_puts way which in absurd (cc)
puts_within (l ∷ ls) zero way which p e = omega arith
puts_within (l ∷ ls) (suc link) way which p e = let g : link < length ls = puts_within ls link way which p e in omega (arith, g)
