-- What one place of the list of links, or two adjacent ones, become.
use Rattle.std.proofs.Common.{◌≡◌, ℕ, ◌+◌, ◌<◌, List, ◌++◌, length, set, get_or, sym, subst, ap, ◌∙◌, arith, ℤ, Option, Result, Ok, Err, IfOk, OnErr}
use Rattle.std.proofs.lemmas.Result.{IfOk-weaker, on_err_weaker}
use Rattle.st_world_parts.specs.Sides.{Side, Both, at, put}
use Rattle.st_world_parts.specs.State.{Party, Node, SentPrepare, Direction}
use Rattle.st_world_parts.specs.Events.{Told}
use Rattle.st_world_parts.specs.Parts.{lane_in, EndSends, EndMet, EndBack, HopMet, HopBack}
use Rattle.st_world.specs.Places.{Links, LinkSends, LinkMet, LinkBack, HopsMet, HopsBack}
use Rattle.st_world.proofs.LinkLists.{any_or, is_link, put_same, set_here, over_lane, two_set, AreTwo, are_two, rising, falling}

module _ (ls : Links) (i : ℕ) (l x k : Both Direction) (a : Side) (h : i < length ls) (lx : l ≡ get_or ls i x) where
  is : l ≡ get_or ls i l
  is = lx ∙ any_or ls i x l h

  pub sends_over : {T E : Type 0} (r : Result T E) (told : T → Told) (way : Side) (iv : List ℕ) (now : ℤ) (p q : Party) (y : Direction) → way ≡ a → IfOk r (λ t. EndSends iv now (told t) p q (at l a) y) → k ≡ put l a y → IfOk r (λ t. LinkSends i way iv now (told t) p q ls (set ls i k))
  sends_over r told way iv now p q y is_way met e =
      let P : Side → Type 0 = λ s. IfOk r (λ t. LinkSends i s iv now (told t) p q ls (set ls i k)) in
      let at_link : Both Direction → Told → Type 0 = λ z x. EndSends iv now x p q (at z a) y in
      subst P (sym is_way) (IfOk-weaker r _ _ (λ t now_met. (y, subst (λ (z : Both Direction). at_link z (told t)) (sym (is_link ls i l h is)) now_met, over_lane ls i l a y k h is e)) met)

  pub meets_over : {T E : Type 0} (r : Result T E) (told : T → Told) (way : Side) (which : ℕ) (bytes : List ℕ) (now : ℤ) (p q : Party) (y : Direction) → way ≡ a → IfOk r (λ t. EndMet which bytes now (told t) p q (at l a) y) → k ≡ put l a y → IfOk r (λ t. LinkMet i way which bytes now (told t) p q ls (set ls i k))
  meets_over r told way which bytes now p q y is_way met e =
      let P : Side → Type 0 = λ s. IfOk r (λ t. LinkMet i s which bytes now (told t) p q ls (set ls i k)) in
      let at_link : Both Direction → Told → Type 0 = λ z x. EndMet which bytes now x p q (at z a) y in
      subst P (sym is_way) (IfOk-weaker r _ _ (λ t now_met. (y, subst (λ (z : Both Direction). at_link z (told t)) (sym (is_link ls i l h is)) now_met, over_lane ls i l a y k h is e)) met)

  pub backs_over : (z : SentPrepare) (j : ℕ) (outcome : Option (List ℕ)) (told : Told) (p q : Party) (y : Direction) → EndBack z j outcome told p q (at l a) y → k ≡ put l a y → LinkBack i a z j outcome told p q ls (set ls i k)
  backs_over z j outcome told p q y met e = (y, subst (λ (u : Both Direction). EndBack z j outcome told p q (at u a) y) (sym (is_link ls i l h is)) met, over_lane ls i l a y k h is e)

  -- it is put back, if there is an error
  pub one_same : {T E : Type 0} (r : Result T E) (y : Direction) → k ≡ put l a y → OnErr r (y ≡ at l a) → OnErr r (set ls i k ≡ ls)
  one_same r y e = on_err_weaker r (λ same. ap (set ls i) (e ∙ ap (put l a) same ∙ put_same l a) ∙ set_here ls i l is)

module _ (ls xs ys : Links) (i : ℕ) (x y x' y' : Both Direction) (a : Side) (e : ls ≡ xs ++ ys) (n : length xs ≡ i + 1) (more : 0 < length ys) (fx : x ≡ get_or xs i x') (fy : y ≡ get_or ys 0 y') where
  two : AreTwo ls i x y
  two = are_two ls xs ys i x y e n more (fx ∙ any_or xs i x' x (omega (arith, n))) (fy ∙ any_or ys 0 y' y more)

  pub meets_up : {T E : Type 0} (r : Result T E) (told : T → Told) (which : ℕ) (bytes : List ℕ) (now : ℤ) (p q : Node) (u v : Direction) → IfOk r (λ t. HopMet a which bytes now (told t) p q (at y a) v (at x a) u) → IfOk r (λ t. HopsMet i (i + 1) a which bytes now (told t) p q ls (set xs i (put x a u) ++ set ys 0 (put y a v)))
  meets_up r told which bytes now p q u v = IfOk-weaker r _ _ (λ t met. (
    v,
    u,
    subst (λ (z : Both Direction). HopMet a which bytes now (told t) p q (at z a) v (lane_in ls i a) u) (sym two.second) (subst (λ (z : Both Direction). HopMet a which bytes now (told t) p q (at y a) v (at z a) u) (sym two.first) met),
    two_set ls xs ys i (put x a u) (put y a v) e n ∙ rising ls i x y a u v two,
  ))

  pub meets_down : {T E : Type 0} (r : Result T E) (told : T → Told) (which : ℕ) (bytes : List ℕ) (now : ℤ) (p q : Node) (u v : Direction) → IfOk r (λ t. HopMet a which bytes now (told t) p q (at x a) u (at y a) v) → IfOk r (λ t. HopsMet (i + 1) i a which bytes now (told t) p q ls (set xs i (put x a u) ++ set ys 0 (put y a v)))
  meets_down r told which bytes now p q u v = IfOk-weaker r _ _ (λ t met. (
    u,
    v,
    subst (λ (z : Both Direction). HopMet a which bytes now (told t) p q (at z a) u (lane_in ls (i + 1) a) v) (sym two.first) (subst (λ (z : Both Direction). HopMet a which bytes now (told t) p q (at x a) u (at z a) v) (sym two.second) met),
    two_set ls xs ys i (put x a u) (put y a v) e n ∙ falling ls i x y a u v two,
  ))

  pub backs_up : {T E : Type 0} (r : Result T E) (told : T → Told) (z : SentPrepare) (j : ℕ) (outcome : Option (List ℕ)) (now : ℤ) (p q : Node) (u v : Direction) → IfOk r (λ t. HopBack z j outcome now (told t) p q (at y a) v (at x a) u) → IfOk r (λ t. HopsBack (i + 1) i a z j outcome now (told t) p q ls (set xs i (put x a u) ++ set ys 0 (put y a v)))
  backs_up r told z j outcome now p q u v = IfOk-weaker r _ _ (λ t met. (
    v,
    u,
    subst (λ (w : Both Direction). HopBack z j outcome now (told t) p q (at w a) v (lane_in ls i a) u) (sym two.second) (subst (λ (w : Both Direction). HopBack z j outcome now (told t) p q (at y a) v (at w a) u) (sym two.first) met),
    two_set ls xs ys i (put x a u) (put y a v) e n ∙ falling ls i x y a u v two,
  ))

  pub backs_down : {T E : Type 0} (r : Result T E) (told : T → Told) (z : SentPrepare) (j : ℕ) (outcome : Option (List ℕ)) (now : ℤ) (p q : Node) (u v : Direction) → IfOk r (λ t. HopBack z j outcome now (told t) p q (at x a) u (at y a) v) → IfOk r (λ t. HopsBack i (i + 1) a z j outcome now (told t) p q ls (set xs i (put x a u) ++ set ys 0 (put y a v)))
  backs_down r told z j outcome now p q u v = IfOk-weaker r _ _ (λ t met. (
    u,
    v,
    subst (λ (w : Both Direction). HopBack z j outcome now (told t) p q (at w a) u (lane_in ls (i + 1) a) v) (sym two.first) (subst (λ (w : Both Direction). HopBack z j outcome now (told t) p q (at x a) u (at w a) v) (sym two.second) met),
    two_set ls xs ys i (put x a u) (put y a v) e n ∙ rising ls i x y a u v two,
  ))

  -- both are put back, if there is an error
  pub two_same : {T E : Type 0} (r : Result T E) (u v : Direction) → OnErr r (u ≡ at x a) → OnErr r (v ≡ at y a) → OnErr r (set xs i (put x a u) ++ set ys 0 (put y a v) ≡ ls)
  two_same (Ok t) u v p q = tt
  two_same (Err f) u v p q =
      ap (λ (z : Direction). set xs i (put x a z) ++ set ys 0 (put y a v)) p
      ∙ ap (λ (z : Direction). set xs i (put x a (at x a)) ++ set ys 0 (put y a z)) q
      ∙ ap (λ (z : Both Direction). set xs i z ++ set ys 0 (put y a (at y a))) (put_same x a)
      ∙ ap (λ (z : Both Direction). set xs i x ++ set ys 0 z) (put_same y a)
      ∙ ap (λ (zs : Links). zs ++ set ys 0 y) (set_here xs i x (fx ∙ any_or xs i x' x (omega (arith, n))))
      ∙ ap (λ (zs : Links). xs ++ zs) (set_here ys 0 y (fy ∙ any_or ys 0 y' y more))
      ∙ sym e
