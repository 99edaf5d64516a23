-- A loop that writes the image of each element of one list over another.
use Rattle.std.proofs.Common.{◌≡◌, ℕ, ◌+◌, ◌<◌, ◌++◌, List, ◌∷◌, [], length, map, set, get_or, take, drop, sym, ap, ◌∙◌, arith, length-take, append_assoc}
use Rattle.std.proofs.lemmas.List.{length-map, set_at, drop_more, map_more}

pub over_more : {X Y : Type 0} (f : X → Y) (xs : List X) (ys : List Y) (i : ℕ) (d : X) → length ys ≡ length xs → i < length xs
    → set (map f (take i xs) ++ drop i ys) i (f (get_or xs i d)) ≡ map f (take (i + 1) xs) ++ drop (i + 1) ys
over_more f xs ys i d same lt =
    let front = map f (take i xs) in
    let x = f (get_or xs i d) in
    let long : length front ≡ i = length-map (take i xs) f ∙ omega (arith, length-take i xs) in
    ap (λ l. set (front ++ l) i x) (drop_more ys i x (omega arith)) ∙ (set_at front _ _ x i long ∙ (sym (append_assoc front (x ∷ []) _) ∙ ap (λ l. l ++ drop (i + 1) ys) (sym (map_more f xs i d lt))))
