-- The map of a list of entries, without those of one key.
use Rattle.std.proofs.Common.{◌≡◌, ℕ, Bool, true, false, cond, not, Option, Some, None, refl, ap, ◌∙◌, sym, List, [], ◌∷◌, filter, nat_eq, arith}
use Rattle.std.specs.Ordering.{nat_cmp, eq_by_cmp}
use Rattle.std.specs.Cmp.{nat_cmp_total}
use Rattle.std.specs.FinMap as map
use Rattle.std.specs.Prelude as list
use Rattle.std.specs.Prelude.{is_some}
use Rattle.std.proofs.lemmas.Bool.{false≢true}
use Rattle.std.proofs.lemmas.Bool.Decides.{nat_tests}
use Rattle.st_end.specs.Inside.{with_value}

-- not of this key
abbrev pub is_other : {X : Type 0} → ℕ → ℕ × X → Bool
is_other n e = not (nat_eq e.0 n)

module _ {X : Type 0} where
  with_one : (b : Bool) (e : ℕ × X) (es : List (ℕ × X)) (q : ℕ) → map.get (map.from_entries {R = nat_cmp} (cond b (e ∷ es) es)) q ≡ cond b (map.get (map.insert (map.from_entries {R = nat_cmp} es) e.0 e.1) q) (map.get (map.from_entries {R = nat_cmp} es) q)
  with_one true e es q = refl
  with_one false e es q = refl

  one_more : (k n q : ℕ) (v : Option X) (o : Option X) → cond (not (nat_eq k n)) (cond (eq_by_cmp nat_cmp q k) v (cond (eq_by_cmp nat_cmp q n) None o)) (cond (eq_by_cmp nat_cmp q n) None o)
      ≡ cond (eq_by_cmp nat_cmp q n) None (cond (eq_by_cmp nat_cmp q k) v o)
  one_more k n q v o = grind (arith, nat_tests)

  no_more : (b : Bool) (o : Option X) → o ≡ None → o ≡ cond b None o
  no_more true o e = e
  no_more false o e = refl

  get-others : (n : ℕ) (es : List (ℕ × X)) (q : ℕ) → map.get (map.from_entries {R = nat_cmp} (filter (is_other n) es)) q ≡ cond (eq_by_cmp nat_cmp q n) None (map.get (map.from_entries {R = nat_cmp} es) q)
  get-others n [] q = no_more (eq_by_cmp nat_cmp q n) _ (map.get-empty nat_cmp q)
  get-others n (e ∷ es) q =
      with_one (is_other n e) e (filter (is_other n) es) q
      ∙ ap (λ o. cond (is_other n e) o (map.get (map.from_entries {R = nat_cmp} (filter (is_other n) es)) q)) (map.get-insert nat_cmp_total _ e.0 e.1 q)
      ∙ ap (λ o. cond (is_other n e) (cond (eq_by_cmp nat_cmp q e.0) (Some e.1) o) o) (get-others n es q)
      ∙ one_more e.0 n q (Some e.1) _
      ∙ ap (cond (eq_by_cmp nat_cmp q n) None) (sym (map.get-insert nat_cmp_total _ e.0 e.1 q))

  pub others_removed : (n : ℕ) (es : List (ℕ × X)) → map.from_entries {R = nat_cmp} (filter (is_other n) es) ≡ map.remove (map.from_entries {R = nat_cmp} es) n
  others_removed n es = map.same_map nat_cmp_total map.nat_cmp-IsAntisymmetric _ _ (λ q. get-others n es q ∙ sym (map.get-remove nat_cmp_total _ n q))

-- the same entries, with this value at one key
module _ {X : Type 0} (n : ℕ) (v : X) where
  -- what is found at a key
  abbrev at_key : Bool → Option X → Option X
  at_key here None = None
  at_key here (Some x) = Some (cond here v x)

  one_replaced : (k q : ℕ) (x : X) (o : Option X) → cond (eq_by_cmp nat_cmp q k) (Some (cond (nat_eq k n) v x)) (at_key (nat_eq q n) o)
      ≡ at_key (nat_eq q n) (cond (eq_by_cmp nat_cmp q k) (Some x) o)
  one_replaced k q x None = grind (arith, nat_tests)
  one_replaced k q x (Some y) = grind (arith, nat_tests)

  get-replaced : (es : List (ℕ × X)) (q : ℕ) → map.get (map.from_entries {R = nat_cmp} (list.map (with_value n v) es)) q ≡ at_key (nat_eq q n) (map.get (map.from_entries {R = nat_cmp} es) q)
  get-replaced [] q = map.get-empty nat_cmp q ∙ ap (at_key (nat_eq q n)) (sym (map.get-empty nat_cmp q))
  get-replaced (e ∷ es) q =
      map.get-insert nat_cmp_total _ e.0 (cond (nat_eq e.0 n) v e.1) q
      ∙ ap (cond (eq_by_cmp nat_cmp q e.0) (Some (cond (nat_eq e.0 n) v e.1))) (get-replaced es q)
      ∙ one_replaced e.0 q e.1 _
      ∙ ap (at_key (nat_eq q n)) (sym (map.get-insert nat_cmp_total _ e.0 e.1 q))

  is_replaced : (q : ℕ) (here there : Option X) → is_some here ≡ true → (q ≡ n → there ≡ here) → at_key (nat_eq q n) there ≡ cond (eq_by_cmp nat_cmp q n) (Some v) there
  is_replaced q None there some same = absurd (false≢true some)
  is_replaced q (Some x) None some same = grind (arith, nat_tests)
  is_replaced q (Some x) (Some y) some same = grind (arith, nat_tests)

  pub value_replaced : (es : List (ℕ × X)) → is_some (map.get (map.from_entries {R = nat_cmp} es) n) ≡ true → map.from_entries {R = nat_cmp} (list.map (with_value n v) es) ≡ map.insert (map.from_entries {R = nat_cmp} es) n v
  value_replaced es some =
      let m = map.from_entries {R = nat_cmp} es in
      map.same_map nat_cmp_total map.nat_cmp-IsAntisymmetric _ _
      (λ q. get-replaced es q ∙ is_replaced q (map.get m n) (map.get m q) some (λ same. ap (map.get m) same) ∙ sym (map.get-insert nat_cmp_total m n v q))
