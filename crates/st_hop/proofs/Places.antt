-- The place of a prefix in a list of routes.
use Rattle.std.proofs.Common.{◌≡◌, ℕ, suc, ◌<◌, ◌+◌, ◌⊎◌, inl, inr, Bool, true, false, cond, List, [], ◌∷◌, ◌++◌, length, get_or, refl, sym, ap, subst, ◌∙◌, arith, Option, None, Some, is_some, String}
use Rattle.std.specs.Prelude.{bytes_eq, string_bytes}
use Rattle.std.specs.String.{string_eq}
use Rattle.std.specs.List.{position_from}
use Rattle.std.specs.Map.{lookup}
use Rattle.std.specs.HashMap.{HashMap, get, get_by_text, Updates}
use Rattle.std.proofs.lemmas.Map.Text.{hash_map_updates_text}
use Rattle.std.proofs.lemmas.Slice.Eq.{bytes_eq-Decides}
use Rattle.st_hop.specs.declared.route.NextHop.{NextHop}
use Rattle.st_hop.specs.Ways.{AreByPrefix}
use Rattle.st_hop.proofs.Distinct.{bytes_back}

module _ {X : Type 0} (prefix : List ℕ) where
  abbrev pub has : String X × NextHop → Bool
  has w = bytes_eq prefix (string_bytes w.0)

  abbrev pub is_prefix : String X → Bool
  is_prefix k = bytes_eq prefix (string_bytes k)

  -- w is the first that has the prefix, and its place is j, if they are counted from k on
  abbrev StandsAt : ℕ → List (String X × NextHop) → ℕ → String X × NextHop → Type 0
  StandsAt k ways j w = (position_from has k ways ≡ Some (k + j)) × (j < length ways) × (lookup is_prefix ways ≡ Some w.1) × ((d : String X × NextHop) → get_or ways j d ≡ w)

  abbrev StandsNowhere : ℕ → List (String X × NextHop) → Type 0
  StandsNowhere k ways = (position_from has k ways ≡ None) × (lookup is_prefix ways ≡ None)

  abbrev Stands : ℕ → List (String X × NextHop) → Type 0
  Stands k ways = StandsNowhere k ways ⊎ ((j : ℕ) × (w : String X × NextHop) × StandsAt k ways j w)

  stands : (k : ℕ) (ways : List (String X × NextHop)) → Stands k ways
  stands k [] = inl (refl, refl)
  stands k (x ∷ ways) = by (is_prefix x.0) (stands (k + 1) ways)
    where
      Nowhere : Bool → Type 0
      Nowhere b = (cond b (Some k) (position_from has (k + 1) ways) ≡ None) × (cond b (Some x.1) (lookup is_prefix ways) ≡ None)

      At : Bool → ℕ → String X × NextHop → Type 0
      At b j w = (cond b (Some k) (position_from has (k + 1) ways) ≡ Some (k + j)) × (j < length (x ∷ ways)) × (cond b (Some x.1) (lookup is_prefix ways) ≡ Some w.1) × ((d : String X × NextHop) → get_or (x ∷ ways) j d ≡ w)

      by : (b : Bool) → Stands (k + 1) ways → Nowhere b ⊎ ((j : ℕ) × (w : String X × NextHop) × At b j w)
      by true rest = inr (0, x, ((let e : k ≡ k + 0 = omega arith in ap (λ n. Some n) e), omega arith, refl, λ d. refl))
      by false (inl none) = inl none
      by false (inr (j, w, at)) = inr (suc j, w, (at.0 ∙ (let e : k + 1 + j ≡ k + suc j = omega arith in ap (λ n. Some n) e), (let l = at.1 in omega (arith, l)), at.2, at.3))

  pub place_found : (ways : List (String X × NextHop)) (i : ℕ) → position_from has 0 ways ≡ Some i → (i < length ways) × ((d : String X × NextHop) → lookup is_prefix ways ≡ Some (get_or ways i d).1)
  place_found ways i e = by (stands 0 ways)
    where
      by : Stands 0 ways → (i < length ways) × ((d : String X × NextHop) → lookup is_prefix ways ≡ Some (get_or ways i d).1)
      by (inl none) = absurd (let f : ◌≡◌ {A = Option ℕ} None (Some i) = sym none.0 ∙ e in cc)
      by (inr (j, w, at)) =
          let f : ◌≡◌ {A = Option ℕ} (Some (0 + j)) (Some i) = sym at.0 ∙ e in
          let same : 0 + j ≡ i = cc in
          let l = at.1 in
          (omega (arith, l, same), λ d. at.2 ∙ ap (λ (v : String X × NextHop). Some v.1) (sym (at.3 d)) ∙ ap (λ n. Some (get_or ways n d).1) (let s : j ≡ i = omega (arith, same) in s))

  pub none_found : (ways : List (String X × NextHop)) → position_from has 0 ways ≡ None → lookup is_prefix ways ≡ None
  none_found ways e = by (stands 0 ways)
    where
      by : Stands 0 ways → lookup is_prefix ways ≡ None
      by (inl none) = none.1
      by (inr (j, w, at)) = absurd (let f : ◌≡◌ {A = Option ℕ} (Some (0 + j)) None = sym at.0 ∙ e in cc)

  -- whether there is one
  pub any_found : (ways : List (String X × NextHop)) → is_some (position_from has 0 ways) ≡ is_some (lookup is_prefix ways)
  any_found ways = by (stands 0 ways)
    where
      by : Stands 0 ways → is_some (position_from has 0 ways) ≡ is_some (lookup is_prefix ways)
      by (inl none) = ap (λ (o : Option ℕ). is_some o) none.0 ∙ sym (ap (λ (o : Option NextHop). is_some o) none.1)
      by (inr (j, w, at)) = ap (λ (o : Option ℕ). is_some o) at.0 ∙ sym (ap (λ (o : Option NextHop). is_some o) at.2)

module _ {W : Type 0} (test : W → Bool) (x : W) where
  -- one more at the end that does not pass
  apart : (ws : List W) (k : ℕ) → test x ≡ false → position_from test k (ws ++ x ∷ []) ≡ position_from test k ws
  apart [] k e = rw e refl
  apart (w ∷ ws) k e = ap (λ o. cond (test w) (Some k) o) (apart ws (k + 1) e)

  -- and the first that passes
  here : (ws : List W) (k : ℕ) → test x ≡ true → position_from test k ws ≡ None → position_from test k (ws ++ x ∷ []) ≡ Some (k + length ws)
  here [] k e none = rw e (let l : k ≡ k + 0 = omega arith in ap (λ n. Some n) l)
  here (w ∷ ws) k e none = by (test w) (λ f. here ws (k + 1) e f) none
    where
      by : (b : Bool) → (position_from test (k + 1) ws ≡ None → position_from test (k + 1) (ws ++ x ∷ []) ≡ Some (k + 1 + length ws)) → cond b (Some k) (position_from test (k + 1) ws) ≡ None
          → cond b (Some k) (position_from test (k + 1) (ws ++ x ∷ [])) ≡ Some (k + length (w ∷ ws))
      by true rest f = absurd (cc)
      by false rest f = rest f ∙ (let l : k + 1 + length ws ≡ k + length (w ∷ ws) = omega arith in ap (λ n. Some n) l)

-- a prefix that none has is put at the end, and so is its place
pub placed_more : {X S : Type 0} (ways : List (String X × NextHop)) (old new : HashMap (String X) ℕ S) (k p : String X) (n : NextHop) → AreByPrefix old ways → get string_eq old k ≡ None → Updates string_eq old new k (Some (length ways))
    → string_bytes p ≡ string_bytes k → AreByPrefix new (ways ++ (p, n) ∷ [])
placed_more {X} ways old new k p n by none updates same = λ bs. hash_map_updates_text (string_bytes k) old new (Some (length ways)) updates bs ∙ cases bs (bytes_eq (string_bytes k) bs) refl
  where
    cases : (bs : List ℕ) (b : Bool) → bytes_eq (string_bytes k) bs ≡ b → cond b (Some (length ways)) (get_by_text old bs) ≡ position_from (has bs) 0 (ways ++ (p, n) ∷ [])
    cases bs true e =
        let at : string_bytes k ≡ bs = (bytes_eq-Decides (string_bytes k) bs).0 e in
        let nowhere : get_by_text old bs ≡ None = subst (λ (cs : List ℕ). get_by_text old cs ≡ None) at none in
        (let z : length ways ≡ 0 + length ways = omega arith in ap (λ i. Some i) z)
        ∙ sym (here (has bs) (p, n) ways 0 ((bytes_eq-Decides bs (string_bytes p)).1 (sym at ∙ sym same)) (sym (by bs) ∙ nowhere))
    cases bs false e = by bs ∙ sym (apart (has bs) (p, n) ways 0 (ap (λ xs. bytes_eq bs xs) same ∙ bytes_back (string_bytes k) bs e))

pub is_known : {X S : Type 0} (ways : List (String X × NextHop)) (places : HashMap (String X) ℕ S) (k : String X) → AreByPrefix places ways → is_some (get string_eq places k) ≡ is_some (lookup (string_eq k) ways)
is_known ways places k by = ap (λ (o : Option ℕ). is_some o) (by (string_bytes k)) ∙ any_found (string_bytes k) ways

pub is_none : (o : Option ℕ) → is_some o ≡ false → o ≡ None
is_none None e = refl
is_none (Some n) e = absurd (cc)
