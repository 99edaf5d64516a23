-- A merge of rings, and what one item more makes of it.
use Rattle.std.proofs.Common.{◌≡◌, ◌≢◌, ℕ, ◌<◌, Bool, true, false, cond, nat_eq, List, [], ◌∷◌, ◌++◌, map, refl, sym, ap, ◌∙◌, subst, inl, inr, arith, append_assoc}
use Rattle.std.specs.List.{AllByRecursion}
use Rattle.std.proofs.lemmas.Bool.{cases_eq}
use Rattle.std.proofs.lemmas.Bool.Decides.{nat_tests}
use Rattle.std.proofs.lemmas.List.{append-nil}
use Rattle.st_queues.specs.Items.{joined}
use Rattle.st_queues.specs.declared.items.Item.{Item}
use Rattle.st_queues.specs.declared.items.Item.TheVariants as kind
use Rattle.st_hub.specs.Merge.{Took, number, item, of_writer, IsWriter, MergeOf, first, rest, without_first, merge}

module _ {A : Type 0} where
  pub joined-append : (xs ys : List (Item A)) → joined (xs ++ ys) ≡ joined xs ++ joined ys
  joined-append [] ys = refl
  joined-append (kind.Chunk v ∷ xs) ys = ap (λ l. v.items ++ l) (joined-append xs ys) ∙ sym (append_assoc v.items (joined xs) (joined ys))
  joined-append (kind.End ∷ xs) ys = joined-append xs ys

  pub items-push : (log : List (Took A)) (p : Took A) → map item (log ++ p ∷ []) ≡ map item log ++ p.1 ∷ []
  items-push [] p = refl
  items-push (q ∷ log) p = ap (λ l. q.1 ∷ l) (items-push log p)

  writers-push : (log : List (Took A)) (p : Took A) → AllByRecursion IsWriter log → IsWriter p → AllByRecursion IsWriter (log ++ p ∷ [])
  writers-push [] p all is = (is, all)
  writers-push (q ∷ log) p all is = (all.0, writers-push log p all.1 is)

  pick : (b : Bool) (x : Item A) (l m n : List (Item A)) → n ≡ l ++ m → cond b (x ∷ n) n ≡ cond b (x ∷ l) l ++ m
  pick true x l m n e = ap (λ k. x ∷ k) e
  pick false x l m n e = e

  writer-append : (j : ℕ) (xs ys : List (Took A)) → of_writer j (xs ++ ys) ≡ of_writer j xs ++ of_writer j ys
  writer-append j [] ys = refl
  writer-append j (p ∷ xs) ys = pick (nat_eq p.0 j) p.1 (of_writer j xs) (of_writer j ys) (of_writer j (xs ++ ys)) (writer-append j xs ys)

hit : {A : Type 0} (m n : ℕ) (x y : A) → m ≡ n → cond (nat_eq m n) x y ≡ x
hit m n x y e = grind (arith, nat_tests)

miss : {A : Type 0} (m n : ℕ) (x y : A) → m ≢ n → cond (nat_eq m n) x y ≡ y
miss m n x y e = grind (arith, nat_tests)

module _ {A : Type 0} where
  writer-push_same : (j : ℕ) (log : List (Took A)) (x : Item A) → of_writer j (log ++ (j, x) ∷ []) ≡ of_writer j log ++ x ∷ []
  writer-push_same j log x = writer-append j log ((j, x) ∷ []) ∙ ap (λ l. of_writer j log ++ l) (hit j j (x ∷ []) [] refl)

  writer-push_other : (i j : ℕ) (log : List (Took A)) (x : Item A) → j ≢ i → of_writer i (log ++ (j, x) ∷ []) ≡ of_writer i log
  writer-push_other i j log x apart = writer-append i log ((j, x) ∷ []) ∙ ap (λ l. of_writer i log ++ l) (miss j i (x ∷ []) [] apart) ∙ append-nil (of_writer i log)

  -- rings that look the same have the same merges
  pub merge_same : (log : List (Took A)) (f g : ℕ → List (Item A)) → ((i : ℕ) → i < 8 → g i ≡ f i) → MergeOf log f → MergeOf log g
  merge_same log f g same m = record { numbers = m.numbers; each = λ i l. m.each i l ∙ sym (same i l) }

  -- one item more of the writer j
  pub merge_more : (log : List (Took A)) (f g : ℕ → List (Item A)) (j : ℕ) (x : Item A) → j < 8 → g j ≡ f j ++ x ∷ [] → ((i : ℕ) → i < 8 → j ≢ i → g i ≡ f i)
      → MergeOf log f → MergeOf (log ++ (j, x) ∷ []) g
  merge_more log f g j x small here there m = record {
    numbers = writers-push log (j, x) m.numbers small;
    each = λ i l. elim (cases_eq j i) [
      | inl same ↦ subst (λ (k : ℕ). of_writer k (log ++ (j, x) ∷ []) ≡ g k) same (writer-push_same j log x ∙ ap (λ k. k ++ x ∷ []) (m.each j small) ∙ sym here)
      | inr apart ↦ writer-push_other i j log x apart ∙ m.each i l ∙ sym (there i l apart)
    ];
  }

  pub merge_none : (f : ℕ → List (Item A)) → ((i : ℕ) → f i ≡ []) → MergeOf [] f
  merge_none f none = record { numbers = tt; each = λ i l. sym (none i) }

  -- the bytes of a merge with one item more
  pub joined_more : (log : List (Took A)) (j : ℕ) (x : Item A) → joined (map item (log ++ (j, x) ∷ [])) ≡ joined (map item log) ++ joined (x ∷ [])
  joined_more log j x = ap joined (items-push log (j, x)) ∙ joined-append (map item log) (x ∷ [])

  -- the numbers and the rings alone determine the merge
  pub told : (log : List (Took A)) (f : ℕ → List (Item A)) → MergeOf log f → merge (map number log) f ≡ map item log
  told [] f m = refl
  told (p ∷ log) f m =
      let head : f p.0 ≡ p.1 ∷ of_writer p.0 log = sym (m.each p.0 m.numbers.0) ∙ hit p.0 p.0 _ _ refl in
      ap (λ l. first l ++ merge (map number log) (without_first f p.0)) head
      ∙ ap (λ l. p.1 ∷ l) (told log (without_first f p.0) (record {
        numbers = m.numbers.1;
        each = λ i l. elim (cases_eq p.0 i) [
          | inl same ↦ subst (λ (k : ℕ). of_writer k log ≡ without_first f p.0 k) same (ap rest (sym head) ∙ sym (hit p.0 p.0 (rest (f p.0)) (f p.0) refl))
          | inr apart ↦ sym (miss p.0 i _ _ apart) ∙ m.each i l ∙ sym (miss p.0 i (rest (f i)) (f i) apart)
        ];
      }))
