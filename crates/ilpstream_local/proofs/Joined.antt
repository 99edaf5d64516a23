-- Lists one after another, and what was written of them.
use Rattle.std.proofs.Common.{◌≡◌, ℕ, zero, suc, ◌+◌, ◌<◌, ◌≤◌, List, [], ◌++◌, length, take, refl, sym, ap, subst, ◌∙◌, inl, inr, arith, add-one, append_assoc}
use Rattle.std.specs.Prelude.{Option, min}
use Rattle.std.specs.Io.KnownBytes.{Appends}
use Rattle.std.proofs.KnownBytes.{Appends-trans}
use Rattle.std.proofs.lemmas.Bool.{cases_lt}
use Rattle.std.proofs.lemmas.List.{append-nil, take_all, take_min, take-append-le}
use Rattle.std.proofs.Math.Seq.{take-append-add}
use Rattle.ilpstream_local.specs.Parts.{joined}
use Rattle.ilpstream_output.specs.Endings.{WritesPart}

pub joined_next : (f : ℕ → List ℕ) (n : ℕ) → joined f (n + 1) ≡ joined f n ++ f n
joined_next f n = ap (joined f) (add-one n)

pub joined_same : (f g : ℕ → List ℕ) (n : ℕ) → ((i : ℕ) → i < n → f i ≡ g i) → joined f n ≡ joined g n
joined_same f g zero same = refl
joined_same f g (suc n) same =
    ap (λ xs. xs ++ f n) (joined_same f g n (λ i l. same i (omega (arith, l)))) ∙ ap (λ xs. joined g n ++ xs) (same n (omega arith))

-- the first of them begin all
joined_begins : (f : ℕ → List ℕ) (i n : ℕ) → i ≤ n → (rest : List ℕ) × (joined f n ≡ joined f i ++ rest)
joined_begins f i zero l = ([], let e : i ≡ 0 = omega (arith, l) in rw e refl)
joined_begins f i (suc n) l = elim (cases_lt n i) [
  | inl all ↦ ([], let e : i ≡ suc n = omega (arith, l, all) in rw e (sym (append-nil (joined f (suc n)))))
  | inr some ↦ let h = joined_begins f i n some in (h.0 ++ f n, ap (λ xs. xs ++ f n) h.1 ∙ append_assoc (joined f i) h.0 (f n))
]

-- what was written of the next one
take_past : (a b rest : List ℕ) (n : ℕ) → take (length a + min n (length b)) (a ++ (b ++ rest)) ≡ a ++ take n b
take_past a b rest n =
    take-append-add a (b ++ rest) (min n (length b))
    ∙ ap (λ xs. a ++ xs) (take-append-le (min n (length b)) b rest (omega arith) ∙ take_min n b)

-- one more was written whole
pub writes_next : (f : ℕ → List ℕ) (i : ℕ) (before now after : Option (List ℕ)) → Appends before now (joined f i) → Appends now after (f i) → Appends before after (joined f (i + 1))
writes_next f i before now after had next = subst (Appends before after) (sym (joined_next f i)) (Appends-trans before now after (joined f i) (f i) had next)

-- or a part of it
pub writes_part : (f : ℕ → List ℕ) (i n : ℕ) (before now after : Option (List ℕ)) → i < n → Appends before now (joined f i) → WritesPart (f i) now after → WritesPart (joined f n) before after
writes_part f i n before now after l had part =
    let all = joined_begins f (i + 1) n (omega (arith, l)) in
    let split : joined f n ≡ joined f i ++ (f i ++ all.0) = all.1 ∙ (ap (λ xs. xs ++ all.0) (joined_next f i) ∙ append_assoc (joined f i) (f i) all.0) in
    let taken : take (length (joined f i) + min part.0 (length (f i))) (joined f n) ≡ joined f i ++ take part.0 (f i) = ap (λ xs. take (length (joined f i) + min part.0 (length (f i))) xs) split ∙ take_past (joined f i) (f i) all.0 part.0 in
    (length (joined f i) + min part.0 (length (f i)), subst (Appends before after) (sym taken) (Appends-trans before now after (joined f i) (take part.0 (f i)) had part.1))

pub part_of_whole : (f : ℕ → List ℕ) (i n : ℕ) (before now : Option (List ℕ)) → i ≡ n → Appends before now (joined f i) → WritesPart (joined f n) before now
part_of_whole f i n before now same whole =
    let all : take (length (joined f i)) (joined f n) ≡ joined f i = subst (λ (k : ℕ). take (length (joined f i)) (joined f k) ≡ joined f i) same (take_all (length (joined f i)) (joined f i) (omega arith)) in
    (length (joined f i), subst (Appends before now) (sym all) whole)
