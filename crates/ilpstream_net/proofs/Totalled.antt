-- The lines of accounts, and how a command ends that wrote its totals.
use Rattle.std.proofs.Common.{◌≡◌, ◌≢◌, ℕ, suc, ◌+◌, ◌<◌, List, [], ◌∷◌, ◌++◌, length, take, get_or, Option, refl, sym, ap, subst, ◌∙◌, ◌⊎◌, append_assoc, arith, inl, inr}
use Rattle.std.specs.Prelude.{Result, Ok, Err, Some, None}
use Rattle.std.specs.Io.KnownBytes.{Appends}
use Rattle.std.specs.Borrow.{Bor}
use Rattle.std.proofs.lemmas.List.{append-nil, take_more, length-take-le}
use Rattle.ilpstream_output.specs.declared.error.Fault.{Fault}
use Rattle.ilpstream_net.specs.declared.error.RunError.{RunError}
use Rattle.ilpstream_net.specs.declared.error.RunError.TheVariants as run
use Rattle.st_devices.specs.declared.tally.Tally.{Tally}
use Rattle.ilpstream_net.specs.Table.{EndsBy, EndsByFile, EndsByTable, Lives}
use Rattle.ilpstream_net.specs.Totals.{IsEmptyBeside, Replaced, TakesPlace, ended_with, lines_from}

module _ {X : Type 0} (text : ℕ → X → List ℕ) where
  -- one value after the others
  one_more : (n : ℕ) (xs : List X) (x : X) → lines_from text n (xs ++ x ∷ []) ≡ lines_from text n xs ++ text (n + length xs) x
  unfolding lines_from
  one_more n [] x = let here : n + 0 ≡ n = omega arith in rw here (append-nil (text n x))
  one_more n (y ∷ xs) x =
      let place : suc n + length xs ≡ n + suc (length xs) = omega arith in
      ap (λ (t : List ℕ). text n y ++ t) (one_more (suc n) xs x)
      ∙ sym (append_assoc (text n y) (lines_from text (suc n) xs) (text (suc n + length xs) x))
      ∙ ap (λ (k : ℕ). (text n y ++ lines_from text (suc n) xs) ++ text k x) place

  -- the lines of the first values, and then the next one's
  pub next_line : (xs : List X) (i : ℕ) (d : X) (old line new : List ℕ) → i < length xs → old ≡ lines_from text 0 (take i xs)
      → line ≡ text i (get_or xs i d) → new ≡ old ++ line → new ≡ lines_from text 0 (take (i + 1) xs)
  next_line xs i d old line new lt before next grown =
      let x = get_or xs i d in
      let all : take (i + 1) xs ≡ take i xs ++ x ∷ [] = take_more xs i d lt in
      let place : 0 + length (take i xs) ≡ i = omega (arith, length-take-le i xs (omega arith)) in
      let lines : lines_from text 0 (take i xs ++ x ∷ []) ≡ lines_from text 0 (take i xs) ++ text i x =
      one_more 0 (take i xs) x ∙ ap (λ (k : ℕ). lines_from text 0 (take i xs) ++ text k x) place in
      cc (all, lines)

module _ (own : List ℕ) (ledger : Option (Bor (List ℕ))) (input : Option (List ℕ)) (r s : Tally) where
  ends_with : (ended : Result (Unit {0}) RunError) (told : Result (Unit {0}) Fault) → EndsBy own ledger input r s ended → EndsBy own ledger input r s (ended_with ended told)
  ends_with (Err e) told by = by
  ends_with (Ok x) (Ok y) by = by
  ends_with (Ok x) (Err fault) by = inr by

  -- a connector that wrote its totals ends by its input as it did before
  pub ends_told : (ended result : Result (Unit {0}) RunError) → EndsBy own ledger input r s ended → (told : Result (Unit {0}) Fault) × (result ≡ ended_with ended told) → EndsBy own ledger input r s result
  ends_told ended result by (told, is) = subst (EndsBy own ledger input r s) (sym is) (ends_with ended told by)

  -- the same holds of one that wrote to its log, and of one that did nothing because an option is bad
  pub ends_logged : (Q : Type 0) (ended result : Result (Unit {0}) RunError) → EndsBy own ledger input r s ended ⊎ ((ended ≡ Err run.BadOption) × Q) → (told : Result (Unit {0}) Fault) × (result ≡ ended_with ended told)
      → EndsBy own ledger input r s result ⊎ ((result ≡ Err run.BadOption) × Q)
  ends_logged Q ended result (inl by) told = inl (ends_told ended result by told)
  ends_logged Q ended result (inr (bad, q)) (told, is) = inr (is ∙ ap (λ (e : Result (Unit {0}) RunError). ended_with e told) bad, q)

lives_with : (own : List ℕ) (ledger : Option (Bor (List ℕ))) (bytes : List ℕ) (ended : Result (Unit {0}) RunError) (told : Result (Unit {0}) Fault) → Lives own ledger bytes ended → Lives own ledger bytes (ended_with ended told)
lives_with own ledger bytes (Err e) told by = by
lives_with own ledger bytes (Ok x) (Ok y) by = by
lives_with own ledger bytes (Ok x) (Err fault) by = inr by

file_with : (own : List ℕ) (ledger : Option (Bor (List ℕ))) (ended : Result (Unit {0}) RunError) (told : Result (Unit {0}) Fault) → EndsByFile own ledger ended → EndsByFile own ledger (ended_with ended told)
file_with own ledger ended told (inl bad) = inl (ap (λ (e : Result (Unit {0}) RunError). ended_with e told) bad)
file_with own ledger ended told (inr (bytes, by)) = inr (bytes, lives_with own ledger bytes ended told by)

-- a connector that wrote its totals, or to its log, ends by its table as it did before
pub table_told : (table : Option (Bor (List ℕ))) (own : List ℕ) (ledger : Option (Bor (List ℕ))) (input : Option (List ℕ)) (r s : Tally) (Q : Type 0) (ended result : Result (Unit {0}) RunError)
    → EndsByTable table own ledger input r s Q ended → (told : Result (Unit {0}) Fault) × (result ≡ ended_with ended told) → EndsByTable table own ledger input r s Q result
table_told None own ledger input r s Q ended result by told = ends_logged own ledger input r s Q ended result by told
table_told (Some file) own ledger input r s Q ended result (q, by) (told, is) = (q, subst (EndsByFile own ledger) (sym is) (file_with own ledger ended told by))

-- what holds if an option is bad, holds of a command that wrote to its log
pub logged : (ended result : Result (Unit {0}) RunError) (P : Type 0) → (ended ≡ Err run.BadOption → P) → (told : Result (Unit {0}) Fault) × (result ≡ ended_with ended told) → result ≡ Err run.BadOption → P
logged (Err e) result P same (told, is) wrong = same (sym is ∙ wrong)
logged (Ok x) result P same ((Ok y), is) wrong = absurd (cc)
logged (Ok x) result P same ((Err fault), is) wrong = absurd (cc)

-- a command that writes nothing of this ends as it did
pub untold : (ended : Result (Unit {0}) RunError) → ended ≡ ended_with ended (Ok tt)
untold (Err e) = refl
untold (Ok x) = refl

-- what was written to the new file is what the place holds once that file replaces it
pub replaced : (held empty file now : Option (List ℕ)) (text : List ℕ) → IsEmptyBeside held empty → Appends empty file text → TakesPlace held file now → Replaced held now text
replaced None empty file now text is grown takes = tt
replaced (Some bytes) empty None now text is grown takes = absurd (rw is at grown)
replaced (Some bytes) empty (Some written) now text is grown takes = takes ∙ ap Some (rw is at grown)

not_bad : (ended : Result (Unit {0}) RunError) (told : Result (Unit {0}) Fault) → ended ≢ Err run.BadOption → ended_with ended told ≢ Err run.BadOption
not_bad (Err e) told none wrong = none wrong
not_bad (Ok x) (Ok y) none wrong = absurd (cc)
not_bad (Ok x) (Err fault) none wrong = absurd (cc)

-- a command does not end as one with a bad option because its totals were written
pub never_bad : (ended result : Result (Unit {0}) RunError) → ended ≢ Err run.BadOption → (told : Result (Unit {0}) Fault) × (result ≡ ended_with ended told) → result ≢ Err run.BadOption
never_bad ended result none (told, is) wrong = not_bad ended told none (sym is ∙ wrong)
