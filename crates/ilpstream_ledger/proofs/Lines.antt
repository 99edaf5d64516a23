-- The lines of accounts, one after another.
use Rattle.std.proofs.Common.{◌≡◌, ℕ, zero, suc, ◌+◌, ◌++◌, List, [], ◌∷◌, length, take, get_or, slice_get, Some, sym, ap, subst, ◌∙◌, append_assoc, arith}
use Rattle.std.proofs.lemmas.List.{append-nil}
use Rattle.std.proofs.lemmas.Option.{none-some, same_Some}
use Rattle.st_hop_books.specs.declared.balance.Amounts.{Amounts}
use Rattle.ilpstream_ledger.specs.Names.{Names}
use Rattle.ilpstream_ledger.specs.Texts.{account_text, accounts_text}

-- the lines of the first accounts, and of one more
pub next_line : (names : Names) (all : List Amounts) (i : ℕ) (name : List ℕ) (d : Amounts) → length names ≡ length all → slice_get names i ≡ Some name
    → accounts_text (take (i + 1) names) (take (i + 1) all) ≡ accounts_text (take i names) (take i all) ++ account_text name (get_or all i d)
unfolding accounts_text
next_line [] all i name d same here = absurd (none-some name here)
next_line (n ∷ names) [] i name d same here = absurd (omega (arith, same))
next_line (n ∷ names) (a ∷ all) zero name d same here =
    append-nil (account_text n a) ∙ ap (λ (text : List ℕ). account_text text a) (same_Some n name here)
next_line (n ∷ names) (a ∷ all) (suc i) name d same here =
    let place : suc (i + 1) ≡ suc i + 1 = omega arith in
    let rest = account_text name (get_or all i d) in
    let moved : accounts_text (take (suc (i + 1)) (n ∷ names)) (take (suc (i + 1)) (a ∷ all)) ≡ accounts_text (take (suc i) (n ∷ names)) (take (suc i) (a ∷ all)) ++ rest =
    ap (λ (text : List ℕ). account_text n a ++ text) (next_line names all i name d (omega (arith, same)) here)
    ∙ sym (append_assoc (account_text n a) (accounts_text (take i names) (take i all)) rest) in
    subst (λ (k : ℕ). accounts_text (take k (n ∷ names)) (take k (a ∷ all)) ≡ accounts_text (take (suc i) (n ∷ names)) (take (suc i) (a ∷ all)) ++ rest) place moved
