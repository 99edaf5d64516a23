-- What accounts owe by books to which names were added.
use Rattle.std.proofs.Common.{◌≡◌, ℕ, List, [], ◌∷◌, ◌++◌, length, replicate, true, false, refl, ap, ◌∙◌, arith}
use Rattle.std.specs.Prelude.{bytes_eq, if◌then◌else◌}
use Rattle.st_hop_books.specs.declared.balance.Amounts.{Amounts}
use Rattle.st_hop_books.specs.Sums.{nothing}
use Rattle.ilpstream_ledger.specs.Names.{Names, amounts_of, claims_of, dues_of}

none_owe : (more : Names) (name : List ℕ) → amounts_of more (replicate (length more) nothing) name ≡ nothing
unfolding amounts_of
none_owe [] name = refl
none_owe (n ∷ more) name = elim (bytes_eq n name) as (λ b. (if b then nothing else amounts_of more (replicate (length more) nothing) name) ≡ nothing) [ true ↦ refl | false ↦ none_owe more name ]

grown_owes : (names more : Names) (all : List Amounts) (name : List ℕ) → length names ≡ length all → amounts_of (names ++ more) (all ++ replicate (length more) nothing) name ≡ amounts_of names all name
unfolding amounts_of
grown_owes [] more [] name e = none_owe more name
grown_owes [] more (a ∷ all) name e = absurd (omega (arith, e))
grown_owes (n ∷ names) more [] name e = absurd (omega (arith, e))
grown_owes (n ∷ names) more (a ∷ all) name e = ap (λ (rest : Amounts). if bytes_eq n name then a else rest) (grown_owes names more all name (omega (arith, e)))

pub grown_claims : (names more table : Names) (all : List Amounts) → length names ≡ length all → claims_of (names ++ more) (all ++ replicate (length more) nothing) table ≡ claims_of names all table
grown_claims names more [] all e = refl
grown_claims names more (t ∷ table) all e =
    ap (λ (a : Amounts). a.claims ∷ claims_of (names ++ more) (all ++ replicate (length more) nothing) table) (grown_owes names more all t e)
    ∙ ap (λ (rest : List ℕ). (amounts_of names all t).claims ∷ rest) (grown_claims names more table all e)

pub grown_dues : (names more table : Names) (all : List Amounts) → length names ≡ length all → dues_of (names ++ more) (all ++ replicate (length more) nothing) table ≡ dues_of names all table
grown_dues names more [] all e = refl
grown_dues names more (t ∷ table) all e =
    ap (λ (a : Amounts). a.dues ∷ dues_of (names ++ more) (all ++ replicate (length more) nothing) table) (grown_owes names more all t e)
    ∙ ap (λ (rest : List ℕ). (amounts_of names all t).dues ∷ rest) (grown_dues names more table all e)
