-- How many words follow the file of `ledger`.
use Rattle.std.proofs.Common.{◌≡◌, ◌≢◌, ◌==◌, false, Bor, List, [], ◌∷◌, length, map, Some, refl}
use Rattle.std.proofs.lemmas.Bool.{ne_eqb}
use Rattle.std.proofs.lemmas.List.{length-map}
use Rattle.clap.specs.Words.{HasKind, Text}
use Rattle.clap.specs.declared.error.Error.{Error}
use Rattle.clap.specs.declared.error.kind.ErrorKind.TheVariants.{WrongNumberOfValues}
use Rattle.ilpstream_words.specs.Pairs.{count_fault}

pub four_refused : (words : List (Bor Text)) (e : Error) → length words ≡ 4 → HasKind (WrongNumberOfValues ∷ []) e → HasKind (count_fault (Some (map (λ word. word.now) words))) e
four_refused words e four has = rw (length-map words (λ word. word.now), four) has

pub others_taken : (words : List (Bor Text)) → length words ≢ 4 → count_fault (Some (map (λ word. word.now) words)) ≡ []
others_taken words other =
    let no : (length words == 4) ≡ false = ne_eqb (length words) 4 other in
    rw (length-map words (λ word. word.now), no) refl
