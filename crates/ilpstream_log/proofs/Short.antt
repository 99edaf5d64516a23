-- A text of a peer has few characters in a line.
use Rattle.std.proofs.Common.{◌≡◌, ℕ, ◌+◌, ◌-◌, ◌<◌, ◌≤◌, ◌==◌, Bool, true, false, cond, List, [], ◌∷◌, ◌++◌, length, length-append, refl, arith}
use Rattle.std.specs.Prelude.{nat_lt, nat_le}
use Rattle.std.proofs.lemmas.Bool.Decides.{nat_tests}
use Rattle.ilpstream_log.specs.Laws.{TextsOfPeersAreShort}
use Rattle.ilpstream_log.specs.Quoting.{is_plain, hex_escape, escaped, all_escaped, needed, fitting, most_quoted, dots, quoted_short}

four : (b : ℕ) → length (escaped b) ≤ 4
unfolding escaped
four b = by_tests (b == 34) (b == 92) (is_plain b)
  where
    by_tests : (quote slash plain : Bool) → length (cond quote (92 ∷ 34 ∷ []) (cond slash (92 ∷ 92 ∷ []) (cond plain (b ∷ []) (hex_escape b)))) ≤ 4
    by_tests true slash plain = omega arith
    by_tests false true plain = omega arith
    by_tests false false true = omega arith
    by_tests false false false = omega arith

enough : (b : ℕ) → length (escaped b) ≤ needed b
enough b = by_tests (nat_lt b 192) (nat_lt b 224) (nat_lt b 240) (four b)
  where
    by_tests : (one two three : Bool) → length (escaped b) ≤ 4 → length (escaped b) ≤ cond one (length (escaped b)) (cond two 8 (cond three 12 16))
    by_tests true two three h = omega arith
    by_tests false true three h = omega (arith, h)
    by_tests false false true h = omega (arith, h)
    by_tests false false false h = omega (arith, h)

fits : (left : ℕ) (text : List ℕ) → length (all_escaped (fitting left text)) ≤ left
fits left [] = omega arith
fits left (b ∷ text) = by_test (nat_le (needed b) left) refl (fits (left - length (escaped b)) text)
  where
    by_test : (t : Bool) → nat_le (needed b) left ≡ t → length (all_escaped (fitting (left - length (escaped b)) text)) ≤ left - length (escaped b)
        → length (all_escaped (cond t (b ∷ fitting (left - length (escaped b)) text) [])) ≤ left
    by_test true e rest =
        let both = length-append (escaped b) (all_escaped (fitting (left - length (escaped b)) text)) in
        let room : needed b ≤ left = grind (arith, nat_tests, e) in
        omega (arith, rest, both, room, enough b)
    by_test false e rest = omega arith

two : (kept text : List ℕ) → length (dots kept text) ≤ 2
two kept text = by_test (nat_lt (length kept) (length text))
  where
    by_test : (t : Bool) → length {A = ℕ} (cond t (46 ∷ 46 ∷ []) []) ≤ 2
    by_test true = omega arith
    by_test false = omega arith

pub short : TextsOfPeersAreShort
unfolding quoted_short
short text =
    let kept = fitting most_quoted text in
    let all = length-append (all_escaped kept) (dots kept text ++ 34 ∷ []) in
    let behind = length-append (dots kept text) (34 ∷ []) in
    omega (arith, all, behind, fits most_quoted text, two kept text)
