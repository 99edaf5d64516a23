-- Addresses: a byte more of a text, and a prefix taken off one.
use Rattle.std.proofs.Common.{◌≡◌, ℕ, suc, ◌+◌, ◌<◌, ◌≤◌, Bool, true, false, ◌&&◌, ◌||◌, nat_eq, nat_lt, List, [], ◌∷◌, ◌++◌, length, take, drop, refl, sym, ap, ◌∙◌, arith, inl, inr}
use Rattle.std.proofs.lemmas.Bool.{lt-ltb, eq-eqb, ne_eqb, cases_eq, and_cases, and_left, and_right, or_parts, or_from}
use Rattle.std.proofs.lemmas.Slice.Eq.{bytes_eq-Decides}
use Rattle.std.specs.Prelude.{slice_index}
use Rattle.std.specs.List.{list_all, slice_split, onto_first}
use Rattle.std.specs.Str.{bytes_eq}
use Rattle.std.proofs.lemmas.List.{drop_all, drop_more, take-append-drop}
use Rattle.st_oer.specs.Address.{dot, is_dot, is_segment, is_segment_character, is_segments, is_within}

-- the parts of the rest of a text, if the segment in front of it has a character already or has none
abbrev parts_go_on : Bool → List (List ℕ) → Bool
parts_go_on filled [] = true
parts_go_on filled (part ∷ parts) = (filled || nat_lt 0 (length part)) && (list_all is_segment_character part && list_all is_segment parts)

unfoldable pub goes_on : Bool → List ℕ → Bool
goes_on filled text = parts_go_on filled (slice_split is_dot text)

and_three : (a b c : Bool) → (a && (b && c)) ≡ ((a && b) && c)
and_three true b c = refl
and_three false b c = refl

parts_from_start : (parts : List (List ℕ)) → list_all is_segment parts ≡ parts_go_on false parts
parts_from_start [] = refl
parts_from_start (part ∷ parts) = sym (and_three (nat_lt 0 (length part)) (list_all is_segment_character part) (list_all is_segment parts))

pub goes_from_start : (text : List ℕ) → is_segments text ≡ goes_on false text
unfolding goes_on
goes_from_start text = parts_from_start (slice_split is_dot text)

at_end : (filled : Bool) → parts_go_on filled (slice_split is_dot []) ≡ filled
at_end true = refl
at_end false = refl

pub goes_to_end : (filled : Bool) (text : List ℕ) (i : ℕ) → length text ≤ i → goes_on filled (drop i text) ≡ filled
unfolding goes_on
goes_to_end filled text i le = rw (drop_all i text le) (at_end filled)

after_dot : (filled : Bool) (parts : List (List ℕ)) → parts_go_on filled ([] ∷ parts) ≡ (filled && parts_go_on false parts)
after_dot true parts = parts_from_start parts
after_dot false parts = refl

after_other : (filled : Bool) (c : ℕ) (parts : List (List ℕ)) → parts_go_on filled (onto_first c parts) ≡ (is_segment_character c && parts_go_on true parts)
after_other true c [] = sym (and_three (is_segment_character c) true true)
after_other false c [] = sym (and_three (is_segment_character c) true true)
after_other true c (part ∷ parts) = sym (and_three (is_segment_character c) (list_all is_segment_character part) (list_all is_segment parts))
after_other false c (part ∷ parts) = rw (lt-ltb 0 (suc (length part)) (omega arith)) (sym (and_three (is_segment_character c) (list_all is_segment_character part) (list_all is_segment parts)))

-- a dot ends a segment, which then may not be empty
pub goes_past_dot : (filled : Bool) (text : List ℕ) (i : ℕ) → i < length text → slice_index text i ≡ dot → goes_on filled (drop i text) ≡ (filled && goes_on false (drop (i + 1) text))
unfolding goes_on
goes_past_dot filled text i lt e = rw (drop_more text i 0 lt, e) (after_dot filled (slice_split is_dot (drop (i + 1) text)))

pub goes_past_other : (filled : Bool) (text : List ℕ) (i : ℕ) → i < length text → is_dot (slice_index text i) ≡ false
    → goes_on filled (drop i text) ≡ (is_segment_character (slice_index text i) && goes_on true (drop (i + 1) text))
unfolding goes_on
goes_past_other filled text i lt e = rw (drop_more text i 0 lt, e) (after_other filled (slice_index text i) (slice_split is_dot (drop (i + 1) text)))

pub goes_no_further : (filled : Bool) (text : List ℕ) (i : ℕ) → i < length text → is_dot (slice_index text i) ≡ false → is_segment_character (slice_index text i) ≡ false → goes_on filled (drop i text) ≡ false
goes_no_further filled text i lt e other = goes_past_other filled text i lt e ∙ and_left (is_segment_character (slice_index text i)) _ other

-- the rest of an address after its prefix
abbrev is_below : List ℕ → Bool
is_below [] = true
is_below (c ∷ rest) = nat_eq c dot

alone : (b : Bool) → (b && true) ≡ b
alone true = refl
alone false = refl

eqb_symmetric : (a b : ℕ) → nat_eq a b ≡ nat_eq b a
eqb_symmetric a b = elim (cases_eq a b) [ inl same ↦ rw (eq-eqb a b same, eq-eqb b a (sym same)) refl | inr other ↦ rw (ne_eqb a b other, ne_eqb b a (λ e. other (sym e))) refl ]

begins : (prefix rest : List ℕ) → is_within prefix (prefix ++ rest) ≡ is_below rest
unfolding is_within
begins [] [] = refl
begins [] (c ∷ rest) = alone (nat_eq dot c) ∙ eqb_symmetric dot c
begins (p ∷ prefix) rest = rw (eq-eqb p p refl) (begins prefix rest)

-- an address that begins with the prefix
joined : (prefix address : List ℕ) → bytes_eq (take (length prefix) address) prefix ≡ true → prefix ++ drop (length prefix) address ≡ address
joined prefix address same = ap (λ (x : List ℕ). x ++ drop (length prefix) address) (sym ((bytes_eq-Decides _ _).0 same)) ∙ take-append-drop (length prefix) address

below_is : (prefix address : List ℕ) → bytes_eq (take (length prefix) address) prefix ≡ true → is_within prefix address ≡ is_below (drop (length prefix) address)
below_is prefix address same = ap (is_within prefix) (sym (joined prefix address same)) ∙ begins prefix (drop (length prefix) address)

is_below_end : (rest : List ℕ) → length rest ≡ 0 → is_below rest ≡ true
is_below_end [] e = refl
is_below_end (c ∷ rest) e = absurd (omega arith)

is_below_first : (rest : List ℕ) → 0 < length rest → is_below rest ≡ nat_eq (slice_index rest 0) dot
is_below_first [] some = absurd (omega arith)
is_below_first (c ∷ rest) some = refl

pub within_end : (prefix address : List ℕ) → bytes_eq (take (length prefix) address) prefix ≡ true → length (drop (length prefix) address) ≡ 0 → is_within prefix address ≡ true
within_end prefix address same e = below_is prefix address same ∙ is_below_end (drop (length prefix) address) e

pub within_dot : (prefix address : List ℕ) → bytes_eq (take (length prefix) address) prefix ≡ true → 0 < length (drop (length prefix) address)
    → is_within prefix address ≡ nat_eq (slice_index (drop (length prefix) address) 0) dot
within_dot prefix address same some = below_is prefix address same ∙ is_below_first (drop (length prefix) address) some

pub within_not : (prefix address : List ℕ) → bytes_eq (take (length prefix) address) prefix ≡ false → is_within prefix address ≡ false
unfolding is_within
within_not [] address e = absurd cc
within_not (p ∷ prefix) [] e = refl
within_not (p ∷ prefix) (c ∷ address) e =
    elim (and_cases (nat_eq c p) (bytes_eq (take (length prefix) address) prefix) e) [
      | inl other ↦ let turned : nat_eq p c ≡ false = eqb_symmetric p c ∙ other in rw (other, turned) refl
      | inr more ↦ let h = or_parts _ _ (within_not prefix address more) in or_from _ _ (and_right (nat_eq c p) _ h.0) (and_right (nat_eq p c) _ h.1)
    ]

pub ruleset addresses = (goes_from_start, goes_to_end, goes_past_dot, goes_past_other, goes_no_further)

pub ruleset prefixes = (within_end, within_dot, within_not)
