-- An address is ASCII, and so UTF-8, and it is short.
use Rattle.std.proofs.Common.{◌≡◌, ℕ, zero, suc, ◌<◌, ◌≤◌, Bool, true, false, List, [], ◌∷◌, length, refl, sym, ◌∙◌, arith}
use Rattle.std.specs.Prelude.{nat_le}
use Rattle.std.proofs.lemmas.Bool.{eqb-true, ne_eqb}
use Rattle.std.proofs.lemmas.Bool.Decides.{nat_tests}
use Rattle.std.proofs.lemmas.Str.{IsUtf8-from_ascii, is_utf8-from_IsUtf8}
use Rattle.std.specs.Str.{IsAscii, is_utf8}
use Rattle.st_oer.specs.Address.{max_address, is_dot, is_segment_character, is_segments, is_address}
use Rattle.st_oer.proofs.Addresses.{goes_on, goes_from_start, goes_past_dot, goes_past_other}
use Rattle.st_ilp.specs.Rules.{is_sender}
use Rattle.st_ilp.proofs.DateFinding.{two_parts}

character_is_ascii : (c : ℕ) → is_segment_character c ≡ true → c < 128
character_is_ascii c e = grind (arith, nat_tests)

dot_is_ascii : (c : ℕ) → is_dot c ≡ true → c < 128
dot_is_ascii c e = omega (arith, eqb-true c 46 e)

IsAscii-cons : (c : ℕ) (cs : List ℕ) → c < 128 → IsAscii cs → IsAscii (c ∷ cs)
IsAscii-cons c cs h hs zero = h
IsAscii-cons c cs h hs (suc i) = hs i

goes_is_ascii : (filled : Bool) (text : List ℕ) → goes_on filled text ≡ true → IsAscii text
goes_is_ascii filled [] e = λ i. omega arith
goes_is_ascii filled (c ∷ cs) e =
    let by : (b : Bool) → is_dot c ≡ b → IsAscii (c ∷ cs) = λ b. elim b as (λ b. is_dot c ≡ b → IsAscii (c ∷ cs)) [
      | true ↦ λ d.
          let p = two_parts filled (goes_on false cs) (sym (goes_past_dot filled (c ∷ cs) 0 (omega arith) (eqb-true c 46 d)) ∙ e) in
          IsAscii-cons c cs (dot_is_ascii c d) (goes_is_ascii false cs p.1)
      | false ↦ λ d.
          let p = two_parts (is_segment_character c) (goes_on true cs) (sym (goes_past_other filled (c ∷ cs) 0 (omega arith) d) ∙ e) in
          IsAscii-cons c cs (character_is_ascii c p.0) (goes_is_ascii true cs p.1)
    ] in
    by (is_dot c) refl

pub address_is_utf8 : (text : List ℕ) → is_address text ≡ true → is_utf8 text ≡ true
unfolding is_address
address_is_utf8 text e =
    let p = two_parts (nat_le (length text) max_address) (is_segments text) e in
    is_utf8-from_IsUtf8 text (IsUtf8-from_ascii text (goes_is_ascii false text (sym (goes_from_start text) ∙ p.1)))

le_is : (a b : ℕ) → nat_le a b ≡ true → a ≤ b
le_is a b e = grind (arith, nat_tests)

pub address_is_short : (text : List ℕ) → is_address text ≡ true → length text ≤ 1023
unfolding is_address
address_is_short text e =
    let p = two_parts (nat_le (length text) max_address) (is_segments text) e in
    le_is (length text) max_address p.0

-- what is not UTF-8 is not an address
pub no_utf8_no_address : (text : List ℕ) → is_utf8 text ≡ false → is_address text ≡ false
no_utf8_no_address text bad =
    let by : (b : Bool) → is_address text ≡ b → b ≡ false = λ b. elim b as (λ b. is_address text ≡ b → b ≡ false) [
      | true ↦ λ e. sym (address_is_utf8 text e) ∙ bad
      | false ↦ λ e. refl
    ] in
    by (is_address text) refl

sender_is_address : (c : ℕ) (cs : List ℕ) → is_sender (c ∷ cs) ≡ is_address (c ∷ cs)
sender_is_address c cs = rw (ne_eqb (suc (length cs)) 0 (omega arith)) refl

-- nor the sender of a Reject
pub no_utf8_no_sender : (text : List ℕ) → is_utf8 text ≡ false → is_sender text ≡ false
no_utf8_no_sender [] bad = let other = sym (is_utf8-from_IsUtf8 [] (IsUtf8-from_ascii [] (λ i. omega arith))) ∙ bad in absurd cc
no_utf8_no_sender (c ∷ cs) bad = sender_is_address c cs ∙ no_utf8_no_address (c ∷ cs) bad

pub sender_is_short : (text : List ℕ) → is_sender text ≡ true → length text ≤ 1023
sender_is_short [] e = omega arith
sender_is_short (c ∷ cs) e = address_is_short (c ∷ cs) (sym (sender_is_address c cs) ∙ e)

pub ruleset texts = (no_utf8_no_address, no_utf8_no_sender)
