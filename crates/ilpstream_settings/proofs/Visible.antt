-- Visible characters are ASCII, and so UTF-8.
use Rattle.std.proofs.Common.{◌≡◌, ℕ, zero, suc, ◌<◌, true, List, [], ◌∷◌, length, arith}
use Rattle.std.specs.Prelude.{nat_le, ◌&&◌}
use Rattle.std.specs.List.{list_all}
use Rattle.std.specs.Str.{IsAscii, is_utf8}
use Rattle.std.proofs.lemmas.Bool.{and_parts}
use Rattle.std.proofs.lemmas.Bool.Decides.{nat_tests}
use Rattle.std.proofs.lemmas.Str.{IsUtf8-from_ascii, is_utf8-from_IsUtf8}
use Rattle.st_http.specs.Texts.{is_field_text}

character_is_ascii : (c : ℕ) → (nat_le 33 c && nat_le c 126) ≡ true → c < 128
character_is_ascii c e =
    let most : nat_le c 126 ≡ true = (and_parts (nat_le 33 c) (nat_le c 126) e).1 in
    grind (arith, nat_tests)

IsAscii-cons : (c : ℕ) (cs : List ℕ) → c < 128 → IsAscii cs → IsAscii (c ∷ cs)
IsAscii-cons c cs h hs zero = h
IsAscii-cons c cs h hs (suc i) = hs i

all_ascii : (text : List ℕ) → list_all (λ b. nat_le 33 b && nat_le b 126) text ≡ true → IsAscii text
all_ascii [] e = λ i. omega arith
all_ascii (c ∷ cs) e =
    let parts = and_parts (nat_le 33 c && nat_le c 126) (list_all (λ b. nat_le 33 b && nat_le b 126) cs) e in
    IsAscii-cons c cs (character_is_ascii c parts.0) (all_ascii cs parts.1)

-- a text that a field may have is UTF-8
pub field_text_is_utf8 : (text : List ℕ) → is_field_text text ≡ true → is_utf8 text ≡ true
field_text_is_utf8 text e =
    let parts = and_parts (nat_le 1 (length text) && nat_le (length text) 255) (list_all (λ b. nat_le 33 b && nat_le b 126) text) e in
    is_utf8-from_IsUtf8 text (IsUtf8-from_ascii text (all_ascii text parts.1))
