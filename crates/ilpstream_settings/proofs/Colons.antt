-- How a text is split at its last colon.
use Rattle.std.proofs.Common.{◌≡◌, ◌≢◌, ℕ, ◌+◌, ◌<◌, zero, suc, List, [], ◌∷◌, ◌++◌, length, take, drop, get_or, true, refl, sym, ap, ap₂, ◌∙◌, ◌-◌, nat_lt, arith, length-append, length-drop, take-append-drop, drop-cons}
use Rattle.std.proofs.lemmas.List.{get_or-drop, take_all}
use Rattle.std.specs.List.{list_all}
use Rattle.std.specs.Char.{is_ascii_digit}
use Rattle.std.proofs.Math.Seq.{get_or-append_seam}
use Rattle.st_http.proofs.Walks.{both}
use Rattle.st_oer.specs.Ratios.{Ratio}
use Rattle.ilpstream_settings.specs.Numbers.{AreTerms, IsHostPort, IsNumber, IsPair, IsRate, LacksColon, most_port, most_term}

-- a text is cut in one way into parts of which the second lacks a colon
pub same_cut : (a b x y : List ℕ) → a ++ 58 ∷ b ≡ x ++ 58 ∷ y → LacksColon b → LacksColon y → (a ≡ x) × (b ≡ y)
same_cut [] b [] y e lb ly = (refl, cc)
same_cut [] b (c ∷ x) y e lb ly =
    let tail : b ≡ x ++ 58 ∷ y = cc in
    absurd (lb (length x) (omega (arith, ap length tail, length-append x (58 ∷ y))) (ap (λ t. get_or t (length x) 0) tail ∙ get_or-append_seam x 58 y 0))
same_cut (c ∷ a) b [] y e lb ly =
    let tail : a ++ 58 ∷ b ≡ y = cc in
    absurd (ly (length a) (omega (arith, ap length tail, length-append a (58 ∷ b))) (ap (λ t. get_or t (length a) 0) (sym tail) ∙ get_or-append_seam a 58 b 0))
same_cut (c ∷ a) b (d ∷ x) y e lb ly =
    let first : c ≡ d = cc in
    let tail : a ++ 58 ∷ b ≡ x ++ 58 ∷ y = cc in
    let rest = same_cut a b x y tail lb ly in
    (cc, rest.1)

digits_lack : (ds : List ℕ) → list_all is_ascii_digit ds ≡ true → LacksColon ds
digits_lack [] all i within is = absurd (omega arith)
digits_lack (d ∷ ds) all zero within is =
    let digit : is_ascii_digit d ≡ true = (both (is_ascii_digit d) (list_all is_ascii_digit ds) all).0 in
    let here : is_ascii_digit 58 ≡ true = rw is at digit in
    absurd (cc)
digits_lack (d ∷ ds) all (suc i) within is = digits_lack ds (both (is_ascii_digit d) (list_all is_ascii_digit ds) all).1 i (omega arith) is

-- a number has no colon
pub number_lacks : (most : ℕ) (text : List ℕ) (n : ℕ) → IsNumber most text n → LacksColon text
number_lacks most text n has = digits_lack text (both (nat_lt 0 (length text)) (list_all is_ascii_digit text) has.digits).1

-- the parts at the place of a colon that is the last one
pub cut_at : (text : List ℕ) (k : ℕ) → k < length text → get_or text k 0 ≡ 58 → ((i : ℕ) → k < i → i < length text → get_or text i 0 ≢ 58)
    → IsPair text (take k text) (drop (k + 1) text) × LacksColon (drop (k + 1) text)
cut_at text k within is last =
    let next : suc k ≡ k + 1 = omega arith in
    let here : drop k text ≡ 58 ∷ drop (k + 1) text = drop-cons text k 0 within ∙ ap₂ (λ (b : ℕ) (bs : List ℕ). b ∷ bs) is (ap (λ n. drop n text) next) in
    let parts : text ≡ take k text ++ 58 ∷ drop (k + 1) text = sym (take-append-drop k text) ∙ ap (λ bs. take k text ++ bs) here in
    (parts, λ i below at. last (k + 1 + i) (omega arith) (omega (arith, length-drop (k + 1) text)) (sym (get_or-drop (k + 1) text i 0) ∙ at))

-- what is left of a text, as a slice to its end
pub rest_of : (text : List ℕ) (n : ℕ) → take (length text - n) (drop n text) ≡ drop n text
rest_of text n = take_all (length text - n) (drop n text) (omega (arith, length-drop n text))

-- a text of two parts has a colon
pub has_colon : (text front back : List ℕ) → IsPair text front back → ¬ (LacksColon text)
has_colon text front back is lacks =
    lacks (length front) (omega (arith, ap length is, length-append front (58 ∷ back))) (ap (λ t. get_or t (length front) 0) is ∙ get_or-append_seam front 58 back 0)

-- the parts round the last colon are those of HOST:PORT
pub host_port_parts : (text host port : List ℕ) → IsPair text host port → LacksColon port → IsHostPort text
    → (0 < length host) × ((n : ℕ) × IsNumber most_port port n)
host_port_parts text host port is lacks has =
    let same = same_cut host port has.host has.port (sym is ∙ has.parts) lacks (number_lacks most_port has.port has.n has.number) in
    (rw same.0 has.named, (has.n, rw same.1 has.number))

-- and those of NUM:DEN
pub rate_parts : (text num den : List ℕ) (r : Ratio) → IsPair text num den → LacksColon den → IsRate text r → AreTerms num den r
rate_parts text num den r is lacks has =
    let same = same_cut num den has.0 has.1 (sym is ∙ has.2) lacks (number_lacks most_term has.1 r.den has.3.den_is) in
    rw (same.0, same.1) has.3
