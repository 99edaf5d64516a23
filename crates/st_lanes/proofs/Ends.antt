-- The padding of a text after whole blocks, and the blocks that both fill.
use Rattle.std.proofs.Common.{◌≡◌, ℕ, ◌+◌, ◌-◌, ◌*◌, ◌/◌, ◌%◌, ◌^◌, ◌<◌, ◌≤◌, List, [], ◌∷◌, ◌++◌, length, take, drop, replicate, refl, sym, ap, ◌∙◌, arith, length-append, length-drop}
use Rattle.std.proofs.lemmas.List.{append_assoc, drop-append-le, drop-drop, drop-replicate, drop-take, drop_at, length-replicate, replicate-append-replicate, take-append-le, take-take, take_at}
use Rattle.std.specs.Int.{w64, to_be_bytes}
use Rattle.sha2.specs.Sha256.{padding}
use Rattle.st_lanes.specs.Padded.{block_behind, count_behind, end_behind, padded_behind}

-- the zeros between the bit and the length
abbrev zeros : ℕ → ℕ
zeros n = (119 - n % 64) % 64

length-padding : (n : ℕ) → length (padding n) ≡ 9 + zeros n
length-padding n =
    let bits : length (to_be_bytes w64 (n * 8 % 2 ^ 64)) ≡ 8 = refl in
    omega (arith, bits, length-append (replicate (zeros n) 0) (to_be_bytes w64 (n * 8 % 2 ^ 64)), length-replicate {A = ℕ} (zeros n) 0)

pub length-padded : (n : ℕ) (text : List ℕ) → length (padded_behind n text) ≡ length text + 9 + zeros (n + length text)
length-padded n text = omega (arith, length-append text (padding (n + length text)), length-padding (n + length text))

zeros_behind : (n k : ℕ) → n % 64 ≡ 0 → zeros (n + k) ≡ (119 - k % 64) % 64
zeros_behind n k whole =
    let same : (n + k) % 64 ≡ k % 64 = omega arith in
    ap (λ (x : ℕ). (119 - x) % 64) same

-- the padding ends within two blocks after those of the text alone
pub few_behind : (n : ℕ) (text : List ℕ) → n % 64 ≡ 0 → count_behind n text ≤ length text / 64 + 2
few_behind n text whole = omega (arith, length-padded n text, zeros_behind n (length text) whole)

pub some_behind : (n : ℕ) (text : List ℕ) → n % 64 ≡ 0 → 0 < count_behind n text
some_behind n text whole = omega (arith, length-padded n text, zeros_behind n (length text) whole)

-- a block of the text alone
pub block_of_text : (n : ℕ) (text : List ℕ) (i : ℕ) → i < length text / 64 → take 64 (drop (i * 64) text) ≡ block_behind n text i
block_of_text n text i few =
    let p : List ℕ = padding (n + length text) in
    sym (ap (λ (x : List ℕ). take 64 x) (drop-append-le (i * 64) text p (omega arith))
    ∙ take-append-le 64 (drop (i * 64) text) p (omega (arith, length-drop (i * 64) text)))

-- a block after those of the text alone
pub block_of_end : (n : ℕ) (text e : List ℕ) (i : ℕ) → length text / 64 ≤ i → i < count_behind n text
    → take (length (end_behind n text)) e ≡ end_behind n text → take 64 (drop ((i - length text / 64) * 64) e) ≡ block_behind n text i
block_of_end n text e i far few filled =
    let p : List ℕ = padded_behind n text in
    let w : ℕ = length text / 64 * 64 in
    let k : ℕ = (i - length text / 64) * 64 in
    let m : ℕ = length (end_behind n text) - k in
    let long : length (end_behind n text) ≡ length p - w = length-drop w p in
    let whole : length p ≡ length text + length (padding (n + length text)) = length-append text (padding (n + length text)) in
    let split : k + m ≡ length (end_behind n text) = omega arith in
    let cut : take 64 (drop k (take (k + m) e)) ≡ take 64 (drop k e) = ap (λ (x : List ℕ). take 64 x) (drop-take k m e) ∙ take-take 64 m (drop k e) (omega arith) in
    let at : w + k ≡ i * 64 = omega arith in
    sym cut ∙ ap (λ (x : ℕ). take 64 (drop k (take x e))) split ∙ ap (λ (x : List ℕ). take 64 (drop k x)) filled
    ∙ ap (λ (x : List ℕ). take 64 x) (drop-drop k w p) ∙ ap (λ (x : ℕ). take 64 (drop x p)) at

-- three writes over zeros: the rest of a text, the bit, and the length at the end of the last block
filled : (rest bits b1 b2 b3 : List ℕ) (e z : ℕ) → length rest < 64 → length bits ≡ 8 → e ≡ length rest + 9 + z → e ≤ 128
    → b1 ≡ rest ++ drop (length rest) (replicate 128 0) → b2 ≡ take (length rest) b1 ++ (0x80 ∷ drop (length rest + 1) b1)
    → b3 ≡ take (e - 8) b2 ++ (bits ++ drop e b2) → take e b3 ≡ rest ++ (0x80 ∷ (replicate z 0 ++ bits))
filled rest bits b1 b2 b3 e z short long at fits e1 e2 e3 =
    let r : ℕ = length rest in
    let front : List ℕ = rest ++ (0x80 ∷ replicate z 0) in
    let left : ℕ = 127 - r - z in
    let begins : take r b1 ≡ rest = ap (λ (x : List ℕ). take r x) e1 ∙ take_at rest (drop r (replicate 128 0)) r refl in
    let behind : drop r b1 ≡ replicate (128 - r) 0 = ap (λ (x : List ℕ). drop r x) e1 ∙ drop_at rest (drop r (replicate 128 0)) r refl ∙ drop-replicate r 128 0 in
    let after : drop (r + 1) b1 ≡ replicate (128 - r - 1) 0 = sym (drop-drop 1 r b1) ∙ ap (λ (x : List ℕ). drop 1 x) behind ∙ drop-replicate 1 (128 - r) 0 in
    let count : 128 - r - 1 ≡ z + left = omega arith in
    let same : replicate (128 - r - 1) 0 ≡ replicate (z + left) 0 = ap (λ (x : ℕ). replicate {A = ℕ} x 0) count in
    let apart : replicate (z + left) 0 ≡ replicate z 0 ++ replicate left 0 = sym (replicate-append-replicate {A = ℕ} z left 0) in
    let both : drop (r + 1) b1 ≡ replicate z 0 ++ replicate left 0 = after ∙ same ∙ apart in
    let parts : take r b1 ++ (0x80 ∷ drop (r + 1) b1) ≡ rest ++ (0x80 ∷ (replicate z 0 ++ replicate left 0)) = λ i. begins i ++ (0x80 ∷ both i) in
    let glued : rest ++ (0x80 ∷ (replicate z 0 ++ replicate left 0)) ≡ front ++ replicate left 0 = sym (append_assoc rest (0x80 ∷ replicate z 0) (replicate left 0)) in
    let two : b2 ≡ front ++ replicate left 0 = e2 ∙ parts ∙ glued in
    let long_front : length front ≡ e - 8 = omega (arith, length-append rest (0x80 ∷ replicate z 0), length-replicate {A = ℕ} z 0) in
    let head : take (e - 8) b2 ≡ front = ap (λ (x : List ℕ). take (e - 8) x) two ∙ take_at front (replicate left 0) (e - 8) long_front in
    let three : b3 ≡ (front ++ bits) ++ drop e b2 = e3 ∙ ap (λ (x : List ℕ). x ++ (bits ++ drop e b2)) head ∙ sym (append_assoc front bits (drop e b2)) in
    ap (λ (x : List ℕ). take e x) three ∙ take_at (front ++ bits) (drop e b2) e (omega (arith, length-append front bits)) ∙ append_assoc rest (0x80 ∷ replicate z 0) bits

-- that is what is left of the padded text
pub end_filled : (n v a d e : ℕ) (text rest bits b1 b2 b3 : List ℕ) → n % 64 ≡ 0 → rest ≡ drop (length text / 64 * 64) text
    → bits ≡ to_be_bytes w64 v → v ≡ (n + length text) * 8 % 2 ^ 64
    → a ≡ length text % 64 → e ≡ length text % 64 + 9 + (119 - length text % 64) % 64 → d ≡ e - 8
    → b1 ≡ take 0 (replicate 128 0) ++ (rest ++ drop (0 + length rest) (replicate 128 0))
    → b2 ≡ take a b1 ++ ((0x80 ∷ []) ++ drop (a + 1) b1)
    → b3 ≡ take d b2 ++ (bits ++ drop (d + length bits) b2)
    → take (length (end_behind n text)) b3 ≡ end_behind n text
end_filled n v a d e text rest bits b1 b2 b3 whole er eb ev ea ee ed e1 e2 e3 =
    let w : ℕ = length text / 64 * 64 in
    let z : ℕ = zeros (n + length text) in
    let zero : z ≡ (119 - length text % 64) % 64 = zeros_behind n (length text) whole in
    let lr : length rest ≡ length text % 64 = ap length er ∙ length-drop w text ∙ omega arith in
    let lb : length bits ≡ 8 = ap length eb in
    let long : length (end_behind n text) ≡ e = length-drop w (padded_behind n text) ∙ omega (arith, length-padded n text) in
    let at : a ≡ length rest = omega arith in
    let over : d + length bits ≡ e = omega arith in
    let two : b2 ≡ take (length rest) b1 ++ (0x80 ∷ drop (length rest + 1) b1) = e2 ∙ ap (λ (x : ℕ). take x b1 ++ (0x80 ∷ drop (x + 1) b1)) at in
    let three : b3 ≡ take (e - 8) b2 ++ (bits ++ drop e b2) = e3 ∙ (λ i. take (ed i) b2 ++ (bits ++ drop (over i) b2)) in
    let none : 0 + length rest ≡ length rest = omega arith in
    let one : b1 ≡ rest ++ drop (length rest) (replicate 128 0) = e1 ∙ ap (λ (x : ℕ). rest ++ drop x (replicate 128 0)) none in
    let made = filled rest bits b1 b2 b3 e z (omega arith) lb (omega arith) (omega arith) one two three in
    let tail : end_behind n text ≡ rest ++ (0x80 ∷ (replicate z 0 ++ bits)) = drop-append-le w text (padding (n + length text)) (omega arith)
    ∙ ap (λ (x : List ℕ). x ++ padding (n + length text)) (sym er)
    ∙ ap (λ (y : List ℕ). rest ++ (0x80 ∷ (replicate z 0 ++ y))) (ap (λ (x : ℕ). to_be_bytes w64 x) (sym ev) ∙ sym eb) in
    ap (λ (x : ℕ). take x b3) long ∙ made ∙ sym tail
