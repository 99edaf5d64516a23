-- The steps of the cipher on planes.
use Rattle.std.proofs.Common.{◌≡◌, ℕ, ◌+◌, ◌*◌, ◌/◌, ◌%◌, ◌<◌, ◌≤◌, List, [], ◌∷◌, length, get_or, slice_index, map, bit_xor, refl, sym, ap, ◌∙◌, arith}
use Rattle.std.specs.Int.{bit_at}
use Rattle.std.specs.List.{range_with_len}
use Rattle.std.specs.Int.Bits.{xor_assoc}
use Rattle.std.proofs.lemmas.Nat.{xor_comm, xor_lt}
use Rattle.std.proofs.lemmas.Simd.{map-map, length-chunk, get_or-chunk}
use Rattle.std.specs.Simd.Lanes.{chunk}
use Rattle.std.proofs.lemmas.List.FromFn.{get_or-map-range_with_len, fill_by_all}
use Rattle.st_aes.proofs.Tables.{at_list_of, spelled_out}
use Rattle.st_aes.proofs.Rounds.{list_same}
use Rattle.st_aes.proofs.Bits.{bit_small, bit_at_sum, below_eight}
use Rattle.st_aes.specs.ByteField.{times, times_x, inverse}
use Rattle.st_aes.specs.Cipher.{list_of, add, affine, sub_byte, sub_bytes, shift_rows, cell, mixed, mix_columns}
use Rattle.st_aes.specs.Planes.{bit, plane, bits, value, bits_of, byte_at, state_at, vectors_at, half, row_turned, column_turned}
use Rattle.st_aes.specs.SBox.{factors, quarter, quarter_inverse, products, sums, sub_bits}

-- ---- bytes and their bits

pub same_bits : (a b c d e f g h p q r s t u v w : ℕ) → a ≡ p → b ≡ q → c ≡ r → d ≡ s → e ≡ t → f ≡ u → g ≡ v → h ≡ w
    → a ∷ b ∷ c ∷ d ∷ e ∷ f ∷ g ∷ h ∷ [] ≡ p ∷ q ∷ r ∷ s ∷ t ∷ u ∷ v ∷ w ∷ []
same_bits a b c d e f g h p q r s t u v w e0 e1 e2 e3 e4 e5 e6 e7 = cc

bits_of_value : (a b c d e f g h : ℕ) → a < 2 → b < 2 → c < 2 → d < 2 → e < 2 → f < 2 → g < 2 → h < 2
    → bits_of (value (a ∷ b ∷ c ∷ d ∷ e ∷ f ∷ g ∷ h ∷ [])) ≡ a ∷ b ∷ c ∷ d ∷ e ∷ f ∷ g ∷ h ∷ []
unfolding bits_of
bits_of_value a b c d e f g h l0 l1 l2 l3 l4 l5 l6 l7 = same_bits _ _ _ _ _ _ _ _ a b c d e f g h (omega arith) (omega arith) (omega arith) (omega arith) (omega arith) (omega arith) (omega arith) (omega arith)

bits_value : (v : ℕ) → v < 256 → value (bit_at v 0 ∷ bit_at v 1 ∷ bit_at v 2 ∷ bit_at v 3 ∷ bit_at v 4 ∷ bit_at v 5 ∷ bit_at v 6 ∷ bit_at v 7 ∷ []) ≡ v
bits_value v lt = omega arith

pub value_of_bits : (v : ℕ) → v < 256 → value (bits_of v) ≡ v
unfolding bits_of
value_of_bits v lt = bits_value v lt

-- the bits at one place are those of the byte there
pub bits_are : (q : List (List ℕ)) (l j : ℕ) → bits_of (byte_at q l j) ≡ bits 8 q l j
unfolding byte_at
bits_are q l j =
    bits_of_value (bit (plane q 0) l j) (bit (plane q 1) l j) (bit (plane q 2) l j) (bit (plane q 3) l j) (bit (plane q 4) l j) (bit (plane q 5) l j) (bit (plane q 6) l j) (bit (plane q 7) l j)
    (bit_small (plane q 0) l j) (bit_small (plane q 1) l j) (bit_small (plane q 2) l j) (bit_small (plane q 3) l j) (bit_small (plane q 4) l j) (bit_small (plane q 5) l j) (bit_small (plane q 6) l j) (bit_small (plane q 7) l j)

value_small : (a b c d e f g h : ℕ) → a < 2 → b < 2 → c < 2 → d < 2 → e < 2 → f < 2 → g < 2 → h < 2 → value (a ∷ b ∷ c ∷ d ∷ e ∷ f ∷ g ∷ h ∷ []) < 256
value_small a b c d e f g h l0 l1 l2 l3 l4 l5 l6 l7 = omega arith

pub byte_small : (q : List (List ℕ)) (l j : ℕ) → byte_at q l j < 256
unfolding byte_at
byte_small q l j =
    value_small (bit (plane q 0) l j) (bit (plane q 1) l j) (bit (plane q 2) l j) (bit (plane q 3) l j) (bit (plane q 4) l j) (bit (plane q 5) l j) (bit (plane q 6) l j) (bit (plane q 7) l j)
    (bit_small (plane q 0) l j) (bit_small (plane q 1) l j) (bit_small (plane q 2) l j) (bit_small (plane q 3) l j) (bit_small (plane q 4) l j) (bit_small (plane q 5) l j) (bit_small (plane q 6) l j) (bit_small (plane q 7) l j)

-- ---- SubBytes: the gates at each byte

gates : list_of 256 (λ v. value (sub_bits (bits_of v))) ≡ list_of 256 sub_byte
unfolding bits_of sub_bits factors quarter quarter_inverse products sums sub_byte affine inverse times times_x
gates = refl

pub substitute_is : (v : ℕ) → v < 256 → value (sub_bits (bits_of v)) ≡ sub_byte v
substitute_is v lt =
    let f : ℕ → ℕ = λ v. value (sub_bits (bits_of v)) in
    sym (at_list_of 256 f (list_of 256 f) v refl lt) ∙ at_list_of 256 sub_byte (list_of 256 f) v gates lt

byte_substituted : (q r : List (List ℕ)) (l j : ℕ) → bits 8 r l j ≡ sub_bits (bits 8 q l j) → byte_at r l j ≡ sub_byte (byte_at q l j)
unfolding byte_at
byte_substituted q r l j is =
    let v = byte_at q l j in
    ap value is ∙ ap (λ (b : List ℕ). value (sub_bits b)) (sym (bits_are q l j)) ∙ substitute_is v (byte_small q l j)

pub substituted_is : (n : ℕ) (q r : List (List ℕ)) (g j : ℕ) → 16 * g + 16 ≤ n → ((l : ℕ) → l < n → bits 8 r l j ≡ sub_bits (bits 8 q l j)) → state_at r g j ≡ sub_bytes (state_at q g j)
unfolding state_at
substituted_is n q r g j room is =
    list_same 16 (λ p. byte_at r (16 * g + p) j) (λ p. sub_byte (byte_at q (16 * g + p) j)) (λ p lt. byte_substituted q r (16 * g + p) j (is (16 * g + p) (omega arith)))
    ∙ sym (map-map sub_byte (λ p. byte_at q (16 * g + p) j) (range_with_len 0 16))

-- ---- ShiftRows

pub shifted_is : (n : ℕ) (q r : List (List ℕ)) (g j : ℕ) → 16 * g + 16 ≤ n → ((l : ℕ) → l < n → bits 8 r l j ≡ bits 8 q (row_turned l) j) → state_at r g j ≡ shift_rows (state_at q g j)
unfolding state_at shift_rows byte_at
shifted_is n q r g j room is =
    let f = λ (p : ℕ). byte_at q (16 * g + p) j in
    list_same 16 (λ p. byte_at r (16 * g + p) j) (λ i. cell (list_of 16 f) (i % 4) (i / 4 + i % 4)) (λ p lt.
    let place : row_turned (16 * g + p) ≡ 16 * g + (p % 4 % 4 + 4 * ((p / 4 + p % 4) % 4)) = omega arith in
    ap value (is (16 * g + p) (omega arith)) ∙ ap (λ (l : ℕ). byte_at q l j) place
    ∙ sym (at_list_of 16 f (list_of 16 f) (p % 4 % 4 + 4 * ((p / 4 + p % 4) % 4)) refl (omega arith)))

-- ---- sums

unfoldable pub xors : List ℕ → List ℕ → List ℕ
xors (a ∷ t) (b ∷ bs) = bit_xor a b ∷ xors t bs
xors [] bs = []
xors (a ∷ t) [] = []

bits_of_sum : (m n : ℕ) → bits_of (bit_xor m n) ≡ xors (bits_of m) (bits_of n)
unfolding bits_of xors
bits_of_sum m n = same_bits _ _ _ _ _ _ _ _ _ _ _ _ _ _ _ _ (bit_at_sum m n 0) (bit_at_sum m n 1) (bit_at_sum m n 2) (bit_at_sum m n 3) (bit_at_sum m n 4) (bit_at_sum m n 5) (bit_at_sum m n 6) (bit_at_sum m n 7)

pub value_of_sum : (m n : ℕ) → m < 256 → n < 256 → value (xors (bits_of m) (bits_of n)) ≡ bit_xor m n
value_of_sum m n p q = ap value (sym (bits_of_sum m n)) ∙ value_of_bits (bit_xor m n) (xor_lt 8 m n p q)

byte_added : (q k r : List (List ℕ)) (l j : ℕ) → bits 8 r l j ≡ xors (bits 8 q l j) (bits 8 k l j) → byte_at r l j ≡ bit_xor (byte_at q l j) (byte_at k l j)
unfolding byte_at
byte_added q k r l j is =
    ap value (is ∙ (cc (bits_are q l j, bits_are k l j)))
    ∙ value_of_sum (byte_at q l j) (byte_at k l j) (byte_small q l j) (byte_small k l j)

pub added_is : (n : ℕ) (q k r : List (List ℕ)) (g j : ℕ) → 16 * g + 16 ≤ n → ((l : ℕ) → l < n → bits 8 r l j ≡ xors (bits 8 q l j) (bits 8 k l j)) → state_at r g j ≡ add (state_at q g j) (state_at k g j)
unfolding state_at add
added_is n q k r g j room is =
    list_same 16 (λ p. byte_at r (16 * g + p) j) (λ p. bit_xor (byte_at q (16 * g + p) j) (byte_at k (16 * g + p) j)) (λ p lt. byte_added q k r (16 * g + p) j (is (16 * g + p) (omega arith)))

-- ---- MixColumns

-- a byte times x and times x + 1, on its bits
doubled : List ℕ → List ℕ
doubled a =
    let b = λ (i : ℕ). slice_index a i in
    b 7 ∷ bit_xor (b 0) (b 7) ∷ b 1 ∷ bit_xor (b 2) (b 7) ∷ bit_xor (b 3) (b 7) ∷ b 4 ∷ b 5 ∷ b 6 ∷ []

tripled : List ℕ → List ℕ
tripled a =
    let b = λ (i : ℕ). slice_index a i in
    bit_xor (b 0) (b 7) ∷ bit_xor (b 1) (bit_xor (b 0) (b 7)) ∷ bit_xor (b 2) (b 1) ∷ bit_xor (b 3) (bit_xor (b 2) (b 7)) ∷ bit_xor (b 4) (bit_xor (b 3) (b 7)) ∷ bit_xor (b 5) (b 4) ∷ bit_xor (b 6) (b 5) ∷ bit_xor (b 7) (b 6) ∷ []

-- what the gates give, with the byte itself and the three below it
unfoldable pub mix_bits : List ℕ → List ℕ → List ℕ → List ℕ → List ℕ
mix_bits a r s t =
    let w = λ (i : ℕ). bit_xor (slice_index a i) (slice_index r i) in
    let u = λ (i : ℕ). bit_xor (slice_index r i) (bit_xor (slice_index s i) (slice_index t i)) in
    bit_xor (u 0) (w 7) ∷ bit_xor (u 1) (bit_xor (w 0) (w 7)) ∷ bit_xor (u 2) (w 1) ∷ bit_xor (u 3) (bit_xor (w 2) (w 7)) ∷ bit_xor (u 4) (bit_xor (w 3) (w 7)) ∷ bit_xor (u 5) (w 4) ∷ bit_xor (u 6) (w 5) ∷ bit_xor (u 7) (w 6) ∷ []

lists_at : (f g : ℕ → List ℕ) (v : ℕ) → map f (range_with_len 0 256) ≡ map g (range_with_len 0 256) → v < 256 → f v ≡ g v
lists_at f g v same lt =
    sym (get_or-map-range_with_len f 0 256 v v [] lt (omega arith)) ∙ ap (λ (t : List (List ℕ)). get_or t v []) same ∙ get_or-map-range_with_len g 0 256 v v [] lt (omega arith)

twice_table : map (λ v. doubled (bits_of v)) (range_with_len 0 256) ≡ map (λ v. bits_of (times v 2)) (range_with_len 0 256)
unfolding times times_x bits_of doubled
twice_table = refl

twice : (v : ℕ) → v < 256 → doubled (bits_of v) ≡ bits_of (times v 2)
twice v lt = lists_at (λ v. doubled (bits_of v)) (λ v. bits_of (times v 2)) v twice_table lt

thrice_table : map (λ v. tripled (bits_of v)) (range_with_len 0 256) ≡ map (λ v. bits_of (times v 3)) (range_with_len 0 256)
unfolding times times_x bits_of tripled
thrice_table = refl

thrice : (v : ℕ) → v < 256 → tripled (bits_of v) ≡ bits_of (times v 3)
thrice v lt = lists_at (λ v. tripled (bits_of v)) (λ v. bits_of (times v 3)) v thrice_table lt

numbers_at : (f g : ℕ → ℕ) (v : ℕ) → list_of 256 f ≡ list_of 256 g → v < 256 → f v ≡ g v
numbers_at f g v same lt = sym (at_list_of 256 f (list_of 256 f) v refl lt) ∙ at_list_of 256 g (list_of 256 f) v same lt

small_table : list_of 256 (λ v. times v 2) ≡ list_of 256 (λ v. times v 2 % 256)
unfolding times times_x
small_table = refl

small_table_3 : list_of 256 (λ v. times v 3) ≡ list_of 256 (λ v. times v 3 % 256)
unfolding times times_x
small_table_3 = refl

once_table : list_of 256 (λ v. times v 1) ≡ list_of 256 (λ v. v)
unfolding times times_x
once_table = refl

xor_swap : (a b c d : ℕ) → bit_xor (bit_xor a b) (bit_xor c d) ≡ bit_xor (bit_xor a c) (bit_xor b d)
xor_swap a b c d =
    xor_assoc a b (bit_xor c d) ∙ ap (bit_xor a) (sym (xor_assoc b c d) ∙ ap (λ (n : ℕ). bit_xor n d) (xor_comm b c) ∙ xor_assoc c b d) ∙ sym (xor_assoc a c (bit_xor b d))

mix_one : (r s t a b : ℕ) → bit_xor (bit_xor r (bit_xor s t)) (bit_xor a b) ≡ bit_xor (bit_xor (bit_xor a (bit_xor r b)) s) t
mix_one r s t a b =
    xor_comm (bit_xor r (bit_xor s t)) (bit_xor a b) ∙ xor_assoc a b (bit_xor r (bit_xor s t))
    ∙ ap (bit_xor a) (sym (xor_assoc b r (bit_xor s t)) ∙ ap (λ (n : ℕ). bit_xor n (bit_xor s t)) (xor_comm b r))
    ∙ sym (xor_assoc a (bit_xor r b) (bit_xor s t)) ∙ sym (xor_assoc (bit_xor a (bit_xor r b)) s t)

mix_two : (r s t a b c d : ℕ) → bit_xor (bit_xor r (bit_xor s t)) (bit_xor (bit_xor a b) (bit_xor c d)) ≡ bit_xor (bit_xor (bit_xor (bit_xor a c) (bit_xor r (bit_xor b d))) s) t
mix_two r s t a b c d = ap (bit_xor (bit_xor r (bit_xor s t))) (xor_swap a b c d) ∙ mix_one r s t (bit_xor a c) (bit_xor b d)

mix_lists : (a0 a1 a2 a3 a4 a5 a6 a7 r0 r1 r2 r3 r4 r5 r6 r7 s0 s1 s2 s3 s4 s5 s6 s7 t0 t1 t2 t3 t4 t5 t6 t7 : ℕ)
    → mix_bits (a0 ∷ a1 ∷ a2 ∷ a3 ∷ a4 ∷ a5 ∷ a6 ∷ a7 ∷ []) (r0 ∷ r1 ∷ r2 ∷ r3 ∷ r4 ∷ r5 ∷ r6 ∷ r7 ∷ []) (s0 ∷ s1 ∷ s2 ∷ s3 ∷ s4 ∷ s5 ∷ s6 ∷ s7 ∷ []) (t0 ∷ t1 ∷ t2 ∷ t3 ∷ t4 ∷ t5 ∷ t6 ∷ t7 ∷ []) ≡ xors (xors (xors (doubled (a0 ∷ a1 ∷ a2 ∷ a3 ∷ a4 ∷ a5 ∷ a6 ∷ a7 ∷ [])) (tripled (r0 ∷ r1 ∷ r2 ∷ r3 ∷ r4 ∷ r5 ∷ r6 ∷ r7 ∷ []))) (s0 ∷ s1 ∷ s2 ∷ s3 ∷ s4 ∷ s5 ∷ s6 ∷ s7 ∷ [])) (t0 ∷ t1 ∷ t2 ∷ t3 ∷ t4 ∷ t5 ∷ t6 ∷ t7 ∷ [])
unfolding mix_bits doubled tripled xors
mix_lists a0 a1 a2 a3 a4 a5 a6 a7 r0 r1 r2 r3 r4 r5 r6 r7 s0 s1 s2 s3 s4 s5 s6 s7 t0 t1 t2 t3 t4 t5 t6 t7 =
    same_bits _ _ _ _ _ _ _ _ _ _ _ _ _ _ _ _
    (mix_one r0 s0 t0 a7 r7)
    (mix_two r1 s1 t1 a0 r0 a7 r7)
    (mix_one r2 s2 t2 a1 r1)
    (mix_two r3 s3 t3 a2 r2 a7 r7)
    (mix_two r4 s4 t4 a3 r3 a7 r7)
    (mix_one r5 s5 t5 a4 r4)
    (mix_one r6 s6 t6 a5 r5)
    (mix_one r7 s7 t7 a6 r6)

mix_of_bits : (a r s t : ℕ)
    → mix_bits (bits_of a) (bits_of r) (bits_of s) (bits_of t) ≡ xors (xors (xors (doubled (bits_of a)) (tripled (bits_of r))) (bits_of s)) (bits_of t)
unfolding bits_of
mix_of_bits a r s t = mix_lists (bit_at a 0) (bit_at a 1) (bit_at a 2) (bit_at a 3) (bit_at a 4) (bit_at a 5) (bit_at a 6) (bit_at a 7) (bit_at r 0) (bit_at r 1) (bit_at r 2) (bit_at r 3) (bit_at r 4) (bit_at r 5) (bit_at r 6) (bit_at r 7) (bit_at s 0) (bit_at s 1) (bit_at s 2) (bit_at s 3) (bit_at s 4) (bit_at s 5) (bit_at s 6) (bit_at s 7) (bit_at t 0) (bit_at t 1) (bit_at t 2) (bit_at t 3) (bit_at t 4) (bit_at t 5) (bit_at t 6) (bit_at t 7)

mix_bytes : (a r s t : ℕ) → a < 256 → r < 256
    → mix_bits (bits_of a) (bits_of r) (bits_of s) (bits_of t) ≡ bits_of (bit_xor (bit_xor (bit_xor (times a 2) (times r 3)) s) t)
mix_bytes a r s t la lr =
    mix_of_bits a r s t ∙ ap (λ (m : List ℕ). xors (xors (xors m (tripled (bits_of r))) (bits_of s)) (bits_of t)) (twice a la)
    ∙ ap (λ (m : List ℕ). xors (xors (xors (bits_of (times a 2)) m) (bits_of s)) (bits_of t)) (thrice r lr)
    ∙ ap (λ (m : List ℕ). xors (xors m (bits_of s)) (bits_of t)) (sym (bits_of_sum (times a 2) (times r 3)))
    ∙ ap (λ (m : List ℕ). xors m (bits_of t)) (sym (bits_of_sum (bit_xor (times a 2) (times r 3)) s)) ∙ sym (bits_of_sum (bit_xor (bit_xor (times a 2) (times r 3)) s) t)

mix_byte : (a r s t : ℕ) → a < 256 → r < 256 → s < 256 → t < 256
    → value (mix_bits (bits_of a) (bits_of r) (bits_of s) (bits_of t)) ≡ bit_xor (bit_xor (bit_xor (times a 2) (times r 3)) s) t
unfolding bits_of
mix_byte a r s t la lr ls lt =
    let x = bit_xor (bit_xor (bit_xor (times a 2) (times r 3)) s) t in
    let x2 = numbers_at (λ v. times v 2) (λ v. times v 2 % 256) a small_table la in
    let x3 = numbers_at (λ v. times v 3) (λ v. times v 3 % 256) r small_table_3 lr in
    let first : bit_xor (times a 2) (times r 3) < 256 = xor_lt 8 (times a 2) (times r 3) (omega (arith, x2)) (omega (arith, x3)) in
    let small : x < 256 = xor_lt 8 (bit_xor (bit_xor (times a 2) (times r 3)) s) t (xor_lt 8 (bit_xor (times a 2) (times r 3)) s first ls) lt in
    ap value (mix_bytes a r s t la lr) ∙ value_of_bits x small

byte_mixed : (q r : List (List ℕ)) (l j : ℕ) → bits 8 r l j ≡ mix_bits (bits 8 q l j) (bits 8 q (column_turned 1 l) j) (bits 8 q (column_turned 2 l) j) (bits 8 q (column_turned 3 l) j)
    → byte_at r l j ≡ bit_xor (bit_xor (bit_xor (times (byte_at q l j) 2) (times (byte_at q (column_turned 1 l) j) 3)) (byte_at q (column_turned 2 l) j)) (byte_at q (column_turned 3 l) j)
unfolding byte_at
byte_mixed q r l j is =
    let a = byte_at q l j in
    let b = byte_at q (column_turned 1 l) j in
    let c = byte_at q (column_turned 2 l) j in
    let d = byte_at q (column_turned 3 l) j in
    ap value (is ∙ (cc (bits_are q l j, bits_are q (column_turned 1 l) j, bits_are q (column_turned 2 l) j, bits_are q (column_turned 3 l) j)))
    ∙ mix_byte a b c d (byte_small q l j) (byte_small q (column_turned 1 l) j) (byte_small q (column_turned 2 l) j) (byte_small q (column_turned 3 l) j)

-- with the cells of a state of sixteen bytes
mixed_cell : (s : List ℕ) (r c : ℕ) → cell s (r + 2) c < 256 → cell s (r + 3) c < 256
    → mixed s r c ≡ bit_xor (bit_xor (bit_xor (times (cell s (r + 0) c) 2) (times (cell s (r + 1) c) 3)) (cell s (r + 2) c)) (cell s (r + 3) c)
unfolding mixed
mixed_cell s r c lo hi =
    let a = bit_xor (times (cell s (r + 0) c) 2) (times (cell s (r + 1) c) 3) in
    let e = numbers_at (λ v. times v 1) (λ v. v) (cell s (r + 2) c) once_table lo in
    let f = numbers_at (λ v. times v 1) (λ v. v) (cell s (r + 3) c) once_table hi in
    ap (λ (n : ℕ). bit_xor (bit_xor a n) (times (cell s (r + 3) c) 1)) e ∙ ap (bit_xor (bit_xor a (cell s (r + 2) c))) f

cell_is : (q : List (List ℕ)) (g j p n : ℕ) → p < 16 → cell (list_of 16 (λ k. byte_at q (16 * g + k) j)) (p % 4 + n) (p / 4) ≡ byte_at q (column_turned n (16 * g + p)) j
cell_is q g j p n lt =
    let f = λ (k : ℕ). byte_at q (16 * g + k) j in
    let i = (p % 4 + n) % 4 + 4 * (p / 4 % 4) in
    let place : 16 * g + i ≡ column_turned n (16 * g + p) = omega arith in
    at_list_of 16 f (list_of 16 f) i refl (omega arith) ∙ ap (λ (l : ℕ). byte_at q l j) place

pub mixed_is : (n : ℕ) (q r : List (List ℕ)) (g j : ℕ) → 16 * g + 16 ≤ n
    → ((l : ℕ) → l < n → bits 8 r l j ≡ mix_bits (bits 8 q l j) (bits 8 q (column_turned 1 l) j) (bits 8 q (column_turned 2 l) j) (bits 8 q (column_turned 3 l) j))
    → state_at r g j ≡ mix_columns (state_at q g j)
unfolding state_at mix_columns
mixed_is n q r g j room is =
    let s = list_of 16 (λ k. byte_at q (16 * g + k) j) in
    list_same 16 (λ p. byte_at r (16 * g + p) j) (λ i. mixed s (i % 4) (i / 4)) (λ p lt.
    let l = 16 * g + p in
    let e0 = cell_is q g j p 0 lt in
    let e1 = cell_is q g j p 1 lt in
    let e2 = cell_is q g j p 2 lt in
    let e3 = cell_is q g j p 3 lt in
    let here : column_turned 0 l ≡ l = omega arith in
    let e : cell s (p % 4 + 0) (p / 4) ≡ byte_at q l j = e0 ∙ ap (λ (k : ℕ). byte_at q k j) here in
    let cells = mixed_cell s (p % 4) (p / 4) (omega (arith, e2, byte_small q (column_turned 2 l) j)) (omega (arith, e3, byte_small q (column_turned 3 l) j)) in
    byte_mixed q r l j (is l (omega arith)) ∙ sym (cells ∙ (cc (e, e1, e2, e3))))

-- ---- bytes in vectors

pub half_is : (n : ℕ) (v : List ℕ) (q : List (List ℕ)) (g j : ℕ) → 16 * g + 16 ≤ n → ((l b : ℕ) → l < n → b < 8 → bit (plane q b) l j ≡ bit v l b) → ((l : ℕ) → l < n → get_or v l 0 < 256) → state_at q g j ≡ half v g
unfolding state_at half byte_at bit
half_is n v q g j room same small =
    list_same 16 (λ p. byte_at q (16 * g + p) j) (λ p. get_or v (16 * g + p) 0) (λ p lt.
    let l = 16 * g + p in
    let low : l < n = omega arith in
    ap value (same_bits _ _ _ _ _ _ _ _ _ _ _ _ _ _ _ _ (same l 0 low (omega arith)) (same l 1 low (omega arith)) (same l 2 low (omega arith)) (same l 3 low (omega arith)) (same l 4 low (omega arith)) (same l 5 low (omega arith)) (same l 6 low (omega arith)) (same l 7 low (omega arith)))
    ∙ bits_value (get_or v l 0) (small l low))

pub eight_same : (v : List ℕ) (j : ℕ) → j < 8 → plane (v ∷ v ∷ v ∷ v ∷ v ∷ v ∷ v ∷ v ∷ []) j ≡ v
eight_same v = below_eight (λ j. plane (v ∷ v ∷ v ∷ v ∷ v ∷ v ∷ v ∷ v ∷ []) j ≡ v) refl refl refl refl refl refl refl refl

-- a vector of sixteen bytes is its half
pub half_whole : (v : List ℕ) → length v ≡ 16 → half v 0 ≡ v
unfolding half
half_whole v long = sym (spelled_out v 16 long)

-- sixteen bytes of a list are a half of a vector that was read there, or is written there
pub chunk_is_half : (n : ℕ) (bs v : List ℕ) (m g at : ℕ) → at + 16 * g ≡ 16 * m → 16 * m + 16 ≤ length bs → 16 * g + 16 ≤ n → ((l : ℕ) → l < n → get_or v l 0 ≡ get_or bs (at + l) 0) → chunk (16 * m) 16 bs ≡ half v g
unfolding half
chunk_is_half n bs v m g at here long room same =
    fill_by_all (λ p. get_or v (16 * g + p) 0) (chunk (16 * m) 16 bs) 16 0 (length-chunk (16 * m) 16 bs long) (λ p few.
    let place : at + (16 * g + p) ≡ 16 * m + p = omega arith in
    get_or-chunk (16 * m) 16 bs p 0 few ∙ sym (same (16 * g + p) (omega arith) ∙ ap (λ (k : ℕ). get_or bs k 0) place))

-- ---- vectors in a list of bytes

pub vector_is : (n : ℕ) (ks : List ℕ) (i b : ℕ) → b < 8 → plane (vectors_at n ks i) b ≡ chunk (i + n * b) n ks
vector_is n ks i b lt = get_or-map-range_with_len (λ b. chunk (i + n * b) n ks) 0 8 b b [] lt (omega arith)

pub vector_lane : (n : ℕ) (ks : List ℕ) (i b l : ℕ) → b < 8 → l < n → get_or (plane (vectors_at n ks i) b) l 0 ≡ get_or ks (i + n * b + l) 0
vector_lane n ks i b l lt low = ap (λ (v : List ℕ). get_or v l 0) (vector_is n ks i b lt) ∙ get_or-chunk (i + n * b) n ks l 0 low

-- the states of two halves are equal if their lanes are
states_same : (q r : List (List ℕ)) (g h j : ℕ) → ((b p : ℕ) → b < 8 → p < 16 → get_or (plane q b) (16 * g + p) 0 ≡ get_or (plane r b) (16 * h + p) 0) → state_at q g j ≡ state_at r h j
unfolding state_at byte_at bit
states_same q r g h j same =
    list_same 16 (λ p. byte_at q (16 * g + p) j) (λ p. byte_at r (16 * h + p) j) (λ p lt.
    let e = λ (b : ℕ) (few : b < 8). ap (λ (n : ℕ). bit_at n j) (same b p few lt) in
    ap value (same_bits _ _ _ _ _ _ _ _ _ _ _ _ _ _ _ _ (e 0 (omega arith)) (e 1 (omega arith)) (e 2 (omega arith)) (e 3 (omega arith)) (e 4 (omega arith)) (e 5 (omega arith)) (e 6 (omega arith)) (e 7 (omega arith))))

pub same_state : (q r : List (List ℕ)) (j : ℕ) → ((b l : ℕ) → b < 8 → l < 16 → get_or (plane q b) l 0 ≡ get_or (plane r b) l 0) → state_at q 0 j ≡ state_at r 0 j
same_state q r j same =
    states_same q r 0 0 j (λ b p low lt.
    let place : 16 * 0 + p ≡ p = omega arith in
    ap (λ (k : ℕ). get_or (plane q b) k 0) place ∙ same b p low lt ∙ ap (λ (k : ℕ). get_or (plane r b) k 0) (sym place))

-- planes whose halves are both those of sixteen bytes each
pub state_twice : (ks : List ℕ) (q : List (List ℕ)) (i g j : ℕ) → g < 2 → j < 8 → ((b l : ℕ) → b < 8 → l < 32 → get_or (plane q b) l 0 ≡ get_or ks (i + 16 * b + l % 16) 0) → state_at q g j ≡ state_at (vectors_at 16 ks i) 0 j
state_twice ks q i g j two few same =
    states_same q (vectors_at 16 ks i) g 0 j (λ b p low lt.
    let column : (16 * g + p) % 16 ≡ 0 + p = omega arith in
    same b (16 * g + p) low (omega arith) ∙ ap (λ (k : ℕ). get_or ks (i + 16 * b + k) 0) column ∙ sym (vector_lane 16 ks i b (0 + p) low (omega arith)))
