-- How long the texts of frames are.
use Rattle.std.proofs.Common.{◌≡◌, ℕ, ◌+◌, ◌<◌, ◌≤◌, Bool, true, false, cond, List, [], ◌∷◌, ◌++◌, length, refl, ap, arith, nat_lt, length-append}
use Rattle.std.proofs.lemmas.Bool.Decides.{nat_tests}
use Rattle.st_oer.proofs.Bytes.{length-bytes_high_first}
use Rattle.st_oer.specs.Spelling.{byte_count, digits, length_bytes, octets, var_uint}
use Rattle.st_frames.specs.Frames.{max_packet, Known, CloseFrame, StreamClose, StreamData, StreamMoney}
use Rattle.st_frames.specs.Written.{contents_text, frame_text, packet_length}

small_if : (b : Bool) (x y : ℕ) → x ≤ 8 → y ≤ 8 → cond b x y ≤ 8
small_if true x y h g = h
small_if false x y h g = g

pub byte_count_small : (n : ℕ) → byte_count n ≤ 8
byte_count_small n =
    small_if _ 1 _ (omega arith) (small_if _ 2 _ (omega arith) (small_if _ 3 _ (omega arith) (small_if _ 4 _ (omega arith)
    (small_if _ 5 _ (omega arith) (small_if _ 6 _ (omega arith) (small_if _ 7 8 (omega arith) (omega arith)))))))

pub digits_small : (n : ℕ) → length (digits n) ≤ 8
unfolding digits
digits_small n = let e = length-bytes_high_first (byte_count n) n in let c = byte_count_small n in omega (arith, e, c)

short_length : (m : ℕ) → m < 128 → length_bytes m ≡ m ∷ []
unfolding length_bytes
short_length m l = let b : nat_lt m 128 ≡ true = grind (arith, nat_tests) in rw b refl

pub octets_short : (xs : List ℕ) → length xs < 128 → length (octets xs) ≡ 1 + length xs
octets_short xs l = let e = ap length (short_length (length xs) l) in let a = length-append (length_bytes (length xs)) xs in omega (arith, a, e)

pub octets_below : (xs : List ℕ) → length xs ≤ length (octets xs)
octets_below xs = let a = length-append (length_bytes (length xs)) xs in omega (arith, a)

pub var_uint_small : (n : ℕ) → length (var_uint n) ≤ 9
unfolding var_uint
var_uint_small n = let d = digits_small n in let e = octets_short (digits n) (omega (arith, d)) in omega (arith, e, d)

-- one byte of a stream makes a short frame
pub byte_short : (k o b : ℕ) → length (frame_text (StreamData k o (b ∷ []))) ≤ 40
unfolding frame_text contents_text
byte_short k o b =
    let v = var_uint_small k in
    let u = var_uint_small o in
    let c = octets_short (b ∷ []) (omega arith) in
    let e2 = length-append (octets (b ∷ [])) [] in
    let e1 = length-append (var_uint o) (octets (b ∷ []) ++ []) in
    let e0 = length-append (var_uint k) (var_uint o ++ (octets (b ∷ []) ++ [])) in
    let all = octets_short (var_uint k ++ (var_uint o ++ (octets (b ∷ []) ++ []))) (omega (arith, v, u, c, e0, e1, e2)) in
    omega (arith, v, u, c, e0, e1, e2, all)

pub close_short : (k c : ℕ) → length (frame_text (CloseFrame (StreamClose k c []))) ≤ 40
unfolding frame_text contents_text
close_short k c =
    let v = var_uint_small k in
    let o = octets_short [] (omega arith) in
    let e2 = length-append (octets []) [] in
    let e1 = length-append (c ∷ []) (octets [] ++ []) in
    let e0 = length-append (var_uint k) ((c ∷ []) ++ (octets [] ++ [])) in
    let all = octets_short (var_uint k ++ ((c ∷ []) ++ (octets [] ++ []))) (omega (arith, v, o, e0, e1, e2)) in
    omega (arith, v, o, e0, e1, e2, all)

pub money_short : (k n : ℕ) → length (frame_text (StreamMoney k n)) ≤ 40
unfolding frame_text contents_text
money_short k n =
    let v = var_uint_small k in
    let u = var_uint_small n in
    let e1 = length-append (var_uint n) [] in
    let e0 = length-append (var_uint k) (var_uint n ++ []) in
    let all = octets_short (var_uint k ++ (var_uint n ++ [])) (omega (arith, v, u, e0, e1)) in
    omega (arith, v, u, e0, e1, all)

-- and a packet of one such frame has room
pub one_has_room : (sequence amount : ℕ) (f : Known) → length (frame_text f) ≤ 40 → packet_length sequence amount (f ∷ []) ≤ max_packet
one_has_room sequence amount f short =
    let a = var_uint_small sequence in
    let b = var_uint_small amount in
    let c = var_uint_small 1 in
    let e = length-append (frame_text f) [] in
    omega (arith, a, b, c, e, short)

-- data take room
pub data_below : (k o : ℕ) (xs : List ℕ) → length xs ≤ length (frame_text (StreamData k o xs))
unfolding frame_text contents_text
data_below k o xs =
    let c = octets_below xs in
    let e2 = length-append (octets xs) [] in
    let e1 = length-append (var_uint o) (octets xs ++ []) in
    let e0 = length-append (var_uint k) (var_uint o ++ (octets xs ++ [])) in
    let all = octets_below (var_uint k ++ (var_uint o ++ (octets xs ++ []))) in
    omega (arith, c, e0, e1, e2, all)
