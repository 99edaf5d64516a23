-- Parts of an input, and what of them is among its first bytes.
use Rattle.std.proofs.Common.{◌≡◌, ◌≢◌, ℕ, zero, suc, ◌+◌, ◌-◌, ◌*◌, ◌<◌, ◌≤◌, List, [], ◌++◌, length, take, drop, sym, ap, ◌∙◌, inl, inr, arith, mul-le-mul_right, suc-mul, zero-mul, mod-lt, mul_comm, subst, ◌%◌, div-add-mod'}
use Rattle.std.specs.Prelude.{min, ◌/◌}
use Rattle.std.proofs.Math.Seq.{take-add}
use Rattle.std.proofs.lemmas.Grind.{div_ceil_times}
use Rattle.std.proofs.lemmas.Bool.{cases_lt}
use Rattle.std.proofs.lemmas.Nat.{div_below}
use Rattle.std.proofs.lemmas.List.{take_all, take_min, length-drop, drop-drop}
use Rattle.ilpstream_local.specs.Parts.{part_size, part_at, sent_of, joined}

-- the parts before another end before it begins
ends_before : (size i j : ℕ) → i < j → i * size + size ≤ j * size
ends_before size i j l = let m : suc i * size ≤ j * size = mul-le-mul_right size l in omega (arith, m, suc-mul i size)

same_count : (n m : ℕ) (ys : List ℕ) → n ≡ m → take n ys ≡ take m ys
same_count n m ys e = ap (λ k. take k ys) e

pub nothing_sent : (size : ℕ) (input : List ℕ) (place : ℕ) → sent_of size input 0 place ≡ []
nothing_sent size input place = same_count (min size (0 - place * size)) 0 (drop (place * size) input) (omega arith)

-- more of one part
pub sent_more : (size : ℕ) (input : List ℕ) (sent to place : ℕ) → place * size ≤ sent → sent ≤ to → to ≤ place * size + size
    → sent_of size input to place ≡ sent_of size input sent place ++ take (to - sent) (drop sent input)
sent_more size input sent to place from up within =
    let start = place * size in
    let ys = drop start input in
    let all : min size (to - start) ≡ (sent - start) + (to - sent) = omega (arith, from, up, within) in
    let had : sent - start ≡ min size (sent - start) = omega (arith, from, up, within) in
    let rest : drop (sent - start) ys ≡ drop sent input = drop-drop _ _ input ∙ ap (λ n. drop n input) (omega (arith, from)) in
    same_count _ _ ys all ∙ (take-add (sent - start) (to - sent) ys ∙ (ap (λ xs. take (sent - start) ys ++ take (to - sent) xs) rest ∙ ap (λ n. take n ys ++ take (to - sent) (drop sent input)) had))

-- leaves each other part
pub sent_apart : (size : ℕ) (input : List ℕ) (sent to place other : ℕ) → place * size ≤ sent → sent ≤ to → to ≤ place * size + size → other ≢ place
    → sent_of size input to other ≡ sent_of size input sent other
sent_apart size input sent to place other from up within apart =
    elim (cases_lt other place) [
      | inl before ↦ let end = ends_before size other place before in same_count _ _ _ (omega (arith, end, from, up, within))
      | inr past ↦ let start = ends_before size place other (omega (arith, past, apart)) in same_count _ _ _ (omega (arith, start, from, up, within))
    ]

-- once all is sent each part is
pub all_sent : (size : ℕ) (input : List ℕ) (place : ℕ) → sent_of size input (length input) place ≡ part_at size input place
all_sent size input place =
    let ys = drop (place * size) input in
    ap (λ n. take (min size n) ys) (sym (length-drop (place * size) input)) ∙ take_min size ys

-- the parts one after another are the beginning of the input
parts_begin : (size : ℕ) (input : List ℕ) (count : ℕ) → joined (part_at size input) count ≡ take (count * size) input
parts_begin size input zero = same_count 0 (0 * size) input (omega (arith, zero-mul size))
parts_begin size input (suc n) = ap (λ xs. xs ++ part_at size input n) (parts_begin size input n) ∙ (sym (take-add (n * size) size input) ∙ same_count _ _ input (sym (suc-mul n size)))

-- and the whole of it
pub parts_whole : (input : List ℕ) (parts : ℕ) → 0 < parts → joined (part_at (part_size (length input) parts) input) parts ≡ input
parts_whole input parts some =
    let enough = (div_ceil_times (length input) parts some).0 in
    parts_begin (part_size (length input) parts) input parts ∙ take_all _ input (omega (arith, enough))

-- if a byte is within the input, its part is there and has a size
pub has_size : (bytes parts : ℕ) → 0 < parts → 0 < bytes → 0 < part_size bytes parts
has_size bytes parts some within =
    let enough = (div_ceil_times bytes parts some).0 in
    elim (cases_lt 0 (part_size bytes parts)) [
      | inl size ↦ size
      | inr none ↦ let zero-size : part_size bytes parts ≡ 0 = omega (arith, none) in absurd (let no : part_size bytes parts * parts ≡ 0 = ap (λ n. n * parts) zero-size ∙ zero-mul parts in omega (arith, enough, no, within))
    ]

-- each byte is in one of the parts
pub place_within : (bytes parts sent : ℕ) → 0 < parts → sent < bytes → sent / part_size bytes parts < parts
place_within bytes parts sent some within =
    let enough = (div_ceil_times bytes parts some).0 in
    let size = has_size bytes parts some (omega (arith, within)) in
    div_below sent (part_size bytes parts) parts size (subst (λ (n : ℕ). sent < n) (mul_comm (part_size bytes parts) parts) (omega (arith, enough, within)))

-- a chunk that stays within its part
pub stays_within : (sent size count : ℕ) → 0 < size → count ≤ size - sent % size → sent + count ≤ sent / size * size + size
stays_within sent size count some few =
    let whole = div-add-mod' sent size in
    let rest : sent % size < size = mod-lt sent some in
    omega (arith, whole, rest, few)
