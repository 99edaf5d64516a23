-- What a lossless run needs at most, if a Prepare carries at least a unit and a frame at least a byte.
use Rattle.std.proofs.Common.{◌≡◌, ℕ, zero, suc, ◌+◌, ◌-◌, ◌*◌, ◌/◌, ◌<◌, ◌≤◌, ◌^◌, List, [], ◌∷◌, length, map, sum, arith}
use Rattle.std.specs.Prelude.{max}
use Rattle.std.proofs.lemmas.List.Sums.{sum_by-cons}
use Rattle.std.proofs.Math.Nat.{div-lt_iff_lt-mul}
use Rattle.st_world_quiet.specs.Plays.{all_frames, frames_for, prepares_for, sends_needed}

frame_below : (n : ℕ) → (n + 15999) / 16000 ≤ n
frame_below n = omega arith

frames_below : (xs : List (List ℕ)) → all_frames xs ≤ sum (map length xs)
frames_below [] = omega arith
frames_below (x ∷ xs) =
    let one = frame_below (length x) in
    let rest = frames_below xs in
    let all : all_frames (x ∷ xs) ≡ frames_for x + all_frames xs = sum_by-cons (λ n. n) (frames_for x) (map frames_for xs) in
    let long : sum (map length (x ∷ xs)) ≡ length x + sum (map length xs) = sum_by-cons (λ n. n) (length x) (map length xs) in
    omega (arith, one, rest, all, long)

one_each : (limit money : ℕ) → 0 < limit → money ≤ money * limit
one_each zero money some = elim some [ ]
one_each (suc l) money some = omega arith

prepares_below : (limit money : ℕ) → 0 < limit → prepares_for limit money ≤ money
prepares_below limit money some =
    let each = one_each limit money some in
    let within : money + limit - 1 < (money + 1) * limit = omega (arith, each, some) in
    let below : (money + limit - 1) / limit < money + 1 = (div-lt_iff_lt-mul some).1 within in
    omega (arith, below)

pub needed_below : (xs : List (List ℕ)) (ms : List ℕ) (frames money filled most limit : ℕ) → length xs ≤ 32
    → (all_frames xs < 2 ^ 64 → frames ≡ all_frames xs) → (sum ms < 2 ^ 64 → money ≡ sum ms) → filled ≡ max frames money → (filled + length xs + 1 < 2 ^ 64 → most ≡ filled + length xs + 1)
    → 0 < limit → sum (map length xs) < 2 ^ 63 → sum ms < 2 ^ 63 → sends_needed limit xs ms < most
needed_below xs ms frames money filled most limit few frames_are money_is filled_is most_is some bytes_fit money_fits =
    let below = frames_below xs in
    let f : frames ≡ all_frames xs = frames_are (omega (arith, below, bytes_fit)) in
    let m : money ≡ sum ms = money_is (omega (arith, money_fits)) in
    let paid = prepares_below limit (sum ms) some in
    let small : filled + length xs + 1 < 2 ^ 64 = omega (arith, filled_is, f, m, below, bytes_fit, money_fits, few) in
    let is = most_is small in
    omega (arith, is, filled_is, f, m, paid)
