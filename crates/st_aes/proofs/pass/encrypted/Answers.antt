use Rattle.std.proofs.Common.{◌≡◌, ◌+◌, ℕ, List, ap, sym, ◌∙◌, arith}
use Rattle.st_aes.specs.Cipher.{add, sub_bytes, shift_rows, mix_columns, round_key, add_round_key, rounds, encrypt_with}
use Rattle.st_aes.specs.Planes.{plane, half, state_at}
use Rattle.st_aes.proofs.Rounds.{rounds_start, round_next}
use Rattle.st_aes.proofs.Steps.{half_is}
use Rattle.st_aes.proofs.pass.encrypted.Goals as goal

pub loop-n-init : goal.loop-n-init
unfolding add_round_key
loop-n-init c ws keys j few =
    let v = plane c.args.v j in
    let input = half_is 16 v c.transposed.result 0 j (omega arith) (λ l b lt less. c.transposed.ensures.bits b l j less lt few) (λ l lt. c.requires j l few) in
    rounds_start ws (half v 0) _ (c.added-q.ensures j few ∙ ap (λ (s : List ℕ). add s (state_at c.load.result 0 j)) input ∙ ap (add (half v 0)) (ap (λ (k : List (List ℕ)). state_at k 0 j) c.load.ensures ∙ keys 0 j (omega arith) few))

pub loop-n-preserved : goal.loop-n-preserved
unfolding add_round_key
loop-n-preserved c ws keys j few =
    let l = c.loop-n in
    let v = plane c.args.v j in
    let s = state_at l.q 0 j in
    let mixed = c.mixed.ensures j few ∙ ap mix_columns (c.shifted.ensures j few ∙ ap shift_rows (c.substituted.ensures j few)) in
    round_next ws (half v 0) s _ l.n
    (c.added-next.ensures j few ∙ ap (λ (t : List ℕ). add t (state_at c.load-in-loop-n.result 0 j)) mixed ∙ ap (add (mix_columns (shift_rows (sub_bytes s)))) (ap (λ (k : List (List ℕ)). state_at k 0 j) c.load-in-loop-n.ensures ∙ keys (l.n + 1) j (omega arith) few))
    (l.invariant ws keys j few)

pub returns : goal.returns
unfolding encrypt_with add_round_key
returns c ws keys j few =
    let l = c.loop-n in
    let v = plane c.args.v j in
    let done : l.n ≡ 13 = omega arith in
    let s = state_at l.q 0 j in
    let before : s ≡ rounds ws (half v 0) 13 = l.invariant ws keys j few ∙ ap (rounds ws (half v 0)) done in
    let last = c.added.ensures j few ∙ ap (λ (t : List ℕ). add t (state_at c.load-2.result 0 j)) (c.shifted-2.ensures j few ∙ ap shift_rows (c.substituted-2.ensures j few))
    ∙ ap (add (shift_rows (sub_bytes s))) (ap (λ (k : List (List ℕ)). state_at k 0 j) c.load-2.ensures ∙ keys 14 j (omega arith) few) in
    let out = half_is 16 (plane c.transposed-2.result j) c.added.result 0 j (omega arith) (λ l b lt less. sym (c.transposed-2.ensures.bits j l b few lt less)) (λ l lt. c.transposed-2.ensures.bytes j l few) in
    sym out ∙ last ∙ ap (λ (t : List ℕ). add (shift_rows (sub_bytes t)) (round_key ws 14)) before
