use Rattle.std.proofs.Common.{◌≡◌, ◌+◌, ℕ, List, ap, sym, ◌∙◌, arith}
use Rattle.st_aes.specs.Cipher.{add, sub_bytes, shift_rows, mix_columns, round_key, add_round_key, rounds, encrypt_with}
use Rattle.st_aes.specs.Planes.{plane, half, state_at}
use Rattle.st_aes.proofs.Rounds.{rounds_start, round_next}
use Rattle.st_aes.proofs.Steps.{half_is}
use Rattle.st_aes.proofs.wide_pass.encrypted.Goals as goal

pub loop-n-init : goal.loop-n-init
unfolding add_round_key
loop-n-init c ws keys g j two few =
    let v = plane c.args.v j in
    let input = half_is 32 v c.transposed.result g j (omega arith) (λ l b lt less. c.transposed.ensures.bits b l j less lt few) (λ l lt. c.requires j l few) in
    rounds_start ws (half v g) _ (c.added-q.ensures g j two few ∙ ap (λ (s : List ℕ). add s (state_at c.load_key.result g j)) input ∙ ap (add (half v g)) (c.load_key.ensures g j two few ∙ keys 0 j (omega arith) few))

pub loop-n-preserved : goal.loop-n-preserved
unfolding add_round_key
loop-n-preserved c ws keys g j two few =
    let l = c.loop-n in
    let v = plane c.args.v j in
    let s = state_at l.q g j in
    let mixed = c.mixed.ensures g j two few ∙ ap mix_columns (c.shifted.ensures g j two few ∙ ap shift_rows (c.substituted.ensures g j two few)) in
    round_next ws (half v g) s _ l.n
    (c.added-next.ensures g j two few ∙ ap (λ (t : List ℕ). add t (state_at c.load_key-in-loop-n.result g j)) mixed ∙ ap (add (mix_columns (shift_rows (sub_bytes s)))) (c.load_key-in-loop-n.ensures g j two few ∙ keys (l.n + 1) j (omega arith) few))
    (l.invariant ws keys g j two few)

pub returns : goal.returns
unfolding encrypt_with add_round_key
returns c ws keys g j two few =
    let l = c.loop-n in
    let v = plane c.args.v j in
    let done : l.n ≡ 13 = omega arith in
    let s = state_at l.q g j in
    let before : s ≡ rounds ws (half v g) 13 = l.invariant ws keys g j two few ∙ ap (rounds ws (half v g)) done in
    let last = c.added.ensures g j two few ∙ ap (λ (t : List ℕ). add t (state_at c.load_key-2.result g j)) (c.shifted-2.ensures g j two few ∙ ap shift_rows (c.substituted-2.ensures g j two few))
    ∙ ap (add (shift_rows (sub_bytes s))) (c.load_key-2.ensures g j two few ∙ keys 14 j (omega arith) few) in
    let out = half_is 32 (plane c.transposed-2.result j) c.added.result g j (omega arith) (λ l b lt less. sym (c.transposed-2.ensures.bits j l b few lt less)) (λ l lt. c.transposed-2.ensures.bytes j l few) in
    sym out ∙ last ∙ ap (λ (t : List ℕ). add (shift_rows (sub_bytes t)) (round_key ws 14)) before
