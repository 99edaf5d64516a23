use Rattle.std.proofs.Common.{◌≡◌, ◌+◌, ◌*◌, ◌/◌, ◌%◌, ℕ, get_or, sym, ap, ◌∙◌, arith, inl, inr}
use Rattle.std.proofs.lemmas.Bool.{cases_lt}
use Rattle.st_aes.specs.Cipher.{round_key}
use Rattle.st_aes.specs.Columns.{words_of}
use Rattle.st_aes.specs.Planes.{plane, vectors_at}
use Rattle.st_aes.proofs.Steps.{vector_lane, same_state}
use Rattle.st_aes.proofs.cipher.put_round_keys.Goals as goal

pub loop-n-preserved : goal.loop-n-preserved
loop-n-preserved c =
    let l = c.loop-n in
    let new = c.store_all.new.out in
    let q = c.round_planes.result in
    let ws = words_of c.args.words.now in
    record {
      long = c.store_all.ensures.long ∙ l.invariant.long;
      done = λ n j lt few. elim (cases_lt n l.n) [
        | inl less ↦
            same_state (vectors_at 16 new (128 * n)) (vectors_at 16 l.keys (128 * n)) j (λ b i low small.
            vector_lane 16 new (128 * n) b i low small ∙ c.store_all.ensures.before (128 * n + 16 * b + i) (omega arith) ∙ sym (vector_lane 16 l.keys (128 * n) b i low small))
            ∙ l.invariant.done n j less few
        | inr last ↦
            let here : n ≡ l.n = omega arith in
            let is = same_state (vectors_at 16 new (128 * n)) q j (λ b i low small.
            let place : 128 * n + 16 * b + i ≡ 128 * l.n + (16 * b + i) = omega arith in
            let row : (16 * b + i) / 16 ≡ b = omega arith in
            let column : (16 * b + i) % 16 ≡ i = omega arith in
            vector_lane 16 new (128 * n) b i low small ∙ ap (λ (k : ℕ). get_or new k 0) place ∙ c.store_all.ensures.written (16 * b + i) (omega arith)
            ∙ ap (λ (k : ℕ). get_or (plane q k) ((16 * b + i) % 16) 0) row ∙ ap (λ (k : ℕ). get_or (plane q b) k 0) column) in
            is ∙ c.round_planes.ensures j few ∙ ap (round_key ws) (sym here)
      ];
    }

pub returns : goal.returns
returns c = λ n j lt few. c.loop-n.invariant.done n j (omega arith) few
