use Rattle.std.proofs.Common.{◌≡◌, ℕ, ◌+◌, ◌*◌, ◌/◌, ◌%◌, ◌<◌, ◌^◌, get_or, ap, ◌∙◌, arith, inl, inr}
use Rattle.std.specs.Int.{w128, to_be_bytes}
use Rattle.std.proofs.lemmas.Bool.{cases_lt}
use Rattle.st_aes.specs.BlockField.{block_times_power, four_bits}
use Rattle.st_aes.specs.Planes.{plane}
use Rattle.st_aes.proofs.factor_tables.put_tables.Goals as goal

pub loop-i-preserved : goal.loop-i-preserved
loop-i-preserved c =
    let l = c.loop-i in
    let new = c.store_all.new.out in
    let rows = c.paired.result in
    let y = c.args.y in
    let small : y < 2 ^ 128 = omega arith in
    record {
      long = c.store_all.ensures.long ∙ l.invariant.long;
      done = λ i b n lt low few. elim (cases_lt i l.i) [
        | inl less ↦ c.store_all.ensures.before (256 * i + 32 * (b % 8) + 16 * (b / 8) + n) (omega arith) ∙ l.invariant.done i b n less low few
        | inr last ↦
            let q = 32 * (b % 8) + (16 * (b / 8) + n) in
            let here : l.i ≡ i = omega arith in
            let place : 256 * i + 32 * (b % 8) + 16 * (b / 8) + n ≡ 256 * l.i + q = omega arith in
            let row : q / 32 ≡ b % 8 = omega arith in
            let column : q % 32 ≡ 16 * (b / 8) + n = omega arith in
            ap (λ (k : ℕ). get_or new k 0) place ∙ c.store_all.ensures.written q (omega arith)
            ∙ ap (λ (k : ℕ). get_or (plane rows k) (q % 32) 0) row ∙ ap (λ (k : ℕ). get_or (plane rows (b % 8)) k 0) column
            ∙ c.paired.ensures b n low few ∙ l.invariant.rows b n low few ∙ ap (λ (k : ℕ). get_or (to_be_bytes w128 (four_bits (block_times_power y) k n)) b 0) here
      ];
      rows = c.next_multiples-next.ensures y l.i small l.invariant.rows;
    }

pub returns : goal.returns
returns c i b n few low small = c.loop-i.invariant.done i b n (omega arith) low small
