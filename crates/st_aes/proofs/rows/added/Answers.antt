use Rattle.std.proofs.Common.{◌+◌, ◌*◌, ◌/◌, ◌%◌, ◌<◌, ℕ, List, get_or, bit_xor, refl, ap, ◌∙◌, arith}
use Rattle.st_aes.proofs.Bits.{lane_small}
use Rattle.st_aes.proofs.Lookups.{table_lane}
use Rattle.st_aes.proofs.rows.added.Goals as goal

pub returns-clause-sum : goal.returns-clause-sum
returns-clause-sum c l lt =
    let t = c.args.t.now in
    let m = c.args.m in
    let k = c.args.k in
    let a = get_or c.args.a l 0 in
    let x = get_or c.args.v l 0 in
    let byte : x < 256 = lane_small c.args.v l c.fits-v.1 in
    let high = table_lane t (512 * m + 32 * k) (l / 16) (x / 16) (get_or c.at_high-high.result l 0) (512 * m + 32 * k + 16 * (l / 16) + x / 16) (omega arith) (omega arith) (c.at_high-high.ensures l lt ∙ ap (λ (u : List ℕ). get_or u (16 * (l / 16) + x / 16) 0) c.table.ensures) refl in
    let low = table_lane t (512 * m + 256 + 32 * k) (l / 16) (x % 16) (get_or c.at_low-low.result l 0) (512 * m + 256 + 32 * k + 16 * (l / 16) + x % 16) (omega arith) (omega arith) (c.at_low-low.ensures l lt ∙ ap (λ (u : List ℕ). get_or u (16 * (l / 16) + x % 16) 0) c.table-2.ensures) refl in
    c.sum.ensures.sum l lt ∙ ap (λ (n : ℕ). bit_xor (bit_xor a n) (get_or c.at_low-low.result l 0)) high
    ∙ ap (bit_xor (bit_xor a (get_or t (512 * m + 32 * k + 16 * (l / 16) + x / 16) 0))) low

pub returns-clause-bytes : goal.returns-clause-bytes
returns-clause-bytes c l = c.sum.ensures.bytes l
