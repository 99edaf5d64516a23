use Rattle.std.proofs.Common.{◌≡◌, ℕ, ◌+◌, ◌*◌, ◌/◌, ◌%◌, ◌<◌, List, get_or, sym, ap, subst, ◌∙◌, arith, w8, Fits}
use Rattle.std.specs.Simd.Lanes.{Each1}
use Rattle.std.proofs.lemmas.Simd.{chunk-fits}
use Rattle.st_aes.specs.Cipher.{encrypt_with}
use Rattle.st_aes.specs.Planes.{plane}
use Rattle.st_aes.proofs.Bits.{lane_small}
use Rattle.st_aes.proofs.Steps.{chunk_is_half, vector_is, vector_lane}
use Rattle.st_aes.proofs.wide_pass.encrypted_blocks.Goals as goal

pub encrypted-requires : goal.encrypted-requires
encrypted-requires c j l few =
    let blocks = c.args.blocks.now in
    let is = ap (λ (q : List (List ℕ)). plane q j) c.load.ensures ∙ vector_is 32 blocks 0 j few in
    lane_small (plane c.load.result j) l (subst (Each1 (Fits w8)) (sym is) (chunk-fits w8 (0 + 32 * j) 32 blocks (λ k. record { fits = c.fits-blocks k })))

pub returns : goal.returns
returns c ws keys m lt =
    let j = m / 2 in
    let few : j < 8 = omega arith in
    let blocks = c.args.blocks.now in
    let v = plane c.load.result j in
    let r = plane c.encrypted.result j in
    let from = chunk_is_half 32 blocks v m (m % 2) (32 * j) (omega arith) (omega arith) (omega arith) (λ l low.
    let start : 0 + 32 * j + l ≡ 32 * j + l = omega arith in
    ap (λ (q : List (List ℕ)). get_or (plane q j) l 0) c.load.ensures ∙ vector_lane 32 blocks 0 j l few low ∙ ap (λ (k : ℕ). get_or blocks k 0) start) in
    let to = chunk_is_half 32 c.store_all.new.out r m (m % 2) (32 * j) (omega arith) (omega arith) (omega arith) (λ l low.
    let row : (32 * j + l) / 32 ≡ j = omega arith in
    let column : (32 * j + l) % 32 ≡ l = omega arith in
    let start : 32 * j + l ≡ 0 + (32 * j + l) = omega arith in
    sym (ap (λ (k : ℕ). get_or c.store_all.new.out k 0) start ∙ c.store_all.ensures.written (32 * j + l) (omega arith) ∙ ap (λ (k : ℕ). get_or (plane c.encrypted.result k) ((32 * j + l) % 32) 0) row ∙ ap (λ (k : ℕ). get_or r k 0) column)) in
    to ∙ c.encrypted.ensures ws keys (m % 2) j (omega arith) few ∙ ap (encrypt_with ws) (sym from)
