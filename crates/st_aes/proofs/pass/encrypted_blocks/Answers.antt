use Rattle.std.proofs.Common.{◌≡◌, ℕ, ◌+◌, ◌*◌, ◌/◌, ◌%◌, ◌<◌, List, get_or, sym, ap, subst, ◌∙◌, arith, w8, Fits}
use Rattle.std.specs.Simd.Lanes.{Each1}
use Rattle.std.proofs.lemmas.Simd.{chunk-fits}
use Rattle.st_aes.specs.Cipher.{encrypt_with}
use Rattle.st_aes.specs.Planes.{plane}
use Rattle.st_aes.proofs.Bits.{lane_small}
use Rattle.st_aes.proofs.Steps.{chunk_is_half, vector_is, vector_lane}
use Rattle.st_aes.proofs.pass.encrypted_blocks.Goals as goal

pub encrypted-requires : goal.encrypted-requires
encrypted-requires c j l few =
    let blocks = c.args.blocks.now in
    let is = ap (λ (q : List (List ℕ)). plane q j) c.load.ensures ∙ vector_is 16 blocks 0 j few in
    lane_small (plane c.load.result j) l (subst (Each1 (Fits w8)) (sym is) (chunk-fits w8 (0 + 16 * j) 16 blocks (λ k. record { fits = c.fits-blocks k })))

pub returns : goal.returns
returns c ws keys m lt =
    let j = m in
    let few : j < 8 = omega arith in
    let blocks = c.args.blocks.now in
    let v = plane c.load.result j in
    let r = plane c.encrypted.result j in
    let from = chunk_is_half 16 blocks v m 0 (16 * j) (omega arith) (omega arith) (omega arith) (λ l low.
    let start : 0 + 16 * j + l ≡ 16 * j + l = omega arith in
    ap (λ (q : List (List ℕ)). get_or (plane q j) l 0) c.load.ensures ∙ vector_lane 16 blocks 0 j l few low ∙ ap (λ (k : ℕ). get_or blocks k 0) start) in
    let to = chunk_is_half 16 c.store_all.new.out r m 0 (16 * j) (omega arith) (omega arith) (omega arith) (λ l low.
    let row : (16 * j + l) / 16 ≡ j = omega arith in
    let column : (16 * j + l) % 16 ≡ l = omega arith in
    let start : 16 * j + l ≡ 0 + (16 * j + l) = omega arith in
    sym (ap (λ (k : ℕ). get_or c.store_all.new.out k 0) start ∙ c.store_all.ensures.written (16 * j + l) (omega arith) ∙ ap (λ (k : ℕ). get_or (plane c.encrypted.result k) ((16 * j + l) % 16) 0) row ∙ ap (λ (k : ℕ). get_or r k 0) column)) in
    to ∙ c.encrypted.ensures ws keys j few ∙ ap (encrypt_with ws) (sym from)
