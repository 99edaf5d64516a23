use Rattle.std.proofs.Common.{◌≡◌, ℕ, ◌+◌, ◌*◌, ◌^◌, ◌<◌, List, get_or, replicate, bit_xor, sym, ap, subst, ◌∙◌, arith}
use Rattle.st_aes.specs.BlockField.{product, hash_from, repeated, HasPowers}
use Rattle.st_aes.specs.Gcm.{block_of, block_number, padded, hash_key}
use Rattle.st_aes.specs.Rows.{block_in, block_behind, HasTables}
use Rattle.st_aes.proofs.Blocks.{padded_is}
use Rattle.st_aes.proofs.Linear.{hash_zero, hash_none, hash_next, hash_same, sixteen_more}
use Rattle.st_aes.proofs.Sixteen.{block_at, block_long, no_bytes, no_blocks, block_is, repeated_small}
use Rattle.st_aes.proofs.hash.hash_front.Goals as goal

pub groups-init : goal.groups-init
groups-init c =
    let h = hash_key c.args.key.now in
    record {
      bytes = no_bytes;
      sums = hash_zero h (λ j. block_number (block_in (replicate 8 (replicate 32 0)) j)) 16 no_blocks ∙ sym (hash_none h (λ b. block_number (padded (block_of c.args.text.now b))));
    }

pub groups-preserved : goal.groups-preserved
groups-preserved c =
    let l = c.groups in
    let text = c.args.text.now in
    let h = hash_key c.args.key.now in
    let powers = subst (λ (b : List ℕ). HasPowers c.key.inside.parts.hash_high c.key.inside.parts.hash_low (hash_key b)) c.key.view_is c.key.invariant.1 in
    let tables = subst (λ (b : List ℕ). HasTables c.key.inside.parts.tables (repeated (hash_key b) 15 (hash_key b))) c.key.view_is c.key.invariant.3 in
    let small = subst (λ (b : List ℕ). hash_key b < 2 ^ 128) c.key.view_is c.key.invariant.4 in
    let next : 16 * l.p + 16 ≡ 16 * (l.p + 1) = omega arith in
    let x = λ (b : ℕ). block_number (padded (block_of text b)) in
    let sums = sixteen_more h (λ j. block_number (block_in l.rows j)) (λ j. block_number (block_in c.with_products-next.result j)) x (16 * l.p) small l.invariant.sums (λ j lt.
    let start = c.blocks_at.result in
    let is : block_in start j ≡ padded (block_of text (16 * l.p + j)) = padded_is text (block_in start j) (16 * l.p + j) (block_long start j) (λ k few.
    let place : 256 * l.p + 16 * j + k ≡ 16 * (16 * l.p + j) + k = omega arith in
    block_at start j k few ∙ c.blocks_at.ensures.cells j k lt few ∙ ap (λ (i : ℕ). get_or text i 0) place) in
    c.with_products-next.ensures.sum (repeated h 15 h) (repeated_small h 15 h small small) tables j lt ∙ ap (λ (b : List ℕ). bit_xor (block_number b) (product (block_number (block_in l.rows j)) (repeated h 15 h))) is) in
    record { bytes = c.with_products-next.ensures.bytes; sums = sums ∙ ap (hash_from h 0 x) next }

pub sums-init : goal.sums-init
sums-init c = sym (hash_none (hash_key c.args.key.now) (λ j. block_number (block_behind c.store_all.new.out j)))

pub sums-preserved : goal.sums-preserved
sums-preserved c =
    let l = c.sums in
    let h = hash_key c.args.key.now in
    let bytes = c.store_all.new.out in
    let powers = subst (λ (b : List ℕ). HasPowers c.key.inside.parts.hash_high c.key.inside.parts.hash_low (hash_key b)) c.key.view_is c.key.invariant.1 in
    c.product-y.ensures h powers
    ∙ hash_next h 0 (λ j. block_number (block_behind bytes j)) l.j l.y c.from_be_bytes-block.result l.invariant (c.from_be_bytes-block.ensures ∙ ap block_number c.block_from.ensures)

pub returns : goal.returns
returns c =
    let h = hash_key c.args.key.now in
    let rows = c.groups.rows in
    let s = λ (j : ℕ). block_number (block_in rows j) in
    let b = λ (j : ℕ). block_number (block_behind c.store_all.new.out j) in
    let x = λ (b : ℕ). block_number (padded (block_of c.args.text.now b)) in
    let all : c.sums.j ≡ 16 = omega arith in
    let done : 16 * c.groups.p ≡ 16 * c.args.groups = omega arith in
    c.sums.invariant ∙ ap (hash_from h 0 b) all ∙ hash_same h b s 16 (λ j lt. ap block_number (block_is rows c.store_all.new.out j lt c.store_all.ensures.written)) ∙ c.groups.invariant.sums ∙ ap (hash_from h 0 x) done
