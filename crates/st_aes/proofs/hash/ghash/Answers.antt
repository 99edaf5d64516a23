use Rattle.std.proofs.Common.{◌≡◌, ℕ, List, ◌∷◌, [], bit_xor, fold, length, ◌*◌, ◌%◌, ◌^◌, sym, ap, subst, ◌∙◌, arith}
use Rattle.std.proofs.lemmas.List.Sums.{fold-append}
use Rattle.st_aes.specs.BlockField.{product, hash_from, HasPowers}
use Rattle.st_aes.specs.Gcm.{block_number, block_of, block_count, padded, padded_blocks, length_block, hash_key, ghash}
use Rattle.st_aes.proofs.Blocks.{length_block_is}
use Rattle.st_aes.proofs.Linear.{hash_next}
use Rattle.st_aes.proofs.Sixteen.{fold_is}
use Rattle.st_aes.proofs.hash.ghash.Goals as goal

pub loop-b-preserved : goal.loop-b-preserved
loop-b-preserved c =
    let l = c.loop-b in
    let h = hash_key c.args.key.now in
    let powers = subst (λ (b : List ℕ). HasPowers c.key.inside.parts.hash_high c.key.inside.parts.hash_low (hash_key b)) c.key.view_is c.key.invariant.1 in
    let x = λ (b : ℕ). block_number (padded (block_of c.args.text.now b)) in
    let block : c.from_be_bytes-block.result ≡ x l.b = c.from_be_bytes-block.ensures ∙ ap block_number c.padded_block.ensures in
    c.product-y.ensures h powers ∙ hash_next h 0 x l.b l.y c.from_be_bytes-block.result l.invariant block

pub returns : goal.returns
unfolding ghash
returns c =
    let text = c.args.text.now in
    let h = hash_key c.args.key.now in
    let powers = subst (λ (b : List ℕ). HasPowers c.key.inside.parts.hash_high c.key.inside.parts.hash_low (hash_key b)) c.key.view_is c.key.invariant.1 in
    let y = c.loop-b.y in
    let f = λ (b : ℕ). padded (block_of text b) in
    let x = λ (b : ℕ). block_number (f b) in
    let step = λ (y : ℕ) (block : List ℕ). product (bit_xor y (block_number block)) h in
    let count : c.loop-b.b ≡ block_count text = omega arith in
    let folded : y ≡ fold step 0 (padded_blocks text) = c.loop-b.invariant ∙ ap (hash_from h 0 x) count ∙ sym (fold_is h f (block_count text)) in
    let bits : length text * 8 % 2 ^ 64 ≡ block_number (length_block text) = sym (length_block_is text) in
    c.product.ensures h powers ∙ ap (λ n. product (bit_xor n (length text * 8 % 2 ^ 64)) h) folded ∙ ap (λ n. product (bit_xor (fold step 0 (padded_blocks text)) n) h) bits
    ∙ sym (fold-append step 0 (padded_blocks text) (length_block text ∷ []))
