use Rattle.std.proofs.Common.{ℕ, bit_xor, ap, ◌∙◌, arith}
use Rattle.std.specs.Int.{w128, to_be_bytes}
use Rattle.st_aes.specs.Gcm.{block_number, ghash, hash_key, hashed_blocks, tag}
use Rattle.st_aes.proofs.Streams.{mask_is}
use Rattle.st_aes.proofs.gcm.tag.Goals as goal

pub returns : goal.returns
unfolding tag
returns c =
    let hash = ghash (hash_key c.args.key.now) (hashed_blocks c.args.text.now) in
    let mask = c.from_be_bytes-mask.ensures ∙ ap block_number (c.front.ensures ∙ mask_is c.args.first.now c.args.key.now c.args.iv 128 (omega arith) c.requires) in
    c.to_be_bytes.ensures ∙ ap (λ (n : ℕ). to_be_bytes w128 (bit_xor n c.from_be_bytes-mask.result)) c.ghash.ensures ∙ ap (λ (n : ℕ). to_be_bytes w128 (bit_xor hash n)) mask
