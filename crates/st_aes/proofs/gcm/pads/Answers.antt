use Rattle.std.proofs.Common.{ap, ◌∙◌, arith}
use Rattle.st_aes.specs.Cipher.{key_expansion}
use Rattle.st_aes.specs.Columns.{words_of}
use Rattle.st_aes.proofs.Streams.{pads_encrypted}
use Rattle.st_aes.proofs.gcm.pads.Goals as goal

pub returns : goal.returns
returns c =
    let ws = words_of c.key.inside.parts.words in
    pads_encrypted c.args.key.now c.args.iv c.encrypted_blocks.result c.put_counter_blocks.new.out ws c.args.first 8 (omega arith) (omega arith) (omega arith) (c.key.invariant.0 ∙ ap key_expansion c.key.view_is)
    (c.encrypted_blocks.ensures ws c.key.invariant.2) (λ i lt. c.put_counter_blocks.ensures.cells i (omega arith))
