use Rattle.std.proofs.Common.{ap, ◌∙◌, arith}
use Rattle.st_aes.specs.Cipher.{encrypt_with}
use Rattle.st_aes.proofs.cipher.encrypted_block.Goals as goal

pub returns : goal.returns
returns c ws keys = c.front.ensures ∙ c.encrypted_blocks.ensures ws keys 0 (omega arith) ∙ ap (encrypt_with ws) c.with_others.ensures
