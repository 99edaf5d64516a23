use Rattle.std.proofs.Common.{List, ℕ, ap, ◌∙◌}
use Rattle.st_aes.specs.Cipher.{key_expansion, encrypt, encrypt_with}
use Rattle.st_aes.specs.Columns.{words_of}
use Rattle.st_aes.proofs.cipher.block.Goals as goal

pub returns : goal.returns
unfolding encrypt
returns c = c.encrypted_block.ensures (words_of c.key.inside.parts.words) c.key.invariant.2 ∙ ap (λ (ws : List (List ℕ)). encrypt_with ws c.args.input) (c.key.invariant.0 ∙ ap key_expansion c.key.view_is)
