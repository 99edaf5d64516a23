use Rattle.std.proofs.Common.{◌∙◌, arith}
use Rattle.st_aes.proofs.Rounds.{round_key_columns}
use Rattle.st_aes.proofs.cipher.round_planes.Goals as goal

pub returns : goal.returns
returns c j few = c.planes_of.ensures j few ∙ c.block_of.ensures ∙ round_key_columns c.args.words.now c.args.round (omega arith)
