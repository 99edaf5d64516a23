use Rattle.std.proofs.Common.{◌∙◌, arith}
use Rattle.st_lanes.proofs.Ends.{block_of_text, block_of_end}
use Rattle.st_lanes.proofs.padding.padded_block.Goals as goal

pub returns-then-i-whole : goal.returns-then-i-whole
returns-then-i-whole c = λ few. c.block_of.ensures ∙ block_of_text c.args.before c.args.text.now c.args.i c.if-i-whole.true

pub returns : goal.returns
returns c = λ few. c.block_of-2.ensures ∙ block_of_end c.args.before c.args.text.now c.padded_end.result c.args.i (omega arith) few c.padded_end.ensures
