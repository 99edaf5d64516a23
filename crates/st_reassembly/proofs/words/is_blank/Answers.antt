use Rattle.st_reassembly.proofs.Bits.{no_bit}
use Rattle.st_reassembly.proofs.words.is_blank.Goals as goal

pub returns : goal.returns
returns c blank i _ = no_bit c.args.word blank i
