use Rattle.std.proofs.Common.{◌∙◌, ap}
use Rattle.st_receiver.specs.Sequences.{set_of}
use Rattle.st_receiver.proofs.Seating.{set_of-nil}
use Rattle.st_receiver.proofs.sequences.Sequences.new.Goals as goal

pub returns : goal.returns
returns g c = ap set_of c.new.ensures.items ∙ set_of-nil
