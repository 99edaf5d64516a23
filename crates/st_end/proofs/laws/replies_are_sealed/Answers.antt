use Rattle.st_end.specs.Receiving.{prepare_in, verdict}
use Rattle.st_end.proofs.Sealing.{reply_short, reply_sealed, reply_told}
use Rattle.st_end.proofs.laws.replies_are_sealed.Goals as goal

pub returns : goal.returns
returns c = record { short = reply_short; each = reply_sealed; answers = λ e bytes now. reply_told e (prepare_in bytes) (verdict e bytes now) }
