use Rattle.std.proofs.Common.{arith}
use Rattle.st_receiver.proofs.intake.Intake.set_receive_max.Goals as goal

pub raise_kept-requires : goal.raise_kept-requires
raise_kept-requires g c = omega (arith, c.number.ensures.bounds.1, c.number.ensures.number, c.from-number.ensures)
