use Rattle.std.proofs.Common.{◌∙◌, sym}
use Rattle.st_receiver.specs.Inside.{held_or}
use Rattle.st_receiver.proofs.Pieces.{piece_fits}
use Rattle.st_receiver.proofs.intake.Intake.piece_fault.Goals as goal

pub raised-requires : goal.raised-requires
raised-requires g c = piece_fits c.args.offset c.args.bytes.now (held_or c.index-slot.result.now) (sym c.is_past.ensures ∙ c.if-is_past.false)
