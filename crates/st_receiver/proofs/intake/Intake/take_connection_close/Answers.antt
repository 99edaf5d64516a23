use Rattle.std.proofs.Common.{◌∙◌, sym, ap}
use Rattle.st_frames.specs.declared.frame.Frame.{Frame}
use Rattle.st_frames.specs.Seen.{seen}
use Rattle.st_receiver.specs.Closes.{after_connection_close}
use Rattle.st_receiver.proofs.intake.Intake.take_connection_close.Goals as goal

pub returns-in-ConnectionClose-clause-state : goal.returns-in-ConnectionClose-clause-state
returns-in-ConnectionClose-clause-state g c = c.close_connection.ensures.state ∙ ap (λ (f : Frame). after_connection_close c.args.self.now.state (seen f)) (sym c.in-ConnectionClose.is)
