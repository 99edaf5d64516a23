use Rattle.std.proofs.Common.{inr}
use Rattle.ilpstream_main.proofs.process.tell_terminal.Goals as goal

pub returns-in-Ok-Frames : goal.returns-in-Ok-Frames
returns-in-Ok-Frames g c = inr (c.if-is_terminal.true, rw c.in-Ok-Frames.field-0-is at c.in-Ok-Frames.ensures, c.say.ensures)
