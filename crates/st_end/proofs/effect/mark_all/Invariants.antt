use Rattle.std.proofs.Common.{◌≡◌, map}
use Rattle.st_frames.specs.Frames.{frame_of}
use Rattle.st_frames.specs.Seen.{seen}
use Rattle.st_end.specs.Receiving.{all_marked}
use Rattle.st_end.proofs.effect.mark_all.Given as goal

abbrev pub invariant-loop-frame : goal.invariant-loop-frame
invariant-loop-frame g l = all_marked (map seen l.reply) l.fn.outbox (map frame_of l.fn.frames) ≡ all_marked (map seen l.reply) l.outbox (map frame_of l.frames)
