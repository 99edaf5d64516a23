use Rattle.std.proofs.Common.{subst}
use Rattle.st_frames.specs.Seen.{seen}
use Rattle.st_frames.specs.Frames.{Known}
use Rattle.st_sender.specs.ControlFrames.{IsAwaited}
use Rattle.st_sender.proofs.Said.{no_limit}
use Rattle.st_sender.proofs.peer_blocked.PeerBlocked.awaited.Goals as goal

pub returns-in_default : goal.returns-in_default
returns-in_default g c = no_limit c.args.self.now c.args.flights.now c.args.bounds (seen c.args.frame.now) c.in_default.ensures

pub returns-else-is_awaited : goal.returns-else-is_awaited
returns-else-is_awaited g c = subst (λ (f : Known). ¬ IsAwaited c.args.self.now c.args.flights.now c.args.bounds f) c.in-Some.ensures (c.is_awaited.ensures.no c.if-is_awaited.false)
