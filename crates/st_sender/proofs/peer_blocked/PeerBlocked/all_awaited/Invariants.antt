use Rattle.std.proofs.Common.{◌≡◌, map, drop}
use Rattle.st_frames.specs.Seen.{seen}
use Rattle.st_sender.specs.Allowed.{AreAwaited, costs, less}
use Rattle.st_sender.proofs.peer_blocked.PeerBlocked.all_awaited.Given as goal

abbrev pub invariant-loop-frame : goal.invariant-loop-frame
invariant-loop-frame g l =
    AreAwaited l.self l.flights l.fn.bounds (map seen l.limits) l.frame-index (map seen (drop l.frame-index l.limits)) l.frames.items × (l.left ≡ less l.fn.bounds (costs l.frames.items))
