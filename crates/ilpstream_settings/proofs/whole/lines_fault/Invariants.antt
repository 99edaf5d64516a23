use Rattle.std.proofs.Common.{map, take}
use Rattle.ilpstream_settings.proofs.Placing.{IsRead}
use Rattle.ilpstream_settings.proofs.whole.lines_fault.Given as goal

abbrev pub invariant-loop-index : goal.invariant-loop-index
invariant-loop-index g l = IsRead (map (λ w. w.now) l.lines) (map (λ w. w.now) (take l.index l.lines)) l.read.names.keys l.read.routes.items
