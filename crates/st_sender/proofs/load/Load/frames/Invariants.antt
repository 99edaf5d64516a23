use Rattle.std.proofs.Common.{◌≡◌, ◌++◌, map, drop}
use Rattle.st_frames.specs.Seen.{seen}
use Rattle.st_sender.specs.Shown.{paying}
use Rattle.st_sender.proofs.load.Load.frames.Given as goal

abbrev pub invariant-loop-payment : goal.invariant-loop-payment
invariant-loop-payment g l = map seen l.frames.items ++ map paying (drop l.payment-index l.payment-items) ≡ map seen l.initial.frames.items ++ map paying l.payment-items
