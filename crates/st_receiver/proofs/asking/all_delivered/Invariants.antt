use Rattle.std.proofs.Common.{◌≡◌, ◌*◌, ◌^◌, ◌-◌, ◌≤◌, take, map}
use Rattle.std.specs.Prelude.{sum}
use Rattle.st_receiver.specs.Streams.{delivered_of}
use Rattle.st_receiver.proofs.asking.all_delivered.Given as goal

abbrev pub invariant-loop-slot : goal.invariant-loop-slot
invariant-loop-slot g l = (l.total ≡ sum (take l.slot-index (map delivered_of l.slots.items))) × (l.total ≤ l.slot-index * (2 ^ 64 - 1))
