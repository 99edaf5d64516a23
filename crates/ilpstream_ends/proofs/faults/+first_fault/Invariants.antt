use Rattle.std.proofs.Common.{length}
use Rattle.ilpstream_ends.proofs.faults.+first_fault.Given as goal

abbrev pub decreases-first_fault : goal.decreases-first_fault
decreases-first_fault l = length l.ends.now
