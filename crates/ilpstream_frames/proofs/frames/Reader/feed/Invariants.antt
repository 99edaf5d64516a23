use Rattle.std.proofs.Common.{◌≤◌, ◌+◌, ◌-◌, length, take}
use Rattle.ilpstream_frames.proofs.Progressing.{TakesTo}
use Rattle.ilpstream_frames.proofs.frames.Reader.feed.Given as goal

abbrev pub invariant-loop-from : goal.invariant-loop-from
invariant-loop-from g l = record {
  answered : TakesTo l.fn.self (take l.from l.piece) l.fn.out.items l.out.items l.self;
  within : l.from ≤ length l.piece;
  bounded : l.self.index + l.self.line.count ≤ l.fn.self.index + l.fn.self.line.count + l.from;
}

abbrev pub decreases-loop-from : goal.decreases-loop-from
decreases-loop-from g l = length l.piece - l.from
