use Rattle.ilpstream_frames.specs.Drafts.{StandFor}
use Rattle.ilpstream_frames.proofs.streams.pieces_of.Given as goal

abbrev pub invariant-loop-frame : goal.invariant-loop-frame
invariant-loop-frame l = record {
  same : StandFor l.pieces l.frame-iterator l.fn.frames;
  next : goal.iterator-loop-frame.can_next l.frame-iterator;
  finite : goal.iterator-loop-frame.is_finite l.frame-iterator;
}
