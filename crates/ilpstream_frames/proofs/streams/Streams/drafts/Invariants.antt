use Rattle.std.proofs.Common.{◌≡◌, length}
use Rattle.std.specs.Prelude.{Ok}
use Rattle.ilpstream_frames.specs.Inboxes.{frames_from, after_frames}
use Rattle.ilpstream_frames.specs.Drafts.{over}
use Rattle.ilpstream_frames.proofs.streams.Streams.drafts.Given as goal

abbrev pub invariant-loop-frame : goal.invariant-loop-frame
invariant-loop-frame g l = record {
  length : length l.drafts.items ≡ 64;
  same : frames_from (Ok (over l.drafts.items l.self)) l.frame-iterator ≡ after_frames l.self l.fn.frames;
  next : (goal.iterator-loop-frame g).can_next l.frame-iterator;
  finite : (goal.iterator-loop-frame g).is_finite l.frame-iterator;
}
