use Rattle.std.proofs.Common.{length, ap, ◌∙◌, refl}
use Rattle.ilpstream_frames.proofs.Overs.{over-fresh, length-opening}
use Rattle.ilpstream_frames.proofs.streams.Streams.drafts.Goals as goal

pub loop-frame-init : goal.loop-frame-init
loop-frame-init g c = record {
  length = ap length c.in-Ok.ensures ∙ length-opening;
  same =
      rw (c.into_iter-frame-iterator.ensures.into_iter_gives, over-fresh c.in-Ok.drafts.items _ c.args.self.now c.in-Ok.ensures c.self.view_is c.self.invariant) refl;
  next = tt;
  finite = tt;
}
