use Rattle.ilpstream_frames.proofs.Overs.{counted_none}
use Rattle.ilpstream_frames.proofs.streams.none_named.Goals as goal

pub returns : goal.returns
returns g c = counted_none c.loop.inboxes.items c.loop.counter c.loop-test.false c.loop.auto.counter-end c.loop.invariant
