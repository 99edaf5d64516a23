use Rattle.std.proofs.Common.{arith}
use Rattle.st_hub.proofs.FreshRings.{fresh_sound}
use Rattle.st_hub.proofs.streams.Streams.new.Goals as goal

pub invariant_of-result : goal.invariant_of-result
invariant_of-result g c =
    let w = c.requires.writes in
    let r = c.requires.reads in
    fresh_sound _ _ _ _ _ c.requires.fresh (omega (arith, w.0, c.args.writes.ok.0)) w.1 (omega (arith, r.0, c.args.reads.ok.0)) r.1
