use Rattle.std.proofs.Common.{◌≡◌, ◌∙◌, map, arith}
use Rattle.st_frames.specs.Seen.{seen}
use Rattle.st_receiver.proofs.Rows.{told-more, told-all}
use Rattle.st_receiver.proofs.intake.Intake.told.Goals as goal

pub loop-k-preserved : goal.loop-k-preserved
loop-k-preserved g c =
    c.in_ok-push_limits.ensures.told ∙ told-more c.args.self.now.state c.args.limit c.args.named.now c.args.totals.now c.loop-k.k (map seen c.loop-k.frames.items) c.loop-k.invariant

pub returns-clause-told : goal.returns-clause-told
returns-clause-told g c =
    let e : c.loop-k.k ≡ 64 = omega (arith, c.loop-k.auto.k-end, c.loop-k-test.false) in
    c.loop-k.invariant ∙ told-all c.args.self.now.state c.args.limit c.args.named.now c.args.totals.now c.loop-k.k e
