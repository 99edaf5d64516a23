use Rattle.std.proofs.Common.{◌∙◌}
use Rattle.st_unacked.proofs.Steps.{claims_more}
use Rattle.st_unacked.proofs.run.claim.Goals as goal

pub loop-run-preserved : goal.loop-run-preserved
loop-run-preserved g c = record {
  parted = c.in_ok-append_claimed.ensures.parted;
  claims = λ q l. claims_more c.args.runs.now.items c.deref-run-items.result.now c.loop-run.all.items c.append_claimed.new.runs.items c.loop-run.run-index _ c.args.sequence c.args.from c.args.to q c.deref-run-items.ensures.value c.loop-run-test.true (c.in_ok-append_claimed.ensures.claims q l) ∙ c.loop-run.invariant.claims q l;
}
