use Rattle.std.proofs.Common.{ℕ, ◌+◌, subst, arith}
use Rattle.st_world_parts.specs.Events.{Event}
use Rattle.ilpstream_settings.specs.declared.settings.LocalSettings.{LocalSettings}
use Rattle.st_world_parts.specs.Seen.{way_seen}
use Rattle.std.proofs.Common.{[], ◌∷◌}
use Rattle.ilpstream_local.specs.Schedule.{Begins, BeginsEach, Takes, answer}
use Rattle.ilpstream_local.proofs.Plays.{continues_then}
use Rattle.ilpstream_local.proofs.Rounds.{begins_push, each_push}
use Rattle.ilpstream_local.proofs.Stops.{err_now}
use Rattle.ilpstream_local.proofs.chain.come_back.Goals as goal

pub returns-in_err-return_on-clause-begun : goal.returns-in_err-return_on-clause-begun
returns-in_err-return_on-clause-begun g c =
    let p = c.args.play.now in
    let q = c.loop-after.play in
    let r = c.return_on.new.play in
    let i = c.loop-after.after in
    let f : ℕ → Event = answer (way_seen c.args.way) p.asked.hops c.args.number in
    let begun : Begins (f i) q r = subst (λ (s : LocalSettings). Begins (answer (way_seen c.args.way) s.hops c.args.number i) q r) c.loop-after.invariant.taken.asked c.in_err-return_on.ensures.begun in
    err_now c.from_residual.result (BeginsEach f (p.asked.hops + 1) p r) (begins_push f i (p.asked.hops + 1) p q r (omega (arith, c.loop-after-test.true, c.hops-hops.ensures.count)) c.loop-after.invariant.taken begun)

pub loop-after-preserved : goal.loop-after-preserved
loop-after-preserved g c =
    let p = c.args.play.now in
    let q = c.loop-after.play in
    let r = c.return_on.new.play in
    let i = c.loop-after.after in
    let f : ℕ → Event = answer (way_seen c.args.way) p.asked.hops c.args.number in
    let one : Takes (f i ∷ []) q r = subst (λ (s : LocalSettings). Takes (answer (way_seen c.args.way) s.hops c.args.number i ∷ []) q r) c.loop-after.invariant.taken.asked c.in_ok-return_on.ensures.taken in
    record {
      kept = continues_then p q r c.loop-after.invariant.kept c.return_on.ensures.kept;
      taken = each_push f i p q r c.loop-after.invariant.taken one;
    }
