use Rattle.std.proofs.Common.{ℕ, ◌+◌, subst, arith}
use Rattle.st_world_parts.specs.Events.{Event}
use Rattle.ilpstream_settings.specs.declared.settings.LocalSettings.{LocalSettings}
use Rattle.st_world_parts.specs.Seen.{way_seen}
use Rattle.std.proofs.Common.{[], ◌∷◌}
use Rattle.ilpstream_local.specs.Schedule.{Begins, BeginsEach, Takes, arrival}
use Rattle.ilpstream_local.proofs.Plays.{continues_then}
use Rattle.ilpstream_local.proofs.Rounds.{begins_push, each_push}
use Rattle.ilpstream_local.proofs.Stops.{err_now}
use Rattle.ilpstream_local.proofs.chain.go_across.Goals as goal

pub returns-in_err-arrive-clause-begun : goal.returns-in_err-arrive-clause-begun
returns-in_err-arrive-clause-begun g c =
    let p = c.args.play.now in
    let q = c.loop-before.play in
    let r = c.arrive.new.play in
    let i = c.loop-before.before in
    let f : ℕ → Event = arrival (way_seen c.args.way) p.asked.hops c.args.first c.args.number in
    let begun : Begins (f i) q r = subst (λ (s : LocalSettings). Begins (arrival (way_seen c.args.way) s.hops c.args.first c.args.number i) q r) c.loop-before.invariant.taken.asked c.in_err-arrive.ensures.begun in
    err_now c.from_residual.result (BeginsEach f (p.asked.hops + 1) p r) (begins_push f i (p.asked.hops + 1) p q r (omega (arith, c.loop-before-test.true, c.hops-hops.ensures.count)) c.loop-before.invariant.taken begun)

pub loop-before-preserved : goal.loop-before-preserved
loop-before-preserved g c =
    let p = c.args.play.now in
    let q = c.loop-before.play in
    let r = c.arrive.new.play in
    let i = c.loop-before.before in
    let f : ℕ → Event = arrival (way_seen c.args.way) p.asked.hops c.args.first c.args.number in
    let one : Takes (f i ∷ []) q r = subst (λ (s : LocalSettings). Takes (arrival (way_seen c.args.way) s.hops c.args.first c.args.number i ∷ []) q r) c.loop-before.invariant.taken.asked c.in_ok-arrive.ensures.taken in
    record {
      kept = continues_then p q r c.loop-before.invariant.kept c.arrive.ensures.kept;
      taken = each_push f i p q r c.loop-before.invariant.taken one;
    }
