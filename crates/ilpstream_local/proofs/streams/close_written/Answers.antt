use Rattle.std.proofs.Common.{ℕ, subst, arith}
use Rattle.ilpstream_local.specs.Parts.{part_size}
use Rattle.ilpstream_local.specs.Schedule.{BeginsToClose, IsWhole}
use Rattle.ilpstream_local.proofs.Plays.{continues_then}
use Rattle.ilpstream_local.proofs.Rounds.{closes_more, closing_more, whole_more}
use Rattle.ilpstream_local.proofs.Stops.{err_now}
use Rattle.ilpstream_local.proofs.streams.close_written.Goals as goal

pub returns-in_err-close-clause-begun : goal.returns-in_err-close-clause-begun
returns-in_err-close-clause-begun g c =
    let size = part_size c.args.bytes c.args.streams in
    let p = c.args.play.now in
    let q = c.loop-count.play in
    let r = c.close.new.play in
    let i = c.loop-count.count in
    let next : IsWhole size c.args.bytes c.args.sent i = subst (λ (n : ℕ). IsWhole n c.args.bytes c.args.sent i) c.part_size-size.ensures (c.is_whole.ensures.0 c.if-is_whole.true) in
    err_now c.from_residual.result (BeginsToClose size c.args.bytes c.args.sent c.args.closed p r)
    (closing_more size c.args.bytes c.args.sent c.args.closed i p q r c.loop-count.invariant.more c.loop-count.invariant.whole next c.loop-count.invariant.closes c.in_err-close.ensures.begun)

pub loop-count-preserved : goal.loop-count-preserved
loop-count-preserved g c =
    let size = part_size c.args.bytes c.args.streams in
    let p = c.args.play.now in
    let q = c.loop-count.play in
    let r = c.close.new.play in
    let i = c.loop-count.count in
    let next : IsWhole size c.args.bytes c.args.sent i = subst (λ (n : ℕ). IsWhole n c.args.bytes c.args.sent i) c.part_size-size.ensures (c.is_whole.ensures.0 c.if-is_whole.true) in
    record {
      kept = continues_then p q r c.loop-count.invariant.kept c.close.ensures.kept;
      more = omega (arith, c.loop-count.invariant.more);
      whole = whole_more size c.args.bytes c.args.sent c.args.closed i c.loop-count.invariant.whole next;
      closes = closes_more c.args.closed i p q r c.loop-count.invariant.more c.loop-count.invariant.closes c.in_ok-close.ensures.taken;
    }
