use Rattle.std.proofs.Common.{sym, subst}
use Rattle.st_frames.specs.Seen.{seen}
use Rattle.st_receiver.specs.Closes.{with_close, after_close}
use Rattle.st_receiver.specs.Streams.{incoming_at, with_incoming}
use Rattle.st_receiver.specs.Inside.{Counts}
use Rattle.st_receiver.proofs.Tallying.{counts_close}
use Rattle.st_receiver.proofs.closing.Tally.take_close.Goals as goal

pub returns-then-stream-lt65 : goal.returns-then-stream-lt65
returns-then-stream-lt65 c r k =
    let s = c.in-StreamClose.stream in
    let code = c.in-StreamClose.code in
    subst (λ f. Counts (after_close r (seen f)) c.close.new.self) (sym c.in-StreamClose.is)
    (subst (Counts (with_incoming r s (with_close code (incoming_at r s)))) (sym c.close.ensures) (counts_close r c.args.self.now s code k))
