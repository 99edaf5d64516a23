use Rattle.std.proofs.Common.{◌≡◌, ◌∙◌, map, refl, sym, subst}
use Rattle.st_frames.specs.Frames.{frame_of}
use Rattle.st_frames.specs.Seen.{seen_at}
use Rattle.st_receiver.specs.Closes.{after_close, after_closes}
use Rattle.st_receiver.specs.Inside.{Counts}
use Rattle.st_receiver.proofs.Applying.{rest_closes, none_closes}
use Rattle.st_receiver.proofs.closing.Tally.take_closes.Goals as goal

pub loop-frame-preserved : goal.loop-frame-preserved
loop-frame-preserved c r k =
    let i = c.loop-frame.invariant r k in
    let x = seen_at (c.in-Some.field-0-0, c.in-Some.frame) in
    (after_close i.0 x.1, c.take_close.ensures i.0 i.1, rest_closes i.0 (after_close i.0 x.1) c.loop-frame.frames c.next.new.self x c.in-Some.ensures.steps refl ∙ i.2)

pub returns : goal.returns
returns c r k =
    let i = c.loop-frame.invariant r k in
    let same : i.0 ≡ after_closes r (map frame_of c.args.frames) = sym (none_closes i.0 c.loop-frame.frames c.in_default.ensures.steps.0) ∙ i.2 in
    subst (λ q. Counts q c.loop-frame.self) same i.1
