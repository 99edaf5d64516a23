use Rattle.std.proofs.Common.{◌∙◌, map, refl}
use Rattle.std.specs.List.{list_any}
use Rattle.st_frames.specs.Frames.{frame_of}
use Rattle.st_frames.specs.Seen.{seen_at}
use Rattle.st_receiver.specs.Standing.{is_ready, opens}
use Rattle.st_receiver.proofs.Applying.{or_right, ready_step, opens_first, opens_rest, opens_below}
use Rattle.st_receiver.proofs.intake.Intake.make_all_ready.Goals as goal

pub loop-frame-init : goal.loop-frame-init
loop-frame-init g c = record {
  state = refl;
  left = λ k h. or_right (is_ready c.args.self.now k) (list_any (opens k) (map frame_of c.args.frames)) h;
  within = λ k h. opens_below c.args.self.now.state (map frame_of c.args.frames) k c.requires.lawful h;
}

pub loop-frame-preserved : goal.loop-frame-preserved
loop-frame-preserved g c =
    let i = c.loop-frame.invariant in
    let x = seen_at (c.in-Some.field-0-0, c.in-Some.frame) in
    record {
      state = c.in_ok-make_frame_ready.ensures.state ∙ i.state;
      left = λ k h. ready_step c.loop-frame.self c.make_frame_ready.new.self c.loop-frame.frames c.next.new.self x k c.in-Some.ensures.steps c.in_ok-make_frame_ready.ensures.stays
          (λ o. c.in_ok-make_frame_ready.ensures.ready k (i.within k (opens_first c.loop-frame.frames c.next.new.self x k c.in-Some.ensures.steps o)) o) (i.left k h);
      within = λ k h. i.within k (opens_rest c.loop-frame.frames c.next.new.self x k c.in-Some.ensures.steps h);
    }
