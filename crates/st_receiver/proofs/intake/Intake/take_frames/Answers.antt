use Rattle.std.proofs.Common.{◌∙◌, refl, sym}
use Rattle.st_frames.specs.Seen.{seen_at}
use Rattle.st_receiver.proofs.Applying.{keeps_itself, keeps_join, first_ready, rest_ready, first_lawful, rest_lawful, rest_after, none_after}
use Rattle.st_receiver.proofs.intake.Intake.take_frames.Goals as goal

pub loop-frame-init : goal.loop-frame-init
loop-frame-init g c = record { same = refl; lawful = c.requires.lawful; ready = c.requires.ready; keeps = keeps_itself c.args.self.now }

pub take_frame-requires-clause-ready : goal.take_frame-requires-clause-ready
take_frame-requires-clause-ready g c =
    first_ready c.loop-frame.self c.loop-frame.frames c.next.new.self (seen_at (c.in-Some.field-0-0, c.in-Some.frame)) c.in-Some.ensures.steps c.loop-frame.invariant.ready

pub take_frame-requires-clause-lawful : goal.take_frame-requires-clause-lawful
take_frame-requires-clause-lawful g c =
    first_lawful c.loop-frame.self.state c.loop-frame.frames c.next.new.self (seen_at (c.in-Some.field-0-0, c.in-Some.frame)) c.in-Some.ensures.steps c.loop-frame.invariant.lawful

pub loop-frame-preserved : goal.loop-frame-preserved
loop-frame-preserved g c =
    let i = c.loop-frame.invariant in
    let x = seen_at (c.in-Some.field-0-0, c.in-Some.frame) in
    record {
      same = rest_after c.loop-frame.self.state c.take_frame.new.self.state c.loop-frame.frames c.next.new.self x c.in-Some.ensures.steps c.take_frame.ensures.state ∙ i.same;
      lawful = rest_lawful c.loop-frame.self.state c.take_frame.new.self.state c.loop-frame.frames c.next.new.self x c.in-Some.ensures.steps c.take_frame.ensures.state i.lawful;
      ready = rest_ready c.loop-frame.self c.take_frame.new.self c.loop-frame.frames c.next.new.self x c.in-Some.ensures.steps c.take_frame.ensures.keeps.ready i.ready;
      keeps = keeps_join c.args.self.now c.loop-frame.self c.take_frame.new.self i.keeps c.take_frame.ensures.keeps;
    }

pub returns-clause-state : goal.returns-clause-state
returns-clause-state g c = sym (none_after c.loop-frame.self.state c.loop-frame.frames c.in_default.ensures.steps.0) ∙ c.loop-frame.invariant.same

pub returns-clause-keeps : goal.returns-clause-keeps
returns-clause-keeps g c = c.loop-frame.invariant.keeps
