use Rattle.std.proofs.Common.{◌∙◌, refl, sym}
use Rattle.st_frames.specs.Seen.{seen_at}
use Rattle.st_receiver.proofs.Applying.{keeps_itself, keeps_join, first_ready, rest_ready, rest_closes, none_closes}
use Rattle.st_receiver.proofs.intake.Intake.take_closes.Goals as goal

pub loop-frame-init : goal.loop-frame-init
loop-frame-init g c = record { same = refl; ready = c.requires.ready; keeps = keeps_itself c.args.self.now }

pub take_close-requires : goal.take_close-requires
take_close-requires g c = record {
  ready = first_ready c.loop-frame.self c.loop-frame.frames c.next.new.self (seen_at (c.in-Some.field-0-0, c.in-Some.frame)) c.in-Some.ensures.steps c.loop-frame.invariant.ready;
}

pub loop-frame-preserved : goal.loop-frame-preserved
loop-frame-preserved g c =
    let i = c.loop-frame.invariant in
    let x = seen_at (c.in-Some.field-0-0, c.in-Some.frame) in
    record {
      same = rest_closes c.loop-frame.self.state c.take_close.new.self.state c.loop-frame.frames c.next.new.self x c.in-Some.ensures.steps c.take_close.ensures.state ∙ i.same;
      ready = rest_ready c.loop-frame.self c.take_close.new.self c.loop-frame.frames c.next.new.self x c.in-Some.ensures.steps c.take_close.ensures.keeps.ready i.ready;
      keeps = keeps_join c.args.self.now c.loop-frame.self c.take_close.new.self i.keeps c.take_close.ensures.keeps;
    }

pub returns-clause-state : goal.returns-clause-state
returns-clause-state g c = sym (none_closes c.loop-frame.self.state c.loop-frame.frames c.in_default.ensures.steps.0) ∙ c.loop-frame.invariant.same

pub returns-clause-keeps : goal.returns-clause-keeps
returns-clause-keeps g c = c.loop-frame.invariant.keeps
