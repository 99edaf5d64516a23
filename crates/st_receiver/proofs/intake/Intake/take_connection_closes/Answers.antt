use Rattle.std.proofs.Common.{◌∙◌, refl, sym}
use Rattle.st_frames.specs.Seen.{seen_at}
use Rattle.st_receiver.proofs.Applying.{rest_connection, none_connection}
use Rattle.st_receiver.proofs.intake.Intake.take_connection_closes.Goals as goal

pub loop-frame-init : goal.loop-frame-init
loop-frame-init g c = record { same = refl; room = refl }

pub loop-frame-preserved : goal.loop-frame-preserved
loop-frame-preserved g c = record {
  same = rest_connection c.loop-frame.self.state c.take_connection_close.new.self.state c.loop-frame.frames c.next.new.self (seen_at (c.in-Some.field-0-0, c.in-Some.frame)) c.in-Some.ensures.steps c.take_connection_close.ensures.state ∙ c.loop-frame.invariant.same;
  room = c.take_connection_close.ensures.room ∙ c.loop-frame.invariant.room;
}

pub returns-clause-state : goal.returns-clause-state
returns-clause-state g c = sym (none_connection c.loop-frame.self.state c.loop-frame.frames c.in_default.ensures.steps.0) ∙ c.loop-frame.invariant.same

pub returns-clause-room : goal.returns-clause-room
returns-clause-room g c = c.loop-frame.invariant.room
