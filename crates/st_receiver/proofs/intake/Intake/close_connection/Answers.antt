use Rattle.std.proofs.Common.{◌∙◌, true, length, map, ap}
use Rattle.std.proofs.lemmas.List.{length-map}
use Rattle.st_receiver.specs.Closes.{with_abort}
use Rattle.st_receiver.specs.Standing.{Standing}
use Rattle.st_receiver.proofs.Applying.{shown}
use Rattle.st_receiver.proofs.intake.Intake.close_connection.Goals as goal

pub invariant_of-self : goal.invariant_of-self
invariant_of-self g c =
    (ap length c.abort_all.ensures ∙ length-map c.self.inside.slots.items (with_abort c.args.code) ∙ c.self.invariant.0, c.self.invariant.1)

pub returns-clause-state : goal.returns-clause-state
returns-clause-state g c =
    ap (λ ss. shown c.self.inside.parity ss c.self.inside.kept c.self.inside.fulfilled.set c.self.inside.credit true) c.abort_all.ensures
    ∙ ap (λ (t : Standing). record t.state { streams = map (with_abort c.args.code) t.state.streams; closed = true }) c.self.view_is

pub returns-clause-room : goal.returns-clause-room
returns-clause-room g c = ap (λ (t : Standing). t.room) c.self.view_is
