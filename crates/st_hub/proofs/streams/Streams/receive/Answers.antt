use Rattle.std.proofs.Common.{subst}
use Rattle.st_hub.specs.Trying.{Beside}
use Rattle.st_hub.specs.Keeping.{Keeps}
use Rattle.st_hub.proofs.Ties.{core_sound}
use Rattle.std.specs.Prelude.{IfOk}
use Rattle.st_end.specs.Seen.{received_seen}
use Rattle.st_hub.specs.Turns.{credited_by}
use Rattle.st_hub.proofs.CoreCalls.{receive_keeps, receive_some}
use Rattle.st_hub.proofs.Opening.{receive_opens}
use Rattle.st_hub.proofs.streams.Streams.receive.Goals as goal

pub invariant_of-self : goal.invariant_of-self
invariant_of-self g c =
    let k = receive_some _ _ c.args.bytes.now c.args.now c.receive.result c.receive.ensures.answers c.receive.ensures.unchanged in
    core_sound _ _ k.0 _ _ _ _ k.1 (receive_opens _ _ c.args.bytes.now c.args.now c.receive.result c.receive.ensures.answers c.receive.ensures.unchanged) c.self.invariant

pub returns-clause-answers : goal.returns-clause-answers
returns-clause-answers g c = rw (← c.self.view_is) c.receive.ensures.answers

pub returns-clause-keeps : goal.returns-clause-keeps
returns-clause-keeps g c = subst (λ (f : Beside _). IfOk c.receive.result (λ r. Keeps (credited_by (received_seen r)) f.flow.core c.receive.new.self)) c.self.view_is (receive_keeps _ _ c.args.bytes.now c.args.now c.receive.result c.receive.ensures.answers)

pub returns-clause-unchanged : goal.returns-clause-unchanged
returns-clause-unchanged g c = rw (← c.self.view_is) c.receive.ensures.unchanged
