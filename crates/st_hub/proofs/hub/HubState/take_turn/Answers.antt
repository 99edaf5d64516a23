use Rattle.std.proofs.Common.{ap, sym, ◌∙◌}
use Rattle.st_sender.specs.Stops.{blocked_at}
use Rattle.st_sender.specs.Sending.{Sending}
use Rattle.st_end.specs.Unsealed.{known}
use Rattle.st_end.proofs.Plain.{sent_goes}
use Rattle.st_hub.specs.Hub.{with_core}
use Rattle.st_hub.specs.Turns.{Sent}
use Rattle.st_hub.proofs.EndEvents.{known_sending}
use Rattle.st_hub.proofs.hub.HubState.take_turn.Goals as goal

pub returns-clause-goes : goal.returns-clause-goes
returns-clause-goes g c =
    let turn = c.seal-turn.result in
    let core = c.take_unsealed.new.self.flow.core in
    let iv = ap (λ (t : Sent). t.iv) c.seal-turn.ensures ∙ (rw c.in-Some.is at c.in_ok-unsealed.ensures.iv) in
    sent_goes _ core _ _ _ _ _ _ _ (rw c.in-Some.is at c.in_ok-unsealed.ensures.goes) (ap (λ (t : Sent). t.flight) c.seal-turn.ensures) (ap (λ (t : Sent). t.bytes) c.seal-turn.ensures)
    (c.keep_turn.ensures.kept ∙ ap (λ v. known core v turn.flight) iv)

pub returns-clause-stops : goal.returns-clause-stops
returns-clause-stops g c =
    let turn = c.seal-turn.result in
    let core = c.take_unsealed.new.self.flow.core in
    let same = known_sending core _ turn.iv turn.flight c.keep_turn.ensures.kept in
    ap (λ (t : Sent). t.stops) c.seal-turn.ensures
    ∙ (rw c.in-Some.is at c.in_ok-unsealed.ensures.stops)
    ∙ sym (ap (λ (s : Sending). blocked_at s.flights turn.flight.sequence) same ∙ ap (λ (t : Sent). blocked_at core.sending.flights t.flight.sequence) c.seal-turn.ensures)

pub returns-clause-rest : goal.returns-clause-rest
returns-clause-rest g c = c.keep_turn.ensures.rest ∙ ap (λ h. with_core h c.keep_turn.new.self.flow.core) c.in_ok-unsealed.ensures.rest
