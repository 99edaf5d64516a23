use Rattle.std.proofs.lemmas.Grind.{common_steps}
use Rattle.std.proofs.Common.{◌≡◌, refl, subst, List, ℕ, false, rules, arith}
use Rattle.std.specs.Arc.{arc_value}
use Rattle.st_receiver.specs.Limits.{limits}
use Rattle.st_end.specs.Inside.{IsSpelled}
use Rattle.st_end.proofs.Going.{spellable, sends_this, filled_this, sends_none, sent_lawful, same_lawful, none_goes, undone, goes}
use Rattle.st_end.proofs.end.EndState.send_unsealed.Goals as goal

pub invariant_of-self-in_default : goal.invariant_of-self-in_default
invariant_of-self-in_default g c =
    let own = limits c.self.inside.intake.state in
    let idle = sends_none c.self.inside.outbox c.next_load.new.outbox own c.in_ok-load.field-0 c.in_default.is c.in_ok-load.ensures.sends in
    (same_lawful _ c.next_load.new.outbox c.self.inside.conditions c.self.invariant.0 idle.1 refl, c.self.invariant.1)

pub returns-in_default-clause-goes : goal.returns-in_default-clause-goes
returns-in_default-clause-goes g c =
    let own = limits c.self.inside.intake.state in
    none_goes _ c.args.self.now c.next_load.new.outbox c.self.view_is (sends_none c.self.inside.outbox c.next_load.new.outbox own c.in_ok-load.field-0 c.in_default.is c.in_ok-load.ensures.sends)

pub launch-requires-clause-load : goal.launch-requires-clause-load
launch-requires-clause-load g c =
    let own = limits c.self.inside.intake.state in
    spellable c.self.inside.outbox c.next_load.new.outbox own c.in-Some.load (sends_this c.self.inside.outbox c.next_load.new.outbox own c.in_ok-load.field-0 c.in-Some.load c.in-Some.is c.in_ok-load.ensures.sends)

pub invariant_of-self-in-Ok-1 : goal.invariant_of-self-in-Ok-1
invariant_of-self-in-Ok-1 g c =
    let own = limits c.self.inside.intake.state in
    let sends = sends_this c.self.inside.outbox c.next_load.new.outbox own c.in_ok-load.field-0 c.in-Some.load c.in-Some.is c.in_ok-load.ensures.sends in
    let spelled = subst (λ (peer : List ℕ). IsSpelled (arc_value c.self.inside.keys) peer c.args.iv c.args.now c.in-Some.load c.in-Ok.sent.flight c.in-Ok.sent.bytes) c.as_str.ensures.value c.in-Ok.ensures.spelled in
    (sent_lawful _ c.next_load.new.outbox c.launch.new.conditions own c.in-Some.load c.args.iv c.in-Ok.sent.bytes c.args.now c.in-Ok.sent.flight c.self.invariant.0 sends spelled c.in-Ok.ensures.booked, c.self.invariant.1)

pub invariant_of-self-in-Err : goal.invariant_of-self-in-Err
invariant_of-self-in-Err g c =
    let own = limits c.self.inside.intake.state in
    let sends = sends_this c.self.inside.outbox c.next_load.new.outbox own c.in_ok-load.field-0 c.in-Some.load c.in-Some.is c.in_ok-load.ensures.sends in
    (same_lawful _ c.take_back.new.self c.launch.new.conditions c.self.invariant.0 (c.take_back.ensures.undoes c.self.inside.outbox own 32739 sends) c.in-Err.ensures.unchanged, c.self.invariant.1)

pub returns-in-Ok-clause-amount : goal.returns-in-Ok-clause-amount
returns-in-Ok-clause-amount g c =
    let own = limits c.self.inside.intake.state in
    let sends = sends_this c.self.inside.outbox c.next_load.new.outbox own c.in_ok-load.field-0 c.in-Some.load c.in-Some.is c.in_ok-load.ensures.sends in
    let spelled = subst (λ (peer : List ℕ). IsSpelled (arc_value c.self.inside.keys) peer c.args.iv c.args.now c.in-Some.load c.in-Ok.sent.flight c.in-Ok.sent.bytes) c.as_str.ensures.value c.in-Ok.ensures.spelled in
    let open_still : c.self.inside.intake.state.closed ≡ false = search rules in
    let full = filled_this c.self.inside.outbox own c.in_ok-load.field-0 c.in-Some.load c.in-Some.is c.in_ok-load.ensures.filled in
    goes _ c.args.self.now c.next_load.new.outbox c.launch.new.conditions c.in-Some.load c.args.iv c.in-Ok.sent.bytes c.args.now c.in-Ok.sent.flight c.in-Ok.sent.amount c.self.view_is open_still sends full spelled c.in-Ok.ensures.booked c.in-Ok.ensures.amount

pub returns-in-Ok-clause-goes : goal.returns-in-Ok-clause-goes
returns-in-Ok-clause-goes g c = (returns-in-Ok-clause-amount g c).0

pub returns-in-Err-clause-unchanged : goal.returns-in-Err-clause-unchanged
returns-in-Err-clause-unchanged g c =
    let own = limits c.self.inside.intake.state in
    let sends = sends_this c.self.inside.outbox c.next_load.new.outbox own c.in_ok-load.field-0 c.in-Some.load c.in-Some.is c.in_ok-load.ensures.sends in
    undone _ c.args.self.now c.take_back.new.self c.launch.new.conditions c.self.view_is (c.take_back.ensures.undoes c.self.inside.outbox own 32739 sends) c.in-Err.ensures.unchanged

pub same-self : goal.same-self
same-self g c = grind (arith, common_steps)

pub returns-then-is_closed-clause-goes : goal.returns-then-is_closed-clause-goes
returns-then-is_closed-clause-goes g c = grind (arith, common_steps)

pub invariant_of-self : goal.invariant_of-self
invariant_of-self g c = grind (arith, common_steps)

pub returns-in_err-load-clause-only_memory : goal.returns-in_err-load-clause-only_memory
returns-in_err-load-clause-only_memory g c = grind (arith, common_steps)

pub returns-in_err-load-clause-goes : goal.returns-in_err-load-clause-goes
returns-in_err-load-clause-goes g c = grind (arith, common_steps)

pub returns-in_err-load-clause-amount : goal.returns-in_err-load-clause-amount
returns-in_err-load-clause-amount g c = grind (arith, common_steps)

pub returns-in_err-load-clause-unchanged : goal.returns-in_err-load-clause-unchanged
returns-in_err-load-clause-unchanged g c = grind (arith, common_steps)

pub launch-requires-clause-peer : goal.launch-requires-clause-peer
launch-requires-clause-peer g c = grind (arith, common_steps)

pub returns-in-Err-clause-only_memory : goal.returns-in-Err-clause-only_memory
returns-in-Err-clause-only_memory g c = grind (arith, common_steps)
