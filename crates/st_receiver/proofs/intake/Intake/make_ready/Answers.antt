use Rattle.std.proofs.lemmas.Grind.{common_steps}
use Rattle.std.proofs.Common.{◌<◌, ◌∙◌, Some, length, ap, arith}
use Rattle.std.proofs.lemmas.List.{length-set}
use Rattle.st_receiver.specs.Standing.{Standing}
use Rattle.st_receiver.proofs.Applying.{window_made, window_stays}
use Rattle.st_receiver.proofs.intake.Intake.make_ready.Goals as goal

pub returns-clause-stays : goal.returns-clause-stays
returns-clause-stays g c =
    let l : c.args.stream < length c.self.inside.windows.items = omega (arith, c.self.invariant.1, c.if-stream-ge65.false) in
    window_stays c.args.self.now c.self.inside.parity c.self.inside.slots.items c.self.inside.kept c.self.inside.fulfilled.set c.self.inside.credit c.self.inside.closed c.self.inside.fulfilled.room c.self.inside.windows.items c.args.stream c.in-Ok.window c.self.view_is l

pub returns-clause-ready : goal.returns-clause-ready
returns-clause-ready g c = λ _.
    let l : c.args.stream < length c.self.inside.windows.items = omega (arith, c.self.invariant.1, c.if-stream-ge65.false) in
    window_made c.self.inside.parity c.self.inside.slots.items c.self.inside.kept c.self.inside.fulfilled.set c.self.inside.credit c.self.inside.closed c.self.inside.fulfilled.room c.self.inside.windows.items c.args.stream c.in-Ok.window l

pub returns-clause-state : goal.returns-clause-state
returns-clause-state g c = ap (λ (t : Standing). t.state) c.self.view_is

pub invariant_of-self : goal.invariant_of-self
invariant_of-self g c = (c.self.invariant.0, length-set c.self.inside.windows.items c.args.stream (Some c.in-Ok.window) ∙ c.self.invariant.1)

pub returns-then-stream-ge65-clause-stays : goal.returns-then-stream-ge65-clause-stays
returns-then-stream-ge65-clause-stays g c = λ k ready. ready

pub returns-then-is_open-clause-stays : goal.returns-then-is_open-clause-stays
returns-then-is_open-clause-stays g c = λ k ready. ready

pub returns-then-is_some-clause-stays : goal.returns-then-is_some-clause-stays
returns-then-is_some-clause-stays g c = λ k ready. ready

pub returns-in_default-clause-stays : goal.returns-in_default-clause-stays
returns-in_default-clause-stays g c = λ k ready. ready

pub returns-then-stream-ge65-clause-state : goal.returns-then-stream-ge65-clause-state
returns-then-stream-ge65-clause-state g c = grind (arith, common_steps)

pub returns-then-stream-ge65-clause-ready : goal.returns-then-stream-ge65-clause-ready
returns-then-stream-ge65-clause-ready g c = grind (arith, common_steps)

pub same-self : goal.same-self
same-self g c = grind (arith, common_steps)

pub returns-then-is_open-clause-state : goal.returns-then-is_open-clause-state
returns-then-is_open-clause-state g c = grind (arith, common_steps)

pub returns-then-is_open-clause-ready : goal.returns-then-is_open-clause-ready
returns-then-is_open-clause-ready g c = grind (arith, common_steps)

pub index-requires : goal.index-requires
index-requires g c = grind (arith, common_steps)

pub same-self-then-is_some : goal.same-self-then-is_some
same-self-then-is_some g c = grind (arith, common_steps)

pub returns-then-is_some-clause-state : goal.returns-then-is_some-clause-state
returns-then-is_some-clause-state g c = grind (arith, common_steps)

pub same-self-in_default : goal.same-self-in_default
same-self-in_default g c = grind (arith, common_steps)

pub returns-in_default-clause-only_memory : goal.returns-in_default-clause-only_memory
returns-in_default-clause-only_memory g c = grind (arith, common_steps)

pub returns-in_default-clause-state : goal.returns-in_default-clause-state
returns-in_default-clause-state g c = grind (arith, common_steps)

pub index_mut-requires : goal.index_mut-requires
index_mut-requires g c = grind (arith, common_steps)
