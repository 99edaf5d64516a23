use Rattle.std.proofs.Common.{◌+◌, ◌∙◌, length, map, ap, arith}
use Rattle.st_frames.specs.Frames.{frame_of}
use Rattle.st_frames.specs.Told.{shares}
use Rattle.st_receiver.specs.Standing.{Standing}
use Rattle.st_receiver.specs.Money.{parts, any_over_max}
use Rattle.st_receiver.proofs.Mixing.{length-credits}
use Rattle.st_receiver.proofs.Crediting.{money_lawful, money_shown, money_keeps}
use Rattle.st_receiver.proofs.intake.Intake.take_money.Goals as goal

pub parts_in-requires-clause-fits : goal.parts_in-requires-clause-fits
parts_in-requires-clause-fits g c = (money_lawful c.args.self.now.state c.args.amount (map frame_of c.args.frames) c.requires (omega (arith, c.if-amount-eq0.false))).fits

pub parts_in-requires-clause-some : goal.parts_in-requires-clause-some
parts_in-requires-clause-some g c = (money_lawful c.args.self.now.state c.args.amount (map frame_of c.args.frames) c.requires (omega (arith, c.if-amount-eq0.false))).some

pub credit_all-requires-clause-fits : goal.credit_all-requires-clause-fits
credit_all-requires-clause-fits g c =
    let fs = map frame_of c.args.frames in
    let h = money_lawful c.args.self.now.state c.args.amount fs c.requires (omega (arith, c.if-amount-eq0.false)) in
    ap (λ ps. any_over_max c.self.inside.slots.items ps) c.parts_in.ensures
    ∙ ap (λ (t : Standing). any_over_max t.state.streams (parts c.args.amount (shares fs))) c.self.view_is ∙ h.over

pub overflow_add-self : goal.overflow_add-self
overflow_add-self g c =
    let fs = map frame_of c.args.frames in
    let h = (money_lawful c.args.self.now.state c.args.amount fs c.requires (omega (arith, c.if-amount-eq0.false))).credit in
    let e = ap (λ (t : Standing). t.state.credit) c.self.view_is in
    omega (arith, h, e)

pub invariant_of-self : goal.invariant_of-self
invariant_of-self g c = (ap length c.credit_all.ensures ∙ length-credits c.self.inside.slots.items c.parts_in.result ∙ c.self.invariant.0, c.self.invariant.1)

pub returns-clause-state : goal.returns-clause-state
returns-clause-state g c =
    money_shown c.args.self.now c.self.inside.parity c.self.inside.slots.items c.credit_all.new.slots.items c.self.inside.kept c.self.inside.fulfilled.set c.self.inside.credit c.self.inside.closed c.self.inside.fulfilled.room c.self.inside.windows.items
    c.args.amount (map frame_of c.args.frames) c.parts_in.result c.self.view_is (omega (arith, c.if-amount-eq0.false)) c.parts_in.ensures c.credit_all.ensures

pub returns-clause-keeps : goal.returns-clause-keeps
returns-clause-keeps g c =
    money_keeps c.args.self.now c.self.inside.parity c.self.inside.slots.items c.credit_all.new.slots.items c.self.inside.kept c.self.inside.fulfilled.set c.self.inside.credit (c.self.inside.credit + c.args.amount) c.self.inside.closed c.self.inside.fulfilled.room c.self.inside.windows.items
    c.parts_in.result c.self.view_is c.credit_all.ensures
