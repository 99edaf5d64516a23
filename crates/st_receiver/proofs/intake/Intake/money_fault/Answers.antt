use Rattle.std.proofs.Common.{◌≡◌, ◌+◌, ◌^◌, ◌∙◌, true, false, length, map, refl, sym, ap, subst, arith}
use Rattle.st_frames.specs.Frames.{frame_of}
use Rattle.st_receiver.specs.Standing.{Standing}
use Rattle.st_receiver.specs.Data.{after_frames}
use Rattle.st_receiver.specs.Inside.{IsOverAt}
use Rattle.st_receiver.proofs.Crediting.{paid_fault, frames_credit, le_true, le_not}
use Rattle.st_receiver.proofs.intake.Intake.money_fault.Goals as goal

pub returns-then-any_over : goal.returns-then-any_over
returns-then-any_over g c =
    let r = c.args.self.now.state in
    let len : length r.streams ≡ 65 = ap (λ (q : Standing). length q.state.streams) (sym c.self.view_is) ∙ c.self.invariant.0 in
    let over = subst (IsOverAt r c.parts_of.result) c.if-any_over.true c.any_over.ensures in
    paid_fault r c.args.amount c.sum_of-all.result (map frame_of c.args.frames) c.in-Some.shares c.parts_of.result true _ len c.in-Some.ensures.0 c.in-Some.ensures.1 c.if-amount-eq0.false c.sum_of-all.ensures.total c.if-all-eq0.false c.parts_of.ensures over refl

pub returns-then-from : goal.returns-then-from
returns-then-from g c =
    let r = c.args.self.now.state in
    let t = after_frames r (map frame_of c.args.frames) in
    let len : length r.streams ≡ 65 = ap (λ (q : Standing). length q.state.streams) (sym c.self.view_is) ∙ c.self.invariant.0 in
    let over = subst (IsOverAt r c.parts_of.result) c.if-any_over.false c.any_over.ensures in
    let te : t.credit ≡ c.self.inside.credit = frames_credit r (map frame_of c.args.frames) ∙ ap (λ (q : Standing). q.state.credit) (sym c.self.view_is) in
    let much = le_true (2 ^ 63) (t.credit + c.args.amount) (omega (arith, te, c.from.ensures, c.from-2.ensures, c.if-from.true)) in
    paid_fault r c.args.amount c.sum_of-all.result (map frame_of c.args.frames) c.in-Some.shares c.parts_of.result false true len c.in-Some.ensures.0 c.in-Some.ensures.1 c.if-amount-eq0.false c.sum_of-all.ensures.total c.if-all-eq0.false c.parts_of.ensures over much

pub returns : goal.returns
returns g c =
    let r = c.args.self.now.state in
    let t = after_frames r (map frame_of c.args.frames) in
    let len : length r.streams ≡ 65 = ap (λ (q : Standing). length q.state.streams) (sym c.self.view_is) ∙ c.self.invariant.0 in
    let over = subst (IsOverAt r c.parts_of.result) c.if-any_over.false c.any_over.ensures in
    let te : t.credit ≡ c.self.inside.credit = frames_credit r (map frame_of c.args.frames) ∙ ap (λ (q : Standing). q.state.credit) (sym c.self.view_is) in
    let much = le_not (2 ^ 63) (t.credit + c.args.amount) (omega (arith, te, c.from.ensures, c.from-2.ensures, c.if-from.false)) in
    paid_fault r c.args.amount c.sum_of-all.result (map frame_of c.args.frames) c.in-Some.shares c.parts_of.result false false len c.in-Some.ensures.0 c.in-Some.ensures.1 c.if-amount-eq0.false c.sum_of-all.ensures.total c.if-all-eq0.false c.parts_of.ensures over much
