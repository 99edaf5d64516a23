use Rattle.std.proofs.Common.{◌≡◌, ◌+◌, ◌∙◌, length, map, false, get_or, sym, ap, subst, arith}
use Rattle.st_frames.specs.Frames.{frame_of}
use Rattle.st_receiver.specs.Streams.{incoming_at, credited_of}
use Rattle.st_receiver.specs.Data.{after_frames}
use Rattle.st_receiver.specs.Standing.{Standing}
use Rattle.st_receiver.specs.Inside.{IsOverAt}
use Rattle.st_receiver.proofs.Crediting.{money_lawful, fits_over, unpaid_credit, paid_credit}
use Rattle.st_receiver.proofs.intake.Intake.totals_after.Goals as goal

pub returns-then-amount-eq0 : goal.returns-then-amount-eq0
returns-then-amount-eq0 g c k l =
    let totals = c.all_credited.ensures ∙ ap (λ (t : Standing). map credited_of t.state.streams) c.self.view_is in
    unpaid_credit c.args.self.now.state c.args.amount (map frame_of c.args.frames) k c.all_credited.result c.if-amount-eq0.true totals

pub parts_in-requires-clause-fits : goal.parts_in-requires-clause-fits
parts_in-requires-clause-fits g c = (money_lawful (after_frames c.args.self.now.state (map frame_of c.args.frames)) c.args.amount (map frame_of c.args.frames) c.requires.pays (omega (arith, c.if-amount-eq0.false))).fits

pub parts_in-requires-clause-some : goal.parts_in-requires-clause-some
parts_in-requires-clause-some g c = (money_lawful (after_frames c.args.self.now.state (map frame_of c.args.frames)) c.args.amount (map frame_of c.args.frames) c.requires.pays (omega (arith, c.if-amount-eq0.false))).some

pub totals_with-requires : goal.totals_with-requires
totals_with-requires g c =
    let r = c.args.self.now.state in
    let fs = map frame_of c.args.frames in
    let len : length r.streams ≡ 65 = ap (λ (t : Standing). length t.state.streams) (sym c.self.view_is) ∙ c.self.invariant.0 in
    let h = money_lawful (after_frames r fs) c.args.amount fs c.requires.pays (omega (arith, c.if-amount-eq0.false)) in
    subst (λ ps. IsOverAt r ps false) (sym c.parts_in.ensures) (fits_over r fs c.args.amount len h.over)

pub returns : goal.returns
returns g c k l =
    let r = c.args.self.now.state in
    let len : length r.streams ≡ 65 = ap (λ (t : Standing). length t.state.streams) (sym c.self.view_is) ∙ c.self.invariant.0 in
    paid_credit r c.args.amount (map frame_of c.args.frames) k c.totals_with.result len (omega (arith, c.if-amount-eq0.false)) l (c.totals_with.ensures k l ∙ ap (λ ps. (incoming_at r k).credited + get_or ps k 0) c.parts_in.ensures)
