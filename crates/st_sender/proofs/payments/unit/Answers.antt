use Rattle.std.proofs.Common.{◌<◌, ap, arith, subst, sym, refl}
use Rattle.st_sender.specs.Paying.{payable}
use Rattle.st_sender.proofs.Paying.{due_at, due_some, none_unit_more}
use Rattle.st_sender.proofs.payments.unit.Goals as goal
use Rattle.st_sender.proofs.payments.unit.Goals.{then-payable-eq0-via-then-payable-eq0, then-payable-eq0-via-else-payable-eq0+then-bounds-unit_size}

pub loop-number-preserved-in_default : goal.loop-number-preserved-in_default
loop-number-preserved-in_default g c =
    let lt = subst (λ n. c.loop-number.number < n) (sym c.requires) c.loop-number-test.true in
    let none = ap (payable c.args.least c.args.flights.now c.loop-number.number) (sym c.in_default.is) in
    let due = due_at c.args.streams.now c.args.least c.args.flights.now c.loop-number.number c.index-streams-number.result 0 lt c.index-streams-number.is none in
    none_unit_more c.args.streams.now c.args.flights.now c.args.least c.args.limit c.args.bounds c.loop-number.number c.loop-number.invariant (λ some. absurd (omega (arith, due, some)))

pub loop-number-preserved : goal.loop-number-preserved
loop-number-preserved g c =
    let lt = subst (λ n. c.loop-number.number < n) (sym c.requires) c.loop-number-test.true in
    let is = due_some c.args.least c.args.flights.now c.loop-number.number c.index-streams-number.result c.in-Some.stream c.payable.result c.in-Some.is c.payable.ensures in
    let due = due_at c.args.streams.now c.args.least c.args.flights.now c.loop-number.number c.index-streams-number.result c.payable.result lt c.index-streams-number.is is in
    none_unit_more c.args.streams.now c.args.flights.now c.args.least c.args.limit c.args.bounds c.loop-number.number c.loop-number.invariant
    (λ some. elim c.then-payable-eq0.branch [
      | then-payable-eq0-via-then-payable-eq0 w ↦ omega (arith, due, some, w.if-payable-eq0.true)
      | then-payable-eq0-via-else-payable-eq0+then-bounds-unit_size w ↦ (let size = rw c.least_for-amount.ensures at w.unit_size.ensures in omega (arith, w.if-bounds-unit_size.true, size))
    ])

pub returns-in-loop-number : goal.returns-in-loop-number
returns-in-loop-number g c =
    let lt = subst (λ n. c.loop-number.number < n) (sym c.requires) c.loop-number-test.true in
    let is = due_some c.args.least c.args.flights.now c.loop-number.number c.index-streams-number.result c.in-Some.stream c.payable.result c.in-Some.is c.payable.ensures in
    let due = due_at c.args.streams.now c.args.least c.args.flights.now c.loop-number.number c.index-streams-number.result c.payable.result lt c.index-streams-number.is is in
    let size = rw c.least_for-amount.ensures at c.unit_size.ensures in
    record {
      one = refl;
      due = omega (arith, due, c.if-payable-eq0.false);
      within = omega (arith, c.if-limit-eq0.false);
      room_left = omega (arith, c.if-bounds-unit_size.false, size);
    }

pub returns : goal.returns
returns g c = λ k h. c.loop-number.invariant k (omega arith)

pub loop-number-init : goal.loop-number-init
loop-number-init g c = λ k h some any. absurd (omega (arith, h))

pub returns-then-limit-eq0 : goal.returns-then-limit-eq0
returns-then-limit-eq0 g c = λ k h some any. absurd (omega (arith, any, c.if-limit-eq0.true))

pub overflow_cast-number : goal.overflow_cast-number
overflow_cast-number g c = omega (arith, c.loop-number-test.true)

pub offset_bounds-streams-number : goal.offset_bounds-streams-number
offset_bounds-streams-number g c = omega (arith, c.requires, c.loop-number-test.true)

pub bounds-streams-number : goal.bounds-streams-number
bounds-streams-number g c = omega (arith, c.requires, c.loop-number-test.true)
