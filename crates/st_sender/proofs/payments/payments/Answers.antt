use Rattle.std.proofs.Common.{◌<◌, ◌≤◌, ◌/◌, ◌+◌, ◌≡◌, [], min, ap, arith, subst, sym, length}
use Rattle.std.proofs.lemmas.Result.{IfOk-from_err}
use Rattle.st_sender.specs.Paying.{payable, all_payable}
use Rattle.st_sender.proofs.Paying.{due_some, most_at, nothing_first, nothing_pushed, nothing_skip, pays_all, pays_first, pays_pushed, pays_skip}
use Rattle.st_sender.proofs.payments.payments.Goals as goal
use Rattle.st_sender.proofs.payments.payments.Goals.{then-amount-eq0-via-then-amount-eq0, then-amount-eq0-via-else-amount-eq0+then-room-len}

pub loop-number-init : goal.loop-number-init
loop-number-init g c =
    let first = pays_first c.args.streams.now c.args.least c.args.flights.now c.args.limit c.args.room c.new-payments.result.items c.new-payments.ensures.items in
    (first.0, first.1, λ empty wide. nothing_first c.args.streams.now c.args.least c.args.flights.now c.args.limit)

pub loop-number-preserved-in_default : goal.loop-number-preserved-in_default
loop-number-preserved-in_default g c =
    let lanes = c.args.streams.now in
    let least = c.args.least in
    let flights = c.args.flights.now in
    let limit = c.args.limit in
    let room = c.args.room in
    let n = c.loop-number.number in
    let left = c.loop-number.left in
    let ms = c.loop-number.payments.items in
    let was = c.loop-number.invariant in
    let lt = subst (λ i. n < i) (sym c.requires) c.loop-number-test.true in
    let none = ap (payable least flights n) (sym c.in_default.is) in
    let most = most_at lanes least flights n c.index-streams-number.result 0 left 0 lt c.index-streams-number.is none (omega arith) in (
      pays_skip lanes least flights limit room n left 0 ms was.0 was.1 c.loop-number-test.true most (λ some. absurd (omega (arith, some))),
      was.1,
      nothing_skip lanes least flights limit room n left 0 ms was.2 was.1 most (λ some. absurd (omega (arith, some))),
    )

pub loop-number-preserved-then-amount-eq0 : goal.loop-number-preserved-then-amount-eq0
loop-number-preserved-then-amount-eq0 g c =
    let lanes = c.args.streams.now in
    let least = c.args.least in
    let flights = c.args.flights.now in
    let limit = c.args.limit in
    let room = c.args.room in
    let n = c.loop-number.number in
    let left = c.loop-number.left in
    let ms = c.loop-number.payments.items in
    let was = c.loop-number.invariant in
    let lt = subst (λ i. n < i) (sym c.requires) c.loop-number-test.true in
    let due = due_some least flights n c.index-streams-number.result c.in-Some.stream c.payable.result c.in-Some.is c.payable.ensures in
    let most = most_at lanes least flights n c.index-streams-number.result c.payable.result left c.min-amount.result lt c.index-streams-number.is due c.min-amount.ensures in
    let stops : 0 < c.min-amount.result → c.args.room / 34 ≤ length c.loop-number.payments.items =
    (λ some. elim c.then-amount-eq0.branch [ then-amount-eq0-via-then-amount-eq0 w ↦ omega (arith, w.if-amount-eq0.true, some) | then-amount-eq0-via-else-amount-eq0+then-room-len w ↦ omega (arith, w.if-room-len.true, w.len.ensures, c.loop-number.payments.ok.0) ]) in (
      pays_skip lanes least flights limit room n left c.min-amount.result ms was.0 was.1 c.loop-number-test.true most stops,
      was.1,
      nothing_skip lanes least flights limit room n left c.min-amount.result ms was.2 was.1 most stops,
    )

pub overflow_sub-left : goal.overflow_sub-left
overflow_sub-left g c = omega (arith, c.min-amount.ensures)

pub loop-number-preserved : goal.loop-number-preserved
loop-number-preserved g c =
    let lanes = c.args.streams.now in
    let least = c.args.least in
    let flights = c.args.flights.now in
    let limit = c.args.limit in
    let room = c.args.room in
    let n = c.loop-number.number in
    let left = c.loop-number.left in
    let ms = c.loop-number.payments.items in
    let was = c.loop-number.invariant in
    let lt = subst (λ i. n < i) (sym c.requires) c.loop-number-test.true in
    let due = due_some least flights n c.index-streams-number.result c.in-Some.stream c.payable.result c.in-Some.is c.payable.ensures in
    let most = most_at lanes least flights n c.index-streams-number.result c.payable.result left c.min-amount.result lt c.index-streams-number.is due c.min-amount.ensures in
    let next = pays_pushed lanes least flights limit room n left c.min-amount.result ms c.push.new.self.items c.in_ok-push.ensures.items was.0 was.1 most
    (omega (arith, c.if-amount-eq0.false)) (omega (arith, c.if-room-len.false, c.len.ensures, c.loop-number.payments.ok.0)) in
    (next.0, next.1, nothing_pushed lanes least flights limit room n c.min-amount.result (n + 1) ms c.push.new.self.items c.in_ok-push.ensures.items)

pub returns-in_err-push-clause-pays : goal.returns-in_err-push-clause-pays
returns-in_err-push-clause-pays g c = IfOk-from_err c.from_residual.result _ c.from_residual.ensures.0

pub returns-in_err-push-clause-nothing : goal.returns-in_err-push-clause-nothing
returns-in_err-push-clause-nothing g c = IfOk-from_err c.from_residual.result _ c.from_residual.ensures.0

pub returns-clause-pays : goal.returns-clause-pays
returns-clause-pays g c = pays_all c.args.streams.now c.args.least c.args.flights.now c.args.limit c.args.room c.loop-number.number c.loop-number.payments.items (omega (arith, c.loop-number-test.false, c.loop-number.auto.number-end)) c.loop-number.invariant.0

pub returns-clause-nothing : goal.returns-clause-nothing
returns-clause-nothing g c =
    let last : c.loop-number.number ≡ 65 = omega (arith, c.loop-number-test.false, c.loop-number.auto.number-end) in
    subst (λ n. c.loop-number.payments.items ≡ [] → 34 ≤ c.args.room → min c.args.limit (all_payable c.args.streams.now c.args.least c.args.flights.now n) ≡ 0) last c.loop-number.invariant.2

pub overflow_cast-number : goal.overflow_cast-number
overflow_cast-number g c = omega (arith, c.loop-number-test.true)

pub offset_bounds-streams-number : goal.offset_bounds-streams-number
offset_bounds-streams-number g c = omega (arith, c.requires, c.loop-number-test.true)

pub bounds-streams-number : goal.bounds-streams-number
bounds-streams-number g c = omega (arith, c.requires, c.loop-number-test.true)
