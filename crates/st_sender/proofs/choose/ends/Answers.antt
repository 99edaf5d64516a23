use Rattle.std.proofs.Common.{◌<◌, arith, subst, sym, ap, ◌∙◌}
use Rattle.st_sender.specs.Allowed.{end_in}
use Rattle.st_sender.proofs.Totals.{found_at}
use Rattle.st_sender.proofs.Sums.{ends_next, ends_done}
use Rattle.st_sender.proofs.Within.{up_to, fits_below}
use Rattle.st_sender.proofs.choose.ends.Goals as goal
use Rattle.st_sender.proofs.choose.ends.Goals.{in-Some, in-None}

pub loop-number-preserved : goal.loop-number-preserved
loop-number-preserved g c =
    let lanes = c.args.streams.now in
    let flights = c.args.flights.now in
    let number = c.loop-number.number in
    let next = ends_next lanes flights number c.loop-number-test.true in
    let was = c.loop-number.invariant.0 in
    let here = found_at lanes number c.index-streams-number.result (subst (λ n. number < n) (sym c.requires) c.loop-number-test.true) c.index-streams-number.is in
    elim c.match-streams-number.branch [
      | in-Some w ↦ (let v = ap (λ x. end_in flights number x) (here ∙ w.in-Some.is) in
          (omega (arith, v, next, was, w.total-is, w.sent_end-total.ensures.end), omega (arith, w.total-is, w.sent_end-total.ensures.small, c.loop-number.invariant.1)))
      | in-None w ↦ (let v = ap (λ x. end_in flights number x) (here ∙ w.in-None.is) in
          (omega (arith, v, next, was, w.total-is), omega (arith, w.total-is, c.loop-number.invariant.1)))
    ]

pub returns : goal.returns
returns g c = omega (arith, c.loop-number.invariant.0, ends_done c.args.streams.now c.args.flights.now c.loop-number.number (omega arith))

pub loop-number-init : goal.loop-number-init
loop-number-init g c = (omega arith, omega arith)

pub overflow_add-total : goal.overflow_add-total
overflow_add-total g c = omega (arith, c.loop-number.invariant.1, c.loop-number-test.true, c.sent_end-total.ensures.small)

pub bounds-streams-number : goal.bounds-streams-number
bounds-streams-number g c = omega (arith, c.requires, c.loop-number-test.true)

pub offset_bounds-streams-number : goal.offset_bounds-streams-number
offset_bounds-streams-number g c = up_to 65 _ _ c.requires c.loop-number-test.true

pub overflow_cast-number : goal.overflow_cast-number
overflow_cast-number g c = fits_below _ c.loop-number-test.true
