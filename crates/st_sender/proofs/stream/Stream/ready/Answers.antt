use Rattle.std.proofs.Common.{◌≡◌, arith, subst}
use Rattle.st_sender.specs.Lanes.{SendStream}
use Rattle.st_sender.specs.Allowed.{IsStopped}
use Rattle.st_sender.proofs.Readiness.{stopped_by}
use Rattle.st_sender.proofs.stream.Stream.ready.Goals as goal

pub returns-then-count-eq0-clause-ready : goal.returns-then-count-eq0-clause-ready
returns-then-count-eq0-clause-ready g c =
    let zero : c.longest-count.result ≡ 0 = c.if-count-eq0.true in
    let long = c.longest-count.ensures.longest (omega (arith, c.in-Some.ensures.some, c.if-allowed-from.false)) in
    let most = rw zero at long in
    subst (λ (l : SendStream). IsStopped c.args.flights.now c.args.bounds c.args.number l) c.self.view_is
    (stopped_by _ _ _ _ c.in-Some.from c.in-Some.ensures.none_below (λ a. omega (arith, most, a.room_left)))
