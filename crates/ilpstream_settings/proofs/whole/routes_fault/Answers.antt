use Rattle.std.proofs.Common.{map}
use Rattle.ilpstream_settings.proofs.LawfulRoutes.{first_route, lawful_all, lawful_more}
use Rattle.ilpstream_settings.proofs.whole.routes_fault.Goals as goal

pub returns-in-Some : goal.returns-in-Some
returns-in-Some g c =
    first_route c.args.accounts c.args.routes.now c.loop-index.index _ c.index-routes-index.result (map (λ k. k.now) c.loop-index.prefixes.keys) c.loop-index-test.true
    c.index-routes-index.is c.loop-index.invariant.prefixes c.loop-index.invariant.good c.in-Some.fault (rw c.in-Some.is at c.in_ok-broken.ensures)

pub loop-index-preserved : goal.loop-index-preserved
loop-index-preserved g c =
    let taken = rw c.in-None.is at c.in_ok-broken.ensures in
    lawful_more c.args.accounts c.args.routes.now c.loop-index.index _ c.index-routes-index.result (map (λ k. k.now) c.loop-index.prefixes.keys) c.loop-index-test.true
    c.index-routes-index.is c.loop-index.invariant.prefixes c.loop-index.invariant.good (map (λ k. k.now) c.take_route.new.prefixes.keys) taken.0 taken.1 taken.2

pub returns : goal.returns
returns g c = lawful_all c.args.accounts c.args.routes.now c.loop-index.index c.loop-index-test.false c.loop-index.invariant.good
