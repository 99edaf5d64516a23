use Rattle.st_hop.proofs.Segments.{split_front, unsplit_front, not_longer}
use Rattle.st_hop.proofs.route.front_of.Goals as goal

pub returns-in_default-clause-short : goal.returns-in_default-clause-short
returns-in_default-clause-short c = not_longer c.args.address.now c.args.longest (rw c.in_default.is at c.get.ensures.cases)

pub returns-in_err-front-clause-nowhere : goal.returns-in_err-front-clause-nowhere
returns-in_err-front-clause-nowhere c =
    let got = rw c.in-Some.is at c.get.ensures.cases in
    λ _. unsplit_front c.args.address.now c.args.longest got.2 c.in-Some.head.now got.0 c.in_err-front.ensures.cases

pub returns-clause-same : goal.returns-clause-same
returns-clause-same c =
    let got = rw c.in-Some.is at c.get.ensures.cases in
    split_front c.args.address.now c.args.longest got.2 c.in-Some.head.now got.0 c.in_ok-front.front.now c.in_ok-front.field-0-1.now c.in_ok-front.ensures.cases
