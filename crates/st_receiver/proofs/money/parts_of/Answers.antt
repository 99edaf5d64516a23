use Rattle.std.proofs.Common.{◌≡◌, ◌+◌, ◌-◌, ◌<◌, ◌∙◌, length, set, get_or, ap, subst, arith}
use Rattle.std.specs.Prelude.{sum}
use Rattle.st_receiver.specs.Money.{rounded}
use Rattle.st_receiver.proofs.Splits.{rounded-least, parts_are, some_share}
use Rattle.st_receiver.proofs.money.parts_of.Goals as goal

pub overflow_cast-rest : goal.overflow_cast-rest
overflow_cast-rest c =
    let e : c.sum_of.result ≡ sum (rounded c.args.amount c.args.all c.args.shares.now) = c.sum_of.ensures.total ∙ ap sum c.rounded_parts-parts.ensures in
    let least = rounded-least c.args.amount c.args.all c.args.shares.now c.requires.some c.requires.all in
    omega (arith, e, least, c.ranges.amount.fits)

pub overflow_sub-rest : goal.overflow_sub-rest
overflow_sub-rest c =
    let e : c.sum_of.result ≡ sum (rounded c.args.amount c.args.all c.args.shares.now) = c.sum_of.ensures.total ∙ ap sum c.rounded_parts-parts.ensures in
    let least = rounded-least c.args.amount c.args.all c.args.shares.now c.requires.some c.requires.all in
    omega (arith, e, least)

pub returns-then-first-lt65 : goal.returns-then-first-lt65
returns-then-first-lt65 c =
    let k = c.first_with_shares-first.result in
    let ms = c.args.shares.now in
    let p = c.rounded_parts-parts.ensures in
    let e : c.sum_of.result ≡ sum (rounded c.args.amount c.args.all ms) = c.sum_of.ensures.total ∙ ap sum p in
    let l : k < length ms = omega (arith, c.told-shares, c.if-first-lt65.true) in
    (λ i. set (p i) k (get_or (p i) k 0 + (c.args.amount - e i)))
    ∙ parts_are c.args.amount c.args.all ms k c.requires.all l c.first_with_shares-first.ensures.none (c.first_with_shares-first.ensures.some c.if-first-lt65.true)

pub returns-else-first-lt65 : goal.returns-else-first-lt65
returns-else-first-lt65 c =
    let pos : 0 < sum c.args.shares.now = subst (λ n. 0 < n) c.requires.all c.requires.some in
    let l = some_share c.args.shares.now c.first_with_shares-first.result pos c.told-shares c.first_with_shares-first.ensures.within c.first_with_shares-first.ensures.none in
    absurd (omega (arith, l, c.if-first-lt65.false))
