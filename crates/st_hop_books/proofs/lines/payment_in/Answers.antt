use Rattle.std.proofs.Common.{◌+◌}
use Rattle.st_hop_books.proofs.PaymentLemmas.{six}
use Rattle.st_hop_books.proofs.lines.payment_in.Goals as goal

pub returns-clause-line : goal.returns-clause-line
returns-clause-line c =
    let head = c.is_next.ensures c.if-not-is_next.false in
    six c.args.row.now (c.args.before + 1) c.in_ok-name.name.now c.in_ok-text.text.now c.in_ok-amount.amount c.in_ok-moment.moment head.0 head.1 head.2 c.in_ok-name.ensures.text c.in_ok-text.ensures.text c.in_ok-amount.ensures c.in_ok-moment.ensures
