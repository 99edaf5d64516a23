use Rattle.ilpstream_main.proofs.Locals.{told_some}
use Rattle.ilpstream_main.proofs.local.local.Goals as goal

pub returns-clause-does : goal.returns-clause-does
returns-clause-does g c = told_some c.args.request.now.totals _ _ c.is_none.result c.is_none.ensures c.if-is_none.false (c.placed-ended.result, c.placed-ended.ensures, c.tell_local.ensures.told)
