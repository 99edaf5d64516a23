use Rattle.ilpstream_ledger.proofs.Growing.{late_untouched}
use Rattle.ilpstream_ledger.proofs.placing.place.Goals as goal

pub returns-in_err-places-clause-untouched : goal.returns-in_err-places-clause-untouched
returns-in_err-places-clause-untouched g c = late_untouched _ c.from_residual-in_err-places.result c.in_err-places.field-0.0 c.from_residual-in_err-places.ensures.1 c.in_err-places.ensures.late

pub returns-in_err-first-clause-untouched : goal.returns-in_err-first-clause-untouched
returns-in_err-first-clause-untouched g c = late_untouched _ c.from_residual-in_err-first.result c.in_err-first.field-0.0 c.from_residual-in_err-first.ensures.1 c.in_err-first.ensures.late
