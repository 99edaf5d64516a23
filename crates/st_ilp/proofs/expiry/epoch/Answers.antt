use Rattle.std.proofs.Common.{arith}
use Rattle.jiff_core.proofs.SignedLemmas.{signed_arith}
use Rattle.st_ilp.proofs.DateLemmas.{epoch_nanos}
use Rattle.st_ilp.proofs.expiry.epoch.Goals as goal

pub returns : goal.returns
returns c =
    epoch_nanos c.to_datetime.result
    (rw c.to_datetime.ensures.date c.date.ensures.0)
    (rw c.to_datetime.ensures.date (omega (arith, signed_arith, c.date.ensures.1)))
    (rw c.to_datetime.ensures.date (omega (arith, signed_arith, c.date.ensures.2)))
    (rw c.to_datetime.ensures.time c.midnight.ensures)
