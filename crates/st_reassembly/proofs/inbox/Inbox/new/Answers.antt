use Rattle.std.proofs.Common.{ap, None}
use Rattle.st_reassembly.specs.Ring.{cell}
use Rattle.st_streams.proofs.Tables.{table-empty}
use Rattle.st_reassembly.proofs.inbox.Inbox.new.Goals as goal

pub returns-clause-empty : goal.returns-clause-empty
returns-clause-empty g c = ap (λ m. record { bytes = m; read = 0; end = None; aborted = None }) (table-empty (cell c.in_ok-ring.ring.bytes.items c.in_ok-ring.ring.marks.items) 0 65536 c.in_ok-ring.ensures.empty)
