use Rattle.std.proofs.Common.{inl, refl}
use Rattle.st_end.specs.Seen.{received_seen}
use Rattle.ilpstream_ends.proofs.receiver.Receiver.receive.Goals as goal

pub returns-in-Ok : goal.returns-in-Ok
returns-in-Ok g c = inl (received_seen c.in-Ok.field-0, (c.now-now.result, c.in-Ok.ensures.answers), refl)
