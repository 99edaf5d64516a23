use Rattle.std.proofs.Common.{refl, rules}
use Rattle.st_end.proofs.Plain.{plain_of}
use Rattle.st_end.proofs.unsealed.Plain.of.Goals as goal

pub returns-clause-plain : goal.returns-clause-plain
returns-clause-plain g c =
    let paid = c.in_ok-payload.ensures in
    plain_of c.args.peer.now c.args.now c.args.load.now _ c.in_ok-payload.payload.items c.in_ok-bytes.bytes.items c.places-condition_at.result.0 c.places-condition_at.result.1 c.in_ok-bytes.ensures.lawful
    c.amount.ensures (search rules) refl c.deref.ensures.value paid.spells paid.written paid.long paid.short c.in_ok-bytes.ensures.text c.places-condition_at.ensures.0 c.places-condition_at.ensures.1
