use Rattle.std.proofs.Common.{inl, refl}
use Rattle.st_queues.specs.Reading.{Read}
use Rattle.st_queues.specs.declared.items.Delivery.TheVariants as delivery
use Rattle.st_queues.specs.declared.items.Over.TheVariants as over
use Rattle.st_queues.proofs.Takings.{takes}
use Rattle.st_queues.proofs.reader.StreamReader.try_read.Goals as goal

pub returns-in-Ok-Bytes-clause-read : goal.returns-in-Ok-Bytes-clause-read
returns-in-Ok-Bytes-clause-read g c =
    let was : Read _ = record { stream = c.self.inside.stream; items = c.self.inside.consumer.end.past; known = c.self.inside.consumer.end.ahead; over = c.self.inside.over } in
    let now : Read _ = record { stream = c.self.inside.stream; items = c.pop.new.self.end.past; known = c.pop.new.self.end.ahead; over = c.self.inside.over } in
    let took = c.in-Ok-Bytes.ensures.ok in
    takes c.args.self.now was now c.in-Ok-Bytes.field-0 (delivery.Bytes c.in-Ok-Bytes.bytes) over.Open c.self.view_is c.in-Open.is took.0 took.1 c.in-Ok-Bytes.field-0-is c.in-Open.is

pub returns-in-Ok-End-clause-read : goal.returns-in-Ok-End-clause-read
returns-in-Ok-End-clause-read g c =
    let was : Read _ = record { stream = c.self.inside.stream; items = c.self.inside.consumer.end.past; known = c.self.inside.consumer.end.ahead; over = c.self.inside.over } in
    let now : Read _ = record { stream = c.self.inside.stream; items = c.pop.new.self.end.past; known = c.pop.new.self.end.ahead; over = over.Ended } in
    let took = c.in-Ok-End.ensures.ok in
    inl (takes c.args.self.now was now c.in-Ok-End.field-0 delivery.End over.Ended c.self.view_is c.in-Open.is took.0 took.1 c.in-Ok-End.field-0-is refl)

pub returns-in-Ok-Aborted-clause-read : goal.returns-in-Ok-Aborted-clause-read
returns-in-Ok-Aborted-clause-read g c =
    let code = c.in-Ok-Aborted.code in
    let was : Read _ = record { stream = c.self.inside.stream; items = c.self.inside.consumer.end.past; known = c.self.inside.consumer.end.ahead; over = c.self.inside.over } in
    let now : Read _ = record { stream = c.self.inside.stream; items = c.pop.new.self.end.past; known = c.pop.new.self.end.ahead; over = over.Aborted code } in
    let took = c.in-Ok-Aborted.ensures.ok in
    inl (takes c.args.self.now was now c.in-Ok-Aborted.field-0 (delivery.Aborted code) (over.Aborted code) c.self.view_is c.in-Open.is took.0 took.1 c.in-Ok-Aborted.field-0-is refl)
