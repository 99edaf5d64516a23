use Rattle.std.proofs.Common.{◌∙◌, ap, subst}
use mathlib.Core.List.{IsPrefix}
use Rattle.st_queues.specs.Reading.{Read}
use Rattle.st_queues.proofs.ends.ReadEnd.meet.Goals as goal

pub returns-clause-reader : goal.returns-clause-reader
returns-clause-reader g c =
    let looked = c.slots_beside.ensures.looked in (
      ap (λ (r : Read _). r.stream) c.reader.view_is,
      looked.1 ∙ ap (λ (r : Read _). r.items) c.reader.view_is,
      ap (λ (r : Read _). r.over) c.reader.view_is,
      subst (λ (r : Read _). IsPrefix r.known c.slots_beside.new.self.end.ahead) c.reader.view_is looked.2,
    )

pub returns-clause-whole : goal.returns-clause-whole
returns-clause-whole g c = c.slots_beside.ensures.fifo
