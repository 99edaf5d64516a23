use Rattle.std.proofs.lemmas.Grind.{common_steps}
use Rattle.std.proofs.Common.{◌∙◌, [], ◌∷◌, ◌++◌, ap, sym, arith}
use Rattle.st_queues.specs.ReadEnds.{put_in}
use Rattle.st_queues.specs.declared.items.Delivery.TheVariants as delivery
use Rattle.st_hub.specs.Flow.{has_last}
use Rattle.st_hub.proofs.Tries.{bytes_last, end_last, abort_last}
use Rattle.st_hub.proofs.pumping.give_first.Goals as goal

pub returns-in-Ok-Bytes-clause-over : goal.returns-in-Ok-Bytes-clause-over
returns-in-Ok-Bytes-clause-over g c =
    let v = c.in-Ok-Bytes.bytes in
    c.requires ∙ sym (ap has_last (c.put.ensures.put.0 ∙ ap (λ l. l ++ delivery.Bytes v ∷ []) c.room.ensures.same.1) ∙ bytes_last (put_in c.args.lane.now.end) v)

pub returns-in-Ok-End-clause-over : goal.returns-in-Ok-End-clause-over
returns-in-Ok-End-clause-over g c = sym (ap has_last c.put-in-Ok-End.ensures.put.0 ∙ end_last (put_in c.room.new.self))

pub returns-in-Ok-Aborted-clause-over : goal.returns-in-Ok-Aborted-clause-over
returns-in-Ok-Aborted-clause-over g c = sym (ap has_last c.put-in-Ok-Aborted.ensures.put.0 ∙ abort_last (put_in c.room.new.self) c.in-Ok-Aborted.code)

pub returns-then-over-clause-same : goal.returns-then-over-clause-same
returns-then-over-clause-same g c = grind (arith, common_steps)

pub returns-then-over-clause-over : goal.returns-then-over-clause-over
returns-then-over-clause-over g c = grind (arith, common_steps)

pub returns-then-over-clause-after : goal.returns-then-over-clause-after
returns-then-over-clause-after g c = grind (arith, common_steps)

pub returns-then-over-clause-fills : goal.returns-then-over-clause-fills
returns-then-over-clause-fills g c = grind (arith, common_steps)

pub returns-then-over-clause-stops : goal.returns-then-over-clause-stops
returns-then-over-clause-stops g c = grind (arith, common_steps)

pub read-requires : goal.read-requires
read-requires g c = grind (arith, common_steps)

pub put-requires : goal.put-requires
put-requires g c = grind (arith, common_steps)

pub put-requires-in-Ok-End : goal.put-requires-in-Ok-End
put-requires-in-Ok-End g c = grind (arith, common_steps)

pub put-requires-in-Ok-Aborted : goal.put-requires-in-Ok-Aborted
put-requires-in-Ok-Aborted g c = grind (arith, common_steps)

pub returns-in-Ok-Bytes-clause-same : goal.returns-in-Ok-Bytes-clause-same
returns-in-Ok-Bytes-clause-same g c = grind (arith, common_steps)

pub returns-in-Ok-Bytes-clause-after : goal.returns-in-Ok-Bytes-clause-after
returns-in-Ok-Bytes-clause-after g c = grind (arith, common_steps)

pub returns-in-Ok-Bytes-clause-fills : goal.returns-in-Ok-Bytes-clause-fills
returns-in-Ok-Bytes-clause-fills g c = grind (arith, common_steps)

pub returns-in-Ok-Bytes-clause-stops : goal.returns-in-Ok-Bytes-clause-stops
returns-in-Ok-Bytes-clause-stops g c = grind (arith, common_steps)

pub returns-in-Ok-Nothing-clause-same : goal.returns-in-Ok-Nothing-clause-same
returns-in-Ok-Nothing-clause-same g c = grind (arith, common_steps)

pub returns-in-Ok-Nothing-clause-over : goal.returns-in-Ok-Nothing-clause-over
returns-in-Ok-Nothing-clause-over g c = grind (arith, common_steps)

pub returns-in-Ok-Nothing-clause-after : goal.returns-in-Ok-Nothing-clause-after
returns-in-Ok-Nothing-clause-after g c = grind (arith, common_steps)

pub returns-in-Ok-Nothing-clause-fills : goal.returns-in-Ok-Nothing-clause-fills
returns-in-Ok-Nothing-clause-fills g c = grind (arith, common_steps)

pub returns-in-Ok-Nothing-clause-stops : goal.returns-in-Ok-Nothing-clause-stops
returns-in-Ok-Nothing-clause-stops g c = grind (arith, common_steps)

pub returns-in-Ok-End-clause-same : goal.returns-in-Ok-End-clause-same
returns-in-Ok-End-clause-same g c = grind (arith, common_steps)

pub returns-in-Ok-End-clause-after : goal.returns-in-Ok-End-clause-after
returns-in-Ok-End-clause-after g c = grind (arith, common_steps)

pub returns-in-Ok-End-clause-fills : goal.returns-in-Ok-End-clause-fills
returns-in-Ok-End-clause-fills g c = grind (arith, common_steps)

pub returns-in-Ok-End-clause-stops : goal.returns-in-Ok-End-clause-stops
returns-in-Ok-End-clause-stops g c = grind (arith, common_steps)

pub returns-in-Ok-Aborted-clause-same : goal.returns-in-Ok-Aborted-clause-same
returns-in-Ok-Aborted-clause-same g c = grind (arith, common_steps)

pub returns-in-Ok-Aborted-clause-after : goal.returns-in-Ok-Aborted-clause-after
returns-in-Ok-Aborted-clause-after g c = grind (arith, common_steps)

pub returns-in-Ok-Aborted-clause-fills : goal.returns-in-Ok-Aborted-clause-fills
returns-in-Ok-Aborted-clause-fills g c = grind (arith, common_steps)

pub returns-in-Ok-Aborted-clause-stops : goal.returns-in-Ok-Aborted-clause-stops
returns-in-Ok-Aborted-clause-stops g c = grind (arith, common_steps)

pub returns-in-NoMemory-clause-same : goal.returns-in-NoMemory-clause-same
returns-in-NoMemory-clause-same g c = grind (arith, common_steps)

pub returns-in-NoMemory-clause-over : goal.returns-in-NoMemory-clause-over
returns-in-NoMemory-clause-over g c = grind (arith, common_steps)

pub returns-in-NoMemory-clause-after : goal.returns-in-NoMemory-clause-after
returns-in-NoMemory-clause-after g c = grind (arith, common_steps)

pub returns-in-NoMemory-clause-fills : goal.returns-in-NoMemory-clause-fills
returns-in-NoMemory-clause-fills g c = grind (arith, common_steps)

pub returns-in_default : goal.returns-in_default
returns-in_default g c = grind (arith, common_steps)
