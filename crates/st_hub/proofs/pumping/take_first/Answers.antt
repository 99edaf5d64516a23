use Rattle.std.proofs.lemmas.Grind.{common_steps}
use Rattle.std.proofs.Common.{◌≡◌, ◌∙◌, ℕ, List, [], ◌∷◌, ◌++◌, ap, sym, subst, inl, inr, Ok, Err, arith}
use mathlib.Core.List.{IsPrefix}
use Rattle.st_queues.specs.WriteEnds.{taken, known}
use Rattle.st_queues.specs.declared.items.Item.{Item}
use Rattle.st_queues.specs.declared.items.Item.TheVariants as item
use Rattle.st_end.specs.Calls.{write}
use Rattle.st_hub.specs.Flow.{has_end}
use Rattle.st_hub.proofs.CoreCalls.{write_ok, refused_still}
use Rattle.st_hub.proofs.Tries.{chunk_end, end_end}
use Rattle.st_hub.proofs.RingSteps.{longer_join, longer_look, longer_took, one_more}
use Rattle.st_hub.proofs.pumping.take_first.Goals as goal

pub returns-in-Ok-clause-over : goal.returns-in-Ok-clause-over
returns-in-Ok-clause-over g c =
    let v = c.in-Chunk.chunk in
    let first = subst (λ (x : Item _). IsPrefix (x ∷ []) (known c.look.new.self)) c.in-Chunk.is c.first.ensures in
    let took = c.drop_first.ensures.took (item.Chunk v) first in
    c.requires ∙ sym (ap has_end (took.0 ∙ ap (λ l. l ++ item.Chunk v ∷ []) c.look.ensures.same.1) ∙ chunk_end (taken c.args.lane.now.end) v)

pub returns-in-Ok-clause-after : goal.returns-in-Ok-clause-after
returns-in-Ok-clause-after g c =
    let v = c.in-Chunk.chunk in
    let first = subst (λ (x : Item _). IsPrefix (x ∷ []) (known c.look.new.self)) c.in-Chunk.is c.first.ensures in
    let took = c.drop_first.ensures.took (item.Chunk v) first in
    let wrote = write_ok _ _ c.args.stream c.deref.result.now _ c.in-Ok.ensures.answers in
    inl (v, subst (λ (bs : List ℕ). write c.args.core.now c.args.stream bs ≡ (Ok tt, c.write.new.state)) c.deref.ensures.value wrote, took.0 ∙ ap (λ l. l ++ item.Chunk v ∷ []) c.look.ensures.same.1)

pub returns-in-Ok-close_last-clause-over : goal.returns-in-Ok-close_last-clause-over
returns-in-Ok-close_last-clause-over g c =
    let first = subst (λ (x : Item _). IsPrefix (x ∷ []) (known c.look.new.self)) c.in-End.is c.first.ensures in
    let took = c.drop_first-in-Ok-close_last.ensures.took item.End first in
    sym (ap has_end took.0 ∙ end_end (taken c.look.new.self))

pub returns-in-Ok-clause-grows : goal.returns-in-Ok-clause-grows
returns-in-Ok-clause-grows g c =
    let v = c.in-Chunk.chunk in
    let first = subst (λ (x : Item _). IsPrefix (x ∷ []) (known c.look.new.self)) c.in-Chunk.is c.first.ensures in
    let took = c.drop_first.ensures.took (item.Chunk v) first in
    longer_join _ _ _ _ _ _ (longer_look _ _ _ _ c.look.ensures.same.1 c.look.ensures.same.2) (longer_took _ _ _ _ _ took.0 took.1)

pub returns-in-Ok-clause-stops : goal.returns-in-Ok-clause-stops
returns-in-Ok-clause-stops g c =
    let v = c.in-Chunk.chunk in
    let first = subst (λ (x : Item _). IsPrefix (x ∷ []) (known c.look.new.self)) c.in-Chunk.is c.first.ensures in
    let took = c.drop_first.ensures.took (item.Chunk v) first in
    one_more _ _ (item.Chunk v) (took.0 ∙ ap (λ l. l ++ item.Chunk v ∷ []) c.look.ensures.same.1)

pub returns-in-Ok-close_last-clause-grows : goal.returns-in-Ok-close_last-clause-grows
returns-in-Ok-close_last-clause-grows g c =
    let first = subst (λ (x : Item _). IsPrefix (x ∷ []) (known c.look.new.self)) c.in-End.is c.first.ensures in
    let took = c.drop_first-in-Ok-close_last.ensures.took item.End first in
    longer_join _ _ _ _ _ _ (longer_look _ _ _ _ c.look.ensures.same.1 c.look.ensures.same.2) (longer_took _ _ _ _ _ took.0 took.1)

pub returns-in-Ok-close_last-clause-stops : goal.returns-in-Ok-close_last-clause-stops
returns-in-Ok-close_last-clause-stops g c =
    let first = subst (λ (x : Item _). IsPrefix (x ∷ []) (known c.look.new.self)) c.in-End.is c.first.ensures in
    let took = c.drop_first-in-Ok-close_last.ensures.took item.End first in
    one_more _ _ item.End (took.0 ∙ ap (λ l. l ++ item.End ∷ []) c.look.ensures.same.1)

pub returns-in-NoMemory-clause-grows : goal.returns-in-NoMemory-clause-grows
returns-in-NoMemory-clause-grows g c = longer_look _ _ _ _ c.look.ensures.same.1 c.look.ensures.same.2

pub returns-in_default-clause-grows : goal.returns-in_default-clause-grows
returns-in_default-clause-grows g c = longer_look _ _ _ _ c.look.ensures.same.1 c.look.ensures.same.2

pub returns-in_default-clause-stops : goal.returns-in_default-clause-stops
returns-in_default-clause-stops g c =
    let v = c.in-Chunk.chunk in
    let b = c.write.new.state in
    let why = c.in-Err.why in
    let first = subst (λ (x : Item _). IsPrefix (x ∷ []) (known c.look.new.self)) c.in-Chunk.is c.first.ensures in
    let answer = refused_still c.args.core.now b c.args.stream c.deref.result.now why c.in_default.not-NoMemory c.in-Err.ensures.unchanged c.in-Err.ensures.answers in
    inr (inr (item.Chunk v, first, (why, subst (λ (bs : List ℕ). write b c.args.stream bs ≡ (Err why, b)) c.deref.ensures.value answer)))

pub returns-then-over-clause-same : goal.returns-then-over-clause-same
returns-then-over-clause-same g c = grind (arith, common_steps)

pub returns-then-over-clause-over : goal.returns-then-over-clause-over
returns-then-over-clause-over g c = grind (arith, common_steps)

pub returns-then-over-clause-after : goal.returns-then-over-clause-after
returns-then-over-clause-after g c = grind (arith, common_steps)

pub returns-then-over-clause-grows : goal.returns-then-over-clause-grows
returns-then-over-clause-grows g c = grind (arith, common_steps)

pub returns-then-over-clause-stops : goal.returns-then-over-clause-stops
returns-then-over-clause-stops g c = grind (arith, common_steps)

pub first-requires : goal.first-requires
first-requires g c = grind (arith, common_steps)

pub drop_first-requires : goal.drop_first-requires
drop_first-requires g c = grind (arith, common_steps)

pub drop_first-requires-in-Ok-close_last : goal.drop_first-requires-in-Ok-close_last
drop_first-requires-in-Ok-close_last g c = grind (arith, common_steps)

pub returns-in-Ok-clause-same : goal.returns-in-Ok-clause-same
returns-in-Ok-clause-same g c = grind (arith, common_steps)

pub returns-in-NoMemory-clause-same : goal.returns-in-NoMemory-clause-same
returns-in-NoMemory-clause-same g c = grind (arith, common_steps)

pub returns-in-NoMemory-clause-over : goal.returns-in-NoMemory-clause-over
returns-in-NoMemory-clause-over g c = grind (arith, common_steps)

pub returns-in-NoMemory-clause-after : goal.returns-in-NoMemory-clause-after
returns-in-NoMemory-clause-after g c = grind (arith, common_steps)

pub returns-in-Ok-close_last-clause-same : goal.returns-in-Ok-close_last-clause-same
returns-in-Ok-close_last-clause-same g c = grind (arith, common_steps)

pub returns-in-Ok-close_last-clause-after : goal.returns-in-Ok-close_last-clause-after
returns-in-Ok-close_last-clause-after g c = grind (arith, common_steps)

pub returns-in-Err-close_last-clause-same : goal.returns-in-Err-close_last-clause-same
returns-in-Err-close_last-clause-same g c = grind (arith, common_steps)

pub returns-in-Err-close_last-clause-over : goal.returns-in-Err-close_last-clause-over
returns-in-Err-close_last-clause-over g c = grind (arith, common_steps)

pub returns-in-Err-close_last-clause-after : goal.returns-in-Err-close_last-clause-after
returns-in-Err-close_last-clause-after g c = grind (arith, common_steps)

pub returns-in-Err-close_last-clause-stops : goal.returns-in-Err-close_last-clause-stops
returns-in-Err-close_last-clause-stops g c = grind (arith, common_steps)
