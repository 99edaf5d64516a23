use Rattle.std.proofs.Common.{rules, ◌<◌, ◌^◌, ◌∙◌, length, refl, sym, ap, arith, subst}
use Rattle.st_sender.proofs.Said.{barred_by, unbarred_by}
use Rattle.st_sender.proofs.Planned.{below, small_last}
use Rattle.std.proofs.lemmas.Grind.{common_steps}
use Rattle.st_sender.specs.Sending.{Sending}
use Rattle.st_sender.specs.InFlight.{AreEnds}
use Rattle.st_sender.proofs.outbox.Outbox.bounds.Goals as goal

pub returns-in-None : goal.returns-in-None
returns-in-None g c =
    let over = rw (c.deref.ensures.value, c.deref-2.ensures.value) at c.in-None.ensures in
    rw (← c.self.view_is) (barred_by _ c.self.inside.streams.items refl c.self.invariant.0 c.self.invariant.1.booked over)

pub returns-in-Some : goal.returns-in-Some
returns-in-Some g c =
    let spare = rw (c.deref.ensures.value, c.deref-2.ensures.value) at c.in-Some.ensures in
    let few = below _ _ _ _ _ (ap length (sym c.deref-2.ensures.value) ∙ c.deref-2.ensures.len) c.len.ensures c.if-len-in_flight.false c.in_flight.ensures in
    let more = below _ _ _ _ _ refl refl c.if-self-packets.false c.packets.ensures.value in
    let small : c.in-Some.spare < 2 ^ 64 = search rules in
    rw (← c.self.view_is)
    (unbarred_by _ c.self.inside.streams.items refl c.self.invariant.0 c.self.invariant.1.booked c.in-Some.spare c.args.room c.if-self.false few more spare small (small_last _ _ c.if-self-packets.false c.packets.ensures.few), refl)

pub returns-then-self : goal.returns-then-self
returns-then-self g c = grind (arith, common_steps)

pub returns-then-len-in_flight : goal.returns-then-len-in_flight
returns-then-len-in_flight g c = grind (arith, common_steps)

pub returns-then-self-packets : goal.returns-then-self-packets
returns-then-self-packets g c = grind (arith, common_steps)

pub spare-requires-clause-streams : goal.spare-requires-clause-streams
spare-requires-clause-streams g c = ap length c.deref.ensures.value ∙ c.self.invariant.0

pub spare-requires-clause-tops : goal.spare-requires-clause-tops
spare-requires-clause-tops g c = rw c.deref-2.ensures.value (subst (λ (p : Sending). AreEnds p.flights c.args.tops.now) (sym c.self.view_is) c.requires)

pub overflow_add-result : goal.overflow_add-result
overflow_add-result g c = omega (arith, small_last _ _ c.if-self-packets.false c.packets.ensures.few)
