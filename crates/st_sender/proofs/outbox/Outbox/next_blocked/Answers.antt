use Rattle.std.proofs.Common.{◌∙◌, length, refl, sym, ap}
use Rattle.st_sender.specs.Shown.{telling}
use Rattle.st_sender.proofs.Planned.{either_is}
use Rattle.st_sender.proofs.Said.{alone_is, no_flights, first_due, connection_said, none_found}
use Rattle.st_sender.proofs.outbox.Outbox.next_blocked.Goals as goal

pub returns-in-None : goal.returns-in-None
returns-in-None g c = λ limits.
    let lanes = c.self.inside.streams.items in
    let go = rw (← c.self.view_is) at c.requires in
    let none = rw (c.deref.ensures.value, c.deref-2.ensures.value, c.least-least.ensures.value) at c.in-None.ensures in
    let said = rw (c.deref-in-None.ensures.value, c.deref-in-None-2.ensures.value) at c.connection_blocked.ensures in
    let alone = no_flights c.self.inside.flights.items (ap length (sym c.deref-2.ensures.value) ∙ c.deref-2.ensures.len ∙ alone_is _ _ c.is_empty.ensures c.if-not-is_empty.false) in
    rw (← c.self.view_is)
    (either_is c.connection_blocked.result _ _ _ _ (λ free. none_found _ lanes c.args.bounds refl c.self.invariant.0 c.self.invariant.1.booked go none free limits)
    (λ n p. connection_said _ lanes c.args.bounds refl c.self.invariant.0 c.self.invariant.1.booked go alone limits n p) said)

pub returns-in-Some : goal.returns-in-Some
returns-in-Some g c = λ limits.
    let go = rw (← c.self.view_is) at c.requires in
    let some = rw (c.deref.ensures.value, c.deref-2.ensures.value, c.least-least.ensures.value) at c.in-Some.ensures in
    let alone = no_flights c.self.inside.flights.items (ap length (sym c.deref-2.ensures.value) ∙ c.deref-2.ensures.len ∙ alone_is _ _ c.is_empty.ensures c.if-not-is_empty.false) in
    rw (← c.self.view_is) (first_due _ c.self.inside.streams.items c.args.bounds refl c.self.invariant.0 c.self.invariant.1.booked go alone limits (telling c.in-Some.notice) some)

pub first_blocked-requires : goal.first_blocked-requires
first_blocked-requires g c = ap length c.deref.ensures.value ∙ c.self.invariant.0

pub connection_blocked-requires-clause-streams : goal.connection_blocked-requires-clause-streams
connection_blocked-requires-clause-streams g c = ap length c.deref-in-None.ensures.value ∙ c.self.invariant.0
