use Rattle.st_sender.proofs.Planned.{either_is}
use Rattle.st_sender.proofs.Said.{none_blocked, money_said}
use Rattle.st_sender.proofs.stream.Stream.blocked.Goals as goal

pub returns-in-None : goal.returns-in-None
returns-in-None g c =
    either_is c.money_blocked.result _ _ _ _ (λ none. none_blocked c.args.flights.now c.args.least c.args.bounds c.args.number c.args.self.now c.in-None.ensures none)
    (λ n p. money_said c.args.flights.now c.args.least c.args.bounds c.args.number c.args.self.now n p) c.money_blocked.ensures
