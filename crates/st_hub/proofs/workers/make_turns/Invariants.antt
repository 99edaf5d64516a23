use Rattle.st_hub.specs.Working.{Works}
use Rattle.st_hub.proofs.workers.make_turns.Given as goal

abbrev pub invariant-loop : goal.invariant-loop
invariant-loop g l = Works g.I.Ivs.gives g.L.Link.exchanges g.K.Clock.reads g.W.Observer.hears
    (record { ivs = l.initial.ivs; link = l.initial.link; clock = l.initial.clock; watch = l.initial.watch }) l.counter l.spare_iv
    (record { ivs = l.ivs; link = l.link; clock = l.clock; watch = l.watch })
