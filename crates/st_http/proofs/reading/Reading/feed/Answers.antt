use Rattle.st_http.specs.Phases.{meant}
use Rattle.st_http.proofs.Standings.{says}
use Rattle.st_http.proofs.reading.Reading.feed.Goals as goal

pub returns-after-phase-clause-says : goal.returns-after-phase-clause-says
returns-after-phase-clause-says g c =
    says (meant c.self.inside.side) c.in_ok-taken-in-Head.phase c.take_front.new.head c.take_front.new.body.items c.in_ok-taken-in-Head.ensures.inside

pub returns-in-Refused-clause-says : goal.returns-in-Refused-clause-says
returns-in-Refused-clause-says g c =
    rw (← c.self.view_is) (says (meant c.self.inside.side) c.self.inside.phase c.self.inside.head c.self.inside.body.items c.self.invariant)
