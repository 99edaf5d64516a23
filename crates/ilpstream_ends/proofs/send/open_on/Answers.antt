use Rattle.ilpstream_ends.proofs.Outcomes.{no_offer, no_stream, opens_with}
use Rattle.ilpstream_ends.proofs.send.open_on.Goals as goal

pub returns-in-Ok-offer-clause-opened : goal.returns-in-Ok-offer-clause-opened
returns-in-Ok-offer-clause-opened g c =
    opens_with c.args.hub.now.flow.core c.open_stream.new.self.flow.core c.offer.new.self.flow.core c.in-Ok.opened.0 c.args.money
    c.in-Ok.ensures.answers c.in-Ok-offer.ensures.answers

pub returns-in-Err-offer-clause-refused : goal.returns-in-Err-offer-clause-refused
returns-in-Err-offer-clause-refused g c =
    no_offer c.args.hub.now.flow.core c.open_stream.new.self.flow.core c.offer.new.self.flow.core c.in-Ok.opened.0 c.args.money c.in-Err-offer.error
    c.in-Ok.ensures.answers c.in-Err-offer.ensures.answers

pub returns-in-Err-clause-refused : goal.returns-in-Err-clause-refused
returns-in-Err-clause-refused g c =
    no_stream c.args.hub.now.flow.core c.open_stream.new.self.flow.core c.in-Err.error c.args.money c.in-Err.ensures.answers
