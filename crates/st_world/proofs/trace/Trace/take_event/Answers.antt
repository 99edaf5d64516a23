use Rattle.std.proofs.lemmas.Grind.{common_steps}
use Rattle.std.proofs.Common.{ℤ, ap, subst, arith}
use Rattle.st_ilp.specs.Moments.{IsMoment}
use Rattle.st_world_parts.specs.Events as events
use Rattle.st_world_parts.specs.Seen.{side_seen, way_seen, told_seen}
use Rattle.st_world.specs.Seen.{event_seen}
use Rattle.st_world.specs.Left.{in_world}
use Rattle.st_world.proofs.Reached.{happens_as, happens_if, happens_over, may_lack}
use Rattle.st_world.proofs.trace.Trace.take_event.Goals as goal

pub returns-in-Write-clause-happens : goal.returns-in-Write-clause-happens
returns-in-Write-clause-happens g c =
    happens_over c.write.result told_seen c.args.self.now c.write.new.self c.args.links.now (event_seen c.args.event.now) (events.Write (side_seen c.in-Write.side) c.in-Write.stream c.in-Write.bytes.now) (ap event_seen c.in-Write.is) tt c.write.ensures.met

pub returns-in-Write-clause-memory : goal.returns-in-Write-clause-memory
returns-in-Write-clause-memory g c = may_lack c.write.result told_seen (event_seen c.args.event.now) (events.Write (side_seen c.in-Write.side) c.in-Write.stream c.in-Write.bytes.now) (ap event_seen c.in-Write.is) tt

pub returns-else-max-eq0-clause-happens : goal.returns-else-max-eq0-clause-happens
returns-else-max-eq0-clause-happens g c =
    happens_over c.read.result told_seen c.args.self.now c.read.new.self c.args.links.now (event_seen c.args.event.now) (events.Read (side_seen c.in-Read.side) c.in-Read.stream c.in-Read.max) (ap event_seen c.in-Read.is) tt c.read.ensures.met

pub returns-else-max-eq0-clause-memory : goal.returns-else-max-eq0-clause-memory
returns-else-max-eq0-clause-memory g c = may_lack c.read.result told_seen (event_seen c.args.event.now) (events.Read (side_seen c.in-Read.side) c.in-Read.stream c.in-Read.max) (ap event_seen c.in-Read.is) tt

pub returns-in-Send-clause-happens : goal.returns-in-Send-clause-happens
returns-in-Send-clause-happens g c =
    let at : IsMoment c.in-Send.now = subst (λ (n : ℤ). IsMoment n) c.ms-range.ensures.value c.ms-range.ensures.range in
    happens_if c.send.result told_seen (in_world c.args.self.now c.args.links.now) (in_world c.send.new.self c.send.new.links) (event_seen c.args.event.now) (events.Send (side_seen c.in-Send.side) c.in-Send.iv c.in-Send.now) (ap event_seen c.in-Send.is) (c.send.ensures.twelve, at) c.send.ensures.met

pub returns-in-Send-clause-memory : goal.returns-in-Send-clause-memory
returns-in-Send-clause-memory g c = may_lack c.send.result told_seen (event_seen c.args.event.now) (events.Send (side_seen c.in-Send.side) c.in-Send.iv c.in-Send.now) (ap event_seen c.in-Send.is) tt

pub returns-in-Arrive-clause-happens : goal.returns-in-Arrive-clause-happens
returns-in-Arrive-clause-happens g c =
    let at : IsMoment c.in-Arrive.now = subst (λ (n : ℤ). IsMoment n) c.ms-range-in-Arrive.ensures.value c.ms-range-in-Arrive.ensures.range in
    happens_if c.arrive.result told_seen (in_world c.args.self.now c.args.links.now) (in_world c.arrive.new.self c.arrive.new.links) (event_seen c.args.event.now) (events.Arrive c.in-Arrive.link (way_seen c.in-Arrive.way) c.in-Arrive.which c.in-Arrive.now) (ap event_seen c.in-Arrive.is) at c.arrive.ensures.met

pub returns-in-Arrive-clause-memory : goal.returns-in-Arrive-clause-memory
returns-in-Arrive-clause-memory g c = may_lack c.arrive.result told_seen (event_seen c.args.event.now) (events.Arrive c.in-Arrive.link (way_seen c.in-Arrive.way) c.in-Arrive.which c.in-Arrive.now) (ap event_seen c.in-Arrive.is) tt

pub returns-in-AnswerArrives-clause-happens : goal.returns-in-AnswerArrives-clause-happens
returns-in-AnswerArrives-clause-happens g c =
    let at : IsMoment c.in-AnswerArrives.now = subst (λ (n : ℤ). IsMoment n) c.ms-range-in-AnswerArrives.ensures.value c.ms-range-in-AnswerArrives.ensures.range in
    happens_if c.answer.result told_seen (in_world c.args.self.now c.args.links.now) (in_world c.answer.new.self c.answer.new.links) (event_seen c.args.event.now) (events.AnswerArrives c.in-AnswerArrives.link (way_seen c.in-AnswerArrives.way) c.in-AnswerArrives.which c.in-AnswerArrives.now) (ap event_seen c.in-AnswerArrives.is) at c.answer.ensures.met

pub returns-in-AnswerArrives-clause-memory : goal.returns-in-AnswerArrives-clause-memory
returns-in-AnswerArrives-clause-memory g c = may_lack c.answer.result told_seen (event_seen c.args.event.now) (events.AnswerArrives c.in-AnswerArrives.link (way_seen c.in-AnswerArrives.way) c.in-AnswerArrives.which c.in-AnswerArrives.now) (ap event_seen c.in-AnswerArrives.is) tt

pub returns-in-Fault-clause-happens : goal.returns-in-Fault-clause-happens
returns-in-Fault-clause-happens g c =
    let at : IsMoment c.in-Fault.now = subst (λ (n : ℤ). IsMoment n) c.ms-range-in-Fault.ensures.value c.ms-range-in-Fault.ensures.range in
    happens_if c.fault.result told_seen (in_world c.args.self.now c.args.links.now) (in_world c.fault.new.self c.fault.new.links) (event_seen c.args.event.now) (events.Fault c.in-Fault.link (way_seen c.in-Fault.way) c.in-Fault.which c.in-Fault.now) (ap event_seen c.in-Fault.is) at c.fault.ensures.met

pub returns-in-Fault-clause-memory : goal.returns-in-Fault-clause-memory
returns-in-Fault-clause-memory g c = may_lack c.fault.result told_seen (event_seen c.args.event.now) (events.Fault c.in-Fault.link (way_seen c.in-Fault.way) c.in-Fault.which c.in-Fault.now) (ap event_seen c.in-Fault.is) tt

pub returns-in-OpenStream-clause-happens : goal.returns-in-OpenStream-clause-happens
returns-in-OpenStream-clause-happens g c =
    happens_as (in_world c.args.self.now c.args.links.now) (event_seen c.args.event.now) (events.OpenStream (side_seen c.in-OpenStream.side)) (told_seen c.open.result) (in_world c.open.new.self c.args.links.now) (ap event_seen c.in-OpenStream.is) tt (c.open.ensures.met c.args.links.now)

pub returns-in-Close-clause-happens : goal.returns-in-Close-clause-happens
returns-in-Close-clause-happens g c =
    happens_as (in_world c.args.self.now c.args.links.now) (event_seen c.args.event.now) (events.Close (side_seen c.in-Close.side) c.in-Close.stream) (told_seen c.close.result) (in_world c.close.new.self c.args.links.now) (ap event_seen c.in-Close.is) tt (c.close.ensures.met c.args.links.now)

pub returns-else-code-eq1-clause-happens : goal.returns-else-code-eq1-clause-happens
returns-else-code-eq1-clause-happens g c =
    happens_as (in_world c.args.self.now c.args.links.now) (event_seen c.args.event.now) (events.Abort (side_seen c.in-Abort.side) c.in-Abort.stream c.in-Abort.code) (told_seen c.abort.result) (in_world c.abort.new.self c.args.links.now) (ap event_seen c.in-Abort.is) tt (c.abort.ensures.met c.args.links.now)

pub returns-in-Offer-clause-happens : goal.returns-in-Offer-clause-happens
returns-in-Offer-clause-happens g c =
    happens_as (in_world c.args.self.now c.args.links.now) (event_seen c.args.event.now) (events.Offer (side_seen c.in-Offer.side) c.in-Offer.stream c.in-Offer.amount) (told_seen c.offer.result) (in_world c.offer.new.self c.args.links.now) (ap event_seen c.in-Offer.is) tt (c.offer.ensures.met c.args.links.now)

pub returns-in-ReceiveMax-clause-happens : goal.returns-in-ReceiveMax-clause-happens
returns-in-ReceiveMax-clause-happens g c =
    happens_as (in_world c.args.self.now c.args.links.now) (event_seen c.args.event.now) (events.ReceiveMax (side_seen c.in-ReceiveMax.side) c.in-ReceiveMax.stream c.in-ReceiveMax.amount) (told_seen c.raise.result) (in_world c.raise.new.self c.args.links.now) (ap event_seen c.in-ReceiveMax.is) tt (c.raise.ensures.met c.args.links.now)

pub returns-in-Crash-clause-happens : goal.returns-in-Crash-clause-happens
returns-in-Crash-clause-happens g c =
    happens_as (in_world c.args.self.now c.args.links.now) (event_seen c.args.event.now) (events.Crash c.in-Crash.hop) (told_seen c.crash.result) (in_world c.crash.new.self c.args.links.now) (ap event_seen c.in-Crash.is) tt (c.crash.ensures.met c.args.links.now)

pub slice_bounds-write-end : goal.slice_bounds-write-end
slice_bounds-write-end g c = grind (arith, common_steps)

pub returns-then-max-eq0-clause-happens : goal.returns-then-max-eq0-clause-happens
returns-then-max-eq0-clause-happens g c = grind (arith, common_steps)

pub returns-then-max-eq0-clause-nodes : goal.returns-then-max-eq0-clause-nodes
returns-then-max-eq0-clause-nodes g c = grind (arith, common_steps)

pub returns-then-max-eq0-clause-memory : goal.returns-then-max-eq0-clause-memory
returns-then-max-eq0-clause-memory g c = grind (arith, common_steps)

pub read-requires : goal.read-requires
read-requires g c = grind (arith, common_steps)

pub returns-then-code-eq1-clause-happens : goal.returns-then-code-eq1-clause-happens
returns-then-code-eq1-clause-happens g c = grind (arith, common_steps)

pub returns-then-code-eq1-clause-nodes : goal.returns-then-code-eq1-clause-nodes
returns-then-code-eq1-clause-nodes g c = grind (arith, common_steps)

pub returns-then-code-eq1-clause-memory : goal.returns-then-code-eq1-clause-memory
returns-then-code-eq1-clause-memory g c = grind (arith, common_steps)

pub abort-requires : goal.abort-requires
abort-requires g c = grind (arith, common_steps)

pub send-requires : goal.send-requires
send-requires g c = grind (arith, common_steps)

pub arrive-requires : goal.arrive-requires
arrive-requires g c = grind (arith, common_steps)

pub answer-requires : goal.answer-requires
answer-requires g c = grind (arith, common_steps)

pub fault-requires : goal.fault-requires
fault-requires g c = grind (arith, common_steps)

pub returns-in-OpenStream-clause-nodes : goal.returns-in-OpenStream-clause-nodes
returns-in-OpenStream-clause-nodes g c = grind (arith, common_steps)

pub returns-in-OpenStream-clause-memory : goal.returns-in-OpenStream-clause-memory
returns-in-OpenStream-clause-memory g c = grind (arith, common_steps)

pub returns-in-Close-clause-nodes : goal.returns-in-Close-clause-nodes
returns-in-Close-clause-nodes g c = grind (arith, common_steps)

pub returns-in-Close-clause-memory : goal.returns-in-Close-clause-memory
returns-in-Close-clause-memory g c = grind (arith, common_steps)

pub returns-else-code-eq1-clause-nodes : goal.returns-else-code-eq1-clause-nodes
returns-else-code-eq1-clause-nodes g c = grind (arith, common_steps)

pub returns-else-code-eq1-clause-memory : goal.returns-else-code-eq1-clause-memory
returns-else-code-eq1-clause-memory g c = grind (arith, common_steps)

pub returns-in-Offer-clause-nodes : goal.returns-in-Offer-clause-nodes
returns-in-Offer-clause-nodes g c = grind (arith, common_steps)

pub returns-in-Offer-clause-memory : goal.returns-in-Offer-clause-memory
returns-in-Offer-clause-memory g c = grind (arith, common_steps)

pub returns-in-ReceiveMax-clause-nodes : goal.returns-in-ReceiveMax-clause-nodes
returns-in-ReceiveMax-clause-nodes g c = grind (arith, common_steps)

pub returns-in-ReceiveMax-clause-memory : goal.returns-in-ReceiveMax-clause-memory
returns-in-ReceiveMax-clause-memory g c = grind (arith, common_steps)

pub returns-in-Crash-clause-nodes : goal.returns-in-Crash-clause-nodes
returns-in-Crash-clause-nodes g c = grind (arith, common_steps)

pub returns-in-Crash-clause-memory : goal.returns-in-Crash-clause-memory
returns-in-Crash-clause-memory g c = grind (arith, common_steps)

pub returns-in-Refused-clause-happens : goal.returns-in-Refused-clause-happens
returns-in-Refused-clause-happens g c = grind (arith, common_steps)

pub returns-in-Refused-clause-nodes : goal.returns-in-Refused-clause-nodes
returns-in-Refused-clause-nodes g c = grind (arith, common_steps)

pub returns-in-Refused-clause-memory : goal.returns-in-Refused-clause-memory
returns-in-Refused-clause-memory g c = grind (arith, common_steps)

pub returns-in-Write-clause-same_self : goal.returns-in-Write-clause-same_self
returns-in-Write-clause-same_self g c = c.write.ensures.unchanged

pub returns-in-Write-clause-nodes : goal.returns-in-Write-clause-nodes
returns-in-Write-clause-nodes g c = c.write.ensures.nodes

pub returns-else-max-eq0-clause-same_self : goal.returns-else-max-eq0-clause-same_self
returns-else-max-eq0-clause-same_self g c = c.read.ensures.unchanged

pub returns-else-max-eq0-clause-nodes : goal.returns-else-max-eq0-clause-nodes
returns-else-max-eq0-clause-nodes g c = c.read.ensures.nodes

pub returns-in-Send-clause-same_self : goal.returns-in-Send-clause-same_self
returns-in-Send-clause-same_self g c = c.send.ensures.same_self

pub returns-in-Send-clause-nodes : goal.returns-in-Send-clause-nodes
returns-in-Send-clause-nodes g c = c.send.ensures.nodes

pub returns-in-Send-clause-same_links : goal.returns-in-Send-clause-same_links
returns-in-Send-clause-same_links g c = c.send.ensures.same_links

pub returns-in-Arrive-clause-same_self : goal.returns-in-Arrive-clause-same_self
returns-in-Arrive-clause-same_self g c = c.arrive.ensures.same_self

pub returns-in-Arrive-clause-nodes : goal.returns-in-Arrive-clause-nodes
returns-in-Arrive-clause-nodes g c = c.arrive.ensures.nodes

pub returns-in-Arrive-clause-same_links : goal.returns-in-Arrive-clause-same_links
returns-in-Arrive-clause-same_links g c = c.arrive.ensures.same_links

pub returns-in-AnswerArrives-clause-same_self : goal.returns-in-AnswerArrives-clause-same_self
returns-in-AnswerArrives-clause-same_self g c = c.answer.ensures.same_self

pub returns-in-AnswerArrives-clause-nodes : goal.returns-in-AnswerArrives-clause-nodes
returns-in-AnswerArrives-clause-nodes g c = c.answer.ensures.nodes

pub returns-in-AnswerArrives-clause-same_links : goal.returns-in-AnswerArrives-clause-same_links
returns-in-AnswerArrives-clause-same_links g c = c.answer.ensures.same_links

pub returns-in-Fault-clause-same_self : goal.returns-in-Fault-clause-same_self
returns-in-Fault-clause-same_self g c = c.fault.ensures.same_self

pub returns-in-Fault-clause-nodes : goal.returns-in-Fault-clause-nodes
returns-in-Fault-clause-nodes g c = c.fault.ensures.nodes

pub returns-in-Fault-clause-same_links : goal.returns-in-Fault-clause-same_links
returns-in-Fault-clause-same_links g c = c.fault.ensures.same_links
