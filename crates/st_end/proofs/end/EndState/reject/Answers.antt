use Rattle.std.proofs.Common.{◌≡◌, ap, ◌∙◌, map, rules}
use Rattle.st_ilp.specs.Seen.{prepare_seen}
use Rattle.st_ilp.specs.Spelling.{reject_kind}
use Rattle.st_frames.specs.Frames.{frames_of}
use Rattle.st_frames.specs.Packets.{packet_of}
use Rattle.st_frames.specs.Seen.{seen}
use Rattle.st_sender.specs.Sending.{Sending}
use Rattle.st_sender.specs.Answering.{after_all_told}
use Rattle.st_end.specs.Receiving.{reply_payload}
use Rattle.st_end.proofs.Streams.{sends}
use Rattle.st_end.proofs.Lawfulness.{itself, lawful_with, all_told_stays}
use Rattle.st_end.proofs.Taking.{rejected_is}
use Rattle.st_end.proofs.end.EndState.reject.Goals as goal

pub invariant_of-self : goal.invariant_of-self
invariant_of-self g c =
    let left : c.raise_all.new.outbox ≡ after_all_told c.self.inside.outbox (frames_of (packet_of c.args.packet.now)) = search rules in
    let same = all_told_stays c.self.inside.outbox (frames_of (packet_of c.args.packet.now)) c.self.inside.outbox (itself c.self.inside.outbox) in
    (lawful_with _ c.raise_all.new.outbox (ap (λ (x : Sending). x.flights) left ∙ same.0, ap sends left ∙ same.1) c.self.invariant.0, c.self.invariant.1)

pub returns-clause-answers : goal.returns-clause-answers
returns-clause-answers g c =
    rejected_is _ c.args.self.now (prepare_seen c.args.prepare.now) (packet_of c.args.packet.now) c.args.reason c.in_ok-bytes.bytes.items c.in_ok-payload.payload.items c.raise_all.new.outbox c.self.view_is
    (search rules)
    (c.in_ok-payload.ensures.sealed c.self.inside.intake.state (ap (map seen) c.deref-2.ensures.value ∙ c.in-Ok.ensures.told)
    ∙ ap (λ k. reply_payload k reject_kind (prepare_seen c.args.prepare.now) (packet_of c.args.packet.now) c.self.inside.intake.state) c.deref.ensures)
    (search rules)

pub reply_payload-requires-clause-told : goal.reply_payload-requires-clause-told
reply_payload-requires-clause-told g c = (c.self.inside.intake.state, ap (map seen) c.deref-2.ensures.value ∙ c.in-Ok.ensures.told)
