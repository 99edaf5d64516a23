use Rattle.std.proofs.Common.{ap, map, ◌∙◌}
use Rattle.st_frames.specs.Packets.{packet_of}
use Rattle.st_frames.specs.Seen.{seen}
use Rattle.st_receiver.specs.Judged.{effect}
use Rattle.st_end.proofs.receive.fulfill_reply.Goals as goal

pub reply_payload-requires-clause-told : goal.reply_payload-requires-clause-told
reply_payload-requires-clause-told g c = (effect c.args.intake.now.state (packet_of c.args.packet.now) c.args.plan.now.amount, ap (map seen) c.deref.ensures.value ∙ c.in-Ok.ensures.told)
