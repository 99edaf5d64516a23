-- The code's packets as the definitions see them.
use Rattle.st_ilp.specs.declared.packet.Prepare.{Prepare}
use Rattle.st_ilp.specs.declared.packet.Answer.{Answer}
use Rattle.st_ilp.specs.declared.packet.Answer.TheVariants.{Fulfill, Reject}
use Rattle.st_ilp.specs.Packets.{PreparePacket, AnswerPacket, Fulfilled, Rejected}

abbrev pub prepare_seen : Prepare → PreparePacket
prepare_seen p = record { amount = p.amount; expiry = p.expiry; condition = p.condition; destination = p.destination.now; payload = p.payload.now }

abbrev pub answer_seen : Answer → AnswerPacket
answer_seen (Fulfill fulfillment payload) = Fulfilled fulfillment payload.now
answer_seen (Reject code by message payload) = Rejected code by.now message.now payload.now
