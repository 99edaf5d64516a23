use Rattle.std.proofs.Common.{subst, rules}
use Rattle.host_objects.specs.Packets.{IsNewPacket}
use Rattle.ilpstream_c.proofs.Made.{packet_made}
use Rattle.ilpstream_c.proofs.packet.ilp_packet_new.Goals as goal

pub returns-in-Some : goal.returns-in-Some
returns-in-Some c =
    let is : IsNewPacket c.args.kind c.args.sequence c.args.amount c.new-packet.result = subst (λ n. IsNewPacket n c.args.sequence c.args.amount c.new-packet.result) c.in-Some.ensures.1 c.new-packet.ensures in
    packet_made c.args.kind c.args.sequence c.args.amount c.args.handle.now.state c.put_new.new.handle.state c.put_new.result c.new-packet.result (search rules) c.in-Some.ensures.0 is (search rules)
