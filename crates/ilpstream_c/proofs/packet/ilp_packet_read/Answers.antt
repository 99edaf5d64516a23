use Rattle.std.proofs.Common.{rules}
use Rattle.ilpstream_c.proofs.Made.{packet_read}
use Rattle.ilpstream_c.proofs.packet.ilp_packet_read.Goals as goal

pub returns-in-Ok : goal.returns-in-Ok
returns-in-Ok c =
    packet_read c.args.kind c.args.bytes.now c.args.handle.now.state c.put_new.new.handle.state c.put_new.result c.in-Ok.packet (search rules) c.in-Ok.ensures.0 c.in-Ok.ensures.1 (search rules)
