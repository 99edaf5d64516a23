use Rattle.std.proofs.Common.{◌≡◌, Ok, arith, rules}
use Rattle.st_frames.specs.Frames.{Packet}
use Rattle.st_frames.specs.Kinds.{kind_number}
use Rattle.st_frames.specs.Packets.{packet_of}
use Rattle.st_frames.specs.Reading.{packet_at}
use Rattle.host_objects.specs.Packets.{AreKept}
use Rattle.host_objects.proofs.PacketsRead.{read_back}
use Rattle.host_objects.proofs.packet.HostPacket.read.Goals as goal

pub returns : goal.returns
returns c =
    let p : Packet = packet_of c.in_ok-sequence.field-0 in
    let kind = kind_number c.args.kind in
    let read : packet_at kind c.args.bytes.now ≡ Ok p = search rules in
    let kept : AreKept c.new-packet.result c.keep_all.new.self p.frames = search rules in
    read_back kind c.args.bytes.now p c.new-packet.result c.keep_all.new.self c.packet_law.ensures (λ i. omega (arith, c.type_inv.bytes i)) read c.new-packet.ensures kept
