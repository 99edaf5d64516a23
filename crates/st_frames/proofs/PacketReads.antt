-- The laws of a packet.
use Rattle.st_frames.specs.Laws.{PacketReads}
use Rattle.st_frames.proofs.PacketLaws.{packet_found, packet_only}

pub packet_reads : PacketReads
packet_reads = record {
  found = λ kind bytes p fits e. let t = packet_found kind bytes p fits e in (t.is, t.own, t.short);
  only = packet_only;
}
