-- How a contract sees a packet.
use Rattle.st_frames.specs.declared.packet.StreamPacket.{StreamPacket}
use Rattle.st_frames.specs.Frames.{Packet}
use Rattle.st_frames.specs.Kinds.{kind_number}

-- a packet's value: its frames are those that its iterator still gives
abbrev pub packet_of : StreamPacket → Packet
packet_of p = record { kind = kind_number p.kind; sequence = p.sequence; amount = p.amount; frames = p.frames }
