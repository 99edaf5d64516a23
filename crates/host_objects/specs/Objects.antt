-- The object of a handle, by its kind.
use Rattle.std.specs.Prelude.{ℕ, List, Option, Some, None}
use Rattle.host_objects.specs.declared.end.HostEnd.{HostEnd}
use Rattle.host_objects.specs.declared.hop.HostHop.{HostHop}
use Rattle.host_objects.specs.declared.keys.HostKeys.{HostKeys}
use Rattle.host_objects.specs.declared.message.HostMessage.{HostMessage}
use Rattle.host_objects.specs.declared.packet.HostPacket.{HostPacket}
use Rattle.host_objects.specs.declared.object.Object.{Object}
use Rattle.host_objects.specs.declared.object.Object.TheVariants.{End, Hop, Keys, Message, Packet}

-- the bytes that the last call returned
abbrev pub output_of : Object → List ℕ
output_of (End e) = e.output.items
output_of (Hop h) = h.output.items
output_of (Keys k) = k.output.items
output_of (Message m) = m.output.items
output_of (Packet p) = p.output.items

-- the end of a handle
abbrev pub end_in : Option Object → Option HostEnd
end_in (Some (End e)) = Some e
end_in other = None

-- the hop of a handle
abbrev pub hop_in : Option Object → Option HostHop
hop_in (Some (Hop h)) = Some h
hop_in other = None

-- the keys of a handle
abbrev pub keys_in : Option Object → Option HostKeys
keys_in (Some (Keys k)) = Some k
keys_in other = None

-- the message of a handle
abbrev pub message_in : Option Object → Option HostMessage
message_in (Some (Message m)) = Some m
message_in other = None

-- the packet of a handle
abbrev pub packet_in : Option Object → Option HostPacket
packet_in (Some (Packet p)) = Some p
packet_in other = None
