-- What holds of the definitions themselves.
use Rattle.std.specs.Prelude.{◌≡◌, ℕ, Ok}
use Rattle.st_ilp.specs.Packets.{PreparePacket}
use Rattle.st_ilp.specs.Spelling.{fulfill_kind, reject_kind}
use Rattle.st_frames.specs.Frames.{Packet, frames_of}
use Rattle.st_keys.specs.Keys.{DerivedKeys}
use Rattle.st_keys.specs.Sealed.{sealed_packet, iv_of}
use Rattle.st_receiver.specs.Streams.{Receiving}
use Rattle.st_receiver.specs.Limits.{reply_frames}
use Rattle.st_end.specs.State.{EndState}
use Rattle.st_end.specs.Receiving.{Verdict, Unread, Rejects, Fulfills, reply_iv, reply_payload}

-- the data of the reply to a packet are its sealed packet: sealing does not refuse it
abbrev pub IsSealed : DerivedKeys → (kind : ℕ) → PreparePacket → Packet → Receiving → Type 0
IsSealed keys kind q p r =
    sealed_packet keys (reply_iv (iv_of q.payload)) kind p.sequence q.amount (reply_frames r (frames_of p)) ≡ Ok (reply_payload keys kind q p r)

-- and so in the answer to each packet that opened
abbrev pub HasReply : EndState → PreparePacket → Verdict → Type 0
HasReply e q (Unread code reason) = Unit {0}
HasReply e q (Rejects p reason) = IsSealed e.keys reject_kind q p e.receiving
HasReply e q (Fulfills p r) = IsSealed e.keys fulfill_kind q p r
