-- How a contract sees what the code holds.
use Rattle.std.specs.Prelude.{ℕ}
use Rattle.st_frames.specs.declared.frame.Frame.{Frame}
use Rattle.st_frames.specs.declared.frame.Frame.TheVariants as code
use Rattle.st_frames.specs.Frames.{Known, CloseFrame, ConnectionClose, OtherFrame, ConnectionNewAddress, LimitFrame, ConnectionMaxData, BlockedFrame, ConnectionDataBlocked, StreamClose, StreamMoney, StreamMaxMoney, StreamMoneyBlocked, StreamData, StreamMaxData, StreamDataBlocked}

-- a frame's value
abbrev pub seen : Frame → Known
seen (code.ConnectionClose code message) = CloseFrame (ConnectionClose code message.now)
seen (code.ConnectionNewAddress address) = OtherFrame (ConnectionNewAddress address.now)
seen (code.ConnectionMaxData max_offset) = LimitFrame (ConnectionMaxData max_offset)
seen (code.ConnectionDataBlocked max_offset) = BlockedFrame (ConnectionDataBlocked max_offset)
seen (code.StreamClose stream code message) = CloseFrame (StreamClose stream code message.now)
seen (code.StreamMoney stream shares) = StreamMoney stream shares
seen (code.StreamMaxMoney stream receive_max total_received) = LimitFrame (StreamMaxMoney stream receive_max total_received)
seen (code.StreamMoneyBlocked stream send_max total_sent) = BlockedFrame (StreamMoneyBlocked stream send_max total_sent)
seen (code.StreamData stream offset bytes) = StreamData stream offset bytes.now
seen (code.StreamMaxData stream max_offset) = LimitFrame (StreamMaxData stream max_offset)
seen (code.StreamDataBlocked stream max_offset) = BlockedFrame (StreamDataBlocked stream max_offset)

-- a frame with its index
abbrev pub seen_at : ℕ × Frame → ℕ × Known
seen_at x = (x.0, seen x.1)
