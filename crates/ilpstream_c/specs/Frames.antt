-- Frames of a STREAM packet (RFC 0029, section 5.3) in the fields of a host.
use Rattle.std.specs.Prelude.{ℕ, Bool, ◌==◌, ◌&&◌, List, [], length, Option, Some, None, if◌then◌else◌}
use Rattle.st_oer.specs.Text.{is_utf8}
use Rattle.st_frames.specs.Frames.{Known, CloseFrame, ConnectionClose, OtherFrame, ConnectionNewAddress, LimitFrame, ConnectionMaxData, BlockedFrame, ConnectionDataBlocked, StreamClose, StreamMoney, StreamMaxMoney, StreamMoneyBlocked, StreamData, StreamMaxData, StreamDataBlocked}
use Rattle.ilpstream_c.specs.declared.frame.HostFrame.{HostFrame}
use Rattle.ilpstream_c.specs.Handles.{is_byte}

-- ---- from a frame

-- its type, stream, numbers and code; 0 for what it does not have
abbrev pub fields : Known → HostFrame
fields (CloseFrame (ConnectionClose code message)) = record { stream = 0; first = 0; second = 0; kind = 0x01; code = code }
fields (OtherFrame o) = record { stream = 0; first = 0; second = 0; kind = 0x02; code = 0 }
fields (LimitFrame (ConnectionMaxData max_offset)) = record { stream = 0; first = max_offset; second = 0; kind = 0x03; code = 0 }
fields (BlockedFrame (ConnectionDataBlocked max_offset)) = record { stream = 0; first = max_offset; second = 0; kind = 0x04; code = 0 }
fields (CloseFrame (StreamClose stream code message)) = record { stream = stream; first = 0; second = 0; kind = 0x10; code = code }
fields (StreamMoney stream shares) = record { stream = stream; first = shares; second = 0; kind = 0x11; code = 0 }
fields (LimitFrame (StreamMaxMoney stream receive_max total_received)) = record { stream = stream; first = receive_max; second = total_received; kind = 0x12; code = 0 }
fields (BlockedFrame (StreamMoneyBlocked stream send_max total_sent)) = record { stream = stream; first = send_max; second = total_sent; kind = 0x13; code = 0 }
fields (StreamData stream offset bytes) = record { stream = stream; first = offset; second = 0; kind = 0x14; code = 0 }
fields (LimitFrame (StreamMaxData stream max_offset)) = record { stream = stream; first = max_offset; second = 0; kind = 0x15; code = 0 }
fields (BlockedFrame (StreamDataBlocked stream max_offset)) = record { stream = stream; first = max_offset; second = 0; kind = 0x16; code = 0 }

-- its text, address or data; no bytes if it has none
abbrev pub data_of : Known → List ℕ
data_of (CloseFrame (ConnectionClose code message)) = message
data_of (OtherFrame (ConnectionNewAddress address)) = address
data_of (CloseFrame (StreamClose stream code message)) = message
data_of (StreamData stream offset bytes) = bytes
data_of k = []

-- ---- to a frame

-- a frame whose text passes a test
abbrev pub passing : Bool → Known → Option Known
passing passes k = if passes then Some k else None

-- the frame of this type with these fields and data; `None` if the type is not known, the code is above 255, or a text is not UTF-8
unfoldable pub frame_with : HostFrame → (bytes : List ℕ) → Option Known
frame_with f bytes =
    if f.kind == 0x01 then passing (is_byte f.code && is_utf8 bytes) (CloseFrame (ConnectionClose f.code bytes))
    else (if f.kind == 0x02 then passing (is_utf8 bytes) (OtherFrame (ConnectionNewAddress bytes))
    else (if f.kind == 0x03 then Some (LimitFrame (ConnectionMaxData f.first))
    else (if f.kind == 0x04 then Some (BlockedFrame (ConnectionDataBlocked f.first))
    else (if f.kind == 0x10 then passing (is_byte f.code && is_utf8 bytes) (CloseFrame (StreamClose f.stream f.code bytes))
    else (if f.kind == 0x11 then Some (StreamMoney f.stream f.first)
    else (if f.kind == 0x12 then Some (LimitFrame (StreamMaxMoney f.stream f.first f.second))
    else (if f.kind == 0x13 then Some (BlockedFrame (StreamMoneyBlocked f.stream f.first f.second))
    else (if f.kind == 0x14 then Some (StreamData f.stream f.first bytes)
    else (if f.kind == 0x15 then Some (LimitFrame (StreamMaxData f.stream f.first))
    else (if f.kind == 0x16 then Some (BlockedFrame (StreamDataBlocked f.stream f.first))
    else None))))))))))

-- the frame has all that is given: nothing is given that its type does not have
abbrev pub has_all : HostFrame → (bytes : List ℕ) → Known → Bool
has_all f bytes k =
    (f.stream == (fields k).stream) && ((f.first == (fields k).first) && ((f.second == (fields k).second) && ((f.code == (fields k).code) && (length bytes == length (data_of k)))))

abbrev pub with_all : HostFrame → (bytes : List ℕ) → Option Known → Option Known
with_all f bytes None = None
with_all f bytes (Some k) = if has_all f bytes k then Some k else None

-- the frame that a host gives
abbrev pub frame_given : HostFrame → (bytes : List ℕ) → Option Known
frame_given f bytes = with_all f bytes (frame_with f bytes)
