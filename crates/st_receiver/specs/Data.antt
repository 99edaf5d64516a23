-- The data of a packet, frame by frame (RFC 0029, section 5.3): whether a frame breaks a rule, and what it leaves.
use Rattle.std.specs.Prelude.{ℕ, ◌+◌, Bool, not, ◌&&◌, ◌||◌, List, [], ◌∷◌, length, max, nat_lt, nat_eq, is_err, if◌then◌else◌}
use Rattle.std.specs.declared.option.Option.{Option}
use Rattle.std.specs.declared.option.Option.TheVariants.{None, Some}
use Rattle.std.specs.Option.{option_or}
use Rattle.st_frames.specs.Frames.{Known, CloseFrame, StreamClose, StreamMoney, StreamData}
use Rattle.st_reassembly.specs.Held.{is_over, after_insert}
use Rattle.st_reassembly.specs.Inserting.{inserted}
use Rattle.st_receiver.specs.declared.reason.Reason.{Reason}
use Rattle.st_receiver.specs.declared.reason.Reason.TheVariants.{FlowControl, StreamId}
use Rattle.st_receiver.specs.Streams.{Incoming, Receiving, incoming_at, with_incoming, opened_stream, may_name, all_received}
use Rattle.st_receiver.specs.Limits.{connection_limit}

-- the highest byte end, which data that are dropped do not raise; an empty chunk has no byte
abbrev pub raised_to : ℕ → List ℕ → Incoming → ℕ
raised_to offset xs x = if is_over x.held || nat_eq (length xs) 0 then x.highest else max x.highest (offset + length xs)

abbrev pub with_data : ℕ → List ℕ → Incoming → Incoming
with_data offset xs x = record x { held = after_insert offset xs x.held; highest = raised_to offset xs x }

abbrev pub after_data : Receiving → (stream offset : ℕ) → List ℕ → Receiving
after_data r stream offset xs = with_incoming r stream (with_data offset xs (incoming_at r stream))

-- bytes that count, and that end past the connection's limit as it is advertised
abbrev pub is_past_connection : Receiving → (stream offset : ℕ) → List ℕ → Bool
is_past_connection r stream offset xs =
    not (is_over (incoming_at r stream).held || nat_eq (length xs) 0)
    && nat_lt (connection_limit r) (all_received (after_data r stream offset xs))

-- a stream whose number is 0 or above 64, or that is not open and of this end's own numbers (this profile's rule)
abbrev pub stream_fault : Receiving → ℕ → Option Reason
stream_fault r stream = if may_name r stream then None else Some StreamId

-- data that end past 2^64 - 1, past the stream's window or past the connection's
abbrev pub data_fault : Receiving → (stream offset : ℕ) → List ℕ → Option Reason
data_fault r stream offset xs =
    if is_err (inserted offset xs (incoming_at r stream).held) || is_past_connection r stream offset xs then Some FlowControl else None

abbrev pub frame_fault : Receiving → Known → Option Reason
frame_fault r (StreamData stream offset xs) = option_or (stream_fault r stream) (data_fault r stream offset xs)
frame_fault r (StreamMoney stream shares) = stream_fault r stream
frame_fault r (CloseFrame (StreamClose stream code message)) = stream_fault r stream
frame_fault r f = None

abbrev pub after_frame : Receiving → Known → Receiving
after_frame r (StreamData stream offset xs) = after_data r stream offset xs
after_frame r (StreamMoney stream shares) = opened_stream r stream
after_frame r (CloseFrame (StreamClose stream code message)) = opened_stream r stream
after_frame r f = r

-- the first frame that breaks a rule decides
unfoldable pub frames_fault : Receiving → List Known → Option Reason
frames_fault r [] = None
frames_fault r (f ∷ fs) = option_or (frame_fault r f) (frames_fault (after_frame r f) fs)

unfoldable pub after_frames : Receiving → List Known → Receiving
after_frames r [] = r
after_frames r (f ∷ fs) = after_frames (after_frame r f) fs
