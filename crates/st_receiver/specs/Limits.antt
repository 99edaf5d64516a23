-- The receiver's current limits, as frames (RFC 0029, section 5.3). The sizes of the windows are this profile's own.
use Rattle.std.specs.Prelude.{ℕ, ◌+◌, ◌-◌, ◌^◌, List, [], ◌∷◌, min, if◌then◌else◌}
use Rattle.std.specs.List.{flat_map, range_with_len, list_any}
use Rattle.st_frames.specs.Frames.{Known, LimitFrame, ConnectionMaxData, StreamMaxMoney, StreamMaxData}
use Rattle.st_frames.specs.Told.{names}
use Rattle.st_receiver.specs.Streams.{Incoming, Receiving, incoming_at, may_name, all_read}

-- no limit goes past the greatest offset
abbrev pub capped : ℕ → ℕ
capped n = min (2 ^ 64 - 1) n

abbrev pub connection_limit : Receiving → ℕ
connection_limit r = capped (all_read r + 1048576)

-- the limits of a stream, as it is or as it would open
abbrev pub told_by : (stream : ℕ) → Incoming → List Known
told_by k x = LimitFrame (StreamMaxData k (capped (x.held.read + 65536))) ∷ LimitFrame (StreamMaxMoney k x.receive_max x.credited) ∷ []

-- if it is open or the peer may open it
abbrev pub limits_of : Receiving → ℕ → List Known
limits_of r k = if may_name r k then told_by k (incoming_at r k) else []

-- the connection's, and those of each stream
unfoldable pub limits : Receiving → List Known
limits r = LimitFrame (ConnectionMaxData (connection_limit r)) ∷ flat_map (limits_of r) (range_with_len 1 64)

-- those in a reply: of the streams that the request's frames name
abbrev pub named_limits : Receiving → List Known → ℕ → List Known
named_limits r fs k = if list_any (names k) fs then limits_of r k else []

unfoldable pub reply_frames : Receiving → List Known → List Known
reply_frames r fs = LimitFrame (ConnectionMaxData (connection_limit r)) ∷ flat_map (named_limits r fs) (range_with_len 1 64)
