-- What the closes of a packet leave (RFC 0029, section 5.3).
use Rattle.std.specs.Prelude.{ℕ, true, List, [], ◌∷◌, map, nat_eq, if◌then◌else◌}
use Rattle.std.specs.declared.option.Option.{Option}
use Rattle.std.specs.declared.option.Option.TheVariants.{None, Some}
use Rattle.st_frames.specs.Frames.{Known, CloseFrame, ConnectionClose, StreamClose}
use Rattle.st_reassembly.specs.Closing.{after_finish, after_abort}
use Rattle.st_receiver.specs.Streams.{Incoming, Receiving, incoming_at, with_incoming}

-- code 1 fixes the end past all that was received, any other code aborts
abbrev pub with_close : ℕ → Incoming → Incoming
with_close code x = record x { held = (if nat_eq code 1 then after_finish x.held else after_abort code x.held) }

abbrev pub after_close : Receiving → Known → Receiving
after_close r (CloseFrame (StreamClose stream code message)) = with_incoming r stream (with_close code (incoming_at r stream))
after_close r f = r

unfoldable pub after_closes : Receiving → List Known → Receiving
after_closes r [] = r
after_closes r (f ∷ fs) = after_closes (after_close r f) fs

abbrev pub with_abort : ℕ → Option Incoming → Option Incoming
with_abort code None = None
with_abort code (Some x) = Some (record x { held = after_abort code x.held })

-- a ConnectionClose aborts each direction that has not ended, with its code
abbrev pub after_connection_close : Receiving → Known → Receiving
after_connection_close r (CloseFrame (ConnectionClose code message)) = record r { streams = map (with_abort code) r.streams; closed = true }
after_connection_close r f = r

unfoldable pub after_connection_closes : Receiving → List Known → Receiving
after_connection_closes r [] = r
after_connection_closes r (f ∷ fs) = after_connection_closes (after_connection_close r f) fs
