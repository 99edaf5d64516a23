-- The Blocked frame that a Prepare carries, which has the limit of the peer at which this end waits (RFC 0029, section 5.3).
use Rattle.std.specs.Prelude.{ℕ, List, [], ◌∷◌}
use Rattle.std.specs.Option.{option_or}
use Rattle.std.specs.declared.option.Option.{Option}
use Rattle.std.specs.declared.option.Option.TheVariants.{None, Some}
use Rattle.st_frames.specs.Frames.{Known, BlockedFrame, ConnectionDataBlocked, StreamMoneyBlocked, StreamDataBlocked}
use Rattle.st_streams.specs.declared.blocked.Blocked.{Blocked}
use Rattle.st_streams.specs.declared.blocked.Blocked.TheVariants as limits
use Rattle.st_sender.specs.Sending.{SentFrame, Data, Whole, Flight}
use Rattle.st_sender.specs.Flights.{flight_at}

-- what a frame says of a limit of the peer
abbrev pub stops_at : Known → Option Blocked
stops_at (BlockedFrame (ConnectionDataBlocked limit)) = Some (limits.Connection limit)
stops_at (BlockedFrame (StreamDataBlocked k limit)) = Some (limits.Data k limit)
stops_at (BlockedFrame (StreamMoneyBlocked k limit total)) = Some (limits.Money k limit total)
stops_at f = None

abbrev pub flown_stops_at : SentFrame → Option Blocked
flown_stops_at (Data k offset count) = None
flown_stops_at (Whole f) = stops_at f

-- the first that some frames say
abbrev pub all_stop_at : List SentFrame → Option Blocked
all_stop_at [] = None
all_stop_at (f ∷ fs) = option_or (flown_stops_at f) (all_stop_at fs)

abbrev pub flight_stops_at : Option Flight → Option Blocked
flight_stops_at None = None
flight_stops_at (Some p) = all_stop_at p.frames

-- what the Prepare of a sequence says, while it is in flight
abbrev pub blocked_at : List Flight → (sequence : ℕ) → Option Blocked
blocked_at ps n = flight_stops_at (flight_at ps n)
