-- What the code's values say.
use Rattle.std.specs.Prelude.{List, map}
use Rattle.st_world_parts.specs.Seen.{side_seen, way_seen}
use Rattle.st_world_parts.specs.Events as events
use Rattle.st_world.specs.declared.event.Event.{Event}
use Rattle.st_world.specs.declared.event.Event.TheVariants.{OpenStream, Write, Read, Close, Abort, Offer, ReceiveMax, Send, Arrive, AnswerArrives, Fault, Crash, Refused}

abbrev pub event_seen : Event → events.Event
event_seen (OpenStream side) = events.OpenStream (side_seen side)
event_seen (Write side stream bytes) = events.Write (side_seen side) stream bytes.now
event_seen (Read side stream max) = events.Read (side_seen side) stream max
event_seen (Close side stream) = events.Close (side_seen side) stream
event_seen (Abort side stream code) = events.Abort (side_seen side) stream code
event_seen (Offer side stream amount) = events.Offer (side_seen side) stream amount
event_seen (ReceiveMax side stream amount) = events.ReceiveMax (side_seen side) stream amount
event_seen (Send side iv now) = events.Send (side_seen side) iv now
event_seen (Arrive link way which now) = events.Arrive link (way_seen way) which now
event_seen (AnswerArrives link way which now) = events.AnswerArrives link (way_seen way) which now
event_seen (Fault link way which now) = events.Fault link (way_seen way) which now
event_seen (Crash hop) = events.Crash hop
event_seen Refused = events.Refused

abbrev pub events_seen : List Event → List events.Event
events_seen es = map event_seen es
