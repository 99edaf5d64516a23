-- What may happen next, and what a core call then reports.
use Rattle.std.specs.Prelude.{◌≡◌, ℕ, ℤ, Bool, List, length, Result}
use Rattle.std.specs.declared.option.Option.{Option}
use Rattle.st_ilp.specs.Moments.{IsMoment}
use Rattle.st_receiver.specs.Reading.{Got}
use Rattle.st_streams.specs.declared.end_error.EndError.{EndError}
use Rattle.st_end.specs.Calls.{Answer}
use Rattle.st_world_parts.specs.Sides.{Side}

-- which: the Prepare that was put there, or the answer that was given there, counted from 1. It may come any number of
-- times, in any order, or never
pub data Event : Type 0 where
  OpenStream : (side : Side) → Event
  Write : (side : Side) (stream : ℕ) (bytes : List ℕ) → Event
  Read : (side : Side) (stream limit : ℕ) → Event
  Close : (side : Side) (stream : ℕ) → Event
  Abort : (side : Side) (stream code : ℕ) → Event
  Offer : (side : Side) (stream amount : ℕ) → Event
  ReceiveMax : (side : Side) (stream amount : ℕ) → Event
  Send : (side : Side) (iv : List ℕ) (now : ℤ) → Event
  Arrive : (link : ℕ) (way : Side) (which : ℕ) (now : ℤ) → Event
  AnswerArrives : (link : ℕ) (way : Side) (which : ℕ) (now : ℤ) → Event
  Fault : (link : ℕ) (way : Side) (which : ℕ) (now : ℤ) → Event
  Crash : (hop : ℕ) → Event
  Refused : Event

-- an IV has twelve bytes, and a moment is one
abbrev pub IsEvent : Event → Type 0
IsEvent (Send side iv now) = (length iv ≡ 12) × IsMoment now
IsEvent (Arrive link way which now) = IsMoment now
IsEvent (AnswerArrives link way which now) = IsMoment now
IsEvent (Fault link way which now) = IsMoment now
IsEvent event = Unit {0}

-- what the core call answered. A Prepare or an answer that it gave is the last in its list
pub data Told : Type 0 where
  Silent : Told  -- a Send that gave none, and an event without a core call
  Call : (answer : Answer) → Told
  Took : (taken : Bool) → Told  -- an end learned an outcome: whether it was the fitting Fulfill, which was booked
  Opened : (result : Result ℕ EndError) → Told
  Gave : (got : Result Got EndError) → Told
  Sent : Told
  Answered : (reason amount : ℕ) (sequence : Option ℕ) → Told  -- an end's
  Replied : Told  -- a hop's answer
  Went : Told  -- a Prepare was forwarded
  NoMemory : Told
