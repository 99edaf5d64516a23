-- What an end that is asked answers, and what it finds in the answers to its own Prepares.
use Rattle.std.specs.Prelude.{◌≡◌, ◌⊎◌, ℕ, ℤ, bytes_eq, if◌then◌else◌, List, Option, Some, None}
use Rattle.st_sender.specs.Answering.{f08}
use Rattle.st_end.specs.Failed.{Failed, Lost as NoneCame, Unreadable, Unfit, Rejected}
use Rattle.st_end.specs.State.{EndState}
use Rattle.st_end.specs.Receiving.{Received, received, t00_text}
use Rattle.ilpstream_log.specs.declared.event.Event.{Event}
use Rattle.ilpstream_log.specs.declared.event.Event.TheVariants as event
use Rattle.ilpstream_log.specs.declared.event.Cause.TheVariants as cause

-- a Prepare arrived at some moment, and this is what became of it
abbrev pub Takes : EndState → (bytes : List ℕ) → Received → EndState → Type 0
Takes a bytes r b = (now : ℤ) × (received a bytes now ≡ (r, b))

-- the answer to bytes that arrived; out of memory, T00 or none, and the end is as it was
abbrev pub Answers : EndState → (bytes : List ℕ) → Option (List ℕ) → EndState → Type 0
Answers a bytes (Some answer) b = ((r : Received) × Takes a bytes r b × (answer ≡ r.bytes)) ⊎ ((answer ≡ t00_text a.own) × (b ≡ a))
Answers a bytes None b = b ≡ a

-- what an end alone finds in the answer to a Prepare that failed: a Fulfill that does not fit, and a new packet limit
abbrev pub end_told : Failed → (limit : ℕ) → Option Event
end_told NoneCame limit = None
end_told Unreadable limit = None
end_told Unfit limit = Some (event.Exchange cause.Unfit)
end_told (Rejected code by message) limit = if bytes_eq code f08 then Some (event.Limit limit) else None
