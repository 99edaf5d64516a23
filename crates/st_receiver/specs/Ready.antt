-- Whether a read of a stream gives anything: bytes, the end, or an abort.
use Rattle.std.specs.Prelude.{ℕ, Bool, true, false}
use Rattle.std.specs.declared.option.Option.{Option}
use Rattle.std.specs.declared.option.Option.TheVariants.{None, Some}
use Rattle.st_streams.specs.Slots.{slot}
use Rattle.st_receiver.specs.Streams.{Incoming, Receiving}
use Rattle.st_receiver.specs.Reading.{Got, Bytes, Nothing, End, Aborted, got}

abbrev pub is_some_got : Got → Bool
is_some_got (Bytes xs) = true
is_some_got Nothing = false
is_some_got End = true
is_some_got (Aborted code) = true

-- a read of one byte gives more than nothing
abbrev pub ready_of : Option Incoming → Bool
ready_of None = false
ready_of (Some x) = is_some_got (got 1 x.held)

abbrev pub is_ready : Receiving → (stream : ℕ) → Bool
is_ready r k = ready_of (slot r.streams k)
