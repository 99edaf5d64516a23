-- A read of what was received on a stream.
use Rattle.std.specs.Prelude.{ℕ, Bool, false, List, [], ◌∷◌, length, take, nat_eq, if◌then◌else◌}
use Rattle.std.specs.declared.option.Option.{Option}
use Rattle.std.specs.declared.option.Option.TheVariants.{None, Some}
use Rattle.st_reassembly.specs.Held.{Held}
use Rattle.st_reassembly.specs.Run.{run, after_take}
use Rattle.st_receiver.specs.Streams.{Incoming, Receiving, incoming_at, with_incoming}

pub data Got : Type 0 where
  Bytes : (bytes : List ℕ) → Got
  Nothing : Got
  End : Got
  Aborted : (code : ℕ) → Got

-- how many bytes it has
abbrev pub got_count : Got → ℕ
got_count (Bytes xs) = length xs
got_count told = 0

-- all bytes before the fixed end were read
abbrev pub is_read : ℕ → Option ℕ → Bool
is_read read None = false
is_read read (Some end) = nat_eq end read

-- if no byte can be read: the end, if all before it was read
abbrev pub got_none : Held → Got
got_none h = if is_read h.read h.end then End else Nothing

abbrev pub got_bytes : Held → List ℕ → Got
got_bytes h [] = got_none h
got_bytes h (x ∷ xs) = Bytes (x ∷ xs)

abbrev pub got_by : Option ℕ → (limit : ℕ) → Held → Got
got_by (Some code) limit h = Aborted code
got_by None limit h = got_bytes h (take limit (run h))

-- the first bytes of the run, at most `limit`; if there are none the end, or nothing
abbrev pub got : (limit : ℕ) → Held → Got
got limit h = got_by h.aborted limit h

abbrev pub after_bytes : (limit : ℕ) → Held → List ℕ → Held
after_bytes limit h [] = h
after_bytes limit h (x ∷ xs) = after_take limit h

-- what was read is buffered no longer
abbrev pub after_got_by : Option ℕ → (limit : ℕ) → Held → Held
after_got_by (Some code) limit h = h
after_got_by None limit h = after_bytes limit h (take limit (run h))

abbrev pub after_get : (limit : ℕ) → Incoming → Incoming
after_get limit x = record x { held = after_got_by x.held.aborted limit x.held }

abbrev pub after_got : Receiving → (stream limit : ℕ) → Receiving
after_got r k limit = with_incoming r k (after_get limit (incoming_at r k))
