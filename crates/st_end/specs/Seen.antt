-- What the code's values say, in the definitions' terms.
use Rattle.std.specs.Prelude.{ℕ, List, String, string_bytes, Option, None, Some, Result, Ok, Err}
use Rattle.std.specs.Borrow.{Bor}
use Rattle.st_receiver.specs.Decided.{got_seen}
use Rattle.st_receiver.specs.Reading as reading
use Rattle.st_streams.specs.declared.end_error.EndError.{EndError}
use Rattle.st_end.specs.declared.received.Received.{Received}
use Rattle.st_streams.specs.declared.stream_read.StreamRead.{StreamRead}
use Rattle.st_end.specs.Receiving as receiving

abbrev pub received_seen : {X : Type 0} → Received X → receiving.Received
received_seen r = record { bytes = r.bytes.items; reason = r.reason; amount = r.amount; sequence = r.sequence }

abbrev pub read_seen : {X : Type 0} → Result (StreamRead X) EndError → Result reading.Got EndError
read_seen (Ok got) = Ok (got_seen got)
read_seen (Err why) = Err why

-- an address that was found, else another
abbrev pub address_or : List ℕ → Option (Bor (List ℕ)) → List ℕ
address_or peer None = peer
address_or peer (Some address) = address.now

-- a text that was found, else another
abbrev pub text_or : {X : Type 0} → List ℕ → Option (String X) → List ℕ
text_or peer None = peer
text_or peer (Some text) = string_bytes text
