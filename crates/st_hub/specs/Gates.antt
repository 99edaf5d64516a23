-- Which answers shut the gate.
use Rattle.std.specs.Prelude.{ℕ, Bool, true, false, List, slice_index_or, nat_eq, Result, Ok, Err}
use Rattle.std.specs.declared.option.Option.{Option}
use Rattle.std.specs.declared.option.Option.TheVariants.{None, Some}
use Rattle.st_ilp.specs.Reading.{answer_at}
use Rattle.st_ilp.specs.Packets.{AnswerPacket, Fulfilled, Rejected}
use Rattle.st_ilp.specs.declared.error.IlpError.{IlpError}

-- a code that begins with T: a temporary error (RFC 0027)
abbrev pub is_temporary_code : List ℕ → Bool
is_temporary_code code = nat_eq (slice_index_or code 0 0) 84

-- what was read
abbrev pub is_temporary_answer : Result AnswerPacket IlpError → Bool
is_temporary_answer (Ok (Fulfilled fulfillment payload)) = false
is_temporary_answer (Ok (Rejected code by message payload)) = is_temporary_code code
is_temporary_answer (Err e) = true

-- there is no answer, or one that cannot be read, or a Reject of class T
abbrev pub is_temporary : Option (List ℕ) → Bool
is_temporary None = true
is_temporary (Some bytes) = is_temporary_answer (answer_at bytes)
