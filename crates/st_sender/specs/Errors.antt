-- The numbers of the refusals.
use Rattle.std.specs.Prelude.{ℕ, Option, None}
use Rattle.st_streams.specs.declared.end_error.EndError.{EndError}
use Rattle.st_streams.specs.declared.end_error.EndError.TheVariants as end
use Rattle.st_sender.specs.declared.error.OutboxError.{OutboxError}
use Rattle.st_sender.specs.declared.error.OutboxError.TheVariants.{NoStream, Closed, Full, AmountTooLarge, NoMemory}

-- the number by which a refusal is known
abbrev pub number : OutboxError → ℕ
number NoStream = 50
number Closed = 51
number Full = 52
number AmountTooLarge = 53
number NoMemory = 54

-- the number inside it: none has one
abbrev pub inner : OutboxError → Option ℕ
inner e = None

-- the refusal of an end that has this one of its sending side, with the same number
abbrev pub wrapped : OutboxError → EndError
wrapped NoStream = end.NoStream
wrapped Closed = end.Closed
wrapped Full = end.Full
wrapped AmountTooLarge = end.AmountTooLarge
wrapped NoMemory = end.NoMemory
