-- A read of what was received: the first bytes of a stream's run, or what else can be reported.
use Rattle.std.specs.Prelude.{ℕ, if◌then◌else◌, Result, Ok, Err}
use Rattle.st_receiver.specs.Streams.{incoming_at, is_open}
use Rattle.st_receiver.specs.Reading.{Got, got, after_got}
use Rattle.st_streams.specs.declared.end_error.EndError.{EndError}
use Rattle.st_streams.specs.declared.end_error.EndError.TheVariants.{NoStream}
use Rattle.st_end.specs.State.{EndState}

-- of at most `limit` bytes, at least one. A connection that failed or was closed can still be read
abbrev pub read : EndState → (stream limit : ℕ) → Result Got EndError × EndState
read e k limit =
    if is_open e.receiving k then (Ok (got limit (incoming_at e.receiving k).held), record e { receiving = after_got e.receiving k limit })
    else (Err NoStream, e)
