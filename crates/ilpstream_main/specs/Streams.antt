-- Which command needs which standard stream.
use Rattle.std.specs.Prelude.{Bool, true, false, ◌||◌, Option, Some, None, is_some, if◌then◌else◌}
use Rattle.ilpstream_output.specs.declared.error.Fault.{Fault}
use Rattle.ilpstream_output.specs.declared.error.Fault.TheVariants as fault
use Rattle.ilpstream_words.specs.declared.request.Request.{Request}
use Rattle.ilpstream_words.specs.declared.request.Request.TheVariants as request
use Rattle.ilpstream_main.specs.declared.streams.Streams.{Streams}

-- the fault of a stream that is needed, if it is closed
abbrev pub unless : (is_open : Bool) → Fault → Option Fault
unless true x = None
unless false x = Some x

-- the fault of a command that needs both
abbrev pub missing_one : Streams → Option Fault
missing_one s = if s.input then unless s.output fault.Output else Some fault.Input

-- the fault of a command that opens files or sockets and needs a stream that is closed. The others open nothing: their first
-- read or write fails
abbrev pub missing : Request → Streams → Option Fault
missing request.Frames s = None
missing (request.Local x) s = if is_some x.totals then missing_one s else None
missing (request.Send x) s = unless s.input fault.Input
missing (request.Receive x) s = unless s.output fault.Output
missing (request.Connector x) s = unless (s.input || is_some x.table) fault.Input
missing (request.Ledger x) s = unless s.output fault.Output
missing (request.Explain n) s = None
