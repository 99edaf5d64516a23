-- What lines ask a command for while it runs.
use Rattle.std.specs.Prelude.{List, ℕ, Bool, true, false, Option, Some, None, bytes_eq, codes, if◌then◌else◌}
use Rattle.ilpstream_net.specs.declared.control.Asked.{Asked}
use Rattle.ilpstream_net.specs.declared.control.Asked.TheVariants.{Stop, Totals, Log, Table}

-- what a line asks for: none but these lines asks for anything
abbrev pub asked_by : (line : List ℕ) → Option Asked
asked_by line = if bytes_eq line (codes "stop") then Some Stop
    else (if bytes_eq line (codes "totals") then Some Totals
    else (if bytes_eq line (codes "log") then Some Log
    else (if bytes_eq line (codes "table") then Some Table else None)))

-- the same to a command that reads no table from a file: it does not know that line
abbrev pub known : (has_table : Bool) → Option Asked → Option Asked
known true asked = asked
known false None = None
known false (Some Stop) = Some Stop
known false (Some Totals) = Some Totals
known false (Some Log) = Some Log
known false (Some Table) = None
