use Rattle.std.proofs.Common.{◌≡◌, map, take}
use Rattle.std.specs.Prelude.{string_bytes}
use Rattle.ilpstream_settings.specs.Table.{names_from}
use Rattle.ilpstream_settings.proofs.names.names_of.Given as goal

abbrev pub invariant-loop-number : goal.invariant-loop-number
invariant-loop-number g l = map string_bytes l.names.items ≡ names_from 0 (take l.number l.accounts)
