use Rattle.std.proofs.Common.{map, take}
use Rattle.std.specs.Prelude.{string_bytes}
use Rattle.ilpstream_ledger.specs.Names.{IsNone}
use Rattle.ilpstream_ledger.proofs.owed.is_in.Given as goal

abbrev pub invariant-loop-line : goal.invariant-loop-line
invariant-loop-line l = IsNone (map string_bytes (take l.line l.table)) l.name
