use Rattle.std.proofs.Common.{◌≡◌, map, take}
use Rattle.std.specs.Prelude.{string_bytes}
use Rattle.ilpstream_ledger.specs.Names.{claims_of, dues_of}
use Rattle.ilpstream_ledger.proofs.owed.owed_by.Given as goal

abbrev pub invariant-loop-name : goal.invariant-loop-name
invariant-loop-name g l =
    (l.claims.items ≡ claims_of l.books.names l.books.amounts (map string_bytes (take l.name-index l.table)))
    × (l.dues.items ≡ dues_of l.books.names l.books.amounts (map string_bytes (take l.name-index l.table)))
