use Rattle.std.proofs.Common.{◌≡◌, map, take}
use Rattle.std.specs.Prelude.{string_bytes}
use Rattle.ilpstream_ledger.specs.Placed.{ArePlaces}
use Rattle.ilpstream_ledger.specs.Placing.{Grows}
use Rattle.ilpstream_ledger.proofs.placing.place_all.Given as goal

abbrev pub invariant-loop-name : goal.invariant-loop-name
invariant-loop-name g l =
    ArePlaces l.books.names (map string_bytes (take l.name-index l.table)) l.places.items × Grows l.fn.books l.books × (l.books.starts ≡ l.fn.books.starts)
