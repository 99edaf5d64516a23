use Rattle.std.proofs.Common.{◌≡◌, map, take}
use Rattle.std.specs.Prelude.{string_bytes}
use Rattle.ilpstream_settings.specs.Table.{AreDistinct}
use Rattle.ilpstream_settings.proofs.names.are_distinct.Given as goal

abbrev pub invariant-loop-name : goal.invariant-loop-name
invariant-loop-name g l = record {
  seen : map (λ k. k.now) l.seen.keys ≡ map string_bytes (take l.name-index l.names);
  distinct : AreDistinct (map string_bytes (take l.name-index l.names));
}
