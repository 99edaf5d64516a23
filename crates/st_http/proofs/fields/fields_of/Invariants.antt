use Rattle.std.proofs.Common.{◌≡◌, take}
use Rattle.std.specs.Prelude.{map}
use Rattle.httparse.specs.Spans.{header_bytes}
use Rattle.st_http.specs.Kept.{map_of}
use Rattle.st_http.proofs.fields.fields_of.Given as goal

abbrev pub invariant-loop-span : goal.invariant-loop-span
invariant-loop-span l = l.fields ≡ map_of (map (header_bytes l.head) (take l.span-index l.spans))
