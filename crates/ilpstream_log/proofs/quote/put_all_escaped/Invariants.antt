use Rattle.std.proofs.Common.{◌≡◌, ◌++◌, take}
use Rattle.std.specs.Prelude.{string_bytes}
use Rattle.ilpstream_log.specs.Quoting.{all_escaped}
use Rattle.ilpstream_log.proofs.quote.put_all_escaped.Given as goal

abbrev pub invariant-loop-byte : goal.invariant-loop-byte
invariant-loop-byte l = string_bytes l.text ≡ string_bytes l.fn.text ++ all_escaped (take l.byte-index l.bytes)
