use Rattle.std.proofs.Common.{◌≡◌, drop}
use Rattle.st_oer.specs.Address.{is_segments}
use Rattle.st_oer.proofs.Addresses.{goes_on}
use Rattle.st_oer.proofs.address.is_segments.Given as goal

abbrev pub invariant-loop-byte : goal.invariant-loop-byte
invariant-loop-byte l = is_segments l.text ≡ goes_on l.filled (drop l.byte-index l.text)
