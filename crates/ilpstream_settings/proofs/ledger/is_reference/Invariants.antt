use Rattle.std.proofs.Common.{◌≡◌, ◌&&◌, length, take}
use Rattle.std.specs.Prelude.{nat_le}
use Rattle.std.specs.List.{list_all}
use Rattle.ilpstream_settings.proofs.ledger.is_reference.Given as goal

abbrev pub invariant-loop-byte : goal.invariant-loop-byte
invariant-loop-byte l = l.printable ≡ ((nat_le 1 (length l.bytes) && nat_le (length l.bytes) 128) && list_all (λ b. nat_le 32 b && nat_le b 126) (take l.byte-index l.bytes))
