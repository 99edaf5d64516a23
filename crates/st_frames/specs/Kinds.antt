-- The kinds of ILP packets (RFC 0027) that carry STREAM packets. Definitions have a kind as its number.
use Rattle.std.specs.Prelude.{ℕ, Bool, nat_le, ◌&&◌}
use Rattle.st_frames.specs.declared.kind.PacketKind.{PacketKind}
use Rattle.st_frames.specs.declared.kind.PacketKind.TheVariants.{Prepare, Fulfill, Reject}

-- a kind's number
abbrev pub kind_number : PacketKind → ℕ
kind_number Prepare = 12
kind_number Fulfill = 13
kind_number Reject = 14

-- the number of a kind
abbrev pub is_kind : ℕ → Bool
is_kind n = nat_le 12 n && nat_le n 14
