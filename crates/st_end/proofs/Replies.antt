-- The IV of a reply.
use Rattle.std.proofs.Common.{◌≡◌, ℕ, ◌<◌, List, [], ◌∷◌, length, refl, arith, set}
use Rattle.std.specs.Prelude.{bit_xor, slice_index}
use Rattle.st_end.specs.Receiving.{reply_iv}

pub turned : (bytes : List ℕ) → 0 < length bytes → set bytes 0 (bit_xor (slice_index bytes 0) 128) ≡ reply_iv bytes
turned [] h = absurd (omega (arith, h))
turned (b ∷ bytes) h = refl
