use Rattle.std.proofs.Common.{◌≡◌, ◌<◌, ℕ, List}
use Rattle.st_aes.specs.Cipher.{rounds}
use Rattle.st_aes.specs.Planes.{plane, half, state_at, IsRoundKeys}
use Rattle.st_aes.proofs.pass.encrypted.Given as goal

abbrev pub invariant-loop-n : goal.invariant-loop-n
invariant-loop-n l = (ws : List (List ℕ)) → IsRoundKeys l.keys ws → (j : ℕ) → j < 8 → state_at l.q 0 j ≡ rounds ws (half (plane l.fn.v j) 0) l.n
