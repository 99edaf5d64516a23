use Rattle.std.proofs.Common.{◌≡◌, ◌*◌, ◌<◌, ℕ, length}
use Rattle.st_aes.specs.Cipher.{round_key}
use Rattle.st_aes.specs.Columns.{words_of}
use Rattle.st_aes.specs.Planes.{state_at, vectors_at}
use Rattle.st_aes.proofs.cipher.put_round_keys.Given as goal

abbrev pub invariant-loop-n : goal.invariant-loop-n
invariant-loop-n l = record {
  long : length l.keys ≡ 1920;
  done : (n j : ℕ) → n < l.n → j < 8 → state_at (vectors_at 16 l.keys (128 * n)) 0 j ≡ round_key (words_of l.words) n;
}
