use Rattle.std.proofs.Common.{ℕ, ◌≢◌, ◌-◌, ◌<◌, ◌≤◌, length, slice_index}
use Rattle.st_hop_books.proofs.continuing.last_one.Given as goal

abbrev pub invariant-loop-back : goal.invariant-loop-back
invariant-loop-back l = (i : ℕ) → length l.numbers - l.back ≤ i → i < length l.numbers → slice_index l.numbers i ≢ 1
