use Rattle.std.proofs.Common.{◌≡◌, length, vec_len}
use Rattle.st_hop_desk.specs.Board.{with_told}
use Rattle.st_hop_desk.proofs.board.Board.finish.Given as goal

abbrev pub decreases-loop-place : goal.decreases-loop-place
decreases-loop-place g l = vec_len l.places

abbrev pub invariant-loop-place : goal.invariant-loop-place
invariant-loop-place g l = length l.fn.ended.tokens.items ≡ length l.fn.ended.places.items
    → (length l.tokens.items ≡ length l.places.items) × (with_told l.self.slots.items l.places.items l.tokens.items l.is_known ≡ with_told l.fn.self.slots.items l.fn.ended.places.items l.fn.ended.tokens.items l.fn.ended.is_known)
