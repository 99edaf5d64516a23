use Rattle.std.proofs.Common.{◌≡◌}
use Rattle.st_hop_desk.specs.Board.{IsBatch, lists}
use Rattle.st_hop_desk.proofs.board.Board.collect.Given as goal

abbrev pub invariant-loop-place : goal.invariant-loop-place
invariant-loop-place g l = IsBatch l.fn.self.slots.items (lists l.batch) l.self.slots.items l.place × (l.self.is_busy ≡ l.fn.self.is_busy)
