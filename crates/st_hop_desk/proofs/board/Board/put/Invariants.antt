use Rattle.std.proofs.Common.{◌≡◌, ◌≢◌, ℕ, ◌<◌, Some, slice_get}
use Rattle.st_hop_desk.specs.declared.board.Slot.TheVariants as slot
use Rattle.st_hop_desk.proofs.board.Board.put.Given as goal

abbrev pub invariant-loop-place : goal.invariant-loop-place
invariant-loop-place g l = (l.self.slots.items ≡ l.fn.self.slots.items) × (l.self.is_busy ≡ l.fn.self.is_busy) × ((i : ℕ) → i < l.place → slice_get l.fn.self.slots.items i ≢ Some slot.Empty)
