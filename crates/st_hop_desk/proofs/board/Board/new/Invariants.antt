use Rattle.std.proofs.Common.{◌≡◌, replicate}
use Rattle.st_hop_desk.specs.declared.board.Slot.TheVariants as slot
use Rattle.st_hop_desk.proofs.board.Board.new.Given as goal

abbrev pub invariant-loop : goal.invariant-loop
invariant-loop g l = l.slots.items ≡ replicate l.counter slot.Empty
