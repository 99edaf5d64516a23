use Rattle.std.proofs.Common.{length, arith, refl, ◌∙◌}
use Rattle.st_hop_desk.specs.Board.{IsBatch, lists}
use Rattle.st_hop_desk.proofs.Boards.{begins, steps, ends}
use Rattle.st_hop_desk.proofs.board.Board.collect.Goals as goal

-- src/board.rt:148:9
pub loop-place-init : goal.loop-place-init
loop-place-init g c = (begun, refl)
  where
    begun : IsBatch c.args.self.now.slots.items (record { places = c.new-3.result.items; bookings = c.new.result.items; tokens = c.new-2.result.items }) c.args.self.now.slots.items 0
    begun = rw (c.new-3.ensures.items, c.new.ensures.items, c.new-2.ensures.items) (begins c.args.self.now.slots.items)

-- src/board.rt:148:9
pub loop-place-preserved : goal.loop-place-preserved
loop-place-preserved g c =
    let is = c.loop-place.invariant in
    (steps c.args.self.now.slots.items (lists c.loop-place.batch) (lists c.take.new.batch) c.loop-place.self.slots.items c.take.new.self.slots.items c.loop-place.place c.take.result is.0 c.take.ensures.taken c.take.ensures.left, c.take.ensures.busy ∙ is.1)

-- src/board.rt:139:5
pub returns-clause-batch : goal.returns-clause-batch
returns-clause-batch g c = ends c.args.self.now.slots.items (lists c.loop-place.batch) c.loop-place.self.slots.items c.loop-place.place (length c.args.self.now.slots.items) c.loop-place.invariant.0 (let a = c.loop-place.auto.place-end in let e = c.len-place-end.ensures in omega (arith, a, e))

-- src/board.rt:139:5
pub returns-clause-busy : goal.returns-clause-busy
returns-clause-busy g c = c.loop-place.invariant.1
