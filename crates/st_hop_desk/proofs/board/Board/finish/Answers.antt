use Rattle.std.proofs.Common.{arith}
use Rattle.st_hop_desk.specs.Board.{with_told}
use Rattle.st_hop_desk.proofs.Boards.{told_step}
use Rattle.st_hop_desk.proofs.board.Board.finish.Goals as goal

pub loop-place-preserved : goal.loop-place-preserved
loop-place-preserved g c = λ e.
    told_step c.loop-place.self.slots.items c.tell.new.self.slots.items (with_told c.args.self.now.slots.items c.args.ended.places.items c.args.ended.tokens.items c.args.ended.is_known)
    c.pop.new.self.items c.in-Some.place c.loop-place.places.items c.pop-in-Some.new.self.items c.pop-in-Some.result c.unwrap_or-token.result c.new.result c.loop-place.tokens.items c.args.ended.is_known
    c.tell.ensures.told c.new.ensures c.unwrap_or-token.ensures c.in-Some.ensures.items c.pop-in-Some.ensures.items (λ lt. c.pop-in-Some.ensures.variant.1 (omega (arith, lt))) (c.loop-place.invariant e)
