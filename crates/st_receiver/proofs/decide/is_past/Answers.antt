use Rattle.std.proofs.Common.{◌∙◌, sym}
use Rattle.st_receiver.specs.Inside.{held_or}
use Rattle.st_receiver.proofs.Pieces.{past_window, past_alive, past_over}
use Rattle.st_receiver.proofs.decide.is_past.Goals as goal

pub returns-then-not-is_over : goal.returns-then-not-is_over
returns-then-not-is_over g c =
    past_alive c.args.offset c.args.bytes.now (held_or c.args.slot.now) c.in-Some.end c.read_count.result c.saturating_sub.result
    (sym c.is_over.ensures ∙ c.if-not-is_over.true) c.in-Some.ensures.1 c.read_count.ensures c.saturating_sub.ensures ∙ past_window c.args.offset c.args.bytes.now (held_or c.args.slot.now) c.in-Some.ensures.0

pub returns-else-not-is_over : goal.returns-else-not-is_over
returns-else-not-is_over g c =
    past_over c.args.offset c.args.bytes.now (held_or c.args.slot.now) c.is_over.result c.is_over.ensures c.if-not-is_over.false ∙ past_window c.args.offset c.args.bytes.now (held_or c.args.slot.now) c.in-Some.ensures.0
