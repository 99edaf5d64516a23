use Rattle.std.specs.Str.Lines.{strip_carriage_return}
use Rattle.ilpstream_frames.proofs.Progressing.{text_ended}
use Rattle.ilpstream_frames.proofs.frames.Reader.take_line.Goals as goal

pub returns-clause-answered : goal.returns-clause-answered
returns-clause-answered g c =
    text_ended c.args.self.now c.answer_text.new.self c.tell.new.self c.next_line.new.self (strip_carriage_return c.args.line.now) c.args.out.now.items c.tell.new.out.items c.in_ok-refusal.refusal
    c.answer_text.ensures.rest.0 c.answer_text.ensures.rest.1 c.in_ok-tell.ensures.noted c.next_line.ensures c.in_ok-tell.ensures.told (rw c.without_return.ensures at c.in_ok-refusal.ensures.effect)
