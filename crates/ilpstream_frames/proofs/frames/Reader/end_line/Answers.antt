use Rattle.ilpstream_frames.proofs.Progressing.{line_ended}
use Rattle.ilpstream_frames.proofs.frames.Reader.end_line.Goals as goal

pub returns-clause-answered : goal.returns-clause-answered
returns-clause-answered g c =
    line_ended c.args.self.now c.answer.new.self c.tell.new.self c.next_line.new.self c.args.end c.args.out.now.items c.tell.new.out.items c.in_ok-refusal.refusal
    c.answer.ensures.rest.0 c.answer.ensures.rest.1 c.in_ok-tell.ensures.noted c.next_line.ensures c.in_ok-tell.ensures.told c.in_ok-refusal.ensures.effect
