use Rattle.std.proofs.Common.{ap, refl, sym, ◌∙◌}
use Rattle.ilpstream_frames.specs.Progress.{State, at_start}
use Rattle.ilpstream_frames.proofs.Progressing.{answers_all_as, begins, begins_runs, covers_start}
use Rattle.ilpstream_output.proofs.Spending.{spends_writes}
use Rattle.st_devices.specs.Tallies.{device_of, tally_of}
use Rattle.ilpstream_frames.proofs.frames.answer_frames.Goals as goal

pub returns-then-refused-clause-answered : goal.returns-then-refused-clause-answered
returns-then-refused-clause-answered g c =
    answers_all_as (g.R.Read.remaining (device_of c.args.reader.now)) (g.W.Write.contents (device_of c.args.writer.now)) (g.W.Write.contents (device_of c.answer_lines.new.writer)) (g.W.Write.contents (device_of c.put_runs.new.writer)) c.answer_lines.new.lines
    c.lines.inside.streams _ (sym (ap (λ (s : State). s.inboxes) c.lines.view_is)) (sym (ap (λ (s : State). s.refused) c.lines.view_is) ∙ c.if-refused.true) c.in_ok-answer_lines.ensures.covers c.in_ok-put_runs.ensures.whole

pub returns-clause-answered : goal.returns-clause-answered
returns-clause-answered g c =
    answers_all_as (g.R.Read.remaining (device_of c.args.reader.now)) (g.W.Write.contents (device_of c.args.writer.now)) (g.W.Write.contents (device_of c.answer_lines.new.writer)) (g.W.Write.contents (device_of c.put_runs.new.writer)) c.answer_lines.new.lines
    c.lines.inside.streams _ (sym (ap (λ (s : State). s.inboxes) c.lines.view_is)) (sym (ap (λ (s : State). s.refused) c.lines.view_is) ∙ c.if-refused.false) c.in_ok-answer_lines.ensures.covers c.in_ok-put_runs.ensures.whole

pub returns-in_err-lines-clause-part : goal.returns-in_err-lines-clause-part
returns-in_err-lines-clause-part g c =
    begins (g.R.Read.remaining (device_of c.args.reader.now)) (g.R.Read.remaining (device_of c.args.reader.now)) (g.W.Write.contents (device_of c.args.writer.now)) (g.W.Write.contents (device_of c.args.writer.now)) at_start
    (covers_start (g.R.Read.remaining (device_of c.args.reader.now)) (g.W.Write.contents (device_of c.args.writer.now)) at_start refl)

pub returns-in_err-put_runs-clause-part : goal.returns-in_err-put_runs-clause-part
returns-in_err-put_runs-clause-part g c =
    begins_runs (g.R.Read.remaining (device_of c.args.reader.now)) (g.W.Write.contents (device_of c.args.writer.now)) (g.W.Write.contents (device_of c.answer_lines.new.writer)) (g.W.Write.contents (device_of c.put_runs.new.writer)) c.answer_lines.new.lines
    c.lines.inside.streams (sym (ap (λ (s : State). s.inboxes) c.lines.view_is)) c.in_ok-answer_lines.ensures.covers c.put_runs.ensures.part

pub returns-then-refused-clause-part : goal.returns-then-refused-clause-part
returns-then-refused-clause-part g c =
    begins_runs (g.R.Read.remaining (device_of c.args.reader.now)) (g.W.Write.contents (device_of c.args.writer.now)) (g.W.Write.contents (device_of c.answer_lines.new.writer)) (g.W.Write.contents (device_of c.put_runs.new.writer)) c.answer_lines.new.lines
    c.lines.inside.streams (sym (ap (λ (s : State). s.inboxes) c.lines.view_is)) c.in_ok-answer_lines.ensures.covers c.put_runs.ensures.part

pub returns-clause-part : goal.returns-clause-part
returns-clause-part g c =
    begins_runs (g.R.Read.remaining (device_of c.args.reader.now)) (g.W.Write.contents (device_of c.args.writer.now)) (g.W.Write.contents (device_of c.answer_lines.new.writer)) (g.W.Write.contents (device_of c.put_runs.new.writer)) c.answer_lines.new.lines
    c.lines.inside.streams (sym (ap (λ (s : State). s.inboxes) c.lines.view_is)) c.in_ok-answer_lines.ensures.covers c.put_runs.ensures.part

pub returns-in_err-put_runs-clause-turns : goal.returns-in_err-put_runs-clause-turns
returns-in_err-put_runs-clause-turns g c =
    spends_writes (tally_of c.args.reader.now) (tally_of c.answer_lines.new.reader) (tally_of c.args.writer.now) (tally_of c.answer_lines.new.writer) (tally_of c.put_runs.new.writer) c.args.turns.now
    c.answer_lines.new.turns c.put_runs.new.turns c.answer_lines.ensures.turns c.put_runs.ensures.turns

pub returns-then-refused-clause-turns : goal.returns-then-refused-clause-turns
returns-then-refused-clause-turns g c =
    spends_writes (tally_of c.args.reader.now) (tally_of c.answer_lines.new.reader) (tally_of c.args.writer.now) (tally_of c.answer_lines.new.writer) (tally_of c.put_runs.new.writer) c.args.turns.now
    c.answer_lines.new.turns c.put_runs.new.turns c.answer_lines.ensures.turns c.put_runs.ensures.turns

pub returns-clause-turns : goal.returns-clause-turns
returns-clause-turns g c =
    spends_writes (tally_of c.args.reader.now) (tally_of c.answer_lines.new.reader) (tally_of c.args.writer.now) (tally_of c.answer_lines.new.writer) (tally_of c.put_runs.new.writer) c.args.turns.now
    c.answer_lines.new.turns c.put_runs.new.turns c.answer_lines.ensures.turns c.put_runs.ensures.turns
