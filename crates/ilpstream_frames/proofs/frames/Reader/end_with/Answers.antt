use Rattle.std.proofs.Common.{[], ◌∷◌, ap, sym, subst}
use Rattle.ilpstream_frames.specs.LineSoFar.{LineState, StandsFor}
use Rattle.ilpstream_frames.specs.Progress.{State}
use Rattle.ilpstream_frames.proofs.Progressing.{answers_more, answers_newline, answers_whole}
use Rattle.ilpstream_frames.proofs.frames.Reader.end_with.Goals as goal

pub returns-then-is_fresh-clause-answered : goal.returns-then-is_fresh-clause-answered
returns-then-is_fresh-clause-answered g c =
    let line_is = sym (ap (λ (s : State). s.line) c.self.view_is) in
    let a = c.in_ok-take_line.ensures.answered in (
      a.0,
      a.1,
      answers_whole c.args.self.now c.take_line.new.self c.args.last.now a.0 c.in_ok-take_line.ensures.next.0
          (λ line stands. c.if-is_fresh.ensures.yes line (subst (λ (x : LineState). StandsFor x line) line_is stands)) c.requires.last a.2,
    )

pub returns-clause-answered : goal.returns-clause-answered
returns-clause-answered g c =
    let a = c.in_ok-end_line.ensures.answered in
    let newline = answers_newline c.extend.new.self c.end_line.new.self a.0 c.in_ok-end_line.ensures.next.0 a.2 in
    (a.0, a.1, answers_more c.args.self.now c.extend.new.self c.end_line.new.self c.args.last.now (10 ∷ []) [] a.0 c.in_ok-extend.ensures.answered newline)
