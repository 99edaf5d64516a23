use Rattle.std.proofs.Common.{◌≡◌, true, false, [], ap, sym, subst, refl, append-nil, ◌∙◌}
use Rattle.ilpstream_frames.specs.LineSoFar.{LineState, StandsFor}
use Rattle.ilpstream_frames.specs.Progress.{State}
use Rattle.ilpstream_frames.proofs.Progressing.{begins_ended, begins_nothing, ends_empty, ends_line, some_text}
use Rattle.ilpstream_frames.proofs.frames.Reader.finish.Goals as goal

pub returns-then-is_empty : goal.returns-then-is_empty
returns-then-is_empty g c =
    let line_is = sym (ap (λ (s : State). s.line) c.self.view_is) in
    record {
      answered =
          ([], sym (append-nil c.args.out.now.items), ends_empty c.args.self.now (λ line stands. (c.if-is_empty.ensures line (subst (λ (x : LineState). StandsFor x line) line_is stands)).0 refl));
      part = ([], sym (append-nil c.args.out.now.items), begins_nothing c.args.self.now []);
    }

pub returns-in_err-end_line-clause-part : goal.returns-in_err-end_line-clause-part
returns-in_err-end_line-clause-part g c = ([], c.in_err-end_line.ensures.unchanged ∙ sym (append-nil c.args.out.now.items), begins_nothing c.args.self.now [])

pub returns : goal.returns
returns g c =
    let line_is = sym (ap (λ (s : State). s.line) c.self.view_is) in
    let a = c.in_ok-end_line.ensures.answered in
    let follows = ends_line c.args.self.now c.end_line.new.self a.0 (λ line stands. some_text line (λ e. let wrong : false ≡ true = (c.if-is_empty.ensures line (subst (λ (x : LineState). StandsFor x line) line_is stands)).1 e in absurd (cc))) a.2 in
    record {
      answered = (a.0, a.1, follows);
      part = (a.0, a.1, begins_ended c.args.self.now c.end_line.new.self a.0 follows);
    }
