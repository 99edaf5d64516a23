use Rattle.std.proofs.Common.{ap, sym, ◌∙◌}
use Rattle.ilpstream_frames.specs.LineSoFar.{LineState}
use Rattle.ilpstream_frames.proofs.LinesSoFar.{digits_of_text, other_at_end, other_of_text}
use Rattle.ilpstream_frames.proofs.line.LineSoFar.is_of_digits.Goals as goal

pub returns-in-Digits-default-clause-digits : goal.returns-in-Digits-default-clause-digits
returns-in-Digits-default-clause-digits g c = λ line stands. digits_of_text c.args.self.now line c.args.end (ap (λ (s : LineState). s.shape) (sym c.self.view_is) ∙ c.in-Digits-default.is-0) stands

pub returns-in-DigitsAndReturn-InputEnd-clause-other : goal.returns-in-DigitsAndReturn-InputEnd-clause-other
returns-in-DigitsAndReturn-InputEnd-clause-other g c = λ line stands. rw c.in-DigitsAndReturn-InputEnd.is-1 (other_at_end c.args.self.now line (ap (λ (s : LineState). s.shape) (sym c.self.view_is) ∙ c.in-DigitsAndReturn-InputEnd.is-0) stands)

pub returns-in-NotHex-default-clause-other : goal.returns-in-NotHex-default-clause-other
returns-in-NotHex-default-clause-other g c = λ line stands. other_of_text c.args.self.now line c.args.end (ap (λ (s : LineState). s.shape) (sym c.self.view_is) ∙ c.in-NotHex-default.is-0) stands
