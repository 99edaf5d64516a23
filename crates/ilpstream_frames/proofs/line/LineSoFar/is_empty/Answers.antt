use Rattle.std.proofs.Common.{ap}
use Rattle.ilpstream_frames.specs.LineSoFar.{LineState, text_of_line}
use Rattle.ilpstream_frames.proofs.LinesSoFar.{counted, never_empty}
use Rattle.ilpstream_frames.proofs.line.LineSoFar.is_empty.Goals as goal

pub returns-then-not-is_of_digits : goal.returns-then-not-is_of_digits
returns-then-not-is_of_digits g c = λ line stands. never_empty (text_of_line c.args.end line) (c.if-not-is_of_digits.ensures.other line stands)

pub returns : goal.returns
returns g c = λ line stands. counted c.args.self.now c.self.inside.count (text_of_line c.args.end line) (ap (λ (s : LineState). s.count) c.self.view_is) (c.if-not-is_of_digits.ensures.digits line stands)
