use Rattle.ilpstream_frames.specs.LineSoFar.{text_of_line}
use Rattle.ilpstream_frames.proofs.LinesSoFar.{no_packet}
use Rattle.ilpstream_frames.proofs.line.LineSoFar.bytes.Goals as goal

pub returns-else-is_of_digits : goal.returns-else-is_of_digits
returns-else-is_of_digits g c = λ line stands. no_packet (text_of_line c.args.end line) (c.if-is_of_digits.ensures.other line stands)
