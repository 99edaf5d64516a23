use Rattle.std.proofs.Common.{arith}
use Rattle.std.proofs.lemmas.Grind.{common_steps}
use Rattle.ilpstream_frames.proofs.texts.stream_line.Goals as goal

pub returns-in_err-text : goal.returns-in_err-text
returns-in_err-text g c = grind (arith, common_steps)

pub returns-then-length-eq0 : goal.returns-then-length-eq0
returns-then-length-eq0 g c = grind (arith, common_steps)

pub returns-in_err-digits : goal.returns-in_err-digits
returns-in_err-digits g c = grind (arith, common_steps)

pub returns-in_err-text-2 : goal.returns-in_err-text-2
returns-in_err-text-2 g c = grind (arith, common_steps)

pub returns : goal.returns
returns g c = grind (arith, common_steps)
