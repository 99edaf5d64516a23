use Rattle.std.proofs.Common.{◌<◌, arith}
use Rattle.ilpstream_frames.proofs.HexDigits.{at_digit_codes}
use Rattle.ilpstream_frames.proofs.digits.value_of.Goals as goal

pub returns : goal.returns
returns c =
    let fits : c.args.character < 256 = omega arith in
    at_digit_codes c.values.result.now c.args.character c.values.ensures fits
