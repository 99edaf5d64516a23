use Rattle.std.proofs.Common.{arith}
use Rattle.std.proofs.lemmas.Str.Pattern.{rfind_char}
use Rattle.ilpstream_settings.proofs.Colons.{cut_at, rest_of}
use Rattle.ilpstream_settings.proofs.text.around_last_colon.Goals as goal

pub returns-in_err-place : goal.returns-in_err-place
returns-in_err-place c =
    let none = rw c.in_err-place.was at (rfind_char 58 c.args.text.now c.rfind.result c.rfind.ensures.cases (omega arith)) in
    rw c.from_residual.ensures none

pub returns : goal.returns
returns c =
    let at = rw c.in_ok-place.was at (rfind_char 58 c.args.text.now c.rfind.result c.rfind.ensures.cases (omega arith)) in
    rw (c.as_bytes-bytes.ensures.value, rest_of) (cut_at c.args.text.now c.in_ok-place.place at.0 at.1 at.2)
