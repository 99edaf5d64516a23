use Rattle.std.proofs.Common.{◌≡◌, arith, ◌∙◌}
use Rattle.std.proofs.lemmas.Int.{ints}
use Rattle.jiff_core.proofs.SignedLemmas.{signed_arith}
use Rattle.jiff_core.specs.DateTime.{civil_nanos}
use Rattle.st_ilp.specs.Calendar.{milliseconds}
use Rattle.st_ilp.specs.Dates.{seen}
use Rattle.st_ilp.proofs.DateLemmas.{whole_millis, date_is, date_in_range}
use Rattle.st_ilp.proofs.expiry.millis_of.Goals as goal

pub overflow_cast-result : goal.overflow_cast-result
overflow_cast-result c =
    let nanos : c.duration_since.result.nanos ≡ civil_nanos c.args.at = omega (arith, signed_arith, c.duration_since.ensures, c.epoch.ensures) in
    let value : c.as_millis.result ≡ milliseconds (seen c.args.at) = c.as_millis.ensures ∙ whole_millis c.args.at c.duration_since.result.nanos c.requires.year c.requires.whole nanos in
    let range = date_in_range (seen c.args.at) (date_is c.args.at c.requires.year) in
    let small = rw (← value) at range in
    omega (arith, ints, small)

pub returns : goal.returns
returns c =
    let nanos : c.duration_since.result.nanos ≡ civil_nanos c.args.at = omega (arith, signed_arith, c.duration_since.ensures, c.epoch.ensures) in
    let value : c.as_millis.result ≡ milliseconds (seen c.args.at) = c.as_millis.ensures ∙ whole_millis c.args.at c.duration_since.result.nanos c.requires.year c.requires.whole nanos in
    let range = date_in_range (seen c.args.at) (date_is c.args.at c.requires.year) in
    let small = rw (← value) at range in
    omega (arith, ints, small, value)
