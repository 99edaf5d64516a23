use Rattle.std.proofs.Common.{◌≡◌, refl, ◌∙◌, pos, ◌*ℤ◌, rules, to_z, of_z, w64}
use Rattle.jiff_core.specs.DateTime.{civil_nanos}
use Rattle.st_ilp.specs.Dates.{seen}
use Rattle.st_ilp.proofs.DateLemmas.{date_is, date_value}
use Rattle.st_ilp.proofs.ExpiryTexts.{one_text, none_written}
use Rattle.st_ilp.proofs.expiry.write_expiry.Goals as goal

pub returns-in-Some : goal.returns-in-Some
returns-in-Some c =
    let h = c.in-Some.ensures.some in
    let value : civil_nanos c.in-Some.at ≡ c.args.millis *ℤ pos 1_000_000 = search (rules, h.1) in
    let one = one_text c.datetime_text.result c.args.millis (seen c.in-Some.at, date_is c.in-Some.at h.0, c.datetime_text.ensures, date_value c.in-Some.at c.args.millis h.0 value) in
    rw (one.0, one.1) refl

pub returns-in-None : goal.returns-in-None
returns-in-None c =
    let back : to_z w64 (of_z w64 c.args.millis) ≡ c.args.millis = search rules in
    none_written c.args.millis (λ t h e. c.in-None.ensures.none t h (back ∙ e))
