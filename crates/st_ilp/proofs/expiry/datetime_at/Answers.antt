use Rattle.std.proofs.Common.{◌≡◌, pos, ◌+ℤ◌, ◌*ℤ◌, ◌<ℤ◌, rules, arith}
use Rattle.std.proofs.lemmas.Int.{ints}
use Rattle.jiff_core.specs.DateTime.{civil_nanos, IsCivilNanos}
use Rattle.st_ilp.proofs.DateLemmas.{no_date_before, date_in_range}
use Rattle.st_ilp.proofs.expiry.datetime_at.Goals as goal

pub returns-then-year-lt0-clause-none : goal.returns-then-year-lt0-clause-none
returns-then-year-lt0-clause-none c = λ m h e.
    let before : c.in-Ok.at.date.year <ℤ pos 0 = omega (arith, ints, c.if-year-lt0.true, c.year.ensures, c.year.type_inv) in
    let value : civil_nanos c.in-Ok.at ≡ c.args.millis *ℤ pos 1_000_000 = search rules in
    no_date_before c.in-Ok.at m before h (rw (← e) value)

pub returns-in-Err-clause-none : goal.returns-in-Err-clause-none
returns-in-Err-clause-none c = λ m h e.
    let range : IsCivilNanos (c.args.millis *ℤ pos 1_000_000) = rw e (date_in_range m h) in
    let sum : IsCivilNanos (civil_nanos c.epoch.result +ℤ c.from_millis.result.nanos) = search (rules, range) in
    let found = c.in-Err.ensures.succeeds.1 sum in
    cc
