use Rattle.std.proofs.Common.{◌≡◌, rules}
use Rattle.st_ilp.specs.Expiry.{expiry_text}
use Rattle.ilpstream_log.proofs.Dates.{written, date_is}
use Rattle.ilpstream_log.proofs.date.date_text.Goals as goal

pub returns : goal.returns
returns c =
    let all = written c.args.moment (rw (← c.ms.ensures.value) c.ms.ensures.range) in
    let digits : c.in-Ok.digits ≡ expiry_text c.args.moment = search (rules, all) in
    date_is c.args.moment c.in-Ok.digits c.separated.result digits c.separated.ensures
