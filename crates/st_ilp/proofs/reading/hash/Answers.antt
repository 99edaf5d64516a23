use Rattle.std.proofs.Common.{◌≡◌, length, rules}
use Rattle.st_ilp.proofs.FixedLengths.{fixed_length}
use Rattle.st_ilp.proofs.reading.hash.Goals as goal

pub returns-in_default : goal.returns-in_default
returns-in_default c =
    let long : length c.in_ok-fixed.field-0.now ≡ 32 = fixed_length 32 c.args.cut.now (c.in_ok-fixed.field-0.now, c.fixed.new.self) (search rules) in
    search (rules, long)
