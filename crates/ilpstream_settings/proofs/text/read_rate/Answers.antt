use Rattle.std.proofs.Common.{Option, Some, None}
use Rattle.std.specs.Prelude.{MatchOption}
use Rattle.st_oer.specs.Ratios.{Ratio}
use Rattle.ilpstream_settings.specs.Numbers.{AreTerms, IsRate}
use Rattle.ilpstream_settings.proofs.Colons.{has_colon, rate_parts}
use Rattle.ilpstream_settings.proofs.text.read_rate.Goals as goal

pub returns-in_err-num : goal.returns-in_err-num
returns-in_err-num c = rw c.from_residual.ensures (λ r has. has_colon c.args.text.now has.0 has.1 has.2 c.in_err-num.ensures)

pub returns : goal.returns
returns c = by c.rate_of.result c.rate_of.ensures
  where
    by : (o : Option Ratio) → MatchOption o ((r : Ratio) → ¬ (AreTerms c.in_ok-num.num.now c.in_ok-num.den.now r)) (AreTerms c.in_ok-num.num.now c.in_ok-num.den.now)
        → MatchOption o ((r : Ratio) → ¬ (IsRate c.args.text.now r)) (IsRate c.args.text.now)
    by None none = λ r has. none r (rate_parts c.args.text.now c.in_ok-num.num.now c.in_ok-num.den.now r c.in_ok-num.ensures.0 c.in_ok-num.ensures.1 has)
    by (Some r) is = (c.in_ok-num.num.now, c.in_ok-num.den.now, c.in_ok-num.ensures.0, is)
