use Rattle.std.proofs.Common.{◌≡◌, ◌+◌, ◌-◌, ◌<◌, ◌^◌, ℕ, arith}
use Rattle.st_world_quiet.proofs.Fates.{enough}
use Rattle.st_world_quiet.proofs.lossy_run.most_fated.Goals as goal

pub returns : goal.returns
returns c = λ limit some input_fits money_fits few. enough _ _ _ _ _ (c.most_rounds.ensures limit some input_fits money_fits) few c.losses_of.ensures (λ small. omega (arith, small, c.saturating_add.ensures)) (λ large. omega (arith, large, c.saturating_add.ensures))
