use Rattle.std.proofs.Common.{◌≡◌, ◌+◌, suc, arith, length, subst}
use Rattle.st_world_quiet.proofs.hop_laws.a_prepare_crosses_a_world.Goals as goal
use Rattle.st_world_quiet.specs.Worlds.{Met, passing}
use Rattle.st_world_quiet.proofs.Worlds.{crossing_rests}

pub returns : goal.returns
returns g = λ w mid v e f hops count iv now rest forward sent run.
    crossing_rests w mid v e hops f count iv now rest forward sent (let next : count + 1 ≡ suc count = omega arith in subst (λ k. Met mid (passing (length hops) k now) v) next run)
