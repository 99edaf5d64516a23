use Rattle.st_world_quiet.proofs.hop_laws.a_crossing_is_a_turn.Goals as goal
use Rattle.st_world_quiet.proofs.HopRuns.{crossing_calm, crossing_turn, turn_stands}

pub returns-clause-turn : goal.returns-clause-turn
returns-clause-turn g' = λ input limit e f g h hops others room modest stands calm x. crossing_turn input limit e hops f g others h room stands calm x

pub returns-clause-stands : goal.returns-clause-stands
returns-clause-stands g' = λ input limit e f g h hops others room modest stands calm x. turn_stands input limit e f g h modest stands (crossing_turn input limit e hops f g others h room stands calm x)

pub returns-clause-calm : goal.returns-clause-calm
returns-clause-calm g' = λ input limit e f g h hops others room modest stands calm x. crossing_calm input limit e hops f g others h room modest stands calm x
