use Rattle.std.proofs.Common.{refl}
use Rattle.st_oer.specs.Address.{is_address}
use Rattle.test_world.proofs.examples.talks.both_ends.Goals as goal

pub new-requires-clause-own : goal.new-requires-clause-own
unfolding is_address
new-requires-clause-own c = refl

pub new-requires-clause-peer : goal.new-requires-clause-peer
unfolding is_address
new-requires-clause-peer c = refl
