use Rattle.std.proofs.Common.{arith}
use Rattle.std.proofs.lemmas.Grind.{common_steps}
use Rattle.ilpstream_ends.proofs.lobby.Lobby.wait.Goals as goal

pub returns-in_default-clause-guest : goal.returns-in_default-clause-guest
returns-in_default-clause-guest g c = grind (arith, common_steps)

pub returns-in_default-clause-accept : goal.returns-in_default-clause-accept
returns-in_default-clause-accept g c = grind (arith, common_steps)

pub bounds-fds-0 : goal.bounds-fds-0
bounds-fds-0 g c = grind (arith, common_steps)

pub slice_bounds-split_at_mut-end : goal.slice_bounds-split_at_mut-end
slice_bounds-split_at_mut-end g c = grind (arith, common_steps)

pub split_at_mut-behind-requires : goal.split_at_mut-behind-requires
split_at_mut-behind-requires g c = grind (arith, common_steps)

pub loop-fd-init : goal.loop-fd-init
loop-fd-init g c = grind (arith, common_steps)

pub both_followed-fds : goal.both_followed-fds
both_followed-fds g c = grind (arith, common_steps)

pub array_back_joined-fds : goal.array_back_joined-fds
array_back_joined-fds g c = grind (arith, common_steps)

pub loop-fd-preserved : goal.loop-fd-preserved
loop-fd-preserved g c = grind (arith, common_steps)

pub overflow_add-fds : goal.overflow_add-fds
overflow_add-fds g c = grind (arith, common_steps)

pub slice_bounds-fds-end : goal.slice_bounds-fds-end
slice_bounds-fds-end g c = grind (arith, common_steps)

pub slice_bounds-poll-end : goal.slice_bounds-poll-end
slice_bounds-poll-end g c = grind (arith, common_steps)

pub bounds-fds-0-then-self-gt0-2 : goal.bounds-fds-0-then-self-gt0-2
bounds-fds-0-then-self-gt0-2 g c = grind (arith, common_steps)

pub slice_bounds-due-count : goal.slice_bounds-due-count
slice_bounds-due-count g c = grind (arith, common_steps)

pub slice_bounds-due-start : goal.slice_bounds-due-start
slice_bounds-due-start g c = grind (arith, common_steps)

pub slice_bounds-due-end : goal.slice_bounds-due-end
slice_bounds-due-end g c = grind (arith, common_steps)

pub returns-clause-guest : goal.returns-clause-guest
returns-clause-guest g c = grind (arith, common_steps)

pub returns-clause-accept : goal.returns-clause-accept
returns-clause-accept g c = grind (arith, common_steps)
