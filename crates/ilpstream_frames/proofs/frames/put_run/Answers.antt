use Rattle.std.proofs.Common.{arith}
use Rattle.std.proofs.lemmas.Grind.{common_steps}
use Rattle.ilpstream_frames.proofs.frames.put_run.Goals as goal

pub take_run-requires : goal.take_run-requires
take_run-requires g c = grind (arith, common_steps)

pub returns-in_err-bytes-clause-others : goal.returns-in_err-bytes-clause-others
returns-in_err-bytes-clause-others g c = grind (arith, common_steps)

pub returns-in_err-bytes-clause-no_input : goal.returns-in_err-bytes-clause-no_input
returns-in_err-bytes-clause-no_input g c = grind (arith, common_steps)

pub returns-in_err-bytes-clause-faults : goal.returns-in_err-bytes-clause-faults
returns-in_err-bytes-clause-faults g c = grind (arith, common_steps)

pub returns-in_err-bytes-clause-flushed : goal.returns-in_err-bytes-clause-flushed
returns-in_err-bytes-clause-flushed g c = grind (arith, common_steps)

pub returns-in_err-bytes-clause-out_of_turns : goal.returns-in_err-bytes-clause-out_of_turns
returns-in_err-bytes-clause-out_of_turns g c = grind (arith, common_steps)

pub returns-in_err-bytes-clause-turns : goal.returns-in_err-bytes-clause-turns
returns-in_err-bytes-clause-turns g c = grind (arith, common_steps)

pub returns-in_err-bytes-clause-whole : goal.returns-in_err-bytes-clause-whole
returns-in_err-bytes-clause-whole g c = grind (arith, common_steps)

pub returns-in_err-bytes-clause-part : goal.returns-in_err-bytes-clause-part
returns-in_err-bytes-clause-part g c = grind (arith, common_steps)

pub overflow_add-place : goal.overflow_add-place
overflow_add-place g c = grind (arith, common_steps)

pub returns-in_err-text-clause-others : goal.returns-in_err-text-clause-others
returns-in_err-text-clause-others g c = grind (arith, common_steps)

pub returns-in_err-text-clause-no_input : goal.returns-in_err-text-clause-no_input
returns-in_err-text-clause-no_input g c = grind (arith, common_steps)

pub returns-in_err-text-clause-faults : goal.returns-in_err-text-clause-faults
returns-in_err-text-clause-faults g c = grind (arith, common_steps)

pub returns-in_err-text-clause-flushed : goal.returns-in_err-text-clause-flushed
returns-in_err-text-clause-flushed g c = grind (arith, common_steps)

pub returns-in_err-text-clause-out_of_turns : goal.returns-in_err-text-clause-out_of_turns
returns-in_err-text-clause-out_of_turns g c = grind (arith, common_steps)

pub returns-in_err-text-clause-turns : goal.returns-in_err-text-clause-turns
returns-in_err-text-clause-turns g c = grind (arith, common_steps)

pub returns-in_err-text-clause-whole : goal.returns-in_err-text-clause-whole
returns-in_err-text-clause-whole g c = grind (arith, common_steps)

pub returns-in_err-text-clause-part : goal.returns-in_err-text-clause-part
returns-in_err-text-clause-part g c = grind (arith, common_steps)

pub returns-in_err-put-clause-others : goal.returns-in_err-put-clause-others
returns-in_err-put-clause-others g c = grind (arith, common_steps)

pub returns-in_err-put-clause-no_input : goal.returns-in_err-put-clause-no_input
returns-in_err-put-clause-no_input g c = grind (arith, common_steps)

pub returns-in_err-put-clause-faults : goal.returns-in_err-put-clause-faults
returns-in_err-put-clause-faults g c = grind (arith, common_steps)

pub returns-in_err-put-clause-flushed : goal.returns-in_err-put-clause-flushed
returns-in_err-put-clause-flushed g c = grind (arith, common_steps)

pub returns-in_err-put-clause-out_of_turns : goal.returns-in_err-put-clause-out_of_turns
returns-in_err-put-clause-out_of_turns g c = grind (arith, common_steps)

pub returns-in_err-put-clause-turns : goal.returns-in_err-put-clause-turns
returns-in_err-put-clause-turns g c = grind (arith, common_steps)

pub returns-in_err-put-clause-whole : goal.returns-in_err-put-clause-whole
returns-in_err-put-clause-whole g c = grind (arith, common_steps)

pub returns-in_err-put-clause-part : goal.returns-in_err-put-clause-part
returns-in_err-put-clause-part g c = grind (arith, common_steps)

pub returns-in_ok-put-clause-others : goal.returns-in_ok-put-clause-others
returns-in_ok-put-clause-others g c = grind (arith, common_steps)

pub returns-in_ok-put-clause-no_input : goal.returns-in_ok-put-clause-no_input
returns-in_ok-put-clause-no_input g c = grind (arith, common_steps)

pub returns-in_ok-put-clause-faults : goal.returns-in_ok-put-clause-faults
returns-in_ok-put-clause-faults g c = grind (arith, common_steps)

pub returns-in_ok-put-clause-flushed : goal.returns-in_ok-put-clause-flushed
returns-in_ok-put-clause-flushed g c = grind (arith, common_steps)

pub returns-in_ok-put-clause-turns : goal.returns-in_ok-put-clause-turns
returns-in_ok-put-clause-turns g c = grind (arith, common_steps)

pub returns-in_ok-put-clause-whole : goal.returns-in_ok-put-clause-whole
returns-in_ok-put-clause-whole g c = grind (arith, common_steps)

pub returns-in_ok-put-clause-part : goal.returns-in_ok-put-clause-part
returns-in_ok-put-clause-part g c = grind (arith, common_steps)

pub returns-in_default-clause-others : goal.returns-in_default-clause-others
returns-in_default-clause-others g c = grind (arith, common_steps)

pub returns-in_default-clause-no_input : goal.returns-in_default-clause-no_input
returns-in_default-clause-no_input g c = grind (arith, common_steps)

pub returns-in_default-clause-faults : goal.returns-in_default-clause-faults
returns-in_default-clause-faults g c = grind (arith, common_steps)

pub returns-in_default-clause-flushed : goal.returns-in_default-clause-flushed
returns-in_default-clause-flushed g c = grind (arith, common_steps)

pub returns-in_default-clause-turns : goal.returns-in_default-clause-turns
returns-in_default-clause-turns g c = grind (arith, common_steps)

pub returns-in_default-clause-part : goal.returns-in_default-clause-part
returns-in_default-clause-part g c = grind (arith, common_steps)
