use Rattle.ilpstream_net.proofs.Totalled.{never_bad}
use Rattle.ilpstream_net.proofs.ends.end_command.Goals as goal

pub returns-clause-bad : goal.returns-clause-bad
returns-clause-bad g c = λ none. never_bad c.ended_with.result c.tell_run.result (never_bad c.args.ended c.ended_with.result none (c.tell_totals-told.result, c.ended_with.ensures)) c.tell_run.ensures.told
