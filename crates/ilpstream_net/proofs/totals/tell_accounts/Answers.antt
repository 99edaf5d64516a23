use Rattle.std.proofs.Common.{Ok}
use Rattle.ilpstream_net.proofs.Totalled.{untold}
use Rattle.ilpstream_net.proofs.totals.tell_accounts.Goals as goal

pub returns-in-None-clause-told : goal.returns-in-None-clause-told
returns-in-None-clause-told g c = (Ok tt, untold c.args.ended)
