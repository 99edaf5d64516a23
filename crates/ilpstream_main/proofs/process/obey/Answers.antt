use Rattle.std.proofs.Common.{map}
use Rattle.ilpstream_main.proofs.process.obey.Goals as goal

pub returns-clause-obeys : goal.returns-clause-obeys
returns-clause-obeys g c = (map g.S.AsStr.text c.args.words.now, c.tell_terminal.new.errors, c.tell_terminal.ensures, c.run.ensures.obeys)
