use Rattle.ilpstream_settings.proofs.Readings.{say_alike}
use Rattle.ilpstream_settings.proofs.laws.lines_say_one_table.Goals as goal

pub returns : goal.returns
returns c = λ ls xs ys rs qs a b. let alike = say_alike ls xs ys rs qs a b in (alike.names 0, alike.terms, alike.ways)
