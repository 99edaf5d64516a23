use Rattle.ilpstream_settings.proofs.Readings.{none_bad, none_twice}
use Rattle.ilpstream_settings.proofs.laws.a_bad_text_says_no_table.Goals as goal

pub returns-clause-bad : goal.returns-clause-bad
returns-clause-bad c = none_bad

pub returns-clause-same : goal.returns-clause-same
returns-clause-same c = none_twice
