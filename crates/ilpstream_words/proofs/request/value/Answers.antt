use Rattle.std.proofs.Common.{refl}
use Rattle.clap.specs.Words.{found_of, rows_of}
use Rattle.ilpstream_words.proofs.Commands.{value_said}
use Rattle.ilpstream_words.proofs.request.value.Goals as goal

pub returns : goal.returns
returns c = value_said (rows_of (found_of c.args.matches.now)) c.args.name.now c.chosen.result _ c.unwrap_or.result c.chosen.ensures c.unwrap_or.ensures refl
