use Rattle.ilpstream_main.proofs.WordsTaken.{takes}
use Rattle.ilpstream_main.proofs.laws.frames_needs_no_word.Goals as goal

pub returns : goal.returns
returns c = takes
