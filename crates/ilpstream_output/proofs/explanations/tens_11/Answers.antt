use Rattle.std.proofs.Common.{refl}
use Rattle.std.specs.Fmt.{digits}
use Rattle.ilpstream_output.specs.Rows.{rows}
use Rattle.ilpstream_output.specs.Explaining.{explanation}
use Rattle.ilpstream_output.proofs.explanations.tens_11.Goals as goal

pub returns : goal.returns
unfolding digits rows explanation
returns c = refl
