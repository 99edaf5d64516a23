use Rattle.std.proofs.Common.{arith}
use Rattle.st_streams.proofs.StreamNumbers.{some_stream}
use Rattle.st_end.proofs.effect.open_too.Goals as goal

pub unwrap-stream-requires : goal.unwrap-stream-requires
unwrap-stream-requires g c = some_stream c.new.result _ c.new.ensures (omega arith, omega (arith, c.loop-i-test.true))
