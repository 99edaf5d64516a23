use Rattle.std.proofs.Common.{arith}
use Rattle.st_streams.proofs.StreamNumbers.{some_stream}
use Rattle.st_end.proofs.end.EndState.own_number.Goals as goal

pub unwrap-stream-requires : goal.unwrap-stream-requires
unwrap-stream-requires g c =
    let parity = c.self.invariant.0.parity in
    let first = c.saturating_sub-first.ensures in
    some_stream c.new.result _ c.new.ensures (omega (arith, first, c.parity.ensures, parity), omega (arith, first, c.parity.ensures, parity, c.loop-i-test.true))
