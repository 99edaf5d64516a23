use Rattle.std.proofs.Common.{arith}
use Rattle.st_sender.specs.FlightsLeft.{freed_by}
use Rattle.st_sender.proofs.Changing.{lane_changed, lane_none, lane_past}
use Rattle.st_sender.proofs.flying.free_data.Goals as goal

pub returns-in-Some : goal.returns-in-Some
returns-in-Some g c =
    lane_changed c.args.streams.now.items c.args.stream (freed_by c.args.sequence) c.index_mut.result.now c.in-Some.found c.failed.new.self (omega (arith, c.if-stream-len.true, c.len.ensures)) c.index_mut.ensures.value c.in-Some.is c.failed.ensures

pub returns-in_default : goal.returns-in_default
returns-in_default g c = lane_none c.args.streams.now.items c.args.stream (freed_by c.args.sequence) c.index_mut.result.now (omega (arith, c.if-stream-len.true, c.len.ensures)) c.index_mut.ensures.value c.in_default.is

pub returns-else-stream-len : goal.returns-else-stream-len
returns-else-stream-len g c = lane_past c.args.streams.now.items c.args.stream (freed_by c.args.sequence) (omega (arith, c.if-stream-len.false, c.len.ensures))
