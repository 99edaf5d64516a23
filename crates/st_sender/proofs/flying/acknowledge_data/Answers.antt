use Rattle.std.proofs.Common.{arith}
use Rattle.st_sender.specs.FlightsLeft.{acked_by}
use Rattle.st_sender.proofs.Changing.{lane_none, lane_past}
use Rattle.st_sender.proofs.flying.acknowledge_data.Goals as goal

pub returns-in_default : goal.returns-in_default
returns-in_default g c = lane_none c.args.streams.now.items c.args.stream (acked_by c.args.sequence c.args.offset c.args.count) c.index_mut.result.now (omega (arith, c.if-stream-len.true, c.len.ensures)) c.index_mut.ensures.value c.in_default.is

pub returns-else-stream-len : goal.returns-else-stream-len
returns-else-stream-len g c = lane_past c.args.streams.now.items c.args.stream (acked_by c.args.sequence c.args.offset c.args.count) (omega (arith, c.if-stream-len.false, c.len.ensures))
