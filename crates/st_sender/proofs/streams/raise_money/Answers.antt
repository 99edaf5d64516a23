use Rattle.std.proofs.Common.{arith}
use Rattle.st_sender.specs.Answering.{advertised_receive_max}
use Rattle.st_sender.specs.Lanes.{on_out}
use Rattle.st_sender.proofs.Changing.{lane_changed, lane_none, lane_past}
use Rattle.st_sender.proofs.streams.raise_money.Goals as goal

pub returns-in-Some : goal.returns-in-Some
returns-in-Some g c =
    lane_changed c.args.streams.now.items c.args.stream (on_out (advertised_receive_max c.args.receive_max c.args.total)) c.index_mut.result.now c.in-Some.found c.raise_money.new.self (omega (arith, c.if-stream-len.true, c.len.ensures)) c.index_mut.ensures.value c.in-Some.is c.raise_money.ensures

pub returns-in_default : goal.returns-in_default
returns-in_default g c = lane_none c.args.streams.now.items c.args.stream (on_out (advertised_receive_max c.args.receive_max c.args.total)) c.index_mut.result.now (omega (arith, c.if-stream-len.true, c.len.ensures)) c.index_mut.ensures.value c.in_default.is

pub returns-else-stream-len : goal.returns-else-stream-len
returns-else-stream-len g c = lane_past c.args.streams.now.items c.args.stream (on_out (advertised_receive_max c.args.receive_max c.args.total)) (omega (arith, c.if-stream-len.false, c.len.ensures))
