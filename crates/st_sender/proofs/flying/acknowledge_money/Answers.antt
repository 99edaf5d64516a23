use Rattle.std.proofs.Common.{arith}
use Rattle.st_sender.specs.Answering.{acked_money}
use Rattle.st_sender.specs.Lanes.{on_out}
use Rattle.st_sender.proofs.Changing.{lane_changed, lane_none, lane_past}
use Rattle.st_sender.proofs.flying.acknowledge_money.Goals as goal

pub returns-in-Some : goal.returns-in-Some
returns-in-Some g c =
    lane_changed c.args.streams.now.items c.args.payment.stream (on_out (acked_money c.args.payment.amount)) c.index_mut.result.now c.in-Some.found c.pay.new.self (omega (arith, c.if-payment-len.true, c.len.ensures)) c.index_mut.ensures.value c.in-Some.is c.pay.ensures

pub returns-in_default : goal.returns-in_default
returns-in_default g c = lane_none c.args.streams.now.items c.args.payment.stream (on_out (acked_money c.args.payment.amount)) c.index_mut.result.now (omega (arith, c.if-payment-len.true, c.len.ensures)) c.index_mut.ensures.value c.in_default.is

pub returns-else-payment-len : goal.returns-else-payment-len
returns-else-payment-len g c = lane_past c.args.streams.now.items c.args.payment.stream (on_out (acked_money c.args.payment.amount)) (omega (arith, c.if-payment-len.false, c.len.ensures))
