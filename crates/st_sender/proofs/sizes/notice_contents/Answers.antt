use Rattle.std.proofs.Common.{ap, arith}
use Rattle.st_sender.proofs.Lengths.{said_long, notice_long}
use Rattle.st_sender.proofs.sizes.notice_contents.Goals as goal

pub returns-in-ConnectionDataBlocked-clause-value : goal.returns-in-ConnectionDataBlocked-clause-value
returns-in-ConnectionDataBlocked-clause-value c = let is = ap said_long c.in-ConnectionDataBlocked.is in omega (arith, notice_long c.args.notice, is, c.var_uint_size.ensures)

pub returns-in-StreamDataBlocked-clause-value : goal.returns-in-StreamDataBlocked-clause-value
returns-in-StreamDataBlocked-clause-value c = let is = ap said_long c.in-StreamDataBlocked.is in omega (arith, notice_long c.args.notice, is, c.var_uint_size-in-StreamDataBlocked.ensures, c.var_uint_size-in-StreamDataBlocked-2.ensures)

pub returns-in-StreamMoneyBlocked-clause-value : goal.returns-in-StreamMoneyBlocked-clause-value
returns-in-StreamMoneyBlocked-clause-value c = let is = ap said_long c.in-StreamMoneyBlocked.is in omega (arith, notice_long c.args.notice, is, c.var_uint_size-in-StreamMoneyBlocked.ensures, c.var_uint_size-in-StreamMoneyBlocked-2.ensures, c.var_uint_size-in-StreamMoneyBlocked-3.ensures)

pub returns-in-ConnectionMaxData-clause-value : goal.returns-in-ConnectionMaxData-clause-value
returns-in-ConnectionMaxData-clause-value c = let is = ap said_long c.in-ConnectionMaxData.is in omega (arith, notice_long c.args.notice, is, c.var_uint_size-in-ConnectionMaxData.ensures)

pub returns-in-StreamMaxData-clause-value : goal.returns-in-StreamMaxData-clause-value
returns-in-StreamMaxData-clause-value c = let is = ap said_long c.in-StreamMaxData.is in omega (arith, notice_long c.args.notice, is, c.var_uint_size-in-StreamMaxData.ensures, c.var_uint_size-in-StreamMaxData-2.ensures)

pub returns-in-StreamMaxMoney-clause-value : goal.returns-in-StreamMaxMoney-clause-value
returns-in-StreamMaxMoney-clause-value c = let is = ap said_long c.in-StreamMaxMoney.is in omega (arith, notice_long c.args.notice, is, c.var_uint_size-in-StreamMaxMoney.ensures, c.var_uint_size-in-StreamMaxMoney-2.ensures, c.var_uint_size-in-StreamMaxMoney-3.ensures)
