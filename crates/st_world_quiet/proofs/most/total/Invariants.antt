use Rattle.std.proofs.Common.{◌≡◌, ◌<◌, ◌^◌, take, sum}
use Rattle.st_world_quiet.proofs.most.total.Given as goal

abbrev pub invariant-loop-amount : goal.invariant-loop-amount
invariant-loop-amount l = sum (take l.amount-index l.money) < 2 ^ 64 → l.all ≡ sum (take l.amount-index l.money)
