use Rattle.std.proofs.Common.{◌≡◌}
use Rattle.st_end.specs.Calls.{own_number}
use Rattle.st_end.proofs.Numbers.{free_from}
use Rattle.st_end.proofs.end.EndState.own_number.Given as goal

abbrev pub invariant-loop-i : goal.invariant-loop-i
invariant-loop-i g l = own_number l.self ≡ free_from l.self.sending l.self.receiving.parity l.i
