use Rattle.std.proofs.Common.{◌≡◌, ◌≤◌, ◌+◌, length}
use Rattle.std.specs.List.{sum_by}
use Rattle.st_hop_desk.specs.Desk.{claims_in, dues_in}
use Rattle.st_hop_desk.proofs.desk.HopDesk.gather.Given as goal

abbrev pub invariant-loop-share : goal.invariant-loop-share
invariant-loop-share g l = (l.spare_claims.parts ≤ 64) × (l.spare_claims.parts ≡ l.initial.spare_claims.parts + length l.yielded) × (l.spare_dues.parts ≡ l.initial.spare_dues.parts + length l.yielded) × (l.spare_claims.amount ≡ l.initial.spare_claims.amount + sum_by claims_in l.yielded) × (l.spare_dues.amount ≡ l.initial.spare_dues.amount + sum_by dues_in l.yielded)
