use Rattle.std.proofs.Common.{◌≡◌, drop}
use Rattle.std.specs.List.{list_all}
use Rattle.st_hop.specs.Table.{is_account}
use Rattle.st_world.proofs.opening.are_accounts.Given as goal

abbrev pub invariant-loop-account : goal.invariant-loop-account
invariant-loop-account l = list_all (λ t. is_account t.0) (drop l.account-index l.terms) ≡ list_all (λ t. is_account t.0) l.terms
