use Rattle.std.proofs.Common.{◌≡◌, ◌++◌, map, drop}
use Rattle.ilpstream_c.specs.Hops.{account_of}
use Rattle.ilpstream_c.proofs.table.accounts_of.Given as goal

-- the accounts so far and those to come are all
abbrev pub invariant-loop-account : goal.invariant-loop-account
invariant-loop-account l = l.kept.items ++ map account_of (drop l.account-index l.accounts) ≡ map account_of l.accounts
