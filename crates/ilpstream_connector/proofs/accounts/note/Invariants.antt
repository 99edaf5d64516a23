use Rattle.std.proofs.Common.{◌≡◌, ◌<◌, ℕ, length, slice_get, Some}
use Rattle.ilpstream_connector.specs.Accounts.{totals_at}
use Rattle.ilpstream_connector.proofs.accounts.note.Given as goal

abbrev pub invariant-loop-account : goal.invariant-loop-account
invariant-loop-account l = (a : ℕ) → a < l.account → a < length l.hop.accounts → slice_get l.accounts a ≡ Some (totals_at l.hop a)
