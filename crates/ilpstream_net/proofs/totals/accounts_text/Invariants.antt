use Rattle.std.proofs.Common.{◌≡◌, take}
use Rattle.std.specs.Prelude.{string_bytes}
use Rattle.ilpstream_net.specs.Totals.{accounts_text}
use Rattle.ilpstream_net.proofs.totals.accounts_text.Given as goal

abbrev pub invariant-loop-number : goal.invariant-loop-number
invariant-loop-number l = string_bytes l.text ≡ accounts_text 0 (take l.number l.accounts)
