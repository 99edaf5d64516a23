use Rattle.std.proofs.Common.{◌≡◌, take}
use Rattle.ilpstream_ledger.specs.Texts.{accounts_text}
use Rattle.ilpstream_ledger.proofs.text.accounts_text.Given as goal

abbrev pub invariant-loop-at : goal.invariant-loop-at
invariant-loop-at g l = l.text.items ≡ accounts_text (take l.at l.books.names) (take l.at l.books.amounts)
