use Rattle.std.proofs.Common.{◌≡◌, take}
use Rattle.st_hop_books.proofs.names.with_name.Given as goal

abbrev pub invariant-loop-one : goal.invariant-loop-one
invariant-loop-one l = l.longer.items ≡ take l.one-index l.names
