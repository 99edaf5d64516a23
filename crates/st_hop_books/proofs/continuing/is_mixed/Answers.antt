use Rattle.std.proofs.Common.{refl}
use Rattle.st_hop_books.proofs.continuing.is_mixed.Goals as goal

pub returns : goal.returns
returns c yes' = record {
  first = c.if-not-is_either.ensures refl;
  second = c.if-not-is_either-2.ensures refl;
  third = c.if-not-is_either-3.ensures refl;
  fourth = c.is_either-4.ensures yes';
}
