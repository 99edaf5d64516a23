use Rattle.std.proofs.Common.{sym}
use Rattle.st_hop_books.specs.Sums.{nothing}
use Rattle.ilpstream_ledger.proofs.ByName.{found, missing}
use Rattle.ilpstream_ledger.proofs.owed.amounts_of.Goals as goal

pub returns-in-Some : goal.returns-in-Some
returns-in-Some g c =
    let books = c.args.books.now in
    rw (c.amounts.ensures.value) (sym (found books.names books.amounts c.in-Some.at c.args.name.now nothing c.place_of.ensures.distinct c.amounts.ensures.named c.in-Some.ensures.found))

pub returns-in-None : goal.returns-in-None
returns-in-None g c = sym (missing c.args.books.now.names c.args.books.now.amounts c.args.name.now (c.place_of.ensures.missing c.in-None.is))
