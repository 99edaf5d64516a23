use Rattle.ilpstream_ledger.proofs.BookedNames.{books_gain}
use Rattle.ilpstream_ledger.proofs.laws.bookings_are_by_name.Goals as goal

pub returns : goal.returns
returns c = books_gain
