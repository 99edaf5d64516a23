-- The numbers that report why a command ended before its work was done.
use Rattle.std.specs.Prelude.{ℕ}
use Rattle.ilpstream_output.specs.Errors.{fault_number}
use Rattle.ilpstream_serving.specs.Errors as transfer
use Rattle.ilpstream_ledger.specs.Errors as ledger
use Rattle.ilpstream_net.specs.declared.error.RunError.{RunError}
use Rattle.ilpstream_net.specs.declared.error.RunError.TheVariants as run

abbrev pub number : RunError → ℕ
number (run.Fault x) = fault_number x
number run.NoRandom = 90
number run.NoListener = 80
number run.NoHop = 35
number run.BadTable = 96
number run.BadOption = 98
number (run.Transfer e) = transfer.number e
number (run.Ledger e) = ledger.number e
