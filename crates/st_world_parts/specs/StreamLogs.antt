-- What was accepted and read of one stream in one direction, and whether its reader was given `End` or an abort.
use Rattle.std.specs.Prelude.{Bool, true, false, ℕ, List, [], ◌++◌}
use Rattle.std.specs.declared.option.Option.{Option}
use Rattle.std.specs.declared.option.Option.TheVariants.{None, Some}
use Rattle.st_receiver.specs.Reading.{Got, Bytes, Nothing, End, Aborted}

pub record StreamLog : Type 0 where
  pub written : List ℕ  -- all accepted writes, joined
  pub read : List ℕ  -- all bytes that reads gave, joined
  pub clean : Bool  -- a clean close was accepted
  pub aborted : Bool  -- an abort was accepted
  pub saw_end : Bool
  pub saw_abort : Bool

abbrev pub new_ledger : StreamLog
new_ledger = record { written = []; read = []; clean = false; aborted = false; saw_end = false; saw_abort = false }

abbrev pub ledger_or : Option StreamLog → StreamLog
ledger_or None = new_ledger
ledger_or (Some x) = x

-- after an accepted write, a clean close, an abort
abbrev pub written : List ℕ → StreamLog → StreamLog
written xs x = record x { written = x.written ++ xs }

abbrev pub cleanly_closed : StreamLog → StreamLog
cleanly_closed x = record x { clean = true }

abbrev pub given_up : StreamLog → StreamLog
given_up x = record x { aborted = true }

-- after what a read gave
abbrev pub got : Got → StreamLog → StreamLog
got (Bytes xs) x = record x { read = x.read ++ xs }
got Nothing x = x
got End x = record x { saw_end = true }
got (Aborted code) x = record x { saw_abort = true }
