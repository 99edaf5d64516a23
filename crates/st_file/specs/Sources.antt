-- What a source gave.
use Rattle.std.specs.Prelude.{◌≡◌, ℕ, List, ◌++◌, Option}
use Rattle.st_streams.specs.declared.stream_read.StreamRead.{StreamRead}
use Rattle.st_streams.specs.declared.stream_read.StreamRead.TheVariants.{Bytes, Nothing, End, Aborted}
use Rattle.st_queues.specs.declared.items.Over.{Over}
use Rattle.st_queues.specs.declared.items.Over.TheVariants as over
use Rattle.st_file.specs.Sinks.{calls_after}

-- what a source gave: its bytes, in order, whether it reported an end, and which, and how often it was
-- asked, if that is known
pub record Given : Type 0 where
  pub bytes : List ℕ
  pub over : Over
  pub calls : Option ℕ

-- what a source gave at one call
abbrev pub Gives : {A : Type 0} → Given → Given → StreamRead A → Type 0
Gives old new (Bytes v) = new ≡ record { bytes = old.bytes ++ v.items; over = over.Open; calls = calls_after 1 old.calls }
Gives old new Nothing = new ≡ record { bytes = old.bytes; over = over.Open; calls = calls_after 1 old.calls }
Gives old new End = new ≡ record { bytes = old.bytes; over = over.Ended; calls = calls_after 1 old.calls }
Gives old new (Aborted code) = new ≡ record { bytes = old.bytes; over = over.Aborted code; calls = calls_after 1 old.calls }
