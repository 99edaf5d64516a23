-- What rounds of writing leave.
use Rattle.std.specs.Prelude.{◌≡◌, ℕ, Option, List, ◌++◌, drop}
use Rattle.std.specs.Io.KnownBytes.{Appends}
use Rattle.ilpstream_log.specs.Waiting.{unwritten}
use Rattle.ilpstream_log.specs.declared.outlet.Outlet.{Outlet}

-- Some bytes were written of those that waited, in their order: they and what waits still are what waited before. Lines leave from
-- the front alone, and none is lost
pub record Writes {W : Type 0} (contents : W → Option (List ℕ)) (old new : Outlet W) : Type 0 where
  pub bytes : List ℕ
  pub appends : Appends (contents old.writer) (contents new.writer) bytes
  pub waited : unwritten old.queue.lines.items old.queue.begun ≡ bytes ++ unwritten new.queue.lines.items new.queue.begun
  pub gone : ℕ
  pub lines : new.queue.lines.items ≡ drop gone old.queue.lines.items
  pub lost : new.queue.lost ≡ old.queue.lost
