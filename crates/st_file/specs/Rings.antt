-- What the application's ends of rings accepted and gave.
use Rattle.std.specs.Prelude.{None}
use Rattle.st_queues.specs.Items.{joined, delivered}
use Rattle.st_queues.specs.Reading.{Read}
use Rattle.st_queues.specs.Writing.{Written}
use Rattle.st_file.specs.Sinks.{Taken}
use Rattle.st_file.specs.Sources.{Given}

module _ {A : Type 0} where
  -- the bytes of the chunks that were written; it does not say how often a ring was asked
  abbrev pub taken_by : Written A → Taken
  taken_by w = record { bytes = joined w.items; ended = w.ended; calls = None }

  -- the bytes of the deliveries that were read
  abbrev pub given_by : Read A → Given
  given_by r = record { bytes = delivered r.items; over = r.over; calls = None }
