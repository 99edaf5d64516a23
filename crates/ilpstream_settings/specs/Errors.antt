-- The numbers by which the refusals of a table are known.
use Rattle.std.specs.Prelude.{ℕ}
use Rattle.ilpstream_settings.specs.declared.error.TableError.{TableError}
use Rattle.ilpstream_settings.specs.declared.error.TableError.TheVariants as table

abbrev pub number : TableError → ℕ
number table.BadLine = 96
number table.SameName = 96
number table.NoMemory = 99
