use Rattle.st_streams.proofs.Tables.{table_is_its_values}
use Rattle.st_streams.proofs.laws.table_is_pointwise.Goals as goal

pub returns : goal.returns
returns c = table_is_its_values
