use Rattle.std.proofs.Common.{map, take}
use Rattle.ilpstream_settings.specs.Table.{Says}
use Rattle.ilpstream_settings.proofs.table.read_table.Given as goal

abbrev pub invariant-loop-line : goal.invariant-loop-line
invariant-loop-line g l = Says (map (λ t. t.now) (take l.line-index l.line-items)) l.table.accounts.items l.table.routes.items
