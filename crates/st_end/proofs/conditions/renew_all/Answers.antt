use Rattle.std.proofs.Common.{arith}
use Rattle.std.proofs.lemmas.List.Edits.{map_over_more}
use Rattle.st_end.specs.Inside.{with_value}
use Rattle.st_end.proofs.conditions.renew_all.Goals as goal

pub loop-i-preserved : goal.loop-i-preserved
loop-i-preserved g c = rw c.renew.ensures (map_over_more (with_value c.args.sequence c.args.condition) _ c.loop-i.kept.items c.loop-i.i c.index_mut.result.now (omega (arith, c.len-i-end.ensures, c.args.kept.now.ok)) c.loop-i.invariant c.index_mut.ensures.value)
