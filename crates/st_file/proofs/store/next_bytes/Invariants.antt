use Rattle.std.proofs.Common.{◌≡◌}
use Rattle.st_file.specs.Spending.{TakesAsks}
use Rattle.st_file.proofs.store.next_bytes.Given as goal

abbrev pub invariant-loop-turns : goal.invariant-loop-turns
invariant-loop-turns g l = record {
  bytes : (g.S.Source.given l.source).bytes ≡ (g.S.Source.given l.fn.source).bytes;
  asks : TakesAsks (g.S.Source.given l.fn.source).calls (g.S.Source.given l.source).calls l.fn.turns l.turns;
}

abbrev pub decreases-loop-turns : goal.decreases-loop-turns
decreases-loop-turns g l = l.turns
