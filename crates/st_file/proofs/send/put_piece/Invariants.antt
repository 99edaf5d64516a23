use Rattle.std.proofs.Common.{◌≡◌}
use Rattle.st_file.specs.Spending.{TakesAsks}
use Rattle.st_file.proofs.send.put_piece.Given as goal

abbrev pub invariant-loop-turns : goal.invariant-loop-turns
invariant-loop-turns g l = record {
  chunk : l.chunk ≡ l.fn.piece;
  bytes : (g.K.Sink.taken l.sink).bytes ≡ (g.K.Sink.taken l.fn.sink).bytes;
  ended : (g.K.Sink.taken l.sink).ended ≡ (g.K.Sink.taken l.fn.sink).ended;
  asks : TakesAsks (g.K.Sink.taken l.fn.sink).calls (g.K.Sink.taken l.sink).calls l.fn.turns l.turns;
}

abbrev pub decreases-loop-turns : goal.decreases-loop-turns
decreases-loop-turns g l = l.turns
