use Rattle.std.proofs.Common.{length-set, arith}
use Rattle.st_reassembly.proofs.Marking.{marked_more}
use Rattle.st_reassembly.proofs.marks.mark.Goals as goal

pub loop-word-preserved : goal.loop-word-preserved
loop-word-preserved g c = record {
  words = simp length-set c.loop-word.invariant.words;
  marked = λ k l. marked_more c.loop-word.marks.items c.args.marks.now.items c.args.from c.args.to c.loop-word.word c.part.result c.index_mut.result.now (omega arith) (omega (arith, c.loop-word.invariant.words)) c.index_mut.ensures.value c.part.ensures k (c.loop-word.invariant.marked k l);
}
