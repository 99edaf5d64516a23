use Rattle.std.proofs.Common.{◌≡◌, ◌∙◌, ◌+◌, ◌-◌, ◌++◌, ◌≤◌, ◌<◌, List, [], ◌∷◌, ap, refl, sym, subst, length, drop, drop_of_length-le, arith}
use Rattle.std.specs.List.{slice_range}
use Rattle.std.proofs.lemmas.List.{append-nil}
use Rattle.std.proofs.lemmas.Slice.{pushed}
use Rattle.st_unacked.specs.Chunks.{Block, IsCut}
use Rattle.st_unacked.proofs.Writes.{cut_more}
use Rattle.st_unacked.proofs.chunk.cut.Goals as goal

pub loop-done-preserved : goal.loop-done-preserved
loop-done-preserved g c = record {
  within = omega (arith, c.min.ensures, c.loop-done-test.true);
  cut = cut_more c.args.at c.loop-done.done (c.loop-done.done + c.min.result) c.args.bytes.now (slice_range c.args.bytes.now c.loop-done.done (c.loop-done.done + c.min.result)) c.loop-done.all.items c.push.new.self.items c.in_ok-chunk.chunk
      c.loop-done-test.true (ap (λ m. c.loop-done.done + m) c.min.ensures) refl c.in_ok-chunk.ensures (pushed (c.in_ok-chunk.chunk ∷ []) refl c.in_ok-push.was c.push.ensures.items) c.loop-done.invariant.cut;
}

pub returns : goal.returns
returns g c = subst (IsCut c.args.at c.args.bytes.now) (append-nil c.loop-done.all.items) (c.loop-done.invariant.cut [] (drop_of_length-le c.args.bytes.now c.loop-done-test.false))
