use Rattle.std.proofs.Common.{inl, inr, ◌≡◌, arith}
use Rattle.std.proofs.lemmas.Bool.{cases_lt}
use Rattle.st_lanes.proofs.Behind.{count_at, text_at}
use Rattle.st_lanes.proofs.texts.longest.Goals as goal

pub lanes-preserved : goal.lanes-preserved
lanes-preserved c = λ n k whole lt. elim (cases_lt k c.lanes.at) [
  | inl a ↦ omega (arith, c.lanes.invariant n k whole a)
  | inr b ↦
      let e : c.lanes.at ≡ k = omega arith in
      rw (← e) (count_at n _ _ _ _ (text_at c.args.texts.now (λ t. t.now) c.lanes.at _ (omega arith)) (c.block_count.ensures n whole) c.larger-count.ensures.right)
]
