use Rattle.std.proofs.Common.{rules, ◌≡◌, ℕ, ◌%◌, List, [], map, slice_index_or, ◌∙◌, arith}
use Rattle.std.proofs.lemmas.List.{get_or-set_other}
use Rattle.sha2.specs.Sha256.{digest_bytes}
use Rattle.st_lanes.specs.Lanes.{lane, text}
use Rattle.st_lanes.specs.Padded.{count_behind}
use Rattle.st_lanes.proofs.Behind.{ended_at, placed, text_at}
use Rattle.st_lanes.proofs.texts.put_ended.Goals as goal

pub lanes-preserved : goal.lanes-preserved
lanes-preserved c =
    let texts : List (List ℕ) = map (λ t. t.now) c.args.texts.now in
    let At : ℕ → List ℕ → Type 0 = λ j x. (n : ℕ) → n % 64 ≡ 0
    → (count_behind n (text texts j) ≡ c.args.done → x ≡ digest_bytes (lane 8 c.args.states.now j) 8)
    × (¬ (count_behind n (text texts j) ≡ c.args.done) → x ≡ slice_index_or c.args.out.now j []) in (
      search rules,
      λ k lt. placed At c.lanes.out c.lanes.at k c.next_digest.result (omega arith) lt c.lanes.invariant.1
          (λ n whole. ended_at n c.args.done _ _ _ _ _ _ (text_at c.args.texts.now (λ t. t.now) c.lanes.at _ (omega arith))
          (c.next_digest.ensures.ended n whole) (c.next_digest.ensures.other n whole) (c.lanes.invariant.2 c.lanes.at (omega arith))),
      λ k far. get_or-set_other c.lanes.out c.lanes.at k c.next_digest.result [] (omega arith) ∙ c.lanes.invariant.2 k (omega arith),
    )

pub returns-clause-ended : goal.returns-clause-ended
returns-clause-ended c = λ n l whole inside. (c.lanes.invariant.1 l (omega arith) n whole).0

pub returns-clause-other : goal.returns-clause-other
returns-clause-other c = λ n l whole inside. (c.lanes.invariant.1 l (omega arith) n whole).1
