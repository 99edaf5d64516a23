use Rattle.std.proofs.Common.{rules, ◌≡◌, ℕ, List, arith}
use Rattle.sha2.specs.Sha256.{digest_bytes}
use Rattle.st_lanes.specs.Lanes.{lane}
use Rattle.st_lanes.proofs.Behind.{placed}
use Rattle.st_lanes.proofs.mac.put_digests.Goals as goal

pub lanes-preserved : goal.lanes-preserved
lanes-preserved c =
    let At : ℕ → List ℕ → Type 0 = λ j x. x ≡ digest_bytes (lane 8 c.args.states.now j) 8 in (
      search rules,
      λ k lt. placed At c.lanes.out c.lanes.at k c.digest_in.result (omega arith) lt c.lanes.invariant.1 c.digest_in.ensures,
    )
