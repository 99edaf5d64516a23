use Rattle.std.proofs.Common.{◌<◌, ◌∙◌, ap, List, [], slice_index_or, ℕ, arith}
use Rattle.sha2.specs.Sha256.{compress}
use Rattle.st_lanes.proofs.Behind.{one_block}
use Rattle.st_lanes.proofs.mac.close.Goals as goal

pub returns-clause-each : goal.returns-clause-each
returns-clause-each c = λ l inside long.
    let lt : l < 8 = omega arith in
    c.put_digests.ensures.each l inside
    ∙ one_block c.args.start _ _ _ long (c.digest_blocks-blocks.ensures l inside)
    (c.compress-states.ensures l lt ∙ ap (λ (h : List ℕ). compress h (slice_index_or c.digest_blocks-blocks.result l [])) (c.in_each_lane.ensures l lt))
