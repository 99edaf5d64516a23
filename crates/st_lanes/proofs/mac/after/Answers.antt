use Rattle.std.proofs.Common.{◌∙◌, ap, List, ℕ, arith}
use Rattle.sha2.specs.Sha256.{compress}
use Rattle.st_lanes.proofs.mac.after.Goals as goal

pub returns : goal.returns
returns c = c.words_in.ensures ∙ c.compress.ensures 0 (omega arith) ∙ ap (λ (h : List ℕ). compress h c.args.block) (c.in_each_lane.ensures 0 (omega arith))
