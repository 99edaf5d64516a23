use Rattle.std.proofs.Common.{◌++◌, ◌≤◌, List, ℕ, length, ap, ◌∙◌}
use Rattle.std.proofs.lemmas.Bool.{le-ltb}
use Rattle.std.proofs.lemmas.List.{drop-replicate}
use Rattle.st_keys.specs.Mac.{block_key}
use Rattle.st_keys.proofs.mac.block_key.Goals as goal

pub returns-else-key-gt-BLOCK : goal.returns-else-key-gt-BLOCK
unfolding block_key
returns-else-key-gt-BLOCK c =
    let k = c.args.key.now in
    let le : length k ≤ 64 = c.if-key-gt-BLOCK.false in
    rw (le-ltb 64 (length k) le) (c.put_front-else-key-gt-BLOCK.ensures ∙ ap (λ (z : List ℕ). k ++ z) (drop-replicate (length k) 64 0))
