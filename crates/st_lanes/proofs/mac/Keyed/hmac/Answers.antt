use Rattle.std.proofs.Common.{◌++◌, ◌∙◌, ap, List, ℕ}
use Rattle.sha2.specs.Sha256.{sha256}
use Rattle.st_lanes.specs.Mac.{hmac_under, with_pad}
use Rattle.st_lanes.proofs.mac.Keyed.hmac.Goals as goal

pub returns : goal.returns
unfolding hmac_under
returns c = λ key held.
    let inner = c.update.ensures (with_pad 0x36 key) (rw c.copied-inner.ensures held.inner_hasher) in
    let outer = c.update-2.ensures (with_pad 0x5c key) (rw c.copied-outer.ensures held.outer_hasher) in
    c.finalize-2.ensures _ outer ∙ ap (λ (d : List ℕ). sha256 (with_pad 0x5c key ++ d)) (c.finalize.ensures _ inner)
