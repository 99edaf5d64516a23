use Rattle.std.proofs.Common.{◌≡◌, ap, List, ℕ, subst}
use Rattle.st_lanes.specs.Mac.{IsKeyedBy, hmac_under}
use Rattle.st_keys.specs.Keys.{DerivedKeys}
use Rattle.st_keys.specs.Mac.{block_key, hmac}
use Rattle.st_keys.proofs.keys.Keys.fulfillments.Goals as goal

pub returns : goal.returns
unfolding hmac hmac_under
returns c =
    let key : c.self.inside.fulfillment ≡ c.args.self.now.fulfillment_key = ap (λ (k : DerivedKeys). k.fulfillment_key) c.self.view_is in
    c.hmacs.ensures (block_key c.args.self.now.fulfillment_key) (subst (λ (k : List ℕ). IsKeyedBy (block_key k) c.self.inside.keyed) key c.self.invariant)
