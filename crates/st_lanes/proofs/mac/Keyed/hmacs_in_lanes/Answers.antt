use Rattle.std.proofs.Common.{◌≡◌, ◌<◌, ◌∙◌, ap, ℕ, List, length, map, arith}
use Rattle.std.proofs.lemmas.List.{length-map}
use Rattle.sha2.proofs.Facts256.{length-sha256}
use Rattle.st_lanes.specs.Lanes.{text}
use Rattle.st_lanes.specs.Mac.{hmac_under}
use Rattle.st_lanes.proofs.Behind.{inner_hash, mapped, outer_hash}
use Rattle.st_lanes.proofs.mac.Keyed.hmacs_in_lanes.Goals as goal

pub returns : goal.returns
returns c = λ key held.
    let texts : List (List ℕ) = map (λ t. t.now) c.args.texts.now in
    let long : length texts ≡ length c.args.texts.now = length-map c.args.texts.now (λ t. t.now) in
    mapped (hmac_under key) texts _ (omega (arith, long)) (λ l inside.
    let within : l < length c.args.texts.now = omega (arith, long) in
    let inner = inner_hash key (text texts l) c.args.self.now.inner _ held.block held.inner (c.digests_behind.ensures.each l within) in
    outer_hash key (text texts l) c.args.self.now.outer _ _ held.block held.outer inner (c.close.ensures.each l (omega arith) (ap length inner ∙ length-sha256 _)))
