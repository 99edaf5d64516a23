use Rattle.std.proofs.Common.{◌≡◌, ◌∙◌, ℕ, List, length, map, arith}
use Rattle.std.proofs.lemmas.List.{length-map}
use Rattle.sha2.specs.Sha256.{sha256}
use Rattle.st_lanes.specs.Lanes.{text}
use Rattle.st_lanes.proofs.Behind.{digest_alone, mapped}
use Rattle.st_lanes.proofs.texts.digests_in_lanes.Goals as goal

pub returns : goal.returns
returns c =
    let texts : List (List ℕ) = map (λ t. t.now) c.args.texts.now in
    let long : length texts ≡ length c.args.texts.now = length-map c.args.texts.now (λ t. t.now) in
    mapped sha256 texts _ (omega (arith, long)) (λ l inside. c.digests_behind.ensures.each l (omega (arith, long)) ∙ digest_alone (text texts l))
