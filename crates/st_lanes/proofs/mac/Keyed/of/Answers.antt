use Rattle.std.proofs.Common.{rules, ◌∙◌, ap, List, ℕ}
use Rattle.sha2.specs.Sha256.{compress, initial_hash_256}
use Rattle.st_lanes.proofs.mac.Keyed.of.Goals as goal

pub returns : goal.returns
returns c = record {
  block = search rules;
  inner = c.after.ensures ∙ ap (λ (b : List ℕ). compress initial_hash_256 b) c.with_pad-inner.ensures;
  outer = c.after-2.ensures ∙ ap (λ (b : List ℕ). compress initial_hash_256 b) c.with_pad-outer.ensures;
  inner_hasher = rw (← c.with_pad-inner.ensures) c.new_with_prefix.ensures;
  outer_hasher = rw (← c.with_pad-outer.ensures) c.new_with_prefix-2.ensures;
}
