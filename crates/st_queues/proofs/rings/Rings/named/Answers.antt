use Rattle.std.proofs.Common.{◌≡◌, length, rules, sym, ap, ◌∙◌, arith}
use Rattle.std.proofs.lemmas.Option.{slice_get_within}
use Rattle.st_queues.specs.Names.{no_ring}
use Rattle.st_queues.specs.Lanes.{ring_at, write_lane_ring, read_lane_ring}
use Rattle.st_queues.proofs.Each.{at_map}
use Rattle.st_queues.proofs.Ours.{ours, our_read}
use Rattle.st_queues.proofs.rings.Rings.named.Goals as goal

pub returns-clause-writes : goal.returns-clause-writes
returns-clause-writes g c =
    let v = c.self.invariant in
    let lanes = c.self.inside.writes.items in
    let size : length lanes ≡ 512 = search rules in (
      v.0,
      λ k x e.
          let below = slice_get_within lanes k x e in
          let named = sym (c.requires.writes k ∙ ap (λ ids. ring_at ids.writes k) (sym c.self.view_is) ∙ at_map write_lane_ring lanes k x no_ring e) in
          (v.2 k x e, ours g.N.HubName.write_ring k x (v.2 k x e) named (omega (arith, size, below))),
    )

pub returns-clause-reads : goal.returns-clause-reads
returns-clause-reads g c =
    let v = c.self.invariant in
    let lanes = c.self.inside.reads.items in
    let size : length lanes ≡ 64 = search rules in (
      v.1,
      λ k x e.
          let below = slice_get_within lanes k x e in
          let named = sym (c.requires.reads k ∙ ap (λ ids. ring_at ids.reads k) (sym c.self.view_is) ∙ at_map read_lane_ring lanes k x no_ring e) in
          (v.3 k x e, our_read g.N.HubName.read_ring k x (v.3 k x e) named (omega (arith, size, below))),
    )
