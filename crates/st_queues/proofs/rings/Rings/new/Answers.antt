use Rattle.std.proofs.Common.{rules, sym, ◌∙◌}
use Rattle.std.proofs.lemmas.List.{length-map}
use Rattle.st_queues.specs.Lanes.{write_lane_ring, read_lane_ring}
use Rattle.st_queues.proofs.rings.Rings.new.Goals as goal

pub invariant_of-result : goal.invariant_of-result
invariant_of-result g c = (c.in_ok-write_lanes.ensures.0, c.in_ok-read_lanes.ensures.0, c.in_ok-write_lanes.ensures.1, c.in_ok-read_lanes.ensures.1)

pub returns-clause-made : goal.returns-clause-made
returns-clause-made g c =
    let writes = c.in_ok-write_lanes.field-0 in
    let reads = c.in_ok-read_lanes.field-0 in (
      length-map writes.items write_lane_ring ∙ sym writes.ok.0 ∙ c.in_ok-write_lanes.ensures.0,
      length-map reads.items read_lane_ring ∙ sym reads.ok.0 ∙ c.in_ok-read_lanes.ensures.0,
      search rules,
    )
