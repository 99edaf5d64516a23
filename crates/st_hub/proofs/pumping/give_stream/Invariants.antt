use Rattle.std.proofs.Common.{◌+◌, ◌≤◌, List, map, length}
use Rattle.st_hub.specs.Flow.{Inlet}
use Rattle.st_hub.specs.Steps.{Flows}
use Rattle.st_hub.specs.Inside.{outlet_of, put_at, Fill, AllReadLanes}
use Rattle.st_hub.proofs.pumping.give_stream.Given as goal

abbrev pub invariant-loop : goal.invariant-loop
invariant-loop g l =
    record {
      lanes : AllReadLanes g.N.HubName.read_ring l.reads.items;
      flows : (inlets : List (Inlet _)) → Flows (record { core = l.initial.core; inlets = inlets; outlets = map outlet_of l.initial.reads.items }) (record { core = l.core; inlets = inlets; outlets = map outlet_of l.reads.items });
      fills : Fill l.initial.reads.items l.reads.items;
      moved : length (put_at l.initial.reads.items l.place) + l.counter ≤ length (put_at l.reads.items l.place);
    }
