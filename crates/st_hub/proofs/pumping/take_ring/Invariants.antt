use Rattle.std.proofs.Common.{◌+◌, ◌*◌, ◌≤◌, List, map, length}
use Rattle.st_hub.specs.Flow.{Outlet}
use Rattle.st_hub.specs.Steps.{Flows}
use Rattle.st_hub.specs.Inside.{inlet_of, taken_at, Grow, AllLanes}
use Rattle.st_hub.proofs.pumping.take_ring.Given as goal

abbrev pub invariant-loop : goal.invariant-loop
invariant-loop g l =
    record {
      lanes : AllLanes g.N.HubName.write_ring l.writes.items;
      flows : (outlets : List (Outlet _)) → Flows (record { core = l.initial.core; inlets = map inlet_of l.initial.writes.items; outlets = outlets }) (record { core = l.core; inlets = map inlet_of l.writes.items; outlets = outlets });
      grows : Grow l.initial.writes.items l.writes.items;
      moved : length (taken_at l.initial.writes.items (8 * l.place + l.writer)) + l.counter ≤ length (taken_at l.writes.items (8 * l.place + l.writer));
    }
