use Rattle.std.proofs.Common.{ℕ, ◌<◌, List, map}
use Rattle.st_hub.specs.Flow.{Outlet}
use Rattle.st_hub.specs.Steps.{Flows}
use Rattle.st_hub.specs.Trying.{Tried}
use Rattle.st_hub.specs.Inside.{inlet_of, known_of, Grow, AllLanes}
use Rattle.st_hub.proofs.pumping.take_stream.Given as goal

abbrev pub invariant-loop-writer : goal.invariant-loop-writer
invariant-loop-writer g l =
    record {
      lanes : AllLanes g.N.HubName.write_ring l.writes.items;
      flows : (outlets : List (Outlet _)) → Flows (record { core = l.initial.core; inlets = map inlet_of l.initial.writes.items; outlets = outlets }) (record { core = l.core; inlets = map inlet_of l.writes.items; outlets = outlets });
      grows : Grow l.initial.writes.items l.writes.items;
      tried : (j : ℕ) → j < l.writer → (outlets : List (Outlet _)) → Tried (record { core = l.initial.core; inlets = map inlet_of l.initial.writes.items; outlets = outlets }) (map known_of l.initial.writes.items) l.place j (record { core = l.core; inlets = map inlet_of l.writes.items; outlets = outlets });
    }
