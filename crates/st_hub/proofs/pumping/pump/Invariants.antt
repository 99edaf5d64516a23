use Rattle.std.proofs.Common.{◌≡◌, ℕ, ◌+◌, ◌<◌, true, map}
use Rattle.st_end.specs.Calls.{has_stream}
use Rattle.st_hub.specs.Steps.{Flows}
use Rattle.st_hub.specs.Trying.{Tried, TriedRead}
use Rattle.st_hub.specs.Inside.{known_of, room_of, flow_of, Grow, Fill, AllLanes, AllReadLanes}
use Rattle.st_hub.proofs.pumping.pump.Given as goal

abbrev pub invariant-loop-place : goal.invariant-loop-place
invariant-loop-place g l =
    let i = l.initial in
    let a = flow_of i.core i.writes.items i.reads.items in
    let b = flow_of l.core l.writes.items l.reads.items in
    record {
      lanes : AllLanes g.N.HubName.write_ring l.writes.items × AllReadLanes g.N.HubName.read_ring l.reads.items;
      flows : Flows a b;
      grows : Grow i.writes.items l.writes.items × Fill i.reads.items l.reads.items;
      writers : (s j : ℕ) → s < l.place → j < 8 → has_stream i.core (s + 1) ≡ true → Tried a (map known_of i.writes.items) s j b;
      readers : (s : ℕ) → s < l.place → has_stream i.core (s + 1) ≡ true → TriedRead a (map room_of i.reads.items) s b;
    }
