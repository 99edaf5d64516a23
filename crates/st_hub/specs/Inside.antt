-- The hub's parts as they lie in it.
use Rattle.std.specs.Prelude.{◌≡◌, ℕ, ◌<◌, not, List, length, map, Some, slice_get, is_some}
use Rattle.st_queues.specs.Names.{RingId}
use Rattle.st_queues.specs.WriteEnds.{taken, known}
use Rattle.st_queues.specs.ReadEnds.{put_in, free_of}
use Rattle.st_queues.specs.Lanes.{IsOurs, IsOurRead}
use Rattle.st_queues.specs.declared.items.Item.{Item}
use Rattle.st_queues.specs.declared.items.Delivery.{Delivery}
use Rattle.st_queues.specs.declared.lanes.WriteRing.{WriteRing}
use Rattle.st_queues.specs.declared.lanes.ReadRing.{ReadRing}
use Rattle.st_end.specs.State.{EndState}
use Rattle.st_hub.specs.Flow.{Flow, Inlet, Outlet, inlet_at, outlet_at, has_end, has_last, AllTied}
use Rattle.st_hub.specs.Handing.{AllPaired}
use Rattle.st_hub.specs.Steps.{Flows}
use Rattle.st_hub.specs.Trying.{Beside, known_at, room_at, Longer, Fuller, Tried, TriedRead}

module _ {A : Type 0} where
  abbrev pub inlet_of : WriteRing A → Inlet A
  inlet_of x = record { taken = taken x.end; out = not (is_some x.held) }

  abbrev pub outlet_of : ReadRing A → Outlet A
  outlet_of x = record { put = put_in x.end; out = not (is_some x.held) }

  abbrev pub flow_of : EndState → List (WriteRing A) → List (ReadRing A) → Flow A
  flow_of core writes reads = record { core = core; inlets = map inlet_of writes; outlets = map outlet_of reads }

  abbrev pub known_of : WriteRing A → List (Item A)
  known_of x = known x.end

  abbrev pub room_of : ReadRing A → ℕ
  room_of x = free_of x.end

  -- the same with these readers' rings, or with these writers'
  abbrev pub with_outlets : EndState → List (WriteRing A) → List (Outlet A) → Flow A
  with_outlets core writes outlets = record { core = core; inlets = map inlet_of writes; outlets = outlets }

  abbrev pub with_inlets : EndState → List (ReadRing A) → List (Inlet A) → Flow A
  with_inlets core reads inlets = record { core = core; inlets = inlets; outlets = map outlet_of reads }

  -- what moves out of the writers' rings, whatever is in the readers'; and into the readers'
  abbrev pub FlowsIn : EndState → List (WriteRing A) → EndState → List (WriteRing A) → Type 0
  FlowsIn a ws b us = (outlets : List (Outlet A)) → Flows (with_outlets a ws outlets) (with_outlets b us outlets)

  abbrev pub FlowsOut : EndState → List (ReadRing A) → EndState → List (ReadRing A) → Type 0
  FlowsOut a rs b ts = (inlets : List (Inlet A)) → Flows (with_inlets a rs inlets) (with_inlets b ts inlets)

  -- each writer's ring of the stream at this place was tried; and its reader's
  abbrev pub TriesWriters : EndState → List (WriteRing A) → (place : ℕ) → EndState → List (WriteRing A) → Type 0
  TriesWriters a ws s b us = (j : ℕ) → j < 8 → (outlets : List (Outlet A))
      → Tried (with_outlets a ws outlets) (map known_of ws) s j (with_outlets b us outlets)

  abbrev pub TriesReader : EndState → List (ReadRing A) → (place : ℕ) → EndState → List (ReadRing A) → Type 0
  TriesReader a rs s b ts = (inlets : List (Inlet A)) → TriedRead (with_inlets a rs inlets) (map room_of rs) s (with_inlets b ts inlets)

  abbrev pub beside_of : EndState → List (WriteRing A) → List (ReadRing A) → Beside A
  beside_of core writes reads = record { flow = flow_of core writes reads; known = map known_of writes; room = map room_of reads }

  -- what was removed from a ring, and what is known to be in it
  abbrev pub taken_at : List (WriteRing A) → (ring : ℕ) → List (Item A)
  taken_at xs r = (inlet_at (map inlet_of xs) r).taken

  abbrev pub stands_at : List (WriteRing A) → (ring : ℕ) → List (Item A)
  stands_at xs r = known_at (map known_of xs) r

  -- what was put into a ring, and the room that is known there
  abbrev pub put_at : List (ReadRing A) → (place : ℕ) → List (Delivery A)
  put_at ys s = (outlet_at (map outlet_of ys) s).put

  abbrev pub free_at : List (ReadRing A) → (place : ℕ) → ℕ
  free_at ys s = room_at (map room_of ys) s

  -- each ring's own only grow
  abbrev pub Grow : List (WriteRing A) → List (WriteRing A) → Type 0
  Grow xs ys = (r : ℕ) → Longer (taken_at xs r) (stands_at xs r) (taken_at ys r) (stands_at ys r)

  abbrev pub Fill : List (ReadRing A) → List (ReadRing A) → Type 0
  Fill xs ys = (s : ℕ) → Fuller (put_at xs s) (free_at xs s) (put_at ys s) (free_at ys s)

  -- the hub's ring of the number k lies at k, and its lane knows whether its end was removed from it, or its last was put there
  pub record IsLane (ring : ℕ → RingId A) (k : ℕ) (x : WriteRing A) : Type 0 where
    pub number : x.end.ring ≡ k
    pub ours : IsOurs ring x
    pub over : x.over ≡ has_end (taken x.end)

  pub record IsReadLane (ring : ℕ → RingId A) (k : ℕ) (x : ReadRing A) : Type 0 where
    pub number : x.end.stream ≡ k
    pub ours : IsOurRead ring x
    pub over : x.over ≡ has_last (put_in x.end)

  abbrev pub AllLanes : (ℕ → RingId A) → List (WriteRing A) → Type 0
  AllLanes ring xs = (length xs ≡ 512) × ((k : ℕ) (x : WriteRing A) → slice_get xs k ≡ Some x → IsLane ring k x)

  abbrev pub AllReadLanes : (ℕ → RingId A) → List (ReadRing A) → Type 0
  AllReadLanes ring xs = (length xs ≡ 64) × ((k : ℕ) (x : ReadRing A) → slice_get xs k ≡ Some x → IsReadLane ring k x)

-- the hub's end and rings fit: the rings are the hub's, and what passed through them is the end's
pub record IsSound {A : Type 0} (write_ring read_ring : ℕ → RingId A)
    (core : EndState) (writes : List (WriteRing A)) (reads : List (ReadRing A)) : Type 0 where
  pub lanes : AllLanes write_ring writes
  pub read_lanes : AllReadLanes read_ring reads
  pub tied : AllTied (flow_of core writes reads)
  pub paired : AllPaired (flow_of core writes reads)
  pub parity : core.receiving.parity < 2
  pub width : length core.sending.streams ≡ 65
