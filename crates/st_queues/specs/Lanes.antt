-- The rings as they lie in the hub: a lane has the hub's end, and the application's until it is handed out.
use Rattle.std.specs.Prelude.{◌≡◌, ℕ, ◌<◌, false, List, [], Some, IsSome, slice_get, slice_index_or}
use Rattle.st_queues.specs.Names.{RingId, no_ring, producer_ring, consumer_ring}
use Rattle.st_queues.specs.WriteEnds.{taken, known}
use Rattle.st_queues.specs.ReadEnds.{put_in, free_of}
use Rattle.st_queues.specs.Held.{HeldWrite, HeldRead}
use Rattle.st_queues.specs.declared.lanes.WriteRing.{WriteRing}
use Rattle.st_queues.specs.declared.lanes.ReadRing.{ReadRing}

module _ {A : Type 0} where
  abbrev pub write_lane_ring : WriteRing A → RingId A
  write_lane_ring x = consumer_ring x.end.consumer

  abbrev pub read_lane_ring : ReadRing A → RingId A
  read_lane_ring x = producer_ring x.end.producer

  -- the ring of a number
  abbrev pub ring_at : List (RingId A) → ℕ → RingId A
  ring_at ids k = slice_index_or ids k no_ring

  -- the ring of number k, of which nobody used either end
  abbrev pub Fresh : ℕ → WriteRing A → Type 0
  Fresh k x = (x.end.ring ≡ k) × (taken x.end ≡ []) × (known x.end ≡ []) × IsSome x.held × HeldWrite (write_lane_ring x) x.held × (x.over ≡ false)

  abbrev pub FreshRead : ℕ → ReadRing A → Type 0
  FreshRead k x = (x.end.stream ≡ k) × (put_in x.end ≡ []) × (free_of x.end ≡ 64) × IsSome x.held × HeldRead (read_lane_ring x) x.held × (x.over ≡ false)

  -- each lane has the ring of its number, unused
  abbrev pub AllFresh : List (WriteRing A) → Type 0
  AllFresh xs = (k : ℕ) (x : WriteRing A) → slice_get xs k ≡ Some x → Fresh k x

  abbrev pub AllFreshReads : List (ReadRing A) → Type 0
  AllFreshReads xs = (k : ℕ) (x : ReadRing A) → slice_get xs k ≡ Some x → FreshRead k x

  -- the ring is the hub's of its number, and the writer's end, if the lane still has it, is unused
  abbrev pub IsOurs : (ℕ → RingId A) → WriteRing A → Type 0
  IsOurs ring x = (x.end.ring < 512) × (write_lane_ring x ≡ ring x.end.ring) × HeldWrite (ring x.end.ring) x.held

  abbrev pub IsOurRead : (ℕ → RingId A) → ReadRing A → Type 0
  IsOurRead ring x = (x.end.stream < 64) × (read_lane_ring x ≡ ring x.end.stream) × HeldRead (ring x.end.stream) x.held

  -- each lane has the hub's ring of its number, unused
  abbrev pub AllNamed : (ℕ → RingId A) → List (WriteRing A) → Type 0
  AllNamed ring xs = (k : ℕ) (x : WriteRing A) → slice_get xs k ≡ Some x → Fresh k x × IsOurs ring x

  abbrev pub AllNamedReads : (ℕ → RingId A) → List (ReadRing A) → Type 0
  AllNamedReads ring xs = (k : ℕ) (x : ReadRing A) → slice_get xs k ≡ Some x → FreshRead k x × IsOurRead ring x
