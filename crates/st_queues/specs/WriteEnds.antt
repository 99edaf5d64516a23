-- What the hub's end of a ring to write to shows.
use Rattle.std.specs.Prelude.{◌≡◌, List}
use Rattle.rtrb.specs.Ring.{received, known_items}
use Rattle.st_queues.specs.Names.{consumer_ring}
use Rattle.st_queues.specs.declared.items.Item.{Item}
use Rattle.st_queues.specs.declared.ends.WriteEnd.{WriteEnd}

module _ {A : Type 0} where
  -- what was removed from the ring, oldest first
  abbrev pub taken : WriteEnd A → List (Item A)
  taken e = received e.consumer

  -- what is known to be in the ring
  abbrev pub known : WriteEnd A → List (Item A)
  known e = known_items e.consumer

  -- the end of the same ring
  abbrev pub SameWriteEnd : WriteEnd A → WriteEnd A → Type 0
  SameWriteEnd a b = (consumer_ring b.consumer ≡ consumer_ring a.consumer) × (b.ring ≡ a.ring)
