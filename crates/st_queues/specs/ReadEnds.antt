-- What the hub's end of a ring to read from shows.
use Rattle.std.specs.Prelude.{◌≡◌, ℕ, List}
use Rattle.rtrb.specs.Ring.{sent, known_free}
use Rattle.st_queues.specs.Names.{producer_ring}
use Rattle.st_queues.specs.declared.items.Delivery.{Delivery}
use Rattle.st_queues.specs.declared.ends.ReadEnd.{ReadEnd}

module _ {A : Type 0} where
  -- what was put into the ring, oldest first
  abbrev pub put_in : ReadEnd A → List (Delivery A)
  put_in e = sent e.producer

  -- how many items there is known to be room for
  abbrev pub free_of : ReadEnd A → ℕ
  free_of e = known_free e.producer

  -- the end of the same ring
  abbrev pub SameReadEnd : ReadEnd A → ReadEnd A → Type 0
  SameReadEnd a b = (producer_ring b.producer ≡ producer_ring a.producer) × (b.stream ≡ a.stream)
