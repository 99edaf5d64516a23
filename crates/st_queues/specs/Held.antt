-- The application's end of a ring, until it is handed out.
use Rattle.std.specs.Prelude.{◌≡◌, [], Option, Some, None}
use Rattle.rtrb.specs.Ring.{sent, received, known_free, known_items}
use Rattle.rtrb.specs.declared.producer.Producer.{Producer}
use Rattle.rtrb.specs.declared.consumer.Consumer.{Consumer}
use Rattle.rtrb.specs.declared.AnyItems.{AnyItems}
use Rattle.st_queues.specs.Names.{RingId, producer_ring, consumer_ring}
use Rattle.st_queues.specs.declared.items.Item.{Item}
use Rattle.st_queues.specs.declared.items.Delivery.{Delivery}

module _ {A : Type 0} where
  -- a writer's end of the ring z that nobody used, with room for 64 items
  abbrev pub HeldWrite : RingId A → Option (Producer (Item A) A AnyItems) → Type 0
  HeldWrite z None = Unit {0}
  HeldWrite z (Some p) = (producer_ring p ≡ z) × (sent p ≡ []) × (known_free p ≡ 64)

  -- a reader's end of the ring z that nobody used
  abbrev pub HeldRead : RingId A → Option (Consumer (Delivery A) A AnyItems) → Type 0
  HeldRead z None = Unit {0}
  HeldRead z (Some c) = (consumer_ring c ≡ z) × (received c ≡ []) × (known_items c ≡ [])
