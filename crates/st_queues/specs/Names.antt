-- Which rings and which gauge a hub has.
use Rattle.std.specs.Prelude.{ℕ, List, [], Option, Some, None}
use denote.RawPtr.{Ptr, null_ptr}
use Rattle.atomic_table.specs.Seated.{TableId}
use Rattle.rtrb.specs.declared.producer.Producer.{Producer}
use Rattle.rtrb.specs.declared.consumer.Consumer.{Consumer}

-- what no other ring shares with it: the addresses of words and slots, its names in the proofs, and the allocator
pub record RingId (A : Type 0) : Type 0 where
  pub words : Ptr
  pub slots : Ptr
  pub capacity : ℕ
  pub writer_name : ℕ
  pub reader_name : ℕ
  pub heap : Option A

abbrev pub no_ring : {A : Type 0} → RingId A
no_ring = record { words = null_ptr; slots = null_ptr; capacity = 0; writer_name = 0; reader_name = 0; heap = None }

abbrev pub no_table : TableId
no_table = record { words = 0; slots = 0; views_name = 0; atom = 0; block = 0; offset = 0; slot_names = [] }

module _ {T A P : Type 0} where
  -- the ring of this end
  abbrev pub producer_ring : Producer T A P → RingId A
  producer_ring p = record { words = p.end.words; slots = p.end.slots; capacity = p.end.names.0; writer_name = p.end.names.1.0; reader_name = p.end.names.1.1; heap = Some p.end.heap }

  abbrev pub consumer_ring : Consumer T A P → RingId A
  consumer_ring c = record { words = c.end.words; slots = c.end.slots; capacity = c.end.names.0; writer_name = c.end.names.1.0; reader_name = c.end.names.1.1; heap = Some c.end.heap }

-- the gauge and the rings of a hub
pub record HubIds (A : Type 0) : Type 0 where
  pub gauge : TableId
  pub writes : List (RingId A)
  pub reads : List (RingId A)
