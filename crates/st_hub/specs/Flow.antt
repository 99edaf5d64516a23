-- A hub's end with its rings, and what ties them.
use Rattle.std.specs.Prelude.{◌≡◌, ℕ, ◌+◌, ◌*◌, ◌<◌, Bool, true, false, not, ◌&&◌, List, [], ◌∷◌, ◌++◌, length, map, slice_get, slice_index_or, slice_set}
use Rattle.std.specs.declared.option.Option.{Option}
use Rattle.std.specs.declared.option.Option.TheVariants.{None, Some}
use Rattle.std.specs.Ordering.{nat_cmp}
use Rattle.std.specs.FinMap.{FinMap, empty, get}
use Rattle.st_streams.specs.Slots.{slot}
use Rattle.st_sender.specs.Sending.{Outgoing, outgoing_at}
use Rattle.st_sender.specs.Refusals.{accepted_of}
use Rattle.st_receiver.specs.Streams.{delivered_of}
use Rattle.st_end.specs.State.{EndState}
use Rattle.st_queues.specs.Items.{joined, delivered}
use Rattle.st_queues.specs.declared.items.Item.{Item}
use Rattle.st_queues.specs.declared.items.Item.TheVariants as item_kinds
use Rattle.st_queues.specs.declared.items.Delivery.{Delivery}
use Rattle.st_queues.specs.declared.items.Delivery.TheVariants as delivery_kinds
use Rattle.st_hub.specs.Merge.{Took, MergeOf, item}

-- ---- rings, as the hub sees them

pub record Inlet (A : Type 0) : Type 0 where
  pub taken : List (Item A)  -- what the hub took out, oldest first
  pub out : Bool  -- the writer's end was handed out

pub record Outlet (A : Type 0) : Type 0 where
  pub put : List (Delivery A)  -- what the hub put in, oldest first
  pub out : Bool  -- the reader's end was handed out

-- the stream at the place s has the number s + 1; its writer j has the ring number 8 s + j, and its reader the place s
pub record Flow (A : Type 0) : Type 0 where
  pub core : EndState
  pub inlets : List (Inlet A)  -- by ring number
  pub outlets : List (Outlet A)  -- by place

module _ {A : Type 0} where
  abbrev pub no_inlet : Inlet A
  no_inlet = record { taken = []; out = false }

  abbrev pub no_outlet : Outlet A
  no_outlet = record { put = []; out = false }

  abbrev pub inlet_at : List (Inlet A) → ℕ → Inlet A
  inlet_at xs r = slice_index_or xs r no_inlet

  abbrev pub outlet_at : List (Outlet A) → ℕ → Outlet A
  outlet_at xs s = slice_index_or xs s no_outlet

  -- what was removed from the eight rings of the stream at a place
  abbrev pub rings_of : List (Inlet A) → (s j : ℕ) → List (Item A)
  rings_of xs s j = (inlet_at xs (8 * s + j)).taken

  -- ---- what changes of them

  abbrev pub with_item : List (Inlet A) → (ring : ℕ) → Item A → List (Inlet A)
  with_item xs r x = slice_set xs r (record (inlet_at xs r) { taken = (inlet_at xs r).taken ++ x ∷ [] })

  abbrev pub with_delivery : List (Outlet A) → (place : ℕ) → Delivery A → List (Outlet A)
  with_delivery xs s x = slice_set xs s (record (outlet_at xs s) { put = (outlet_at xs s).put ++ x ∷ [] })

  abbrev pub writer_out : List (Inlet A) → (ring : ℕ) → List (Inlet A)
  writer_out xs r = slice_set xs r (record (inlet_at xs r) { out = true })

  abbrev pub reader_out : List (Outlet A) → (place : ℕ) → List (Outlet A)
  reader_out xs s = slice_set xs s (record (outlet_at xs s) { out = true })

  -- an end is among them
  abbrev pub has_end : List (Item A) → Bool
  has_end [] = false
  has_end (item_kinds.Chunk v ∷ xs) = has_end xs
  has_end (item_kinds.End ∷ xs) = true

  -- an end or an abort is among them: the last that a reader receives
  abbrev pub has_last : List (Delivery A) → Bool
  has_last [] = false
  has_last (delivery_kinds.Bytes v ∷ xs) = has_last xs
  has_last (delivery_kinds.End ∷ xs) = true
  has_last (delivery_kinds.Aborted code ∷ xs) = true

  -- the writer was handed out, and its end was not removed from the ring yet
  abbrev pub is_writing : Inlet A → Bool
  is_writing x = x.out && not (has_end x.taken)

-- ---- the tie

abbrev pub unacked_of : Option Outgoing → FinMap nat_cmp ℕ
unacked_of None = empty
unacked_of (Some x) = x.unacked

-- the number of accepted bytes is the length of the list, and each that is kept is that of its offset
pub record IsSent (bytes : List ℕ) (x : Option Outgoing) : Type 0 where
  pub accepted : accepted_of x ≡ length bytes
  pub kept : (q b : ℕ) → get (unacked_of x) q ≡ Some b → slice_get bytes q ≡ Some b

-- of the hub's own ends alone: the end has the bytes of a merge of the stream's rings, and as many bytes were put into the
-- reader's ring as the end says were read
pub record TiedBy {A : Type 0} (f : Flow A) (s : ℕ) (log : List (Took A)) : Type 0 where
  pub merge : MergeOf log (rings_of f.inlets s)
  pub sent : IsSent (joined (map item log)) (outgoing_at f.core.sending (s + 1))
  pub read : delivered_of (slot f.core.receiving.streams (s + 1)) ≡ length (delivered (outlet_at f.outlets s).put)

abbrev pub Tied : {A : Type 0} → Flow A → ℕ → Type 0
Tied {A} f s = (log : List (Took A)) × TiedBy f s log

pub record AllTied {A : Type 0} (f : Flow A) : Type 0 where
  pub inlets : length f.inlets ≡ 512
  pub outlets : length f.outlets ≡ 64
  pub each : (s : ℕ) → s < 64 → Tied f s
