-- The result of one try to move an item.
use Rattle.std.specs.Prelude.{◌≡◌, ◌⊎◌, ℕ, Bool, true, false, List, [], ◌∷◌, ◌++◌, Vec, Ok}
use Rattle.st_receiver.specs.Reading as reading
use Rattle.st_queues.specs.declared.items.Item.{Item}
use Rattle.st_queues.specs.declared.items.Item.TheVariants as item
use Rattle.st_queues.specs.declared.items.Delivery.{Delivery}
use Rattle.st_end.specs.State.{EndState}
use Rattle.st_end.specs.Calls.{write, close}
use Rattle.st_end.specs.Reading.{read}
use Rattle.st_hub.specs.declared.pumping.Pumped.{Pumped}
use Rattle.st_hub.specs.declared.pumping.Pumped.TheVariants.{Moved, Nothing, Stuck, NoMemory}
use Rattle.st_hub.specs.Flow.{has_last}
use Rattle.st_hub.specs.Steps.{read_limit, got_of}

-- the stream is closed with the last writer's end
abbrev pub ClosesIf : Bool → EndState → ℕ → EndState → Type 0
ClosesIf true a k b = close a k ≡ (Ok tt, b)
ClosesIf false a k b = b ≡ a

module _ {A : Type 0} where
  -- the first item of a ring, from which t was removed, and the end
  abbrev pub AfterTake : (k : ℕ) (last : Bool) → EndState → List (Item A) → Pumped → EndState → List (Item A) → Type 0
  AfterTake k last a t Moved b u =
      ((v : Vec ℕ A) × (write a k v.items ≡ (Ok tt, b)) × (u ≡ t ++ item.Chunk v ∷ []))
      ⊎ (ClosesIf last a k b × (u ≡ t ++ item.End ∷ []))
  AfterTake k last a t Nothing b u = (b ≡ a) × (u ≡ t)
  AfterTake k last a t Stuck b u = (b ≡ a) × (u ≡ t)
  AfterTake k last a t NoMemory b u = (b ≡ a) × (u ≡ t)

  -- what a read gave, and a ring into which t was put
  abbrev pub AfterGive : (k : ℕ) → EndState → List (Delivery A) → Pumped → EndState → List (Delivery A) → Type 0
  AfterGive k a t Moved b u = (d : Delivery A) × (has_last t ≡ false) × (read a k read_limit ≡ (Ok (got_of d), b)) × (u ≡ t ++ d ∷ [])
  AfterGive k a t Nothing b u = (read a k read_limit ≡ (Ok reading.Nothing, b)) × (u ≡ t)
  AfterGive k a t Stuck b u = (b ≡ a) × (u ≡ t)
  AfterGive k a t NoMemory b u = (b ≡ a) × (u ≡ t)
