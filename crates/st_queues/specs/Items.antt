-- The bytes of the items in the rings.
use Rattle.std.specs.Prelude.{ℕ, List, [], ◌∷◌, ◌++◌}
use Rattle.st_queues.specs.declared.items.Item.{Item}
use Rattle.st_queues.specs.declared.items.Item.TheVariants as item
use Rattle.st_queues.specs.declared.items.Delivery.{Delivery}
use Rattle.st_queues.specs.declared.items.Delivery.TheVariants as delivery

module _ {A : Type 0} where
  -- the bytes of what was written, in order
  abbrev pub joined : List (Item A) → List ℕ
  joined [] = []
  joined (item.Chunk v ∷ xs) = v.items ++ joined xs
  joined (item.End ∷ xs) = joined xs

  -- the bytes of what was delivered, in order
  abbrev pub delivered : List (Delivery A) → List ℕ
  delivered [] = []
  delivered (delivery.Bytes v ∷ xs) = v.items ++ delivered xs
  delivered (delivery.End ∷ xs) = delivered xs
  delivered (delivery.Aborted code ∷ xs) = delivered xs
