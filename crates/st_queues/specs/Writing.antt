-- What a writer writes, and what it is refused.
use Rattle.std.specs.Prelude.{◌≡◌, ℕ, ◌<◌, ◌≤◌, List, [], Bool, true, false, Vec, ◌+◌, ◌∷◌, ◌++◌, vec_len}
use Rattle.st_queues.specs.declared.items.Item.{Item}
use Rattle.st_queues.specs.declared.error.QueueError.{QueueError}
use Rattle.st_queues.specs.declared.error.QueueError.TheVariants.{NoMemory, Full, BadLength, Ended}
use Rattle.st_queues.specs.declared.items.Item.TheVariants.{Chunk, End}

-- what a writer shows: its ring's number, what it wrote, oldest first, how many items it knows room for, and whether it ended
pub record Written (A : Type 0) : Type 0 where
  pub ring : ℕ
  pub items : List (Item A)
  pub free : ℕ
  pub ended : Bool

-- a chunk has 1 to 4,096 bytes
abbrev pub IsLawful : ℕ → Type 0
IsLawful n = (0 < n) × (n ≤ 4096)

module _ {A : Type 0} where
  -- a chunk of n bytes is given back, for the cause that the error names: first its length, then an end before it, then no room
  abbrev pub RefusesChunk : ℕ → Vec ℕ A → Written A → QueueError A → Type 0
  RefusesChunk n chunk w (BadLength c) = (c ≡ chunk) × ¬ IsLawful n
  RefusesChunk n chunk w (Ended c) = (c ≡ chunk) × IsLawful n × (w.ended ≡ true)
  RefusesChunk n chunk w (Full c) = (c ≡ chunk) × IsLawful n × (w.ended ≡ false) × (w.free ≡ 0)
  RefusesChunk n chunk w NoMemory = ⊥

  -- an end is refused, for the cause that the error names: first an end before it, then no room
  abbrev pub RefusesEnd : Written A → QueueError A → Type 0
  RefusesEnd w (Ended c) = (c.items ≡ []) × (w.ended ≡ true)
  RefusesEnd w (Full c) = (c.items ≡ []) × (w.ended ≡ false) × (w.free ≡ 0)
  RefusesEnd w (BadLength c) = ⊥
  RefusesEnd w NoMemory = ⊥

  -- the writer writes nothing, and may learn of more room
  abbrev pub WritesNothing : (old new : Written A) → Type 0
  WritesNothing old new = (new.ring ≡ old.ring) × (new.items ≡ old.items) × (new.ended ≡ old.ended) × (old.free ≤ new.free)

  -- the chunk is written, before any end, and takes one place
  abbrev pub WritesChunk : Vec ℕ A → (old new : Written A) → Type 0
  WritesChunk chunk old new = IsLawful (vec_len chunk) × (old.ended ≡ false) × (new.items ≡ old.items ++ Chunk chunk ∷ []) × (old.free ≤ new.free + 1)

  -- the end is written, once, and no room is left for anything after it
  abbrev pub WritesEnd : (old new : Written A) → Type 0
  WritesEnd old new = (old.ended ≡ false) × (new.ended ≡ true) × (new.free ≡ 0) × (new.items ≡ old.items ++ End ∷ [])
