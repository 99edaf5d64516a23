-- What a hub's ends know of their rings, and how far a pump tries each ring.
use Rattle.std.specs.Prelude.{◌≡◌, ◌⊎◌, ℕ, ◌+◌, ◌*◌, ◌<◌, ◌≤◌, true, List, [], ◌∷◌, ◌++◌, length, slice_index_or, Ok, Err}
use mathlib.Core.List.{IsPrefix}
use Rattle.st_receiver.specs.Reading as reading
use Rattle.st_queues.specs.declared.items.Item.{Item}
use Rattle.st_queues.specs.declared.items.Item.TheVariants as item
use Rattle.st_queues.specs.declared.items.Delivery.{Delivery}
use Rattle.st_streams.specs.declared.end_error.EndError.{EndError}
use Rattle.st_end.specs.State.{EndState}
use Rattle.st_end.specs.Calls.{write, close, has_stream}
use Rattle.st_end.specs.Reading.{read}
use Rattle.st_hub.specs.declared.pumping.Pumped.{Pumped}
use Rattle.st_hub.specs.declared.pumping.Pumped.TheVariants.{Moved, Nothing, Stuck, NoMemory}
use Rattle.st_hub.specs.Flow.{Flow, inlet_at, outlet_at, has_end, has_last}
use Rattle.st_hub.specs.Steps.{Flows, read_limit}

-- a hub's end with its rings, and what its ends of the rings know
pub record Beside (A : Type 0) : Type 0 where
  pub flow : Flow A
  pub known : List (List (Item A))  -- by ring number: what is known to be in a writer's ring, oldest first
  pub room : List ℕ  -- by place: for how many items a reader's ring is known to have room

-- no memory was refused
abbrev pub HadMemory : Pumped → Type 0
HadMemory Moved = Unit {0}
HadMemory Nothing = Unit {0}
HadMemory Stuck = Unit {0}
HadMemory NoMemory = ⊥

abbrev pub room_at : List ℕ → (place : ℕ) → ℕ
room_at ns s = slice_index_or ns s 0

module _ {A : Type 0} where
  abbrev pub with_end : Beside A → EndState → Beside A
  with_end f e = record f { flow = record f.flow { core = e } }

  abbrev pub known_at : List (List (Item A)) → (ring : ℕ) → List (Item A)
  known_at ks r = slice_index_or ks r []

  -- the end refuses the item with an error that is defined. Out of memory is not among these
  abbrev pub Refuses : EndState → (number : ℕ) → Item A → Type 0
  Refuses e k (item.Chunk v) = (why : EndError) × (write e k v.items ≡ (Err why, e))
  Refuses e k item.End = (why : EndError) × (close e k ≡ (Err why, e))

  -- ---- one try

  -- what was removed from a ring, and what is known of it in all, only grow
  pub record Longer (ts ks us ls : List (Item A)) : Type 0 where
    pub taken : IsPrefix ts us
    pub whole : IsPrefix (ts ++ ks) (us ++ ls)

  -- a try to remove an item from a ring of which ts was removed: one item more is, or the writer's end was removed already, or nothing is
  -- known to be there, or the end refuses the first item
  abbrev pub Stops : (number : ℕ) → Pumped → (ts : List (Item A)) → EndState → (us ls : List (Item A)) → Type 0
  Stops k Moved ts b us ls = length ts + 1 ≤ length us
  Stops k Nothing ts b us ls = ⊥
  Stops k Stuck ts b us ls = (has_end us ≡ true) ⊎ (ls ≡ []) ⊎ ((x : Item A) × IsPrefix (x ∷ []) ls × Refuses b k x)
  Stops k NoMemory ts b us ls = Unit {0}

  -- what was put into a ring, and the room that is known of it in all, only grow
  pub record Fuller (ds : List (Delivery A)) (n : ℕ) (us : List (Delivery A)) (m : ℕ) : Type 0 where
    pub put : length ds ≤ length us
    pub whole : length ds + n ≤ length us + m

  -- a try to deliver to a ring into which ds was put: one more is, or a read gives nothing, or the last was put, or no room is
  -- known, or the end refuses to be read
  abbrev pub StopsGiving : (number : ℕ) → EndState → (ds : List (Delivery A)) → Pumped → EndState
      → (us : List (Delivery A)) → (m : ℕ) → Type 0
  StopsGiving k a ds Moved b us m = length ds + 1 ≤ length us
  StopsGiving k a ds Nothing b us m = (read a k read_limit ≡ (Ok reading.Nothing, b)) × (us ≡ ds)
  StopsGiving k a ds Stuck b us m = (us ≡ ds) × ((has_last us ≡ true) ⊎ (m ≡ 0) ⊎ ((why : EndError) × (read a k read_limit ≡ (Err why, a))))
  StopsGiving k a ds NoMemory b us m = Unit {0}

  -- ---- all tries of a ring

  -- of a writer's ring ts was removed and ks was known to be in it, and by now us is removed: all of these, or the writer's end, or all
  -- before an item that the end refuses, or 64 items more
  pub data Found (e : EndState) (k : ℕ) (ts ks us : List (Item A)) : Type 0 where
    all : IsPrefix (ts ++ ks) us → Found e k ts ks us
    ended : has_end us ≡ true → Found e k ts ks us
    refused : (x : Item A) (rest : List (Item A)) → IsPrefix (ts ++ ks) (us ++ x ∷ rest) → Refuses e k x → Found e k ts ks us
    many : length ts + 64 ≤ length us → Found e k ts ks us

  -- into a reader's ring ds was put and room for n more was known, and now us is put: all for which there was room, or the last,
  -- or all that a read gives, or the end refuses to be read, or 64 more
  pub data FoundRead (e : EndState) (k : ℕ) (ds : List (Delivery A)) (n : ℕ) (us : List (Delivery A)) : Type 0 where
    full : length ds + n ≤ length us → FoundRead e k ds n us
    over : has_last us ≡ true → FoundRead e k ds n us
    nothing : (b : EndState) → read e k read_limit ≡ (Ok reading.Nothing, b) → FoundRead e k ds n us
    refused : (why : EndError) → read e k read_limit ≡ (Err why, e) → FoundRead e k ds n us
    many : length ds + 64 ≤ length us → FoundRead e k ds n us

  -- on the way from a to b the ring of the writer j of the stream at the place s was found so
  pub record Tried (a : Flow A) (known : List (List (Item A))) (s j : ℕ) (b : Flow A) : Type 0 where
    pub mid : Flow A
    pub before : Flows a mid
    pub after : Flows mid b
    pub found : Found mid.core (s + 1) (inlet_at a.inlets (8 * s + j)).taken (known_at known (8 * s + j)) (inlet_at mid.inlets (8 * s + j)).taken

  pub record TriedRead (a : Flow A) (room : List ℕ) (s : ℕ) (b : Flow A) : Type 0 where
    pub mid : Flow A
    pub before : Flows a mid
    pub after : Flows mid b
    pub found : FoundRead mid.core (s + 1) (outlet_at a.outlets s).put (room_at room s) (outlet_at mid.outlets s).put

  -- each ring of each open stream was tried
  pub record AllTried (a : Flow A) (known : List (List (Item A))) (room : List ℕ) (b : Flow A) : Type 0 where
    pub writers : (s j : ℕ) → s < 64 → j < 8 → has_stream a.core (s + 1) ≡ true → Tried a known s j b
    pub readers : (s : ℕ) → s < 64 → has_stream a.core (s + 1) ≡ true → TriedRead a room s b
