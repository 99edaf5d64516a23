-- What a run leaves: a world without its links.
use Rattle.std.specs.Prelude.{◌≡◌, ◌⊎◌, ℕ, ℤ, Bool, true, false, List, Option}
use Rattle.std.specs.Ordering.{nat_cmp}
use Rattle.std.specs.FinMap as fmap
use Rattle.st_world_parts.specs.Sides.{Side, Both}
use Rattle.st_world_parts.specs.StreamLogs.{StreamLog}
use Rattle.st_world_parts.specs.State.{World, Party, Node, Direction, SentPrepare, Place}
use Rattle.st_world_parts.specs.Events.{Event, OpenStream, Write, Read, Close, Abort, Offer, ReceiveMax, Send, Arrive, AnswerArrives, Fault, Crash, Refused, Told, NoMemory}
use Rattle.st_world.specs.Steps.{ArrivesAt, Back, BackAt, Meets, RefusesAt, with_refusal}
use Rattle.st_world.specs.Runs.{Chain, Run, opening}
use Rattle.st_world.specs.Holds.{Holds}

pub record Left : Type 0 where
  pub ends : Both Party
  pub nodes : List Node
  pub ledgers : Both (fmap.FinMap nat_cmp StreamLog)
  pub refused : Bool

abbrev pub in_world : Left → List (Both Direction) → World
in_world t ls = record { ends = t.ends; nodes = t.nodes; links = ls; ledgers = t.ledgers; refused = t.refused }

abbrev pub left_of : World → Left
left_of w = record { ends = w.ends; nodes = w.nodes; ledgers = w.ledgers; refused = w.refused }

-- the call found no memory
abbrev pub lacks : Told → Bool
lacks NoMemory = true
lacks told = false

-- the event may run out of memory at an end or a hop: a close, an abort, an offer and a receive max need none. The rule of an event
-- has no refusal for lack of memory of an outcome, of a crash or of a refused call
abbrev pub MayLack : Event → Type 0
MayLack (OpenStream side) = Unit {0}
MayLack (Write side k xs) = Unit {0}
MayLack (Read side k limit) = Unit {0}
MayLack (Close side k) = ⊥
MayLack (Abort side k code) = ⊥
MayLack (Offer side k amount) = ⊥
MayLack (ReceiveMax side k amount) = ⊥
MayLack (Send side iv now) = Unit {0}
MayLack (Arrive link way which now) = Unit {0}
MayLack (AnswerArrives link way j now) = Unit {0}
MayLack (Fault link way which now) = Unit {0}
MayLack (Crash i) = Unit {0}
MayLack Refused = Unit {0}

-- a Prepare that is there comes to this place
abbrev pub MeetsAt : World → (link : ℕ) → (way : Side) → (which : ℕ) → (now : ℤ) → SentPrepare → Place → Told → World → Type 0
MeetsAt w link way which now p place told after =
    ArrivesAt w link way which now p place told after
    ⊎ ((mid : World) × (told ≡ NoMemory) × RefusesAt w link way which now p place mid × (after ≡ with_refusal mid))

-- ---- the same of what is left and the links, before and after

-- this event is met
abbrev pub MeetsOver : Left → List (Both Direction) → Event → Told → Left → List (Both Direction) → Type 0
MeetsOver old ls event told new ks = Meets (in_world old ls) event told (in_world new ks)

-- a Prepare arrives at this place
abbrev pub ComesOver : Left → List (Both Direction) → (link : ℕ) → (way : Side) → (which : ℕ) → (now : ℤ) → SentPrepare → Place → Told
    → Left → List (Both Direction) → Type 0
ComesOver old ls link way which now p place told new ks = MeetsAt (in_world old ls) link way which now p place told (in_world new ks)

-- the outcome of a Prepare arrives at this place
abbrev pub ReturnsOver : Left → List (Both Direction) → (link : ℕ) → (way : Side) → ℕ → (now : ℤ) → SentPrepare
    → (outcome : Option (List ℕ)) → Place → Told → Left → List (Both Direction) → Type 0
ReturnsOver old ls link way j now p outcome place told new ks =
    BackAt (in_world old ls) link way j now p outcome place told (in_world new ks)

-- the outcome of a Prepare arrives at whoever sent it, if it is one of the link's
abbrev pub GoesBackOver : Left → List (Both Direction) → (link : ℕ) → (way : Side) → ℕ → (now : ℤ) → (outcome : Option (List ℕ))
    → Option SentPrepare → Told → Left → List (Both Direction) → Type 0
GoesBackOver old ls link way j now outcome put told new ks =
    Back (in_world old ls) link way j now outcome put told (in_world new ks)

-- a world that some run from an opening reaches
abbrev pub IsReached : World → Type 0
IsReached w = (c : Chain) × (events : List Event) × Run (opening c) events w

-- what is left is that of a world to which these events led, of which all holds that holds of a run
pub record LeftBy (before : World) (events : List Event) (t : Left) : Type 0 where
  pub world : World
  pub run : Run before events world
  pub holds : Holds world
  pub left : t ≡ left_of world
