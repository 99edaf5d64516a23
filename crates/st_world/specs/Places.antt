-- What an event does to an end or a hop and to the links.
use Rattle.std.specs.Prelude.{◌≡◌, ℕ, ℤ, List}
use Rattle.std.specs.declared.option.Option.{Option}
use Rattle.st_world_parts.specs.Parts.{lane_in, with_lane_in, EndSends, EndMet, EndBack, HopMet, HopBack}
use Rattle.st_world_parts.specs.Sides.{Side, Both}
use Rattle.st_world_parts.specs.State.{Party, Node, SentPrepare, Direction}
use Rattle.st_world_parts.specs.Events.{Told}

abbrev pub Links : Type 0
Links = List (Both Direction)

abbrev pub LinkSends : (link : ℕ) → (way : Side) → (iv : List ℕ) → (now : ℤ) → Told → (p q : Party) → (ls ks : Links) → Type 0
LinkSends link way iv now told p q ls ks = (y : Direction) × EndSends iv now told p q (lane_in ls link way) y × (ks ≡ with_lane_in ls link way y)

abbrev pub LinkMet : (link : ℕ) → (way : Side) → (which : ℕ) → (bytes : List ℕ) → (now : ℤ) → Told → (p q : Party) → (ls ks : Links) → Type 0
LinkMet link way which bytes now told p q ls ks = (y : Direction) × EndMet which bytes now told p q (lane_in ls link way) y × (ks ≡ with_lane_in ls link way y)

abbrev pub LinkBack : (link : ℕ) → (way : Side) → SentPrepare → ℕ → (outcome : Option (List ℕ)) → Told → (p q : Party) → (ls ks : Links) → Type 0
LinkBack link way z j outcome told p q ls ks = (y : Direction) × EndBack z j outcome told p q (lane_in ls link way) y × (ks ≡ with_lane_in ls link way y)

-- the lane of a link, and then that of another
abbrev pub HopsMet : (link next : ℕ) → (way : Side) → (which : ℕ) → (bytes : List ℕ) → (now : ℤ) → Told → (n m : Node) → (ls ks : Links) → Type 0
HopsMet link next way which bytes now told n m ls ks =
    (x y : Direction) × HopMet way which bytes now told n m (lane_in ls next way) x (lane_in ls link way) y
    × (ks ≡ with_lane_in (with_lane_in ls link way y) next way x)

abbrev pub HopsBack : (link prev : ℕ) → (way : Side) → SentPrepare → ℕ → (outcome : Option (List ℕ)) → (now : ℤ) → Told → (n m : Node)
    → (ls ks : Links) → Type 0
HopsBack link prev way z j outcome now told n m ls ks =
    (y x : Direction) × HopBack z j outcome now told n m (lane_in ls link way) y (lane_in ls prev way) x
    × (ks ≡ with_lane_in (with_lane_in ls link way y) prev way x)
