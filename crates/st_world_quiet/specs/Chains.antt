-- A lossless run of two ends with hops between them.
use Rattle.std.specs.Prelude.{◌≡◌, ℕ, zero, suc, pos, ◌≤ℤ◌, ◌+ℤ◌, int_le, false, List}
use Rattle.std.specs.declared.option.Option.TheVariants.{Some}
use Rattle.st_hop.specs.Hop.{Hop}
use Rattle.st_end.specs.State.{EndState}
use Rattle.st_end.specs.Sending.{answer_time}
use Rattle.st_end.specs.Answers.{ended}
use Rattle.st_world_quiet.specs.Quiet.{IsQuiet}
use Rattle.st_world_quiet.specs.Mirrored.{IsAbreast}
use Rattle.st_world_quiet.specs.Calls.{AreHeldBack, lengths, take_each, write_each}
use Rattle.st_world_quiet.specs.Trips.{AreJoined, CanTell, Passage}
use Rattle.st_world_quiet.specs.Crossing.{Crossed, crossed, less_time}

-- the two ends between two rounds
pub record Stands (input : ℕ → List ℕ) (e f : EndState) : Type 0 where
  pub quiet : IsQuiet (lengths input) e.sending
  pub abreast : IsAbreast (lengths input) e.sending f.receiving
  pub joined : AreJoined e f
  pub tellable : CanTell f.receiving
  pub held_back : AreHeldBack (lengths input) e.sending

-- the Prepare crosses all hops at the moment at which it arrives
abbrev pub over : {e : EndState} → List Hop → (f : EndState) → Passage e → Crossed
over hops f w = crossed hops f w.bytes w.later

-- a trip over hops by calls: a Prepare that comes before it expires and its answer, a read of each stream, and a write on
-- each of what fits
pub record Crossing (input : ℕ → List ℕ) (limit : ℕ) (e : EndState) (hops : List Hop) (f : EndState) (g : EndState)
    (others : List Hop) (h : EndState) : Type 0 where
  pub passage : Passage e
  pub moment : pos 0 ≤ℤ passage.later
  pub in_time : int_le (less_time hops (passage.now +ℤ answer_time)) passage.later ≡ false
  pub passed : others ≡ (over hops f passage).hops
  pub reads : h ≡ take_each limit 0 65 (over hops f passage).end
  pub writes : g ≡ write_each input 0 65 (ended passage.gone passage.flight (Some (over hops f passage).answer))

-- `count` of them
abbrev pub Crossings : (ℕ → List ℕ) → (limit count : ℕ) → EndState → List Hop → EndState → EndState → List Hop → EndState → Type 0
Crossings input limit zero e hops f g others h = (g ≡ e) × (others ≡ hops) × (h ≡ f)
Crossings input limit (suc m) e hops f g others h =
    (mid : EndState) × (between : List Hop) × (beyond : EndState)
    × Crossing input limit e hops f mid between beyond × Crossings input limit m mid between beyond g others h
