-- Prepares that are lost on their way over hops, or whose answers are. Each hop that waits for an answer meets a fault.
use Rattle.std.specs.Prelude.{◌≡◌, ℕ, zero, suc, ◌+◌, ◌*◌, pos, ◌≤ℤ◌, ◌+ℤ◌, ℤ, int_le, false, List, [], ◌∷◌}
use Rattle.std.specs.declared.option.Option.TheVariants.{None, Some}
use Rattle.std.specs.List.{AllByRecursion}
use Rattle.st_hop.specs.declared.ticket.Open.{Open}
use Rattle.st_sender.specs.Sending.{Config, Sending}
use Rattle.st_world_quiet.specs.Left.{all_money_left}
use Rattle.st_world_quiet.specs.Calm.{IsCalm}
use Rattle.st_hop.specs.Hop.{Hop}
use Rattle.st_hop.specs.Arriving.{Arrival, Answers, Forwards, arrived}
use Rattle.st_hop.specs.Settling.{settled}
use Rattle.st_end.specs.State.{EndState}
use Rattle.st_end.specs.Sending.{answer_time}
use Rattle.st_end.specs.Answers.{ended}
use Rattle.st_world_quiet.specs.Mirrored.{IsReadOut}
use Rattle.st_world_quiet.specs.Rounds.{IsWritten}
use Rattle.st_world_quiet.specs.Losses.{AnswerLost, Delivered, Fate, PrepareLost}
use Rattle.st_world_quiet.specs.Calls.{take_each, write_each}
use Rattle.st_world_quiet.specs.Trips.{Passage}
use Rattle.st_world_quiet.specs.LostTrips.{Departure, once_gone, once_unanswered}
use Rattle.st_world_quiet.specs.Crossing.{Crossed, crossed, less_time}
use Rattle.st_world_quiet.specs.Chains.{Crossing, over}

-- ---- hops

-- a hop meets a fault for what it sent on
abbrev pub faulted : Hop → Open → (now : ℤ) → Hop
faulted h t now = (settled h t None now).1

abbrev pub lost_one : (onward : List ℕ → List Hop) → (others : List Hop) → (now : ℤ) → Arrival × Hop → List Hop
lost_one onward others now (Answers bytes, h) = h ∷ others
lost_one onward others now (Forwards t account text, h) = faulted h t now ∷ onward text

-- what a Prepare leaves that is lost after it crossed `past` hops
unfoldable pub lost_past : (past : ℕ) → List Hop → (bytes : List ℕ) → (now : ℤ) → List Hop
lost_past zero hops bytes now = hops
lost_past (suc m) [] bytes now = []
lost_past (suc m) (h ∷ others) bytes now = lost_one (λ text. lost_past m others text now) others now (arrived h 0 bytes now)

-- the hops and the far end
pub record Beyond : Type 0 where
  pub hops : List Hop
  pub end : EndState

abbrev pub beyond : Crossed → Beyond
beyond c = record { hops = c.hops; end = c.end }

abbrev pub unanswered_one : (onward : List ℕ → Beyond) → (others : List Hop) → EndState → (now : ℤ) → Arrival × Hop → Beyond
unanswered_one onward others f now (Answers bytes, h) = record { hops = h ∷ others; end = f }
unanswered_one onward others f now (Forwards t account text, h) = let c = onward text in record { hops = faulted h t now ∷ c.hops; end = c.end }

-- what a Prepare leaves that crosses all hops, and whose answer does not reach the `past` hops next to the sender
unfoldable pub unanswered_past : (past : ℕ) → List Hop → EndState → (bytes : List ℕ) → (now : ℤ) → Beyond
unanswered_past zero hops f bytes now = beyond (crossed hops f bytes now)
unanswered_past (suc m) [] f bytes now = beyond (crossed [] f bytes now)
unanswered_past (suc m) (h ∷ others) f bytes now = unanswered_one (λ text. unanswered_past m others f text now) others f now (arrived h 0 bytes now)

-- hops at the opening: they have room for all money that is left, and for what this number of lost answers may carry
abbrev pub AreWide : (destination : List ℕ) (answers : ℕ) (config : Config) → Sending → List Hop → Type 0
AreWide destination answers config s hops = AllByRecursion (IsCalm destination s.last s.packet_limit (all_money_left s + answers * config.packet_limit)) hops

-- ---- a Send over hops, from bytes to bytes

pub record CrossedTrip (n : ℕ → ℕ) (e : EndState) (hops : List Hop) (f g : EndState) (others : List Hop) (h : EndState) : Type 0 where
  pub passage : Passage e
  pub moment : pos 0 ≤ℤ passage.later
  pub in_time : int_le (less_time hops (passage.now +ℤ answer_time)) passage.later ≡ false
  pub passed : others ≡ (over hops f passage).hops
  pub reads : IsReadOut (over hops f passage).end.receiving h.receiving
  pub read_alone : h ≡ record (over hops f passage).end { receiving = h.receiving }
  pub writes : IsWritten n (ended passage.gone passage.flight (Some (over hops f passage).answer)).sending g.sending
  pub written_alone : g ≡ record (ended passage.gone passage.flight (Some (over hops f passage).answer)) { sending = g.sending }

-- lost past some of the hops, none or all
pub record LostCrossing (n : ℕ → ℕ) (e : EndState) (hops : List Hop) (f g : EndState) (others : List Hop) (h : EndState) : Type 0 where
  pub departure : Departure e
  pub past : ℕ
  pub later : ℤ
  pub moment : pos 0 ≤ℤ later
  pub in_time : int_le (less_time hops (departure.now +ℤ answer_time)) later ≡ false
  pub passed : others ≡ lost_past past hops departure.bytes later
  pub reads : IsReadOut f.receiving h.receiving
  pub read_alone : h ≡ record f { receiving = h.receiving }
  pub writes : IsWritten n (once_gone departure).sending g.sending
  pub written_alone : g ≡ record (once_gone departure) { sending = g.sending }

pub record UnansweredCrossing (n : ℕ → ℕ) (e : EndState) (hops : List Hop) (f g : EndState) (others : List Hop) (h : EndState) : Type 0 where
  pub passage : Passage e
  pub past : ℕ
  pub moment : pos 0 ≤ℤ passage.later
  pub in_time : int_le (less_time hops (passage.now +ℤ answer_time)) passage.later ≡ false
  pub passed : others ≡ (unanswered_past past hops f passage.bytes passage.later).hops
  pub reads : IsReadOut (unanswered_past past hops f passage.bytes passage.later).end.receiving h.receiving
  pub read_alone : h ≡ record (unanswered_past past hops f passage.bytes passage.later).end { receiving = h.receiving }
  pub writes : IsWritten n (once_unanswered passage).sending g.sending
  pub written_alone : g ≡ record (once_unanswered passage) { sending = g.sending }

abbrev pub FatedCrossing : Fate → (n : ℕ → ℕ) → EndState → List Hop → EndState → EndState → List Hop → EndState → Type 0
FatedCrossing Delivered n e hops f g others h = CrossedTrip n e hops f g others h
FatedCrossing PrepareLost n e hops f g others h = LostCrossing n e hops f g others h
FatedCrossing AnswerLost n e hops f g others h = UnansweredCrossing n e hops f g others h

-- one for each fate
abbrev pub FatedCrossings : (n : ℕ → ℕ) → List Fate → EndState → List Hop → EndState → EndState → List Hop → EndState → Type 0
FatedCrossings n [] e hops f g others h = (g ≡ e) × (others ≡ hops) × (h ≡ f)
FatedCrossings n (fate ∷ fates) e hops f g others h =
    (mid : EndState) × (between : List Hop) × (beyond : EndState)
    × FatedCrossing fate n e hops f mid between beyond × FatedCrossings n fates mid between beyond g others h

-- ---- by calls: a read of each stream that has room for what one packet brings, and a write on each of what fits

pub record LostCross (input : ℕ → List ℕ) (limit : ℕ) (e : EndState) (hops : List Hop) (f g : EndState) (others : List Hop) (h : EndState) : Type 0 where
  pub departure : Departure e
  pub past : ℕ
  pub later : ℤ
  pub moment : pos 0 ≤ℤ later
  pub in_time : int_le (less_time hops (departure.now +ℤ answer_time)) later ≡ false
  pub passed : others ≡ lost_past past hops departure.bytes later
  pub reads : h ≡ take_each limit 0 65 f
  pub writes : g ≡ write_each input 0 65 (once_gone departure)

pub record UnansweredCross (input : ℕ → List ℕ) (limit : ℕ) (e : EndState) (hops : List Hop) (f g : EndState) (others : List Hop) (h : EndState) : Type 0 where
  pub passage : Passage e
  pub past : ℕ
  pub moment : pos 0 ≤ℤ passage.later
  pub in_time : int_le (less_time hops (passage.now +ℤ answer_time)) passage.later ≡ false
  pub passed : others ≡ (unanswered_past past hops f passage.bytes passage.later).hops
  pub reads : h ≡ take_each limit 0 65 (unanswered_past past hops f passage.bytes passage.later).end
  pub writes : g ≡ write_each input 0 65 (once_unanswered passage)

abbrev pub FatedCross : Fate → (input : ℕ → List ℕ) → (limit : ℕ) → EndState → List Hop → EndState → EndState → List Hop → EndState → Type 0
FatedCross Delivered input limit e hops f g others h = Crossing input limit e hops f g others h
FatedCross PrepareLost input limit e hops f g others h = LostCross input limit e hops f g others h
FatedCross AnswerLost input limit e hops f g others h = UnansweredCross input limit e hops f g others h

-- one for each fate
abbrev pub FatedCrosses : (input : ℕ → List ℕ) → (limit : ℕ) → List Fate → EndState → List Hop → EndState → EndState → List Hop → EndState → Type 0
FatedCrosses input limit [] e hops f g others h = (g ≡ e) × (others ≡ hops) × (h ≡ f)
FatedCrosses input limit (fate ∷ fates) e hops f g others h =
    (mid : EndState) × (between : List Hop) × (beyond : EndState)
    × FatedCross fate input limit e hops f mid between beyond × FatedCrosses input limit fates mid between beyond g others h
