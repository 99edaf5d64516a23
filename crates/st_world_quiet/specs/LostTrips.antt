-- A run of two ends with nothing between them, from bytes to bytes, in which some Sends are lost.
use Rattle.std.specs.Prelude.{◌≡◌, ℕ, ◌+◌, ◌<◌, ◌≤◌, ℤ, List, [], ◌∷◌, length}
use Rattle.std.specs.declared.option.Option.TheVariants.{None}
use Rattle.st_reassembly.specs.Run.{run}
use Rattle.st_receiver.specs.Streams.{incoming_at}
use Rattle.st_end.specs.State.{EndState}
use Rattle.st_end.specs.Sending.{Goes}
use Rattle.st_end.specs.Answers.{ended}
use Rattle.st_end.specs.declared.flight.Open.{Open}
use Rattle.st_world_quiet.specs.Mirrored.{IsReadOut}
use Rattle.st_world_quiet.specs.Rounds.{IsWritten}
use Rattle.st_world_quiet.specs.Losses.{AnswerLost, Delivered, Fate, PrepareLost}
use Rattle.st_world_quiet.specs.Calls.{take_each, write_each}
use Rattle.st_world_quiet.specs.Trips.{Passage, Trip, Turn, once_received}

-- a Prepare that goes and never comes
pub record Departure (e : EndState) : Type 0 where
  pub iv : List ℕ
  pub now : ℤ
  pub flight : Open
  pub bytes : List ℕ
  pub gone : EndState
  pub long : length iv ≡ 12
  pub goes : Goes e iv now flight bytes gone
  pub left : e.sending.last + 1 < e.sending.config.packets  -- the Prepares of the connection are not used up

-- the first end once it met a fault
abbrev pub once_gone : {e : EndState} → Departure e → EndState
once_gone w = ended w.gone w.flight None

abbrev pub once_unanswered : {e : EndState} → Passage e → EndState
once_unanswered w = ended w.gone w.flight None

pub record LostTrip (n : ℕ → ℕ) (e f g h : EndState) : Type 0 where
  pub departure : Departure e
  pub reads : IsReadOut f.receiving h.receiving
  pub read_alone : h ≡ record f { receiving = h.receiving }
  pub writes : IsWritten n (once_gone departure).sending g.sending
  pub written_alone : g ≡ record (once_gone departure) { sending = g.sending }

-- a Prepare that came in time, and whose answer was lost
pub record UnansweredTrip (n : ℕ → ℕ) (e f g h : EndState) : Type 0 where
  pub passage : Passage e
  pub reads : IsReadOut (once_received f passage).receiving h.receiving
  pub read_alone : h ≡ record (once_received f passage) { receiving = h.receiving }
  pub writes : IsWritten n (once_unanswered passage).sending g.sending
  pub written_alone : g ≡ record (once_unanswered passage) { sending = g.sending }

abbrev pub FatedTrip : Fate → (n : ℕ → ℕ) → (e f g h : EndState) → Type 0
FatedTrip Delivered n e f g h = Trip n e f g h
FatedTrip PrepareLost n e f g h = LostTrip n e f g h
FatedTrip AnswerLost n e f g h = UnansweredTrip n e f g h

-- one for each fate
abbrev pub FatedTrips : (n : ℕ → ℕ) → List Fate → (e f g h : EndState) → Type 0
FatedTrips n [] e f g h = (g ≡ e) × (h ≡ f)
FatedTrips n (fate ∷ fates) e f g h = (mid : EndState) × (between : EndState) × FatedTrip fate n e f mid between × FatedTrips n fates mid between g h

-- ---- by calls: a read of each stream, with room for its contiguous bytes, and a write on each of what fits

pub record LostTurn (input : ℕ → List ℕ) (limit : ℕ) (e f g h : EndState) : Type 0 where
  pub departure : Departure e
  pub reads : h ≡ take_each limit 0 65 f
  pub writes : g ≡ write_each input 0 65 (once_gone departure)

pub record UnansweredTurn (input : ℕ → List ℕ) (limit : ℕ) (e f g h : EndState) : Type 0 where
  pub passage : Passage e
  pub room : (k : ℕ) → length (run (incoming_at (once_received f passage).receiving k).held) ≤ limit
  pub reads : h ≡ take_each limit 0 65 (once_received f passage)
  pub writes : g ≡ write_each input 0 65 (once_unanswered passage)

abbrev pub FatedTurn : Fate → (input : ℕ → List ℕ) → (limit : ℕ) → (e f g h : EndState) → Type 0
FatedTurn Delivered input limit e f g h = Turn input limit e f g h
FatedTurn PrepareLost input limit e f g h = LostTurn input limit e f g h
FatedTurn AnswerLost input limit e f g h = UnansweredTurn input limit e f g h

-- one for each fate
abbrev pub FatedTurns : (input : ℕ → List ℕ) → (limit : ℕ) → List Fate → (e f g h : EndState) → Type 0
FatedTurns input limit [] e f g h = (g ≡ e) × (h ≡ f)
FatedTurns input limit (fate ∷ fates) e f g h =
    (mid : EndState) × (between : EndState) × FatedTurn fate input limit e f mid between × FatedTurns input limit fates mid between g h
