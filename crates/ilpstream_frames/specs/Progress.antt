-- The part of the answer so far, in the middle of the input.
use Rattle.std.specs.Prelude.{◌≡◌, ◌⊎◌, ◌<◌, length, Result, Ok, Err, IsOk, ℕ, Bool, true, false, ◌||◌, List, [], ◌∷◌, ◌++◌, Option, Some, None, ⊤}
use Rattle.std.specs.Io.KnownBytes.{Appends}
use Rattle.std.specs.Str.Lines.{lines}
use Rattle.ilpstream_frames.specs.Answers.{Answered, IsAnswer, after_line, packet_of_line}
use Rattle.ilpstream_frames.specs.Drafts.{no_memory, IsPacketError}
use Rattle.st_frames.specs.Frames.{Packet}
use Rattle.ilpstream_frames.specs.Texts.{line_text}
use Rattle.ilpstream_frames.specs.declared.error.LineError.{LineError}
use Rattle.ilpstream_frames.specs.Inboxes.{Inboxes, opening, after_packet, runs_text}
use Rattle.ilpstream_frames.specs.LineSoFar.{LineState, StandsFor, no_line}

-- the line so far, its index, the inboxes before it, and whether an earlier line was refused
pub record State : Type 0 where
  pub line : LineState
  pub index : ℕ
  pub inboxes : Inboxes
  pub refused : Bool

-- before the first byte
abbrev pub at_start : State
at_start = record { line = no_line; index = 1; inboxes = opening; refused = false }

-- what a line prints at once
abbrev pub told : ℕ → Option LineError → List ℕ
told i None = []
told i (Some e) = line_text i e

-- what a packet, if there is one, does to the inboxes, and whether it is refused
abbrev pub HasPacketEffect : Inboxes → Result Packet LineError → Option LineError → Inboxes → Type 0
HasPacketEffect s packet None t = after_packet s packet ≡ Ok t
HasPacketEffect s packet (Some e) t = (t ≡ s) × IsPacketError s packet e

-- what a line with this text does to the inboxes, and whether it is refused
abbrev pub HasEffect : Inboxes → List ℕ → Option LineError → Inboxes → Type 0
HasEffect s l None t = ((length l ≡ 0) × (t ≡ s)) ⊎ ((0 < length l) × (after_line s l ≡ Ok t))
HasEffect s l (Some e) t = (t ≡ s) × (0 < length l) × ((after_line s l ≡ Err e) ⊎ (IsOk (packet_of_line l) × (e ≡ no_memory)))

-- a line with this text takes s to t, and `said` is written at once
abbrev pub AnswersLine : State → List ℕ → List ℕ → State → Type 0
AnswersLine s l said t = (ls : List (List ℕ)) (text : List ℕ) (later : Bool) → Answered t.index t.inboxes ls text later
    → (all : Bool) × Answered s.index s.inboxes (l ∷ ls) (said ++ text) all × ((s.refused || all) ≡ (t.refused || later))

-- after a line so far, this text may follow for the bytes that are left; `any` says whether some line of the input is refused
abbrev pub MayFollow : State → List ℕ → List ℕ → List ℕ → Bool → Type 0
MayFollow s line left text any = (later : Bool) × Answered s.index s.inboxes (lines (line ++ left)) text later × ((s.refused || later) ≡ any)

-- a chunk of the input takes s to t, and `said` is written for it
abbrev pub AnswersPiece : State → List ℕ → List ℕ → State → Type 0
AnswersPiece s piece said t = (line : List ℕ) → StandsFor s.line line → (next : List ℕ) × StandsFor t.line next
    × ((left text : List ℕ) (any : Bool) → MayFollow t next left text any → MayFollow s line (piece ++ left) (said ++ text) any)

-- `said` is written for the bytes that are left, and some text may follow it
abbrev pub MayBegin : State → List ℕ → List ℕ → Type 0
MayBegin s left said = (line : List ℕ) → StandsFor s.line line → (text : List ℕ) × (any : Bool) × MayFollow s line left (said ++ text) any

-- what was written for the input so far, and what may follow, is an answer to all of it
abbrev pub Covers : Option (List ℕ) → Option (List ℕ) → Option (List ℕ) → Option (List ℕ) → State → Type 0
Covers None left before now s = ⊤
Covers (Some input) None before now s = ⊥
Covers (Some input) (Some left) before now s = (line : List ℕ) × StandsFor s.line line × ((done : List ℕ) × Appends before now done
    × ((text : List ℕ) (any : Bool) → MayFollow s line left text any → IsAnswer input (done ++ text) any))

-- all lines were answered, and the runs are still to be written
abbrev pub CoversLines : Option (List ℕ) → Option (List ℕ) → Option (List ℕ) → State → Type 0
CoversLines None before now s = ⊤
CoversLines (Some input) before now s = (done : List ℕ) × Appends before now done × IsAnswer input (done ++ runs_text s.inboxes) s.refused

-- after a read, which may have been the last
abbrev pub AfterTurn : Bool → Option (List ℕ) → Option (List ℕ) → Option (List ℕ) → Option (List ℕ) → State → Type 0
AfterTurn false input left before now s = Covers input left before now s
AfterTurn true input left before now s = CoversLines input before now s

-- what was said is appended, and this holds of it
abbrev pub SaysMore : (old new : List ℕ) → (List ℕ → Type 0) → Type 0
SaysMore old new Holds = (said : List ℕ) × (new ≡ old ++ said) × Holds said
