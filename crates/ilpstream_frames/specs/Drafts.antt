-- The chunks that a packet brings, and drafts of the inboxes that it changes.
use Rattle.std.specs.Prelude.{◌≡◌, ◌⊎◌, ℕ, List, [], ◌∷◌, Result, Ok, Err, IsOk}
use Rattle.std.specs.Option.{option_or}
use Rattle.st_frames.specs.Frames.{Known, Packet}
use Rattle.st_reassembly.specs.declared.error.InboxError.TheVariants as inbox
use Rattle.ilpstream_frames.specs.declared.error.LineError.{LineError}
use Rattle.ilpstream_frames.specs.declared.error.LineError.TheVariants as line
use Rattle.ilpstream_frames.specs.declared.streams.Pieces.{Pieces}
use Rattle.ilpstream_frames.specs.declared.streams.Pieces.TheVariants.{None, One, Several}
use Rattle.ilpstream_frames.specs.Inboxes.{Inboxes, after_frames, after_packet, after_piece, frames_from}

-- all of these frames do to inboxes what the chunks do, and then the rest; nothing is said if there are several
abbrev pub StandFor : Pieces → List (ℕ × Known) → List (ℕ × Known) → Type 0
StandFor None rest all = (s : Inboxes) → after_frames s all ≡ frames_from (Ok s) rest
StandFor (One stream offset bytes) rest all = (s : Inboxes) → after_frames s all ≡ frames_from (after_piece s stream offset bytes.now) rest
StandFor Several rest all = Unit {0}

-- the drafts, and the current inboxes at places without a draft
abbrev pub over : Inboxes → Inboxes → Inboxes
over [] standing = standing
over (d ∷ ds) [] = []
over (d ∷ ds) (s ∷ ss) = option_or d s ∷ over ds ss

-- out of memory in an inbox
abbrev pub no_memory : LineError
no_memory = line.Inbox inbox.NoMemory

-- the error is the refusal that the definition names, or out of memory
abbrev pub IsPieceError : Result Inboxes LineError → LineError → Type 0
IsPieceError meant e = (meant ≡ Err e) ⊎ (e ≡ no_memory)

-- the same of a packet; out of memory is for one that can be read
abbrev pub IsPacketError : Inboxes → Result Packet LineError → LineError → Type 0
IsPacketError s packet e = (after_packet s packet ≡ Err e) ⊎ (IsOk packet × (e ≡ no_memory))
