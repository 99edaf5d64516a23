-- What the command `frames` writes for its input.
use Rattle.std.specs.Prelude.{◌≡◌, ℕ, ◌+◌, ◌<◌, Bool, true, false, List, [], ◌∷◌, ◌++◌, length, Result, Ok, Err, IsOk}
use Rattle.std.specs.Str.Lines.{lines}
use Rattle.hex.specs.Hex.{decode_of}
use Rattle.hex.specs.declared.error.FromHexError.{FromHexError}
use Rattle.st_frames.specs.declared.error.FrameError.{FrameError}
use Rattle.st_frames.specs.Frames.{Packet}
use Rattle.st_frames.specs.Reading.{packet_at}
use Rattle.st_reassembly.specs.declared.error.InboxError.TheVariants as inbox
use Rattle.ilpstream_frames.specs.declared.error.LineError.{LineError}
use Rattle.ilpstream_frames.specs.declared.error.LineError.TheVariants as line
use Rattle.ilpstream_frames.specs.Inboxes.{Inboxes, opening, after_packet, runs_text}
use Rattle.ilpstream_frames.specs.Texts.{line_text}

abbrev pub by_packet : Result Packet FrameError → Result Packet LineError
by_packet (Ok p) = Ok p
by_packet (Err e) = Err (line.Packet e)

-- the ILP packet type of a Prepare (RFC 0027), which the STREAM packet repeats
abbrev pub prepare : ℕ
prepare = 12

-- the packet in the bytes of hexadecimal text, if it has any
abbrev pub packet_of_bytes : Result (List ℕ) FromHexError → Result Packet LineError
packet_of_bytes (Ok bytes) = by_packet (packet_at prepare bytes)
packet_of_bytes (Err e) = Err line.NotHex

-- the plain STREAM packet of a Prepare that a line spells in hexadecimal
unfoldable pub packet_of_line : List ℕ → Result Packet LineError
packet_of_line text = packet_of_bytes (decode_of text)

-- the inboxes after a line's packet: all of its frames took effect, or none
unfoldable pub after_line : Inboxes → List ℕ → Result Inboxes LineError
after_line s text = after_packet s (packet_of_line text)

-- what may be written for the lines from line i on, and whether one of them is refused. A line with no text is skipped; a line that can be
-- read may be refused memory, and then it too changes nothing.
pub data Answered : ℕ → Inboxes → List (List ℕ) → List ℕ → Bool → Type 0 where
  ended : (i : ℕ) (s : Inboxes) → Answered i s [] (runs_text s) false
  skipped : (i : ℕ) (s : Inboxes) (ls : List (List ℕ)) (text : List ℕ) (any : Bool) → Answered (i + 1) s ls text any → Answered i s ([] ∷ ls) text any
  taken : (i : ℕ) (s t : Inboxes) (l : List ℕ) (ls : List (List ℕ)) (text : List ℕ) (any : Bool) → 0 < length l → after_line s l ≡ Ok t
      → Answered (i + 1) t ls text any → Answered i s (l ∷ ls) text any
  refused : (i : ℕ) (s : Inboxes) (l : List ℕ) (e : LineError) (ls : List (List ℕ)) (text : List ℕ) (any : Bool) → 0 < length l → after_line s l ≡ Err e
      → Answered (i + 1) s ls text any → Answered i s (l ∷ ls) (line_text i e ++ text) true
  no_memory : (i : ℕ) (s : Inboxes) (l : List ℕ) (ls : List (List ℕ)) (text : List ℕ) (any : Bool) → 0 < length l → IsOk (packet_of_line l)
      → Answered (i + 1) s ls text any → Answered i s (l ∷ ls) (line_text i (line.Inbox inbox.NoMemory) ++ text) true

-- what may be written for an input
abbrev pub IsAnswer : List ℕ → List ℕ → Bool → Type 0
IsAnswer input text any = Answered 1 opening (lines input) text any
