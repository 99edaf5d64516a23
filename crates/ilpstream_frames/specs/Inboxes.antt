-- The inboxes of a connection's streams, and what a packet does to them.
use Rattle.std.specs.Prelude.{ℕ, ◌+◌, ◌-◌, nat_le, ◌&&◌, Bool, if◌then◌else◌, List, [], ◌∷◌, ◌++◌, replicate, slice_index_or, slice_set, Option, Some, None, Result, Ok, Err}
use Rattle.std.specs.Option.{unwrap_or, option_or}
use Rattle.st_reassembly.specs.Held.{Held, nothing_held}
use Rattle.st_reassembly.specs.Inserting.{inserted}
use Rattle.st_reassembly.specs.Run.{run}
use Rattle.st_reassembly.specs.declared.error.InboxError.{InboxError}
use Rattle.st_frames.specs.Frames.{Known, Packet, StreamData}
use Rattle.ilpstream_frames.specs.declared.error.LineError.{LineError}
use Rattle.ilpstream_frames.specs.declared.error.LineError.TheVariants.{StreamId, Inbox}
use Rattle.ilpstream_frames.specs.Texts.{stream_text}

-- what is buffered of stream n at place n - 1, and `None` there if no frame named it
abbrev pub Inboxes : Type 0
Inboxes = List (Option Held)

-- the draft at a place, else the inbox there, else an empty one
abbrev pub draft_at : (drafts current : Inboxes) → (place : ℕ) → Held
draft_at drafts current place = unwrap_or (option_or (slice_index_or drafts place None) (slice_index_or current place None)) nothing_held

-- no stream was named
abbrev pub opening : Inboxes
opening = replicate 64 None

-- what is buffered of a stream
abbrev pub held_of : Inboxes → ℕ → Held
held_of s stream = unwrap_or (slice_index_or s (stream - 1) None) nothing_held

-- what the inbox of a stream answers, which from then on counts as named
abbrev pub with_answer : Inboxes → ℕ → Result Held InboxError → Result Inboxes LineError
with_answer s stream (Ok held) = Ok (slice_set s (stream - 1) (Some held))
with_answer s stream (Err e) = Err (Inbox e)

-- the streams of a connection in this profile
abbrev pub is_stream : ℕ → Bool
is_stream stream = nat_le 1 stream && nat_le stream 64

-- a chunk of a stream
abbrev pub after_piece : Inboxes → ℕ → ℕ → List ℕ → Result Inboxes LineError
after_piece s stream offset bytes = if is_stream stream then with_answer s stream (inserted offset bytes (held_of s stream)) else Err StreamId

-- a frame: StreamData alone changes a stream
abbrev pub after_frame : Inboxes → Known → Result Inboxes LineError
after_frame s (StreamData stream offset bytes) = after_piece s stream offset bytes
after_frame s other = Ok s

-- the frames of a packet in order: all of them, or the first refusal
abbrev pub frames_from : Result Inboxes LineError → List (ℕ × Known) → Result Inboxes LineError
frames_from (Err e) fs = Err e
frames_from (Ok s) [] = Ok s
frames_from (Ok s) (f ∷ fs) = frames_from (after_frame s f.1) fs

abbrev pub after_frames : Inboxes → List (ℕ × Known) → Result Inboxes LineError
after_frames s fs = frames_from (Ok s) fs

-- a packet, if there is one
abbrev pub after_packet : Inboxes → Result Packet LineError → Result Inboxes LineError
after_packet s (Ok packet) = after_frames s packet.frames
after_packet s (Err e) = Err e

-- the longest run of stream n, if it was named
abbrev pub run_line : ℕ → Option Held → List ℕ
run_line n None = []
run_line n (Some held) = stream_text n (run held)

-- the runs from stream n on, in rising order
abbrev pub runs_from : ℕ → Inboxes → List ℕ
runs_from n [] = []
runs_from n (held ∷ s) = run_line n held ++ runs_from (n + 1) s

abbrev pub runs_text : Inboxes → List ℕ
runs_text s = runs_from 1 s
