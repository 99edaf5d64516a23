-- What a sink received from a reader.
use Rattle.std.specs.Prelude.{◌≡◌, ℕ, ◌+◌, ◌≤◌, List, [], ◌++◌, length, true, Option, Some, None, Result, Ok, Err, Vec}
use Rattle.std.specs.Io.KnownBytes.{Consumes, IsAtEnd, Keeps}
use Rattle.st_file.specs.Errors.{counted}
use Rattle.st_file.specs.Sinks.{Taken}
use Rattle.st_file.specs.declared.error.FileError.{FileError}
use Rattle.st_file.specs.declared.error.FileError.TheVariants.{ReadFault, WriteFault, Aborted, Turns, NoMemory, Closed}

-- a reader's remaining bytes before and after, and what a sink had accepted before and after
pub record Sending : Type 0 where
  pub before : Option (List ℕ)
  pub after : Option (List ℕ)
  pub old : Taken
  pub new : Taken

-- the sink accepted n bytes of the reader, and these others were read and not accepted
abbrev pub Sent : Sending → ℕ → List ℕ → Type 0
Sent s n others = (bytes : List ℕ) × (s.new.bytes ≡ s.old.bytes ++ bytes) × Consumes s.before s.after (bytes ++ others) × (n ≡ counted (length bytes))

-- the same, and no end was accepted
abbrev pub SentPart : Sending → ℕ → List ℕ → Type 0
SentPart s n others = Sent s n others × (s.new.ended ≡ s.old.ended)

-- the sink accepted the n bytes of the reader up to its end, and then an end
abbrev pub SentAll : Sending → ℕ → Type 0
SentAll s n = Sent s n [] × IsAtEnd s.after × (s.new.ended ≡ true)

-- why not all was sent: the sink accepted all that was read; but if the allowed calls were used up or the sink is closed, one
-- chunk may be lost
abbrev pub ExplainsSend : Sending → FileError → Type 0
ExplainsSend s (ReadFault n) = SentPart s n []
ExplainsSend s (WriteFault n) = ⊥
ExplainsSend s (Aborted code n) = ⊥
ExplainsSend s (Turns n) = (lost : List ℕ) × (length lost ≤ 4096) × SentPart s n lost
ExplainsSend s (NoMemory n) = SentPart s n []
ExplainsSend s (Closed n) = (lost : List ℕ) × (length lost ≤ 4096) × SentPart s n lost

-- a chunk was read, which is empty only at the end; or none was read after `sent` bytes were sent
abbrev pub ReadsPiece : {A : Type 0} → ℕ → Option (List ℕ) → Option (List ℕ) → Result (Vec ℕ A) FileError → Type 0
ReadsPiece sent before after (Ok piece) = Consumes before after piece.items × (length piece.items ≤ 4096) × (piece.items ≡ [] → IsAtEnd after)
ReadsPiece sent before after (Err (ReadFault n)) = (n ≡ sent) × Keeps before after
ReadsPiece sent before after (Err (WriteFault n)) = ⊥
ReadsPiece sent before after (Err (Aborted code n)) = ⊥
ReadsPiece sent before after (Err (Turns n)) = (n ≡ sent) × Keeps before after
ReadsPiece sent before after (Err (NoMemory n)) = (n ≡ sent) × Keeps before after
ReadsPiece sent before after (Err (Closed n)) = ⊥

-- the allowed calls were used up after `sent` bytes were accepted, or the sink is closed then
abbrev pub Stops : ℕ → FileError → Type 0
Stops sent (ReadFault n) = ⊥
Stops sent (WriteFault n) = ⊥
Stops sent (Aborted code n) = ⊥
Stops sent (Turns n) = n ≡ sent
Stops sent (NoMemory n) = ⊥
Stops sent (Closed n) = n ≡ sent

-- a chunk was accepted after `sent` bytes; or no more was accepted
abbrev pub PutsPiece : ℕ → Taken → Taken → List ℕ → Result ℕ FileError → Type 0
PutsPiece sent old new piece (Ok n) = (n ≡ counted (sent + length piece)) × (new.bytes ≡ old.bytes ++ piece) × (new.ended ≡ old.ended)
PutsPiece sent old new piece (Err e) = Stops sent e × (new.bytes ≡ old.bytes) × (new.ended ≡ old.ended)

-- an end was accepted; or no more was accepted
abbrev pub PutsEnd : {T : Type 0} → ℕ → Taken → Taken → Result T FileError → Type 0
PutsEnd sent old new (Ok x) = (new.bytes ≡ old.bytes) × (new.ended ≡ true)
PutsEnd sent old new (Err e) = Stops sent e × (new.bytes ≡ old.bytes) × (new.ended ≡ old.ended)

-- a chunk was accepted after `sent` bytes, or an end for an empty one; or no more was accepted
abbrev pub PutsNext : ℕ → Taken → Taken → List ℕ → Result (Option ℕ) FileError → Type 0
PutsNext sent old new piece (Ok (Some n)) = (n ≡ counted (sent + length piece)) × (new.bytes ≡ old.bytes ++ piece) × (new.ended ≡ old.ended)
PutsNext sent old new piece (Ok None) = (piece ≡ []) × (new.bytes ≡ old.bytes) × (new.ended ≡ true)
PutsNext sent old new piece (Err e) = Stops sent e × (new.bytes ≡ old.bytes) × (new.ended ≡ old.ended)
