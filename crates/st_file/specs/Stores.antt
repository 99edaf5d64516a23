-- What a writer received from a source.
use Rattle.std.specs.Prelude.{◌≡◌, ℕ, ◌+◌, ◌≤◌, List, [], ◌++◌, length, take, Option, Some, None, Result, Ok, Err, Vec, ⊤}
use Rattle.std.specs.Io.KnownBytes.{Appends}
use Rattle.st_queues.specs.declared.items.Over.TheVariants as over
use Rattle.st_file.specs.Errors.{counted}
use Rattle.st_file.specs.Sources.{Given}
use Rattle.st_file.specs.declared.error.FileError.{FileError}
use Rattle.st_file.specs.declared.error.FileError.TheVariants.{ReadFault, WriteFault, Aborted, Turns, NoMemory, Closed}
use Rattle.st_devices.specs.declared.counted.Counting.{Counting}
use Rattle.st_devices.specs.Tallies.{device_of}

-- a writer's bytes before and after, and what a source had given before and after
pub record Storing : Type 0 where
  pub before : Option (List ℕ)
  pub after : Option (List ℕ)
  pub old : Given
  pub new : Given

-- what a device had and has by `contents`, and what a source had given and has given by `given`
abbrev pub storing_of : {D S : Type 0} → (contents : D → Option (List ℕ)) → (given : S → Given) → (writer_old writer_new : Counting D) → (old new : S) → Storing
storing_of contents given writer_old writer_new old new =
    record { before = contents (device_of writer_old); after = contents (device_of writer_new); old = given old; new = given new }

-- n bytes of the source were written, and these others were given and not written
abbrev pub Stored : Storing → ℕ → List ℕ → Type 0
Stored s n others = (bytes : List ℕ) × (s.new.bytes ≡ s.old.bytes ++ (bytes ++ others)) × Appends s.before s.after bytes × (n ≡ counted (length bytes))

-- all n bytes that the source gave were written, and it reported a clean end
abbrev pub StoredAll : Storing → ℕ → Type 0
StoredAll s n = Stored s n [] × (s.new.over ≡ over.Ended)

-- why not all was stored: the first of the given bytes were written, and all of them if the source reported an abort
abbrev pub ExplainsStore : Storing → FileError → Type 0
ExplainsStore s (ReadFault n) = ⊥
ExplainsStore s (WriteFault n) = (others : List ℕ) × Stored s n others
ExplainsStore s (Aborted code n) = Stored s n [] × (s.new.over ≡ over.Aborted code)
ExplainsStore s (Turns n) = (others : List ℕ) × Stored s n others
ExplainsStore s (NoMemory n) = ⊥
ExplainsStore s (Closed n) = ⊥

-- the next bytes of a source, or none at a clean end; or it reported an abort, or the allowed calls were used up, after
-- `written` bytes were written
abbrev pub GivesNext : {A : Type 0} → ℕ → Given → Given → Result (Option (Vec ℕ A)) FileError → Type 0
GivesNext written old new (Ok (Some v)) = new.bytes ≡ old.bytes ++ v.items
GivesNext written old new (Ok None) = (new.bytes ≡ old.bytes) × (new.over ≡ over.Ended)
GivesNext written old new (Err (ReadFault n)) = ⊥
GivesNext written old new (Err (WriteFault n)) = ⊥
GivesNext written old new (Err (Aborted code n)) = (n ≡ written) × (new.bytes ≡ old.bytes) × (new.over ≡ over.Aborted code)
GivesNext written old new (Err (Turns n)) = (n ≡ written) × (new.bytes ≡ old.bytes)
GivesNext written old new (Err (NoMemory n)) = ⊥
GivesNext written old new (Err (Closed n)) = ⊥

-- the first bytes of the text were written, and n counts them together with the earlier ones
abbrev pub WritesFirst : ℕ → Option (List ℕ) → Option (List ℕ) → List ℕ → ℕ → Type 0
WritesFirst written before after text n = (sent : ℕ) × (sent ≤ length text) × Appends before after (take sent text) × (n ≡ counted (written + sent))

-- a text was written whole; or its first bytes, and then the writer failed or the allowed calls were used up
abbrev pub WritesPiece : ℕ → Option (List ℕ) → Option (List ℕ) → List ℕ → Result ℕ FileError → Type 0
WritesPiece written before after text (Ok n) = Appends before after text × (n ≡ counted (written + length text))
WritesPiece written before after text (Err (ReadFault n)) = ⊥
WritesPiece written before after text (Err (WriteFault n)) = WritesFirst written before after text n
WritesPiece written before after text (Err (Aborted code n)) = ⊥
WritesPiece written before after text (Err (Turns n)) = WritesFirst written before after text n
WritesPiece written before after text (Err (NoMemory n)) = ⊥
WritesPiece written before after text (Err (Closed n)) = ⊥

-- a flush was done; or the writer failed or the allowed calls were used up
abbrev pub Flushes : {T : Type 0} → ℕ → Result T FileError → Type 0
Flushes written (Ok x) = ⊤
Flushes written (Err (ReadFault n)) = ⊥
Flushes written (Err (WriteFault n)) = n ≡ written
Flushes written (Err (Aborted code n)) = ⊥
Flushes written (Err (Turns n)) = n ≡ written
Flushes written (Err (NoMemory n)) = ⊥
Flushes written (Err (Closed n)) = ⊥
