-- Chunks stored one after the other.
use Rattle.std.proofs.Common.{◌≡◌, ℕ, ◌+◌, List, [], ◌++◌, append-nil, append_assoc, length, take, drop, ap, sym, ◌∙◌, Option, Err}
use Rattle.std.proofs.lemmas.List.{length-take-le, take-append-drop}
use Rattle.std.specs.Io.KnownBytes.{Appends}
use Rattle.std.proofs.KnownBytes.{Appends-trans}
use Rattle.st_file.specs.Errors.{counted}
use Rattle.st_file.specs.Sources.{Given}
use Rattle.st_file.specs.Stores.{ExplainsStore, Storing, Stored, WritesFirst, WritesPiece}
use Rattle.st_file.specs.declared.error.FileError.{FileError}
use Rattle.st_file.specs.declared.error.FileError.TheVariants.{ReadFault, WriteFault, Aborted, Turns, NoMemory, Closed}
use Rattle.st_file.proofs.Sending.{counted_more}

abbrev pub storing : Option (List ℕ) → Option (List ℕ) → Given → Given → Storing
storing before after old new = record { before = before; after = after; old = old; new = new }

-- the first bytes of what was given were written, and these others were not
pub stored_part : (before now after : Option (List ℕ)) (old mid new : Given) (n m : ℕ) (first others : List ℕ) → Stored (storing before now old mid) n [] → new.bytes ≡ mid.bytes ++ (first ++ others) → Appends now after first → m ≡ counted (n + length first) → Stored (storing before after old new) m others
stored_part before now after old mid new n m first others s gave wrote count =
    let given = rw append-nil at s.1 in (
      s.0 ++ first,
      gave ∙ ap (λ l. l ++ (first ++ others)) given ∙ append_assoc old.bytes s.0 (first ++ others) ∙ ap (λ l. old.bytes ++ l) (sym (append_assoc s.0 first others)),
      Appends-trans before now after s.0 first s.2 wrote,
      counted_more n m s.0 first s.3 count,
    )

-- all that was given was written
pub stored_more : (before now after : Option (List ℕ)) (old mid new : Given) (n m : ℕ) (text : List ℕ) → Stored (storing before now old mid) n [] → new.bytes ≡ mid.bytes ++ text → Appends now after text → m ≡ counted (n + length text) → Stored (storing before after old new) m []
stored_more before now after old mid new n m text s gave wrote count =
    stored_part before now after old mid new n m text [] s (gave ∙ ap (λ l. mid.bytes ++ l) (sym (append-nil text))) wrote count

-- the first bytes were written, and the others are what was left of the chunk
pub stored_first : (before now after : Option (List ℕ)) (old mid new : Given) (n m : ℕ) (text : List ℕ) → Stored (storing before now old mid) n [] → new.bytes ≡ mid.bytes ++ text → WritesFirst n now after text m → (others : List ℕ) × Stored (storing before after old new) m others
stored_first before now after old mid new n m text s gave w = (
  drop w.0 text,
  stored_part before now after old mid new n m (take w.0 text) (drop w.0 text) s
      (gave ∙ ap (λ l. mid.bytes ++ l) (sym (take-append-drop w.0 text))) w.2
      (rw (length-take-le w.0 text w.1) w.3),
)

-- why a chunk was not written whole
pub stored_why : (before now after : Option (List ℕ)) (old mid new : Given) (n : ℕ) (text : List ℕ) (e : FileError) → Stored (storing before now old mid) n [] → new.bytes ≡ mid.bytes ++ text → WritesPiece n now after text (Err e) → ExplainsStore (storing before after old new) e
stored_why before now after old mid new n text (ReadFault m) s gave w = absurd w
stored_why before now after old mid new n text (WriteFault m) s gave w = stored_first before now after old mid new n m text s gave w
stored_why before now after old mid new n text (Aborted code m) s gave w = absurd w
stored_why before now after old mid new n text (Turns m) s gave w = stored_first before now after old mid new n m text s gave w
stored_why before now after old mid new n text (NoMemory m) s gave w = absurd w
stored_why before now after old mid new n text (Closed m) s gave w = absurd w
