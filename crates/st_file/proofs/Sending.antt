-- Chunks sent one after the other.
use Rattle.std.proofs.Common.{◌≡◌, ℕ, ◌+◌, ◌≤◌, List, [], ◌++◌, append-nil, append_assoc, length, arith, ap, subst, ◌∙◌, Option}
use Rattle.std.proofs.lemmas.List.{length-append}
use Rattle.std.specs.Io.KnownBytes.{Consumes}
use Rattle.std.proofs.KnownBytes.{Consumes-trans}
use Rattle.st_file.specs.Errors.{counted}
use Rattle.st_file.specs.Sinks.{Taken}
use Rattle.st_file.specs.Sends.{ExplainsSend, Sending, Sent, SentPart, Stops}
use Rattle.st_file.specs.declared.error.FileError.{FileError}
use Rattle.st_file.specs.declared.error.FileError.TheVariants.{ReadFault, WriteFault, Aborted, Turns, NoMemory, Closed}

-- a number of bytes that was reported, and more bytes after them
pub counted_more : (n m : ℕ) (old more : List ℕ) → n ≡ counted (length old) → m ≡ counted (n + length more) → m ≡ counted (length (old ++ more))
counted_more n m old more p q = rw (length-append old more) (omega (arith, p, q))

abbrev pub sending : Option (List ℕ) → Option (List ℕ) → Taken → Taken → Sending
sending before after old new = record { before = before; after = after; old = old; new = new }

-- what was read was accepted by the sink
pub sent_more : (before now after : Option (List ℕ)) (old mid new : Taken) (n m : ℕ) (piece : List ℕ) → Sent (sending before now old mid) n [] → Consumes now after piece → new.bytes ≡ mid.bytes ++ piece → m ≡ counted (n + length piece) → Sent (sending before after old new) m []
sent_more before now after old mid new n m piece s read put count =
    let first = rw append-nil at s.2 in (
      s.0 ++ piece,
      put ∙ ap (λ l. l ++ piece) s.1 ∙ append_assoc old.bytes s.0 piece,
      rw append-nil (Consumes-trans before now after s.0 piece first read),
      counted_more n m s.0 piece s.3 count,
    )

-- what was read was empty, and the sink accepted no more bytes
pub sent_all : (before now after : Option (List ℕ)) (old mid new : Taken) (n : ℕ) (piece : List ℕ) → Sent (sending before now old mid) n [] → Consumes now after piece → piece ≡ [] → new.bytes ≡ mid.bytes → Sent (sending before after old new) n []
sent_all before now after old mid new n piece s read none put =
    let first = rw append-nil at s.2 in
    (s.0, put ∙ s.1, subst (λ l. Consumes before after (s.0 ++ l)) none (Consumes-trans before now after s.0 piece first read), s.3)

-- a chunk was read, and the sink accepted no more
lost_part : (before now after : Option (List ℕ)) (old mid new : Taken) (n m : ℕ) (piece : List ℕ) → SentPart (sending before now old mid) n [] → Consumes now after piece → m ≡ n → new.bytes ≡ mid.bytes → new.ended ≡ mid.ended → SentPart (sending before after old new) m piece
lost_part before now after old mid new n m piece s read same put ended =
    let part = s.0 in
    let first = rw append-nil at part.2 in
    ((part.0, put ∙ part.1, Consumes-trans before now after part.0 piece first read, same ∙ part.3), ended ∙ s.1)

-- why a chunk that was read was not accepted
pub put_why : (before now after : Option (List ℕ)) (old mid new : Taken) (n : ℕ) (piece : List ℕ) (e : FileError) → SentPart (sending before now old mid) n [] → Consumes now after piece → length piece ≤ 4096 → Stops n e → new.bytes ≡ mid.bytes → new.ended ≡ mid.ended → ExplainsSend (sending before after old new) e
put_why before now after old mid new n piece (ReadFault m) s read short stops put ended = absurd stops
put_why before now after old mid new n piece (WriteFault m) s read short stops put ended = absurd stops
put_why before now after old mid new n piece (Aborted code m) s read short stops put ended = absurd stops
put_why before now after old mid new n piece (Turns m) s read short stops put ended = (piece, short, lost_part before now after old mid new n m piece s read stops put ended)
put_why before now after old mid new n piece (NoMemory m) s read short stops put ended = absurd stops
put_why before now after old mid new n piece (Closed m) s read short stops put ended = (piece, short, lost_part before now after old mid new n m piece s read stops put ended)
