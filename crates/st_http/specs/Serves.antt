-- What is written to a stream, from what was read of it.
use Rattle.std.specs.Prelude.{◌≡◌, ℕ, ◌⊎◌, List, Option, Some, None, Result, Ok, Err, ⊤}
use Rattle.std.specs.Io.KnownBytes.{Appends}
use Rattle.st_http.specs.declared.error.HttpError.{HttpError}
use Rattle.st_http.specs.declared.error.HttpError.TheVariants.{ReadFault, WriteFault, BadHead, Status, TooLong, Cut, Turns, NoMemory}
use Rattle.st_http.specs.Verdict.{request}
use Rattle.st_http.specs.Texts.{answer_text, refusal_text}
use Rattle.st_http.specs.Message.{Standing}
use Rattle.st_http.specs.Progress.{account_of, body_of}
use Rattle.st_http.specs.Exchanges.{Known, reads}
use Rattle.st_http.specs.Reads.{Reads, ReadsMessage, ReadsRefusal, ExplainsRead, ExplainsWrite}

-- the bytes of an answer
abbrev pub bytes_of : {V : Type 0} → (V → List ℕ) → Option V → Option (List ℕ)
bytes_of items None = None
bytes_of items (Some v) = Some (items v)

-- the response to a lawful request that was answered so
abbrev pub response_text : Option (List ℕ) → List ℕ
response_text None = refusal_text 500
response_text (Some body) = answer_text body

-- the answerer changed from old to new by its answer to the message, and this is the response
abbrev pub IsCalled : {T : Type 0} → (T → ℕ → List ℕ → Option (List ℕ) → T → Type 0) → Standing → T → T → List ℕ → Type 0
IsCalled gives message old new text =
    (account : ℕ) × (body : List ℕ) × (answer : Option (List ℕ))
    × (account_of message ≡ Some account) × (body_of message ≡ Some body) × gives old account body answer new × (text ≡ response_text answer)

-- a lawful request was read, the answerer changed from old to new by its answer, and this is the response
abbrev pub IsAnswered : {T : Type 0} → (T → ℕ → List ℕ → Option (List ℕ) → T → Type 0) → List (List ℕ) → Reads → T → T → List ℕ → Type 0
IsAnswered gives tokens r old new text =
    (account : ℕ) × (body : List ℕ) × (answer : Option (List ℕ))
    × ReadsMessage (request tokens) r (Some account) body × gives old account body answer new × (text ≡ response_text answer)

-- what was read is refused by this response's status, and the answerer is as it was
abbrev pub IsTurnedDown : {T : Type 0} → List (List ℕ) → Reads → T → T → List ℕ → Type 0
IsTurnedDown tokens r old new text = (code : ℕ) × ReadsRefusal (request tokens) r (Status code) × (new ≡ old) × (text ≡ refusal_text code)

-- the response that what was read asks for
abbrev pub IsDue : {T : Type 0} → (T → ℕ → List ℕ → Option (List ℕ) → T → Type 0) → List (List ℕ) → Reads → T → T → List ℕ → Type 0
IsDue gives tokens r old new text = IsAnswered gives tokens r old new text ⊎ IsTurnedDown tokens r old new text

-- a refusal for which there is no response
abbrev pub IsLoss : HttpError → Type 0
IsLoss ReadFault = ⊤
IsLoss (WriteFault sent) = ⊤
IsLoss BadHead = ⊥
IsLoss (Status code) = ⊥
IsLoss TooLong = ⊥
IsLoss Cut = ⊤
IsLoss Turns = ⊤
IsLoss NoMemory = ⊤

-- the stream gave a message, and then the response that it asks for was written to it
abbrev pub IsServed : {S T : Type 0} → Known S → (T → ℕ → List ℕ → Option (List ℕ) → T → Type 0) → List (List ℕ) → S → S → T → T → Type 0
IsServed {S} {T} k gives tokens began now old new =
    (asked : S) × (text : List ℕ) × IsDue gives tokens (reads k began asked) old new text × Appends (k.contents asked) (k.contents now) text

-- why there was no response to write: no message was read, and the answerer is as it was; or no memory for the one that is due
abbrev pub ExplainsNoResponse : {T : Type 0} → (T → ℕ → List ℕ → Option (List ℕ) → T → Type 0) → List (List ℕ) → Reads → T → T → HttpError → Type 0
ExplainsNoResponse gives tokens r old new e =
    (IsLoss e × ExplainsRead (request tokens) r e × (new ≡ old))
    ⊎ ((text : List ℕ) × IsDue gives tokens r old new text × (e ≡ NoMemory))

-- why no response was written whole: there was none, or it was due and a write failed
abbrev pub ExplainsServe : {S T : Type 0} → Known S → (T → ℕ → List ℕ → Option (List ℕ) → T → Type 0) → List (List ℕ) → S → S → T → T → HttpError → Type 0
ExplainsServe {S} {T} k gives tokens began now old new e =
    ExplainsNoResponse gives tokens (reads k began now) old new e
    ⊎ ((asked : S) × (text : List ℕ) × IsDue gives tokens (reads k began asked) old new text
    × ExplainsWrite (k.contents asked) (k.contents now) text e)

-- a response was written whole; or there was no memory for it, or a write failed, or the allowed calls were used up
abbrev pub Responds : {T : Type 0} → (before after : Option (List ℕ)) → (text : List ℕ) → Result T HttpError → Type 0
Responds before after text (Ok x) = Appends before after text
Responds before after text (Err NoMemory) = after ≡ before
Responds before after text (Err ReadFault) = ⊥
Responds before after text (Err (WriteFault sent)) = ExplainsWrite before after text (WriteFault sent)
Responds before after text (Err BadHead) = ⊥
Responds before after text (Err (Status code)) = ⊥
Responds before after text (Err TooLong) = ⊥
Responds before after text (Err Cut) = ⊥
Responds before after text (Err Turns) = ExplainsWrite before after text Turns
