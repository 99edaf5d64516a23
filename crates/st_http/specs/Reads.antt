-- What was read of a stream, and why no more; what was written to it.
use Rattle.std.specs.Prelude.{◌≡◌, ℕ, ◌≤◌, List, length, take, Option, ⊤, Result, Ok, Err, IfErr}
use Rattle.std.specs.Io.KnownBytes.{Appends, Consumes, IsAtEnd}
use Rattle.st_devices.specs.Faults.{count_after}
use Rattle.st_devices.specs.Tallies.{TakesTurns}
use Rattle.st_devices.specs.declared.tally.Tally.{Tally}
use Rattle.st_http.specs.declared.error.HttpError.{HttpError}
use Rattle.st_http.specs.declared.error.HttpError.TheVariants.{ReadFault, WriteFault, BadHead, Status, TooLong, Cut, Turns, NoMemory}
use Rattle.st_http.specs.Verdict.{Expected}
use Rattle.st_http.specs.Message.{Says, unfinished, whole, refused}

-- a stream's remaining bytes before and after the reads
pub record Reads : Type 0 where
  pub before : Option (List ℕ)
  pub after : Option (List ℕ)

-- what was read says that the message is refused so
abbrev pub ReadsRefusal : Expected → Reads → HttpError → Type 0
ReadsRefusal expected r e = (text : List ℕ) × Consumes r.before r.after text × Says expected text (refused e)

-- what was read is not a whole message yet
abbrev pub ReadsPart : Expected → Reads → Type 0
ReadsPart expected r = (text : List ℕ) × (wants : ℕ) × Consumes r.before r.after text × Says expected text (unfinished wants)

-- exactly one message was read, of this account and body
abbrev pub ReadsMessage : Expected → Reads → Option ℕ → List ℕ → Type 0
ReadsMessage expected r account body = (text : List ℕ) × Consumes r.before r.after text × Says expected text (whole account body)

-- why a message was not read: what was read is refused; or it is not a whole message yet, and the input has ended, a read
-- failed, or the allowed calls were used up; or there was no memory
abbrev pub ExplainsRead : Expected → Reads → HttpError → Type 0
ExplainsRead expected r ReadFault = ReadsPart expected r
ExplainsRead expected r (WriteFault sent) = ⊥
ExplainsRead expected r BadHead = ReadsRefusal expected r BadHead
ExplainsRead expected r (Status code) = ReadsRefusal expected r (Status code)
ExplainsRead expected r TooLong = ReadsRefusal expected r TooLong
ExplainsRead expected r Cut = ReadsPart expected r × IsAtEnd r.after
ExplainsRead expected r Turns = ReadsPart expected r
ExplainsRead expected r NoMemory = ⊤

-- the first bytes of the text were written, and no others
abbrev pub WritesPart : Option (List ℕ) → Option (List ℕ) → List ℕ → ℕ → Type 0
WritesPart before after text sent = (sent ≤ length text) × Appends before after (take sent text)

-- a text was not written whole: only the part that a fault reports, or the allowed calls were used up
abbrev pub ExplainsWrite : Option (List ℕ) → Option (List ℕ) → List ℕ → HttpError → Type 0
ExplainsWrite before after text (WriteFault sent) = WritesPart before after text sent
ExplainsWrite before after text Turns = (sent : ℕ) × WritesPart before after text sent
ExplainsWrite before after text ReadFault = ⊥
ExplainsWrite before after text BadHead = ⊥
ExplainsWrite before after text (Status code) = ⊥
ExplainsWrite before after text TooLong = ⊥
ExplainsWrite before after text Cut = ⊥
ExplainsWrite before after text NoMemory = ⊥

-- the stream's count of errors after a call: one more if the call reports a fault, and the same otherwise
abbrev pub faults_reported : {T : Type 0} → Result T HttpError → ℕ → ℕ
faults_reported (Ok x) count = count
faults_reported (Err ReadFault) count = count_after 1 count
faults_reported (Err (WriteFault sent)) count = count_after 1 count
faults_reported (Err BadHead) count = count
faults_reported (Err (Status code)) count = count
faults_reported (Err TooLong) count = count
faults_reported (Err Cut) count = count
faults_reported (Err Turns) count = count
faults_reported (Err NoMemory) count = count

-- each call of the stream uses up one of `turns`; if the result says that they were used up, none is left
abbrev pub SpendsTurns : {T : Type 0} → Result T HttpError → Tally → Tally → ℕ → Type 0
SpendsTurns result old new turns = (left : ℕ) × TakesTurns old new turns left × IfErr result (λ e. e ≡ Turns → left ≡ 0)

-- a refusal of a request
abbrev pub IsStatus : HttpError → Type 0
IsStatus ReadFault = ⊥
IsStatus (WriteFault sent) = ⊥
IsStatus BadHead = ⊥
IsStatus (Status code) = ⊤
IsStatus TooLong = ⊥
IsStatus Cut = ⊥
IsStatus Turns = ⊥
IsStatus NoMemory = ⊥

-- a refusal of a message
abbrev pub IsRefusal : HttpError → Type 0
IsRefusal ReadFault = ⊥
IsRefusal (WriteFault sent) = ⊥
IsRefusal BadHead = ⊤
IsRefusal (Status code) = ⊤
IsRefusal TooLong = ⊤
IsRefusal Cut = ⊥
IsRefusal Turns = ⊥
IsRefusal NoMemory = ⊥
