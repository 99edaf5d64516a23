-- What an exchange did to a stream. What is written to a stream and what is read of it are known each by itself, so the
-- stream between the two is named.
use Rattle.std.specs.Prelude.{◌≡◌, ℕ, ◌⊎◌, List, Option, None}
use Rattle.std.specs.Io.KnownBytes.{Appends}
use Rattle.st_http.specs.declared.error.HttpError.{HttpError}
use Rattle.st_http.specs.declared.error.HttpError.TheVariants.{NoMemory}
use Rattle.st_http.specs.Verdict.{response}
use Rattle.st_http.specs.Reads.{Reads, ReadsMessage, ExplainsRead, ExplainsWrite}

-- what is known of a stream: the bytes written to it, and the bytes that remain to be read from it
pub record Known (S : Type 0) : Type 0 where
  pub contents : S → Option (List ℕ)
  pub remaining : S → Option (List ℕ)

abbrev pub known : {S : Type 0} → (S → Option (List ℕ)) → (S → Option (List ℕ)) → Known S
known contents remaining = record { contents = contents; remaining = remaining }

-- the reads of a stream from one state to another
abbrev pub reads : {S : Type 0} → Known S → S → S → Reads
reads k from to = record { before = k.remaining from; after = k.remaining to }

-- the whole request was written to the stream, which then gave exactly one response, with this body
abbrev pub IsExchanged : {S : Type 0} → Known S → S → S → List ℕ → List ℕ → Type 0
IsExchanged {S} k old new request answer =
    (sent : S) × Appends (k.contents old) (k.contents sent) request × ReadsMessage response (reads k sent new) None answer

-- why there was no answer: no memory, the request was not written whole, or after it no message was read
abbrev pub ExplainsExchange : {S : Type 0} → Known S → S → S → List ℕ → HttpError → Type 0
ExplainsExchange {S} k old new request e =
    (e ≡ NoMemory)
    ⊎ (ExplainsWrite (k.contents old) (k.contents new) request e
    ⊎ ((sent : S) × Appends (k.contents old) (k.contents sent) request × ExplainsRead response (reads k sent new) e))
