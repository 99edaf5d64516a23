-- What a byte list says as a message: a whole one, one that is not whole yet, or none.
use Rattle.std.specs.Prelude.{◌≡◌, ℕ, ◌-◌, ◌<◌, ◌⊎◌, List, length, Option, Result, Ok, Err}
use Rattle.st_http.specs.declared.error.HttpError.{HttpError}
use Rattle.st_http.specs.declared.verdict.Lawful.{Lawful}
use Rattle.st_http.specs.Head.{head_limit, IsOpen, IsOver}
use Rattle.st_http.specs.Verdict.{Expected, Begins, no_head}

-- what a text says
pub data Standing : Type 0 where
  -- a message that needs at least this number of bytes more
  unfinished : ℕ → Standing
  -- a whole message, of this account and body
  whole : Option ℕ → List ℕ → Standing
  -- no message, whatever follows
  refused : HttpError → Standing

-- the text begins with a lawful head, and the rest of it is the body
abbrev pub IsMessage : Expected → List ℕ → Option ℕ → List ℕ → Type 0
IsMessage expected text account body = Begins expected text (Ok (record { account = account; size = length body })) body

-- the text is over as a head, and begins with none
abbrev pub IsNoHead : Expected → List ℕ → Type 0
IsNoHead expected text = IsOver text × ((verdict : Result Lawful HttpError) (rest : List ℕ) → ¬ (Begins expected text verdict rest))

-- the rules refuse the head that the text begins with, or the text is not a head
abbrev pub IsRefused : Expected → List ℕ → HttpError → Type 0
IsRefused expected text e = ((rest : List ℕ) × Begins expected text (Err e) rest) ⊎ (IsNoHead expected text × (e ≡ no_head expected))

-- the head is not over, or it is lawful and the body needs `wants` more bytes
abbrev pub IsUnfinished : Expected → List ℕ → ℕ → Type 0
IsUnfinished expected text wants =
    (IsOpen text × (length text < head_limit) × (wants ≡ 1))
    ⊎ ((part : List ℕ) × (l : Lawful) × Begins expected text (Ok l) part × (length part < l.size) × (wants ≡ l.size - length part))

-- the text says this, each byte of a whole message being needed
abbrev pub Says : Expected → List ℕ → Standing → Type 0
Says expected text (unfinished wants) = IsUnfinished expected text wants
Says expected text (whole account body) = IsMessage expected text account body
Says expected text (refused e) = IsRefused expected text e

-- how many bytes are to be asked for next
abbrev pub wants_of : Standing → ℕ
wants_of (unfinished wants) = wants
wants_of (whole account body) = 0
wants_of (refused e) = 0
