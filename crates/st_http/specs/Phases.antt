-- How a Reading keeps what it read: the head and the body in two vectors, and what it found of the head.
use Rattle.std.specs.Prelude.{◌≡◌, ℕ, ◌-◌, ◌<◌, ◌≤◌, ◌⊎◌, false, List, [], length, map, take, nat_lt, if◌then◌else◌, IsTrue, Result, Ok, Err}
use Rattle.httparse.specs.Grammar.{RequestHead, ResponseHead, ReadsRequest, ReadsResponse, status_code}
use Rattle.httparse.specs.Spans.{name_and_value}
use Rattle.st_http.specs.declared.error.HttpError.{HttpError}
use Rattle.st_http.specs.declared.error.HttpError.TheVariants.{BadHead, Status}
use Rattle.st_http.specs.declared.reading.Side.{Side}
use Rattle.st_http.specs.declared.reading.Side.TheVariants.{Request, Response}
use Rattle.st_http.specs.declared.reading.Phase.{Phase}
use Rattle.st_http.specs.declared.reading.Phase.TheVariants.{Head, Body, Refused}
use Rattle.st_http.specs.declared.verdict.Lawful.{Lawful}
use Rattle.st_http.specs.Head.{IsOpen, ends_head, head_limit, field_limit}
use Rattle.st_http.specs.Verdict.{Expected, request, response, request_verdict, response_verdict}
use Rattle.st_http.specs.Message.{Standing, unfinished, whole, refused, IsRefused}

-- an empty line ends the bytes, and none before
pub record IsEnded (bytes : List ℕ) : Type 0 where
  pub ends : IsTrue (ends_head bytes)
  pub first : (k : ℕ) → k < length bytes → ends_head (take k bytes) ≡ false

-- the bytes are this head of a request, and nothing else
abbrev pub IsRequestHead : List ℕ → RequestHead → Type 0
IsRequestHead head h = ReadsRequest head h [] × (length h.fields ≤ field_limit)

-- the bytes are this head of a response, and nothing else
abbrev pub IsResponseHead : List ℕ → ResponseHead → Type 0
IsResponseHead head h = ReadsResponse head h [] × (length h.fields ≤ field_limit)

-- what is said of bytes up to an empty line: what the rules say where they are a head
abbrev pub IsVerdict : Expected → List ℕ → Result Lawful HttpError → Type 0
IsVerdict (request tokens) head verdict =
    ((h : RequestHead) × IsRequestHead head h × (verdict ≡ request_verdict tokens h.target h.method (map name_and_value h.fields)))
    ⊎ (((h : RequestHead) → ¬ (IsRequestHead head h)) × (verdict ≡ Err (Status 400)))
IsVerdict response head verdict =
    ((h : ResponseHead) × IsResponseHead head h × (verdict ≡ response_verdict (status_code h) (map name_and_value h.fields)))
    ⊎ (((h : ResponseHead) → ¬ (IsResponseHead head h)) × (verdict ≡ Err BadHead))

-- the message that is expected
abbrev pub meant : Side → Expected
meant (Request tokens) = request (map (λ t. t.now) tokens.now)
meant Response = response

-- a lawful message with so much of its body
abbrev pub standing_of_body : Lawful → List ℕ → Standing
standing_of_body l body = if nat_lt (length body) l.size then unfinished (l.size - length body) else whole l.account body

-- what the phase and the body say
abbrev pub standing_of : Phase → List ℕ → Standing
standing_of Head body = unfinished 1
standing_of (Body l) body = standing_of_body l body
standing_of (Refused e) body = refused e

-- a lawful head, and no more of its body than there is
pub record IsLawful (expected : Expected) (l : Lawful) (head body : List ℕ) : Type 0 where
  pub ended : IsEnded head
  pub short : length head ≤ head_limit
  pub verdict : IsVerdict expected head (Ok l)
  pub within : length body ≤ l.size

-- what holds of the head and the body
abbrev pub IsInside : Expected → Phase → List ℕ → List ℕ → Type 0
IsInside expected Head head body = IsOpen head × (length head < head_limit) × (body ≡ [])
IsInside expected (Body l) head body = IsLawful expected l head body
IsInside expected (Refused e) head body = IsRefused expected head e × (body ≡ [])

-- no further byte is accepted
abbrev pub IsDone : Phase → List ℕ → Type 0
IsDone Head body = ⊥
IsDone (Body l) body = length body ≡ l.size
IsDone (Refused e) body = Unit {0}
