-- A text says one thing, so a message in any chunks has the answer of the whole; the end of a head; when two
-- lengths are equal.
use Rattle.std.specs.Prelude.{◌≡◌, ◌↔◌, ℕ, ◌≤◌, List, [], ◌++◌, length, Option, IsTrue}
use Rattle.std.specs.Char.{is_ascii_digit}
use Rattle.std.specs.List.{list_all}
use Rattle.httparse.specs.Grammar.{RequestHead, ResponseHead, IsRequestHead, IsResponseHead, print_request, print_response}
use Rattle.st_http.specs.declared.error.HttpError.{HttpError}
use Rattle.st_http.specs.Verdict.{Expected}
use Rattle.st_http.specs.Length.{number, without_zeros}
use Rattle.st_http.specs.Phases.{IsEnded}
use Rattle.st_http.specs.Message.{Says, Standing, unfinished, whole, refused}

-- once a message is refused, every longer text is refused so
abbrev pub RefusalsStay : Type 0
RefusalsStay = (expected : Expected) (text more : List ℕ) (e : HttpError) (t : Standing)
    → Says expected text (refused e) → Says expected (text ++ more) t → refused e ≡ t

-- a whole message begins no other message: no longer text says anything, and the same text says nothing else
abbrev pub MessagesEnd : Type 0
MessagesEnd = (expected : Expected) (text more : List ℕ) (account : Option ℕ) (body : List ℕ) (t : Standing)
    → Says expected text (whole account body) → Says expected (text ++ more) t → (whole account body ≡ t) × (more ≡ [])

-- an unfinished message wants a byte at least, and never more than it must still have
abbrev pub WantsWhatIsLeft : Type 0
WantsWhatIsLeft = (expected : Expected) (text more : List ℕ) (wants : ℕ) (account : Option ℕ) (body : List ℕ)
    → Says expected text (unfinished wants) → Says expected (text ++ more) (whole account body) → (1 ≤ wants) × (wants ≤ length more)

-- a head by the grammar ends at its first empty line
abbrev pub HeadsEndAtTheirFirstEmptyLine : Type 0
HeadsEndAtTheirFirstEmptyLine =
    ((h : RequestHead) → IsRequestHead h → IsEnded (print_request h)) × ((h : ResponseHead) → IsResponseHead h → IsEnded (print_response h))

-- two texts of digits write one number if and only if they are equal without the zeros in front
abbrev pub EqualNumbersHaveEqualDigits : Type 0
EqualNumbersHaveEqualDigits = (a b : List ℕ) → IsTrue (list_all is_ascii_digit a) → IsTrue (list_all is_ascii_digit b)
    → (number a ≡ number b) ↔ (without_zeros a ≡ without_zeros b)
