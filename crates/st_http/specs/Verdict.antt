-- What the rules say of a head: the length of the body that follows, and for a request its account, or the refusal.
use Rattle.std.specs.Prelude.{◌≡◌, ℕ, ◌≤◌, ◌==◌, List, length, map, codes, bytes_eq, if◌then◌else◌, Option, Some, None, Result, Ok, Err}
use Rattle.httparse.specs.Grammar.{RequestHead, ResponseHead, ReadsRequest, ReadsResponse, print_request, print_response, status_code}
use Rattle.httparse.specs.Spans.{name_and_value}
use Rattle.st_http.specs.declared.error.HttpError.{HttpError}
use Rattle.st_http.specs.declared.error.HttpError.TheVariants.{BadHead, Status, TooLong}
use Rattle.st_http.specs.declared.length.Length.{Length}
use Rattle.st_http.specs.declared.length.Length.TheVariants as said
use Rattle.st_http.specs.declared.verdict.Lawful.{Lawful}
use Rattle.st_http.specs.Fields.{Pair}
use Rattle.st_http.specs.Length.{length_by}
use Rattle.st_http.specs.Bearer.{account_by}
use Rattle.st_http.specs.Head.{head_limit, field_limit}

-- the message that is to be read: a request to one of these tokens' accounts, or a response
pub data Expected : Type 0 where
  request : List (List ℕ) → Expected
  response : Expected

-- the answer to a request by its length, at an account
abbrev pub request_of_length : ℕ → Length → Result Lawful HttpError
request_of_length account said.Missing = Err (Status 411)
request_of_length account said.Malformed = Err (Status 400)
request_of_length account said.TooLong = Err (Status 413)
request_of_length account (said.Of size) = Ok (record { account = Some account; size = size })

-- the answer by its account, if it has one
abbrev pub request_of_account : Option ℕ → Length → Result Lawful HttpError
request_of_account None size = Err (Status 401)
request_of_account (Some account) size = request_of_length account size

-- what the server's rules say, the first that applies
abbrev pub request_verdict : List (List ℕ) → List ℕ → List ℕ → List Pair → Result Lawful HttpError
request_verdict tokens target method fields =
    if bytes_eq target (codes "/ilp")
    then (if bytes_eq method (codes "POST") then request_of_account (account_by tokens fields) (length_by fields) else Err (Status 405))
    else Err (Status 404)

-- what the client's rules say of a 200's length
abbrev pub response_of_length : Length → Result Lawful HttpError
response_of_length said.Missing = Err BadHead
response_of_length said.Malformed = Err BadHead
response_of_length said.TooLong = Err TooLong
response_of_length (said.Of size) = Ok (record { account = None; size = size })

-- what the client's rules say
abbrev pub response_verdict : ℕ → List Pair → Result Lawful HttpError
response_verdict status fields = if status == 200 then response_of_length (length_by fields) else Err (Status status)

-- the text begins with this head of a request, which is within the limits, and rest follows
pub record IsRequest (text : List ℕ) (h : RequestHead) (rest : List ℕ) : Type 0 where
  pub reads : ReadsRequest text h rest
  pub short : length (print_request h) ≤ head_limit
  pub few : length h.fields ≤ field_limit

-- the same for a response
pub record IsResponse (text : List ℕ) (h : ResponseHead) (rest : List ℕ) : Type 0 where
  pub reads : ReadsResponse text h rest
  pub short : length (print_response h) ≤ head_limit
  pub few : length h.fields ≤ field_limit

-- the text begins with a head by the grammar, within the limits; the rules say this of it, and rest follows
abbrev pub Begins : Expected → List ℕ → Result Lawful HttpError → List ℕ → Type 0
Begins (request tokens) text verdict rest =
    (h : RequestHead) × IsRequest text h rest × (verdict ≡ request_verdict tokens h.target h.method (map name_and_value h.fields))
Begins response text verdict rest =
    (h : ResponseHead) × IsResponse text h rest × (verdict ≡ response_verdict (status_code h) (map name_and_value h.fields))

-- the refusal of a text that is not a head
abbrev pub no_head : Expected → HttpError
no_head (request tokens) = Status 400
no_head response = BadHead
