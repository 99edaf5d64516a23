-- A message of HTTP that arrives in chunks, as a host has it.
use Rattle.std.specs.Prelude.{◌≡◌, ◌⊎◌, ◌≤◌, ◌++◌, ℕ, List, [], length, take, map, Option, Some, None, Result, Ok, Err, unwrap_or, string_bytes}
use Rattle.st_http.specs.declared.error.HttpError.{HttpError}
use Rattle.st_http.specs.declared.error.HttpError.TheVariants.{NoMemory}
use Rattle.st_http.specs.Verdict.{Expected, request, response}
use Rattle.st_http.specs.Message.{Says, unfinished, whole, refused}
use Rattle.host_objects.specs.declared.message.HostSide.{HostSide}
use Rattle.host_objects.specs.declared.message.HostSide.TheVariants.{Request, Response}
use Rattle.host_objects.specs.declared.message.Found.{Found}
use Rattle.host_objects.specs.declared.message.Found.TheVariants as found
use Rattle.host_objects.specs.declared.message.Progress.{Progress}
use Rattle.host_objects.specs.declared.message.Progress.TheVariants as progress
use Rattle.host_objects.specs.declared.message.HostMessage.{HostMessage}

abbrev pub expected_of : HostSide → Expected
expected_of (Request tokens) = request (map string_bytes tokens.items)
expected_of Response = response

-- the first bytes are a whole message of this account, 0 if it has none, and body
abbrev pub BeginWhole : Expected → (bytes : List ℕ) → (taken account : ℕ) (body : List ℕ) → Type 0
BeginWhole expected bytes taken account body =
    (taken ≤ length bytes) × ((who : Option ℕ) × ((account ≡ unwrap_or who 0) × Says expected (take taken bytes) (whole who body)))

-- the first bytes are refused so
abbrev pub BeginRefused : Expected → (bytes : List ℕ) → HttpError → Type 0
BeginRefused expected bytes e = (n : ℕ) × ((n ≤ length bytes) × Says expected (take n bytes) (refused e))

abbrev pub FindsIn : Expected → (bytes : List ℕ) → Result Found HttpError → Type 0
FindsIn expected bytes (Ok (found.Whole taken account body)) = BeginWhole expected bytes taken account body.items
FindsIn expected bytes (Ok (found.Part wants)) = Says expected bytes (unfinished wants)
FindsIn expected bytes (Err e) = (e ≡ NoMemory) ⊎ BeginRefused expected bytes e

-- ---- the message of a handle

pub record IsNewMessage (expected : Expected) (m : HostMessage) : Type 0 where
  pub expects : expected_of m.side ≡ expected
  pub nothing_is_given : m.given.items ≡ []
  pub nothing_is_out : m.output.items ≡ []

-- only room for more bytes may have been made
pub record IsSameMessage (old new : HostMessage) : Type 0 where
  pub side_is : new.side ≡ old.side
  pub given_are : new.given.items ≡ old.given.items
  pub output_is : new.output ≡ old.output

-- the chunk was added
abbrev pub Keeps : (old new : HostMessage) (piece : List ℕ) → Type 0
Keeps old new piece = (new.side ≡ old.side) × (new.given.items ≡ old.given.items ++ piece)

abbrev pub Feeds : (old new : HostMessage) (piece : List ℕ) → Progress → Type 0
Feeds old new piece (progress.Whole taken account) =
    Keeps old new piece × BeginWhole (expected_of old.side) (old.given.items ++ piece) taken account new.output.items
Feeds old new piece (progress.Part wants) =
    Keeps old new piece × ((new.output ≡ old.output) × Says (expected_of old.side) (old.given.items ++ piece) (unfinished wants))

-- the chunk was not added: memory was refused, or the message with the chunk is
abbrev pub FailsToFeed : (old new : HostMessage) (piece : List ℕ) → HttpError → Type 0
FailsToFeed old new piece e =
    IsSameMessage old new × ((e ≡ NoMemory) ⊎ BeginRefused (expected_of old.side) (old.given.items ++ piece) e)
