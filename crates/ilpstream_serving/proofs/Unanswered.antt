-- Whether an answerer was asked by a request.
use Rattle.std.proofs.Common.{ℕ, List, Option, inl, inr}
use Rattle.st_http.specs.Exchanges.{Known}
use Rattle.st_http.specs.Reads.{Reads}
use Rattle.st_http.specs.Serves.{ExplainsServe, IsDue, IsServed}
use Rattle.st_http.specs.declared.error.HttpError.{HttpError}
use Rattle.ilpstream_serving.specs.Answering.{AskedOnce}

module _ {T : Type 0} (gives : T → ℕ → List ℕ → Option (List ℕ) → T → Type 0) (tokens : List (List ℕ)) (old new : T) where
  due_asked : (r : Reads) (text : List ℕ) → IsDue gives tokens r old new text → AskedOnce gives old new
  due_asked r text (inl (account, body, answer, read, given, is)) = inr (account, body, answer, given)
  due_asked r text (inr (code, refused, same, is)) = inl same

module _ {S T : Type 0} (k : Known S) (gives : T → ℕ → List ℕ → Option (List ℕ) → T → Type 0) (tokens : List (List ℕ)) (began now : S) (old new : T) where
  -- a request that was served was asked of the answerer once, or refused
  pub asked_served : IsServed k gives tokens began now old new → AskedOnce gives old new
  asked_served (asked, text, due, written) = due_asked gives tokens old new _ text due

  -- so was one whose response was not written whole, or the request did not arrive intact
  pub asked_why : (e : HttpError) → ExplainsServe k gives tokens began now old new e → AskedOnce gives old new
  asked_why e (inl (inl (loss, read, same))) = inl same
  asked_why e (inl (inr (text, due, memory))) = due_asked gives tokens old new _ text due
  asked_why e (inr (asked, text, due, written)) = due_asked gives tokens old new _ text due
