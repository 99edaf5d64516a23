-- What a whole message was.
use Rattle.std.proofs.Common.{◌≡◌, ℕ, List, [], refl, subst, inl, arith, Option, Some, None, Ok, Err, length, Result, OnOk}
use Rattle.std.specs.Io.KnownBytes.{Consumes}
use Rattle.st_http.specs.Verdict.{Expected, request, response}
use Rattle.st_http.specs.Message.{Says, Standing, unfinished, whole, refused}
use Rattle.st_http.specs.Progress.{Progress, body_of, account_of}
use Rattle.st_http.specs.Reads.{Reads, ReadsMessage}
use Rattle.st_http.specs.Serves.{IsCalled, IsDue}
use Rattle.st_http.proofs.Refusals.{response_answers}
use Rattle.st_http.proofs.Standings.{open_nothing}

-- the empty text is an unfinished message
pub begins : (expected : Expected) → Says expected [] (unfinished 1)
begins expected = inl (open_nothing, omega arith, refl)

-- the body of a whole message
with_body : (expected : Expected) (text : List ℕ) (s : Standing) (body : List ℕ) → Says expected text s → body_of s ≡ Some body → Says expected text (whole (account_of s) body)
with_body expected text (whole account b) body says is = let same : b ≡ body = cc in subst (λ x. Says expected text (whole account x)) same says
with_body expected text (unfinished w) body says is = cc
with_body expected text (refused e) body says is = cc

no_account : (text : List ℕ) (account : Option ℕ) (body : List ℕ) → Says response text (whole account body) → account ≡ None
no_account text account body says = response_answers text body (Ok (record { account = account; size = length body })) says

pub response_read : (r : Reads) (p : Progress) (body : List ℕ) → p.expected ≡ response → Consumes r.before r.after p.taken → Says p.expected p.taken p.standing → body_of p.standing ≡ Some body
    → ReadsMessage response r None body
response_read r p body same read says is =
    let said = with_body response p.taken p.standing body (subst (λ x. Says x p.taken p.standing) same says) is in
    (p.taken, read, subst (λ a. Says response p.taken (whole a body)) (no_account p.taken (account_of p.standing) body said) said)

pub request_read : (tokens : List (List ℕ)) (r : Reads) (p : Progress) (account : ℕ) (body : List ℕ) → p.expected ≡ request tokens → Consumes r.before r.after p.taken → Says p.expected p.taken p.standing
    → body_of p.standing ≡ Some body → account_of p.standing ≡ Some account → ReadsMessage (request tokens) r (Some account) body
request_read tokens r p account body same read says is at =
    let said = with_body (request tokens) p.taken p.standing body (subst (λ x. Says x p.taken p.standing) same says) is in
    (p.taken, read, subst (λ a. Says (request tokens) p.taken (whole a body)) at said)

-- a request that was read and answered is due its response
pub called_is_due : {T : Type 0} (gives : T → ℕ → List ℕ → Option (List ℕ) → T → Type 0) (tokens : List (List ℕ)) (r : Reads) (p : Progress) (old new : T) (text : List ℕ)
    → p.expected ≡ request tokens → Consumes r.before r.after p.taken → Says p.expected p.taken p.standing → IsCalled gives p.standing old new text
    → IsDue gives tokens r old new text
called_is_due {T} gives tokens r p old new text same read says called =
    inl (called.0, called.1, called.2, request_read tokens r p called.0 called.1 same read says called.4 called.3, called.5, called.6)

-- what follows at Ok
pub at_ok : {T E : Type 0} {P Q : Type 0} (r : Result T E) → (P → Q) → OnOk r P → OnOk r Q
at_ok (Ok x) f p = f p
at_ok (Err e) f p = tt
