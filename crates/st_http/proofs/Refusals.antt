-- Which refusals there are, and that they stay.
use Rattle.std.proofs.Common.{◌≡◌, ◌⊎◌, ℕ, List, ◌++◌, take, drop, ap, sym, ◌∙◌, refl, subst, inl, inr, append_assoc, take-append-drop, Bool, true, false, Option, Some, None, Ok, Err, Result}
use Rattle.std.specs.Prelude.{bytes_eq, codes, if◌then◌else◌, ◌==◌, map}
use Rattle.std.specs.Io.KnownBytes.{Consumes}
use Rattle.std.proofs.KnownBytes.{Consumes-trans}
use Rattle.httparse.specs.Grammar.{status_code}
use Rattle.httparse.specs.Spans.{name_and_value}
use Rattle.st_http.specs.Bearer.{account_by}
use Rattle.st_http.specs.Length.{length_by}
use Rattle.st_http.specs.declared.error.HttpError.{HttpError}
use Rattle.st_http.specs.declared.error.HttpError.TheVariants.{ReadFault, WriteFault, BadHead, Status, TooLong, Cut, Turns, NoMemory}
use Rattle.st_http.specs.declared.length.Length.{Length}
use Rattle.st_http.specs.declared.length.Length.TheVariants as len
use Rattle.st_http.specs.declared.verdict.Lawful.{Lawful}
use Rattle.st_http.specs.Verdict.{Expected, request, response, Begins, request_of_account, request_of_length, response_of_length}
use Rattle.st_http.specs.Message.{Says, Standing, unfinished, whole, refused, IsRefused, wants_of}
use Rattle.st_http.proofs.Begins.{grown, no_head_grows}
use Rattle.st_http.specs.Progress.{Progress, IsTaken, Refuses}
use Rattle.st_http.specs.Reads.{Reads, ReadsRefusal, ReadsPart, ExplainsRead, IsRefusal, IsStatus}

-- a request is accepted for an account, or refused by a status
abbrev pub RequestAnswer : Result Lawful HttpError → Type 0
RequestAnswer (Ok l) = (account : ℕ) × (l.account ≡ Some account)
RequestAnswer (Err e) = IsStatus e

-- a response is accepted without an account, or refused
abbrev pub ResponseAnswer : Result Lawful HttpError → Type 0
ResponseAnswer (Ok l) = l.account ≡ None
ResponseAnswer (Err e) = IsRefusal e

of_length : (account : ℕ) (l : Length) → RequestAnswer (request_of_length account l)
of_length account len.Missing = tt
of_length account len.Malformed = tt
of_length account len.TooLong = tt
of_length account (len.Of size) = (account, refl)

of_account : (account : Option ℕ) (l : Length) → RequestAnswer (request_of_account account l)
of_account None l = tt
of_account (Some account) l = of_length account l

of_request : (b d : Bool) (account : Option ℕ) (l : Length) → RequestAnswer (if b then (if d then request_of_account account l else Err (Status 405)) else Err (Status 404))
of_request true true account l = of_account account l
of_request true false account l = tt
of_request false d account l = tt

pub request_answers : (tokens : List (List ℕ)) (text rest : List ℕ) (answer : Result Lawful HttpError) → Begins (request tokens) text answer rest → RequestAnswer answer
request_answers tokens text rest answer found =
    subst RequestAnswer (sym found.2) (of_request (bytes_eq found.0.target (codes "/ilp")) (bytes_eq found.0.method (codes "POST"))
    (account_by tokens (map name_and_value found.0.fields)) (length_by (map name_and_value found.0.fields)))

of_200 : (l : Length) → ResponseAnswer (response_of_length l)
of_200 len.Missing = tt
of_200 len.Malformed = tt
of_200 len.TooLong = tt
of_200 (len.Of size) = refl

of_response : (b : Bool) (status : ℕ) (l : Length) → ResponseAnswer (if b then response_of_length l else Err (Status status))
of_response true status l = of_200 l
of_response false status l = tt

pub response_answers : (text rest : List ℕ) (answer : Result Lawful HttpError) → Begins response text answer rest → ResponseAnswer answer
response_answers text rest answer found =
    subst ResponseAnswer (sym found.2) (of_response (status_code found.0 == 200) (status_code found.0) (length_by (map name_and_value found.0.fields)))

pub refused_by_status : (tokens : List (List ℕ)) (text : List ℕ) (e : HttpError) → IsRefused (request tokens) text e → IsStatus e
refused_by_status tokens text e (inl by_rules) = request_answers tokens text by_rules.0 (Err e) by_rules.1
refused_by_status tokens text e (inr no_head_) = subst IsStatus (sym no_head_.1) tt

status_is_refusal : (e : HttpError) → IsStatus e → IsRefusal e
status_is_refusal (Status code) is = tt
status_is_refusal ReadFault is = is
status_is_refusal (WriteFault n) is = is
status_is_refusal BadHead is = tt
status_is_refusal TooLong is = tt
status_is_refusal Cut is = is
status_is_refusal Turns is = is
status_is_refusal NoMemory is = is

pub refused_is_refusal : (expected : Expected) (text : List ℕ) (e : HttpError) → IsRefused expected text e → IsRefusal e
refused_is_refusal (request tokens) text e is = status_is_refusal e (refused_by_status tokens text e is)
refused_is_refusal response text e (inl by_rules) = response_answers text by_rules.0 (Err e) by_rules.1
refused_is_refusal response text e (inr no_head_) = subst IsRefusal (sym no_head_.1) tt

-- whatever follows, the message is refused so
pub refused_stays : (expected : Expected) (text more : List ℕ) (e : HttpError) → IsRefused expected text e → IsRefused expected (text ++ more) e
refused_stays expected text more e (inl by_rules) = inl (by_rules.0 ++ more, grown expected text more (Err e) by_rules.0 by_rules.1)
refused_stays expected text more e (inr no_head_) = inr (no_head_grows expected text more no_head_.0, no_head_.1)

-- what was read, together with the chunk, is refused by the same error
pub refused_with_piece : (expected : Expected) (old text piece : List ℕ) (e : HttpError) (n : ℕ) → text ≡ old ++ take n piece → IsRefused expected text e → IsRefused expected (old ++ piece) e
refused_with_piece expected old text piece e n is refusal =
    let all : text ++ drop n piece ≡ old ++ piece =
    ap (λ t. t ++ drop n piece) is ∙ append_assoc old (take n piece) (drop n piece) ∙ ap (λ t. old ++ t) (take-append-drop n piece) in
    subst (λ t. IsRefused expected t e) all (refused_stays expected text (drop n piece) e refusal)

-- a message that wants bytes is unfinished
pub still_unfinished : (expected : Expected) (text : List ℕ) (s : Standing) → Says expected text s → IsTaken s → (wants_of s ≡ 0 → ⊥) → (w : ℕ) × Says expected text (unfinished w)
still_unfinished expected text (unfinished w) says taken some = (w, says)
still_unfinished expected text (whole account body) says taken some = absurd (some refl)
still_unfinished expected text (refused e) says taken some = absurd taken

explained : (expected : Expected) (r : Reads) (e : HttpError) → IsRefusal e → ReadsRefusal expected r e → ExplainsRead expected r e
explained expected r (Status code) is refusal = refusal
explained expected r BadHead is refusal = refusal
explained expected r TooLong is refusal = refusal
explained expected r ReadFault is refusal = absurd is
explained expected r (WriteFault n) is refusal = absurd is
explained expected r Cut is refusal = absurd is
explained expected r Turns is refusal = absurd is
explained expected r NoMemory is refusal = tt

-- why a read that was refused gave no message
pub explains_refusal : (expected : Expected) (r : Reads) (middle : Option (List ℕ)) (old new : Progress) (piece : List ℕ) (e : HttpError)
    → new.expected ≡ expected → Consumes r.before middle old.taken → Consumes middle r.after piece → Says new.expected new.taken new.standing → Refuses old new piece e
    → ExplainsRead expected r e
explains_refusal expected r middle old new piece e same first second says refuses =
    let refusal : IsRefused expected new.taken e = subst (λ x. Says x new.taken (refused e)) same (subst (λ s. Says new.expected new.taken s) refuses.standing says) in
    explained expected r e (refused_is_refusal expected new.taken e refusal)
    (old.taken ++ piece, Consumes-trans r.before middle r.after old.taken piece first second, refused_with_piece expected old.taken new.taken piece e refuses.bytes.0 refuses.bytes.2 refusal)

-- what was read so far is not a whole message yet
pub reads_part : (expected : Expected) (r : Reads) (p : Progress) → p.expected ≡ expected → Consumes r.before r.after p.taken
    → Says p.expected p.taken p.standing → IsTaken p.standing → (wants_of p.standing ≡ 0 → ⊥) → ReadsPart expected r
reads_part expected r p same read says taken some =
    let open_ = still_unfinished p.expected p.taken p.standing says taken some in
    (p.taken, open_.0, read, subst (λ x. Says x p.taken (unfinished open_.0)) same open_.1)

-- a read that was refused, or for which there was no memory
pub explains_feed : (expected : Expected) (r : Reads) (middle : Option (List ℕ)) (old new : Progress) (piece : List ℕ) (e : HttpError)
    → new.expected ≡ expected → Consumes r.before middle old.taken → Consumes middle r.after piece → Says new.expected new.taken new.standing
    → ((e ≡ NoMemory) × (new ≡ old)) ⊎ Refuses old new piece e → ExplainsRead expected r e
explains_feed expected r middle old new piece e same first second says why = elim why [
  | inl memory ↦ subst (λ x. ExplainsRead expected r x) (sym memory.0) tt
  | inr refuses ↦ explains_refusal expected r middle old new piece e same first second says refuses
]
