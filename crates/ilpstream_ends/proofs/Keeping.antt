-- A run of an end continues, and what of it is written.
use Rattle.std.specs.Prelude.{IfSome, IsSome}
use Rattle.std.specs.Option.{ForSome}
use Rattle.std.proofs.Common.{◌≡◌, ◌⊎◌, ◌∙◌, ℕ, zero, suc, Bool, true, false, List, [], ◌++◌, inl, inr, append-nil, refl, sym, ap, subst, Option, Some, None, Result, Ok, Err, if◌then◌else◌}
use Rattle.std.specs.Io.KnownBytes.{Keeps}
use Rattle.std.proofs.KnownBytes.{Appends-nil, Appends-kept}
use Rattle.st_receiver.specs.Reading as reading
use Rattle.st_receiver.specs.Streams.{is_open, may_name}
use Rattle.st_end.specs.State.{EndState}
use Rattle.st_end.specs.Calls as calls
use Rattle.st_end.specs.Calls.{OrWants}
use Rattle.st_end.specs.Reading.{read}
use Rattle.st_end.specs.Receiving.{Verdict, Unread, Rejects, Fulfills, after_verdict, verdict}
use Rattle.st_end.specs.declared.opened.Opened.{Opened}
use Rattle.st_streams.specs.declared.end_error.EndError.{EndError}
use Rattle.st_streams.specs.declared.end_error.EndError.TheVariants as refusals
use Rattle.st_http.specs.Message.{Standing}
use Rattle.st_http.specs.Progress.{body_of}
use Rattle.st_file.specs.Stores.{Flushes, WritesPiece}
use Rattle.st_file.specs.declared.error.FileError.{FileError}
use Rattle.st_file.specs.declared.error.FileError.TheVariants.{ReadFault, WriteFault, Aborted, Turns, NoMemory, Closed}
use Rattle.st_file.proofs.Storing.{stored_more, stored_why}
use Rattle.ilpstream_serving.specs.Answering.{IsWholeAt}
use Rattle.ilpstream_ends.specs.Answering.{Answers}
use Rattle.ilpstream_ends.specs.Keeping.{Explains, Gives, Happens, comes, is_read, IsUpToDate, Kept, KeptAll, KeptTo, Reads, Runs, RunsIn, file_stream, piece_limit, given_of}
use Rattle.ilpstream_ends.specs.Replies.{AnswersBody, AnswersFor, IsLater, IsOpenedFor}
use Rattle.ilpstream_serving.specs.declared.error.TransferError.TheVariants as transfer

-- ---- one read

refused_by : (t : Bool) (a b c : EndState) (got : reading.Got) (e : EndError) → ◌≡◌ {A = Result reading.Got EndError × EndState} (Err e, b) (if t then (Ok got, c) else (Err refusals.NoStream, a)) → e ≡ refusals.NoStream
refused_by true a b c got e h = absurd (let f : ◌≡◌ {A = Result reading.Got EndError} (Err e) (Ok got) = ap (λ q. q.0) h in cc)
refused_by false a b c got e h = let f : ◌≡◌ {A = Result reading.Got EndError} (Err e) (Err refusals.NoStream) = ap (λ q. q.0) h in cc

-- a read is refused if the stream is not open, or for memory
pub read_refused : (a b : EndState) (e : EndError) → OrWants a (read a file_stream piece_limit) (Err e, b) → (e ≡ refusals.NoStream) ⊎ (e ≡ refusals.NoMemory)
read_refused a b e (inl p) = inl (refused_by (is_open a.receiving file_stream) a b _ _ e p)
read_refused a b e (inr p) = inr (let f : ◌≡◌ {A = Result reading.Got EndError} (Err e) (Err refusals.NoMemory) = ap (λ q. q.0) p.1 in cc)

closed_by : (t : Bool) (a b c : EndState) (got : reading.Got) → ◌≡◌ {A = Result reading.Got EndError × EndState} (Err refusals.NoStream, b) (if t then (Ok got, c) else (Err refusals.NoStream, a)) → t ≡ false
closed_by true a b c got h = absurd (let f : ◌≡◌ {A = Result reading.Got EndError} (Err refusals.NoStream) (Ok got) = ap (λ q. q.0) h in cc)
closed_by false a b c got h = refl

-- ---- runs

pub kept_none : (start : EndState) (before : Option (List ℕ)) → Kept start before start before 0
kept_none start before = ([], (0, (refl, refl)), ([], refl, Appends-nil before, refl))

-- one more of a run
pub runs_more : (start now next : EndState) (out more : List ℕ) → Runs start out now → Happens now more next → Runs start (out ++ more) next
runs_more start now next out more r h = (suc r.0, (now, out, more, r.1, h, refl))

-- one more that gives nothing
pub kept_on : (start now next : EndState) (before after : Option (List ℕ)) (n : ℕ) → Kept start before now after n → Happens now [] next → Kept start before next after n
kept_on start now next before after n k h = (k.0, rw append-nil at (runs_more start now next k.0 [] k.1 h), k.2)

-- what the stream gave is written
pub kept_more : (start now next : EndState) (before mid after : Option (List ℕ)) (n m : ℕ) (text : List ℕ) → Kept start before now mid n → Reads now (reading.Bytes text) next → WritesPiece n mid after text (Ok m) → Kept start before next after m
kept_more start now next before mid after n m text k r w = (
  k.0 ++ text,
  runs_more start now next k.0 text k.1 (is_read (reading.Bytes text) r refl),
  stored_more before mid after (given_of []) (given_of k.0) (given_of (k.0 ++ text)) n m text k.2 refl w.0 w.1,
)

-- and why it was not, or not whole
pub kept_why : (start now next : EndState) (before mid after : Option (List ℕ)) (n : ℕ) (text : List ℕ) (e : FileError) → Kept start before now mid n → Reads now (reading.Bytes text) next → WritesPiece n mid after text (Err e) → Explains start before next after (transfer.File e)
kept_why start now next before mid after n text (ReadFault m) k r w = absurd w
kept_why start now next before mid after n text (WriteFault m) k r w =
    let s = stored_why before mid after (given_of []) (given_of k.0) (given_of (k.0 ++ text)) n text (WriteFault m) k.2 refl w in
    (s.0, (k.0 ++ text, runs_more start now next k.0 text k.1 (is_read (reading.Bytes text) r refl), s.1))
kept_why start now next before mid after n text (Aborted code m) k r w = absurd w
kept_why start now next before mid after n text (Turns m) k r w =
    let s = stored_why before mid after (given_of []) (given_of k.0) (given_of (k.0 ++ text)) n text (Turns m) k.2 refl w in
    (s.0, (k.0 ++ text, runs_more start now next k.0 text k.1 (is_read (reading.Bytes text) r refl), s.1))
kept_why start now next before mid after n text (NoMemory m) k r w = absurd w
kept_why start now next before mid after n text (Closed m) k r w = absurd w

-- what is kept is so after a flush
pub kept_flushed : (start now : EndState) (before mid after : Option (List ℕ)) (n : ℕ) → Kept start before now mid n → Keeps mid after → Kept start before now after n
kept_flushed start now before mid after n k f = (k.0, k.1, (k.2.0, k.2.1, Appends-kept before mid after k.2.0 k.2.2 f, k.2.3))

-- if the flush fails, all that was given is written
pub flush_why : (start now : EndState) (before mid after : Option (List ℕ)) (n : ℕ) (e : FileError) → Kept start before now mid n → Keeps mid after → Flushes {T = Unit {0}} n (Err e) → Explains start before now after (transfer.File e)
flush_why start now before mid after n (ReadFault m) k f w = absurd w
flush_why start now before mid after n (WriteFault m) k f w = ([], rw w (kept_flushed start now before mid after n k f))
flush_why start now before mid after n (Aborted code m) k f w = absurd w
flush_why start now before mid after n (Turns m) k f w = ([], rw w (kept_flushed start now before mid after n k f))
flush_why start now before mid after n (NoMemory m) k f w = absurd w
flush_why start now before mid after n (Closed m) k f w = absurd w

-- nothing arrived on the stream
pub kept_idle : (start now next : EndState) (before after : Option (List ℕ)) (n : ℕ) → Kept start before now after n → Gives now reading.Nothing next → Kept start before next after n
kept_idle start now next before after n k (inl r) = kept_on start now next before after n k (is_read reading.Nothing r refl)
kept_idle start now next before after n k (inr same) = rw same.1 k

-- and all that was written is flushed
pub kept_quiet : (start now next : EndState) (before mid after : Option (List ℕ)) (n : ℕ) → Kept start before now mid n → Gives now reading.Nothing next → Keeps mid after → KeptAll start before next after n
kept_quiet start now next before mid after n k r f = (now, kept_flushed start now before mid after n k f, r)

-- what is written of an end that is up to date
pub kept_so_far : (start now : EndState) (before after : Option (List ℕ)) (n : ℕ) → IsUpToDate start before now after n → Kept start before now after n
kept_so_far start now before after n (inl h) = rw (h.0, h.1) (kept_flushed start start before before after 0 (kept_none start before) h.2)
kept_so_far start now before after n (inr h) = kept_idle start h.0 now before after n h.1 h.2

-- the same if it reported an end
pub kept_past : (start now next : EndState) (before after : Option (List ℕ)) (n : ℕ) → Kept start before now after n → Reads now reading.End next → Kept start before next after n
kept_past start now next before after n k r = kept_on start now next before after n k (is_read reading.End r refl)

-- and all was flushed
pub kept_ended : (start now next : EndState) (before mid after : Option (List ℕ)) (n : ℕ) → Kept start before now mid n → Reads now reading.End next → Keeps mid after → KeptTo start before next after n reading.End
kept_ended start now next before mid after n k r f = (now, kept_flushed start now before mid after n k f, r)

-- ---- the keys of a run

after_keys : (e : EndState) (v : Verdict) → (after_verdict e v).keys ≡ e.keys
after_keys e (Unread code reason) = refl
after_keys e (Rejects p reason) = refl
after_keys e (Fulfills p r) = refl

read_keys : (t : Bool) (a b c : EndState) (x y : Result reading.Got EndError) (z : reading.Got) → c.keys ≡ a.keys → ◌≡◌ {A = Result reading.Got EndError × EndState} (if t then (x, c) else (y, a)) (Ok z, b) → b.keys ≡ a.keys
read_keys true a b c x y z same h = ap (λ q. q.1.keys) (sym h) ∙ same
read_keys false a b c x y z same h = ap (λ q. q.1.keys) (sym h)

happens_keys : (a : EndState) (out : List ℕ) (b : EndState) → Happens a out b → b.keys ≡ a.keys
happens_keys a out b (comes bytes r t is) = ap (λ q. q.1.keys) (sym t.1) ∙ after_keys a (verdict a bytes t.0)
happens_keys a out b (is_read got r is) = read_keys (is_open a.receiving file_stream) a b _ _ _ got refl r

runs_in_keys : (n : ℕ) (a : EndState) (out : List ℕ) (b : EndState) → RunsIn n a out b → b.keys ≡ a.keys
runs_in_keys zero a out b r = ap (λ e. e.keys) r.1
runs_in_keys (suc n) a out b (c, first, last, r, h, is) = happens_keys c last b h ∙ runs_in_keys n a first c r

max_keys : (t : Bool) (a b c : EndState) (x : calls.Answer) → c.keys ≡ a.keys → ◌≡◌ {A = calls.Answer × EndState} (if t then (Ok tt, c) else (Err refusals.NoStream, a)) (x, b) → b.keys ≡ a.keys
max_keys true a b c x same h = ap (λ q. q.1.keys) (sym h) ∙ same
max_keys false a b c x same h = ap (λ q. q.1.keys) (sym h)

-- so it does if its receive max is set
pub set_max_keys : (a b : EndState) (k amount : ℕ) (x : calls.Answer) → calls.set_receive_max a k amount ≡ (x, b) → b.keys ≡ a.keys
set_max_keys a b k amount x h = max_keys (may_name a.receiving k) a b _ x refl h

-- an end keeps its keys
pub later_keys : (start now : EndState) → IsLater start now → now.keys ≡ start.keys
later_keys start now later = runs_in_keys later.1.0 start later.0 now later.1.1

-- what was opened by its first keys was opened by its own
pub opened_later : {X : Type 0} (start now : EndState) (opened : Option (Opened X)) → IsLater start now → IsOpenedFor start.keys opened → IsOpenedFor now.keys opened
opened_later start now opened later h = subst (λ k. IsOpenedFor k opened) (sym (later_keys start now later)) h

-- what was opened of the body of a request, if there was memory, is that body
pub body_opened : (standing : Standing) (body : List ℕ) (bytes : Option (List ℕ)) → body_of standing ≡ Some body → IfSome bytes (λ b. b ≡ body) → ForSome bytes (λ b. body_of standing ≡ Some b)
body_opened standing body None is same = λ b some. absurd (cc)
body_opened standing body (Some x) is same = λ b some. is ∙ ap Some (sym same) ∙ some

-- an answer to what was opened is one to the body of its request
pub answers_body : (standing : Standing) (now next : EndState) (bytes answer : Option (List ℕ)) → IsWholeAt standing → ForSome bytes (λ b. body_of standing ≡ Some b) → AnswersFor now bytes answer next → AnswersBody now standing answer next
answers_body standing now next None answer whole same h = of_body (body_of standing) refl whole.1
  where
    of_body : (body : Option (List ℕ)) → body_of standing ≡ body → IsSome body → AnswersBody now standing answer next
    of_body (Some body) is some = (body, is, h body)
    of_body None is some = absurd (cc)
answers_body standing now next (Some bytes) answer whole same h = (bytes, same bytes refl, h)

-- what is written of an end is written of a later one
pub kept_later : (start now : EndState) (before after : Option (List ℕ)) (n : ℕ) → Kept start before now after n → IsLater start now
kept_later start now before after n k = (k.0, k.1)

-- ---- answers

-- an answer extends a run, or changes nothing
pub kept_answered : (start now next : EndState) (before after : Option (List ℕ)) (n : ℕ) (bytes : List ℕ) (answer : Option (List ℕ)) → Kept start before now after n → Answers now bytes answer next → Kept start before next after n
kept_answered start now next before after n bytes (Some answer) k (inl h) = kept_on start now next before after n k (comes bytes h.0 h.1 refl)
kept_answered start now next before after n bytes (Some answer) k (inr h) = rw h.1 k
kept_answered start now next before after n bytes None k h = rw h k
