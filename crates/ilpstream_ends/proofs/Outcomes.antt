-- A transfer without a fault put the whole input into the stream; the totals that it reports are those of an end; and how that end began.
use Rattle.std.proofs.Common.{◌≡◌, ℕ, Bool, true, false, List, inl, inr, refl, sym, ap, subst, Result, Ok, Err}
use Rattle.std.specs.Prelude.{IfOk}
use Rattle.st_end.specs.State.{EndState}
use Rattle.st_end.specs.Calls as calls
use Rattle.st_end.specs.Totals.{Totals, totals, settled}
use Rattle.st_streams.specs.declared.end_error.EndError.{EndError}
use Rattle.st_streams.specs.declared.end_error.EndError.TheVariants as refusals
use Rattle.st_hub.specs.declared.workers.WorkEnd.{WorkEnd}
use Rattle.st_file.specs.declared.error.FileError.{FileError}
use Rattle.ilpstream_ends.specs.Keeping.{file_stream}
use Rattle.ilpstream_serving.specs.declared.error.TransferError.{TransferError}
use Rattle.ilpstream_serving.specs.declared.error.TransferError.TheVariants.{End}
use Rattle.ilpstream_ends.specs.Outcomes.{outcome, IsTold, OpensWith, WhyNotBegun}

pub sent_whole : (s f : Bool) (es : List WorkEnd) (fed : Result ℕ FileError) (r : Result ℕ TransferError) (P : ℕ → Type 0) → r ≡ outcome s f es fed → IfOk fed P → IfOk r P
sent_whole true f es (Ok n) r P is h = subst (λ x. IfOk x P) (sym is) h
sent_whole false f es (Ok n) r P is h = subst (λ x. IfOk x P) (sym is) tt
sent_whole true f es (Err e) r P is h = subst (λ x. IfOk x P) (sym is) tt
sent_whole false f es (Err e) r P is h = subst (λ x. IfOk x P) (sym is) tt

pub told_so : (e : EndState) (es : List WorkEnd) (fed : Result ℕ FileError) (r : Result ℕ TransferError) (t : Totals) → r ≡ outcome (settled e file_stream) e.sending.failed es fed → t ≡ totals e → IsTold r t
told_so e es fed r t is so = (e, es, fed, is, so)

-- a stream that was opened is the one that the definition names
opened_given : (a b : EndState) (k : ℕ) → calls.OrWants a (calls.open_stream a) (Ok k, b) → calls.open_stream a ≡ (Ok k, b)
opened_given a b k (inl p) = sym p
opened_given a b k (inr p) = absurd (let f : ◌≡◌ {A = Result ℕ EndError} (Ok k) (Err refusals.NoMemory) = ap (λ q. q.0) p.1 in cc)

pub opens_with : (a mid b : EndState) (k money : ℕ) → calls.OrWants a (calls.open_stream a) (Ok k, mid) → calls.offer mid k money ≡ (Ok tt, b) → OpensWith a money b
opens_with a mid b k money opened offered = (k, mid, opened_given a mid k opened, offered)

-- a stream or money that was refused is refused by a rule of the end, or memory ran out
pub no_stream : (a b : EndState) (e : EndError) (money : ℕ) → calls.OrWants a (calls.open_stream a) (Err e, b) → WhyNotBegun a money (End e)
no_stream a b e money (inl p) = inr (e, refl, inr (inl (b, sym p)))
no_stream a b e money (inr p) = inr (e, refl, inl (let f : ◌≡◌ {A = Result ℕ EndError} (Err e) (Err refusals.NoMemory) = ap (λ q. q.0) p.1 in cc))

pub no_offer : (a mid b : EndState) (k money : ℕ) (e : EndError) → calls.OrWants a (calls.open_stream a) (Ok k, mid) → calls.offer mid k money ≡ (Err e, b) → WhyNotBegun a money (End e)
no_offer a mid b k money e opened refused = inr (e, refl, inr (inr (k, mid, b, opened_given a mid k opened, refused)))
