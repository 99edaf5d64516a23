-- What the end's calls keep, by what they answered.
use Rattle.std.proofs.Common.{◌≡◌, ◌≢◌, ℕ, ℤ, List, Option, None, Some, Result, Ok, Err, sym, ap, subst, ⊎_elim, true}
use Rattle.std.specs.Prelude.{is_ok, IfOk, OnErr, MatchOption}
use Rattle.st_end.specs.State.{EndState}
use Rattle.st_streams.specs.declared.end_error.EndError.{EndError}
use Rattle.st_streams.specs.declared.end_error.EndError.TheVariants as end_errors
use Rattle.st_end.specs.declared.received.Received.{Received}
use Rattle.st_end.specs.Calls.{Answer, OrWants, open_stream, write}
use Rattle.st_end.specs.Sending.{GoesNone}
use Rattle.st_end.specs.Unsealed.{Launched, GoesUnsealed}
use Rattle.st_end.specs.Receiving as receiving
use Rattle.st_end.specs.Seen.{received_seen}
use Rattle.st_hub.specs.Turns.{credited_by}
use Rattle.st_hub.specs.Keeping.{Keeps}
use Rattle.st_hub.proofs.EndEvents.{keeps_same, unsealed_keeps, Opened, opened_is}
use Rattle.st_hub.proofs.Receiving.{received_keeps}

pub receive_keeps : {X : Type 0} (e b : EndState) (bytes : List ℕ) (now : ℤ) (r : Result (Received X) EndError) → IfOk r (λ r. receiving.received e bytes now ≡ (received_seen r, b)) → IfOk r (λ r. Keeps (credited_by (received_seen r)) e b)
receive_keeps e b bytes now (Ok x) h = subst (λ (p : receiving.Received × EndState). Keeps (credited_by p.0) e p.1) h (received_keeps e bytes now)
receive_keeps e b bytes now (Err why) h = tt

pub receive_some : {X : Type 0} (e b : EndState) (bytes : List ℕ) (now : ℤ) (r : Result (Received X) EndError) → IfOk r (λ r. receiving.received e bytes now ≡ (received_seen r, b)) → OnErr r (b ≡ e) → (n : ℕ) × Keeps n e b
receive_some e b bytes now (Ok x) h u = (credited_by (received_seen x), subst (λ (p : receiving.Received × EndState). Keeps (credited_by p.0) e p.1) h (received_keeps e bytes now))
receive_some e b bytes now (Err why) h u = (0, subst (Keeps 0 e) (sym u) (keeps_same e))

pub send_keeps : (e b : EndState) (iv : List ℕ) (now : ℤ) (r : Result (Option Launched) EndError)
    → IfOk r (λ s. MatchOption s (GoesNone e × (b ≡ e)) (λ x. GoesUnsealed e iv now x.flight x.bytes b)) → OnErr r (b ≡ e) → Keeps 0 e b
send_keeps e b iv now (Ok None) h u = subst (Keeps 0 e) (sym h.1) (keeps_same e)
send_keeps e b iv now (Ok (Some x)) h u = unsealed_keeps e iv now x.flight x.bytes b h
send_keeps e b iv now (Err why) h u = subst (Keeps 0 e) (sym u) (keeps_same e)

pub opened_ok : (e b : EndState) (k : ℕ) → OrWants e (open_stream e) (Ok k, b) → Opened e b k
opened_ok e b k h =
    ⊎_elim
    (λ (is : ◌≡◌ {A = Result ℕ EndError × EndState} (Ok k, b) (open_stream e)). opened_is e b k (sym is))
    (λ (w : (is_ok (open_stream e).0 ≡ true) × ◌≡◌ {A = Result ℕ EndError × EndState} (Ok k, b) (Err end_errors.NoMemory, e)). absurd (let f : ◌≡◌ {A = Result ℕ EndError} (Ok k) (Err end_errors.NoMemory) = ap (λ p. p.0) w.1 in cc))
    h

pub write_ok : (e b : EndState) (k : ℕ) (xs : List ℕ) (u : Unit {0}) → OrWants e (write e k xs) (Ok u, b) → write e k xs ≡ (Ok tt, b)
write_ok e b k xs u h =
    ⊎_elim
    (λ (is : ◌≡◌ {A = Answer × EndState} (Ok u, b) (write e k xs)). sym is)
    (λ (w : (is_ok (write e k xs).0 ≡ true) × ◌≡◌ {A = Answer × EndState} (Ok u, b) (Err end_errors.NoMemory, e)). absurd (let f : ◌≡◌ {A = Answer} (Ok u) (Err end_errors.NoMemory) = ap (λ p. p.0) w.1 in cc))
    h

-- an error other than out of memory is the one that is defined
pub wants_err : {X : Type 0} (e b : EndState) (defined : Result X EndError × EndState) (why : EndError) → why ≢ end_errors.NoMemory → OrWants e defined (Err why, b) → defined ≡ (Err why, b)
wants_err {X} e b defined why ne h =
    ⊎_elim
    (λ (is : ◌≡◌ {A = Result X EndError × EndState} (Err why, b) defined). sym is)
    (λ (w : (is_ok defined.0 ≡ true) × ◌≡◌ {A = Result X EndError × EndState} (Err why, b) (Err end_errors.NoMemory, e)). absurd (ne (let f : ◌≡◌ {A = Result X EndError} (Err why) (Err end_errors.NoMemory) = ap (λ p. p.0) w.1 in cc)))
    h

pub refused_still : (e b : EndState) (k : ℕ) (xs : List ℕ) (why : EndError) → why ≢ end_errors.NoMemory → b ≡ e → OrWants e (write e k xs) (Err why, b) → write b k xs ≡ (Err why, b)
refused_still e b k xs why ne same h = subst (λ (z : EndState). write z k xs ≡ (Err why, b)) (sym same) (wants_err e b (write e k xs) why ne h)
