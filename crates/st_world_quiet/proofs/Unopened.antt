-- What names a stream that is not open is refused, and leaves the world as it was.
use Rattle.std.proofs.Common.{◌≡◌, ℕ, ◌+◌, Bool, true, false, cond, List, [], ◌∷◌, length, refl, sym, subst, Option, None, Some, Result, Ok, Err, is_ok, is_some, nat_eq}
use Rattle.st_sender.specs.Sending.{Outgoing, Sending, changed, outgoing_at}
use Rattle.st_sender.specs.declared.error.OutboxError.{OutboxError}
use Rattle.st_sender.specs.Accepting.{after_clean, after_write}
use Rattle.st_sender.specs.Refusals.{close_refusal, write_refusal}
use Rattle.st_receiver.specs.Streams.{incoming_at, is_open}
use Rattle.st_receiver.specs.Reading.{Got, after_got, got}
use Rattle.st_streams.specs.declared.end_error.EndError.{EndError}
use Rattle.st_streams.specs.declared.end_error.EndError.TheVariants.{NoStream}
use Rattle.st_end.specs.State.{EndState}
use Rattle.st_end.specs.Calls.{Answer, close, done, has_stream, refusal, refusal_at, write}
use Rattle.st_end.specs.Reading.{read}
use Rattle.st_world_parts.specs.Sides.{Client, Server}
use Rattle.st_world_parts.specs.State.{World, end_at, log_at, with_end}
use Rattle.st_world_parts.specs.StreamLogs.{StreamLog, cleanly_closed, written}
use Rattle.st_world_parts.specs.Events.{Call, Gave, Read, Write}
use Rattle.st_world_parts.specs.Ends.{Calls, read_at}
use Rattle.st_world_quiet.specs.Worlds.{Met}
use Rattle.st_world_quiet.specs.HopRounds.{close_if, fits, writes}
use Rattle.st_world_quiet.specs.Playing.{read_limit}

-- ---- a read

read_refused : (e : EndState) (k n : ℕ) → is_ok (read e k n).0 ≡ false → read e k n ≡ (Err NoStream, e)
read_refused e k n none = by (is_open e.receiving k) none
  where
    r : Result Got EndError × EndState
    r = (Ok (got n (incoming_at e.receiving k).held), record e { receiving = after_got e.receiving k n })

    by : (b : Bool) → is_ok (cond b r (Err NoStream, e)).0 ≡ false → cond b r (Err NoStream, e) ≡ (Err NoStream, e)
    by true f = absurd (let clash : ◌≡◌ {A = Bool} true false = f in cc)
    by false f = refl

pub unread : (w : World) (k : ℕ) → is_ok (read (end_at w Server) k read_limit).0 ≡ false → Met w (Read Server k read_limit ∷ []) w
unread w k none =
    let P : Result Got EndError × EndState → Type 0 = λ r. (Gave (Err NoStream) ≡ Gave r.0) × (w ≡ read_at r.0 (with_end w Server r.1) Client k) in
    (w, Gave (Err NoStream), tt, subst P (sym (read_refused (end_at w Server) k read_limit none)) (refl, refl), refl)

-- ---- a write, and a close

none_open : (o : Option Outgoing) → is_some o ≡ false → o ≡ None
none_open None f = refl
none_open (Some x) f = absurd (let clash : ◌≡◌ {A = Bool} true false = f in cc)

refused : (e : EndState) (k : ℕ) (of_sender : Option OutboxError) (s : Sending) → has_stream e k ≡ false → done e (refusal e k of_sender) s ≡ (Err NoStream, e)
refused e k of_sender s none = let P : Option Outgoing → Type 0 = λ o. done e (refusal_at e o of_sender) s ≡ (Err NoStream, e) in subst P (sym (none_open (outgoing_at e.sending k) none)) refl

uncalled : (w : World) (k : ℕ) (r : Answer × EndState) (x : StreamLog) → r ≡ (Err NoStream, end_at w Client) → Calls w Client k r x (Call (Err NoStream)) w
uncalled w k r x is = subst (λ q. Calls w Client k q x (Call (Err NoStream)) w) (sym is) (refl, refl)

pub unwritten : (xs : List ℕ) (w : World) (k : ℕ) → has_stream (end_at w Client) k ≡ false → Met w (writes xs k (log_at w Client k)) w
unwritten xs w k none = by (nat_eq (length l.written + length (fits xs l)) (length xs))
  where
    l : StreamLog
    l = log_at w Client k

    e : EndState
    e = end_at w Client

    write_is : write e k (fits xs l) ≡ (Err NoStream, e)
    write_is = refused e k (write_refusal e.sending k (length (fits xs l))) (changed e.sending k (after_write (fits xs l))) none

    close_is : close e k ≡ (Err NoStream, e)
    close_is = refused e k (close_refusal e.sending k) (changed e.sending k after_clean) none

    by : (b : Bool) → Met w (Write Client k (fits xs l) ∷ close_if b k) w
    by false = (w, Call (Err NoStream), tt, uncalled w k (write e k (fits xs l)) (written (fits xs l) l) write_is, refl)
    by true = (w, Call (Err NoStream), tt, uncalled w k (write e k (fits xs l)) (written (fits xs l) l) write_is, (w, Call (Err NoStream), tt, uncalled w k (close e k) (cleanly_closed l) close_is, refl))
