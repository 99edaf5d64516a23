-- Calls on streams and reads, as moves.
use Rattle.std.proofs.Common.{◌≡◌, ◌≢◌, ℕ, zero, suc, Result, Ok, Err, Bool, true, false, cond, List, [], ◌∷◌, length, take, refl, sym, ap, subst, ◌∙◌, arith, Option, None, Some, is_some}
use Rattle.st_streams.specs.Slots.{slot, Slots, with_slot}
use Rattle.st_reassembly.specs.Run.{run}
use Rattle.st_sender.specs.Sending.{Outgoing, outgoing_at, with_outgoing, changed_at}
use Rattle.st_sender.specs.Accepting.{after_write, after_clean, after_stream_abort, after_offer}
use Rattle.st_receiver.specs.Streams.{Incoming, incoming_or, with_incoming}
use Rattle.st_end.specs.State.{EndState}
use Rattle.st_streams.specs.declared.end_error.EndError.{EndError}
use Rattle.st_streams.specs.declared.end_error.EndError.TheVariants as whys
use Rattle.st_sender.specs.declared.error.OutboxError.{OutboxError}
use Rattle.st_sender.specs.Refusals.{is_closed, no_more, full, too_much, all_accepted, all_offered, is_aborted}
use Rattle.st_end.specs.Calls.{wrapped_too, refusal_at, done, connection_refusal}
use Rattle.st_receiver.specs.Reading.{Got, Bytes, Nothing, End, Aborted, is_read, got_bytes, got_by, after_got_by, after_get}
use Rattle.st_world_parts.specs.Sides.{Side, Client, Server, other}
use Rattle.st_world_parts.specs.State.{World, end_at, with_end, log_at, with_ledger}
use Rattle.st_world_parts.specs.StreamLogs.{cleanly_closed, given_up, StreamLog, written, got}
use Rattle.st_world_parts.specs.Ends.{accepted_at, read_at}
use Rattle.st_receiver.specs.Reading as reading
use Rattle.st_sender.specs.declared.error.OutboxError.TheVariants as outbox
use Rattle.st_sender.specs.Refusals as sender
use Rattle.st_reassembly.proofs.Runs.{is_run}
use Rattle.st_world.proofs.DataReceived.{fresh_at}
use Rattle.st_world.proofs.Moves.{Accepts, Move, Tells, aborted, accepts, after_reading, closed_clean, ended, gave_up, move_at, nothing, offered, reads, stays, tells, wrote}
use Rattle.st_world.proofs.Truths.{or_false, if_none, or_none}

-- calls
wrapped_none : (o : Option OutboxError) → wrapped_too o ≡ None → o ≡ None
wrapped_none None e = refl
wrapped_none (Some why) e = absurd (cc)

same_end : (w : World) (a : Side) → with_end w a (end_at w a) ≡ w
same_end w Client = refl
same_end w Server = refl

refused_move : (w : World) (a : Side) → Move w (with_end w a (end_at w a))
refused_move w a = move_at w w (with_end w a (end_at w a)) (same_end w a) stays

call_move : (w : World) (a : Side) (k : ℕ) (x y : Outgoing) (l : StreamLog) (o : Option EndError) → outgoing_at (end_at w a).sending k ≡ Some x → (o ≡ None → (is_some x.abort ≡ false) × Accepts x (log_at w a k) y l)
    → let r = done (end_at w a) o (with_outgoing (end_at w a).sending k y) in Move w (accepted_at r.0 (with_end w a r.1) a k l)
call_move w a k x y l (Some n) is h = refused_move w a
call_move w a k x y l None is h = accepts a k x y l is (h refl).0 (h refl).1

-- a call that is not refused: the sending side's own rules let it pass
passes : (e : EndState) (x : Outgoing) (o : Option OutboxError) → refusal_at e (Some x) o ≡ None → o ≡ None
passes e x o r = wrapped_none o (or_none (connection_refusal e) (wrapped_too o) r).1

-- it was neither closed nor aborted
live : (x : Outgoing) (o : Option OutboxError) → cond (is_closed x) (Some outbox.Closed) o ≡ None → (is_some x.abort ≡ false) × (x.clean ≡ false)
live x o r = or_false _ _ (if_none _ _ _ r).0

pub write_move : (w : World) (a : Side) (k : ℕ) (xs : List ℕ) (y : Option Outgoing) → outgoing_at (end_at w a).sending k ≡ y
    → let r = done (end_at w a) (refusal_at (end_at w a) y (sender.refusal_at y is_closed (full (all_accepted (end_at w a).sending.streams) (length xs)))) (changed_at (end_at w a).sending k (after_write xs) y) in Move w (accepted_at r.0 (with_end w a r.1) a k (written xs (log_at w a k)))
write_move w a k xs None is = refused_move w a
write_move w a k xs (Some x) is =
    let own = sender.refusal_at (Some x) is_closed (full (all_accepted (end_at w a).sending.streams) (length xs)) in
    call_move w a k x (after_write xs x) (written xs (log_at w a k)) (refusal_at (end_at w a) (Some x) own) is
    (λ e. let f = live x _ (passes (end_at w a) x own e) in (f.0, wrote xs f.1))

pub close_move : (w : World) (a : Side) (k : ℕ) (y : Option Outgoing) → outgoing_at (end_at w a).sending k ≡ y
    → let r = done (end_at w a) (refusal_at (end_at w a) y (sender.refusal_at y is_closed no_more)) (changed_at (end_at w a).sending k after_clean y) in Move w (accepted_at r.0 (with_end w a r.1) a k (cleanly_closed (log_at w a k)))
close_move w a k None is = refused_move w a
close_move w a k (Some x) is =
    let own = sender.refusal_at (Some x) is_closed no_more in
    call_move w a k x (after_clean x) (cleanly_closed (log_at w a k)) (refusal_at (end_at w a) (Some x) own) is
    (λ e. let f = live x _ (passes (end_at w a) x own e) in (f.0, closed_clean f.1))

pub abort_move : (w : World) (a : Side) (k code : ℕ) (y : Option Outgoing) → code ≢ 1 → outgoing_at (end_at w a).sending k ≡ y
    → let r = done (end_at w a) (refusal_at (end_at w a) y (sender.refusal_at y is_aborted no_more)) (changed_at (end_at w a).sending k (after_stream_abort code) y) in Move w (accepted_at r.0 (with_end w a r.1) a k (given_up (log_at w a k)))
abort_move w a k code None ne is = refused_move w a
abort_move w a k code (Some x) ne is =
    let own = sender.refusal_at (Some x) is_aborted no_more in
    call_move w a k x (after_stream_abort code x) (given_up (log_at w a k)) (refusal_at (end_at w a) (Some x) own) is
    (λ e. ((if_none _ _ _ (passes (end_at w a) x own e)).0, gave_up code ne))

pub offer_move : (w : World) (a : Side) (k n : ℕ) (y : Option Outgoing) → outgoing_at (end_at w a).sending k ≡ y
    → let r = done (end_at w a) (refusal_at (end_at w a) y (sender.refusal_at y is_closed (too_much (all_offered (end_at w a).sending.streams) n))) (changed_at (end_at w a).sending k (after_offer n) y) in Move w (accepted_at r.0 (with_end w a r.1) a k (log_at w a k))
offer_move w a k n None is = refused_move w a
offer_move w a k n (Some x) is =
    let own = sender.refusal_at (Some x) is_closed (too_much (all_offered (end_at w a).sending.streams) n) in
    call_move w a k x (after_offer n x) (log_at w a k) (refusal_at (end_at w a) (Some x) own) is
    (λ e. let f = live x _ (passes (end_at w a) x own e) in (f.0, offered n))

-- reads
ends_told : (x : Incoming) (o : Option ℕ) → x.held.aborted ≡ None → x.held.end ≡ o → (b : Bool) → is_read x.held.read o ≡ b → Tells x (cond b End Nothing)
ends_told x o a is false e = nothing
ends_told x None a is true e = absurd (cc)
ends_told x (Some n) a is true e = ended n a is (grind (arith))

-- a stream put back as it was
put_back : (xs : Slots Incoming) (k : ℕ) (x : Incoming) → slot xs k ≡ Some x → with_slot xs k x ≡ xs
put_back [] k x e = refl
put_back (y ∷ ys) zero x e = ap (λ z. z ∷ ys) (sym e)
put_back (y ∷ ys) (suc k) x e = ap (λ zs. y ∷ zs) (put_back ys k x e)

unread : (w : World) (a : Side) (k : ℕ) (x : Incoming) → slot (end_at w a).receiving.streams k ≡ Some x → with_end w a (record (end_at w a) { receiving = with_incoming (end_at w a).receiving k x }) ≡ w
unread w a k x is = ap (λ ss. with_end w a (record (end_at w a) { receiving = record (end_at w a).receiving { streams = ss } })) (put_back (end_at w a).receiving.streams k x is) ∙ same_end w a

-- a read that gives no bytes leaves the end as it was
tells_move : (w : World) (a : Side) (k : ℕ) (x : Incoming) (g : Got) → slot (end_at w a).receiving.streams k ≡ Some x → Tells x g
    → Move w (read_at (Ok g) (with_end w a (record (end_at w a) { receiving = with_incoming (end_at w a).receiving k x })) (other a) k)
tells_move w a k x g is t =
    let R : World → Type 0 = λ v. Move w (with_ledger v (other a) k (got g (log_at v (other a) k))) in
    subst R (sym (unread w a k x is)) (tells a k x g is t)

run_move : (w : World) (a : Side) (k n : ℕ) (x : Incoming) (t : List ℕ) → slot (end_at w a).receiving.streams k ≡ Some x → x.held.aborted ≡ None → take n (run x.held) ≡ t
    → Move w (read_at (Ok (got_bytes x.held t)) (with_end w a (record (end_at w a) { receiving = with_incoming (end_at w a).receiving k (record x { held = reading.after_bytes n x.held t }) })) (other a) k)
run_move w a k n x [] is live e = tells_move w a k x _ is (ends_told x x.held.end live refl (is_read x.held.read x.held.end) refl)
run_move w a k n x (b ∷ bs) is live e =
    let Q : List ℕ → Type 0 = λ t. Move w (read_at (Ok (Bytes t)) (with_end w a (after_reading (end_at w a) k x (length (take n (run x.held))))) (other a) k) in
    subst Q e (reads a k n x (run x.held) is live (is_run x.held))

held_move : (w : World) (a : Side) (k n : ℕ) (x : Incoming) (o : Option ℕ) → slot (end_at w a).receiving.streams k ≡ Some x → x.held.aborted ≡ o
    → Move w (read_at (Ok (got_by o n x.held)) (with_end w a (record (end_at w a) { receiving = with_incoming (end_at w a).receiving k (record x { held = after_got_by o n x.held }) })) (other a) k)
held_move w a k n x (Some code) is live = tells_move w a k x (Aborted code) is (aborted code live)
held_move w a k n x None is live = run_move w a k n x (take n (run x.held)) is live refl

pub stream_move : (w : World) (a : Side) (k n : ℕ) (y : Option Incoming) → slot (end_at w a).receiving.streams k ≡ y
    → let x = incoming_or (fresh_at (end_at w a).receiving k) y in
    let r = cond {A = Result Got EndError × EndState} (is_some y) (Ok (reading.got n x.held), record (end_at w a) { receiving = with_incoming (end_at w a).receiving k (after_get n x) }) (Err whys.NoStream, end_at w a) in
    Move w (read_at r.0 (with_end w a r.1) (other a) k)
stream_move w a k n None is = refused_move w a
stream_move w a k n (Some x) is = held_move w a k n x x.held.aborted is refl
