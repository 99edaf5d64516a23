-- How many bytes a write may have, from what the sending side reports.
use Rattle.std.proofs.Common.{◌≡◌, ℕ, Bool, true, false, cond, ap, Option, None, Some, Ok, Err}
use Rattle.std.specs.Prelude.{nat_lt}
use Rattle.std.specs.Option.{option_or}
use Rattle.st_sender.specs.declared.error.OutboxError.{OutboxError}
use Rattle.st_sender.specs.declared.error.OutboxError.TheVariants as outbox
use Rattle.st_sender.specs.Sending.{Outgoing, outgoing_at}
use Rattle.st_sender.specs.Refusals.{write_refusal, all_accepted}
use Rattle.st_sender.specs.Room as sender
use Rattle.st_streams.specs.declared.end_error.EndError.{EndError}
use Rattle.st_streams.specs.declared.end_error.EndError.TheVariants.{Full}
use Rattle.st_sender.specs.Errors.{wrapped}
use Rattle.st_end.specs.State.{EndState}
use Rattle.st_end.specs.Calls.{answer, refusal, refusal_at, connection_refusal, wrapped_too}
use Rattle.st_end.specs.Ready.{IsRoom}

kept_by : (c : Option EndError) (r : Option OutboxError) (b : Bool) → answer (option_or c None) ≡ Ok tt → r ≡ cond b (Some outbox.Full) None → option_or c (wrapped_too r) ≡ cond b (Some Full) None
kept_by (Some why) r b p q = absurd (cc)
kept_by None r true p q = ap wrapped_too q
kept_by None r false p q = ap wrapped_too q

kept : (e : EndState) (o : Option Outgoing) (r : Option OutboxError) (b : Bool) → answer (refusal_at e o None) ≡ Ok tt → r ≡ cond b (Some outbox.Full) None → refusal_at e o r ≡ cond b (Some Full) None
kept e None r b p q = absurd (cc)
kept e (Some x) r b p q = kept_by (connection_refusal e) r b p q

pub is_room : (e : EndState) (k n : ℕ) → answer (refusal e k None) ≡ Ok tt → sender.IsRoom (outgoing_at e.sending k) (all_accepted e.sending.streams) n → IsRoom e k n
is_room e k n p h m = kept e (outgoing_at e.sending k) (write_refusal e.sending k m) (nat_lt n m) p (h m)

refused_by : (c : Option EndError) (r : Option OutboxError) (why : OutboxError) → answer (option_or c None) ≡ Ok tt → r ≡ Some why → option_or c (wrapped_too r) ≡ Some (wrapped why)
refused_by (Some other) r why p q = absurd (cc)
refused_by None r why p q = ap wrapped_too q

refused : (e : EndState) (o : Option Outgoing) (r : Option OutboxError) (why : OutboxError) → answer (refusal_at e o None) ≡ Ok tt → r ≡ Some why → refusal_at e o r ≡ Some (wrapped why)
refused e None r why p q = absurd (cc)
refused e (Some x) r why p q = refused_by (connection_refusal e) r why p q

pub no_room : (e : EndState) (k : ℕ) (why : OutboxError) → answer (refusal e k None) ≡ Ok tt → write_refusal e.sending k 0 ≡ Some why → refusal e k (write_refusal e.sending k 0) ≡ Some (wrapped why)
no_room e k why p q = refused e (outgoing_at e.sending k) (write_refusal e.sending k 0) why p q

first_by : (c : Option EndError) (r : Option OutboxError) (why : EndError) → answer (option_or c None) ≡ Err why → option_or c (wrapped_too r) ≡ Some why
first_by None r why p = absurd (cc)
first_by (Some other) r why p = cc

first : (e : EndState) (o : Option Outgoing) (r : Option OutboxError) (why : EndError) → answer (refusal_at e o None) ≡ Err why → refusal_at e o r ≡ Some why
first e None r why p = cc
first e (Some x) r why p = first_by (connection_refusal e) r why p

pub not_open : (e : EndState) (k : ℕ) (why : EndError) → answer (refusal e k None) ≡ Err why → refusal e k (write_refusal e.sending k 0) ≡ Some why
not_open e k why p = first e (outgoing_at e.sending k) (write_refusal e.sending k 0) why p
