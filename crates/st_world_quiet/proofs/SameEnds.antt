-- Calls leave an end's keys and addresses.
use Rattle.std.proofs.Common.{◌≡◌, ℕ, zero, suc, ◌+◌, Bool, true, false, cond, List, length, refl, ◌∙◌, Option, None, Some, Ok, Err, nat_eq}
use Rattle.st_sender.specs.Sending.{Outgoing, Sending, changed, outgoing_at}
use Rattle.st_sender.specs.Accepting.{after_clean, after_offer, after_write}
use Rattle.st_sender.specs.Refusals.{close_refusal, offer_refusal, write_refusal}
use Rattle.st_receiver.specs.Streams.{may_name, with_receive_max}
use Rattle.st_streams.specs.declared.end_error.EndError.{EndError}
use Rattle.st_streams.specs.declared.end_error.EndError.TheVariants.{NoStream}
use Rattle.st_end.specs.State.{EndState}
use Rattle.st_end.specs.Calls.{Answer, connection_refusal, done, offer, open_stream, opened_unless, opening_as, own_number, refusal, set_receive_max, write}
use Rattle.st_world_quiet.specs.Calls.{allow_each, begin_each, begun, closed_if, fitting, written_at, written_on}

pub record SameEnd (e f : EndState) : Type 0 where
  pub keys : f.keys ≡ e.keys
  pub own : f.own ≡ e.own
  pub peer : f.peer ≡ e.peer

same_end : (e : EndState) → SameEnd e e
same_end e = record { keys = refl; own = refl; peer = refl }

same_then : (e f g : EndState) → SameEnd e f → SameEnd f g → SameEnd e g
same_then e f g a b = record { keys = b.keys ∙ a.keys; own = b.own ∙ a.own; peer = b.peer ∙ a.peer }

done_same : (e : EndState) (o : Option EndError) (s : Sending) → SameEnd e (done e o s).1
done_same e None s = record { keys = refl; own = refl; peer = refl }
done_same e (Some why) s = same_end e

closed_same : (b : Bool) (e : EndState) (k : ℕ) → SameEnd e (closed_if b e k)
closed_same true e k = done_same e (refusal e k (close_refusal e.sending k)) (changed e.sending k after_clean)
closed_same false e k = same_end e

written_same : (xs : List ℕ) (e : EndState) (k : ℕ) (o : Option Outgoing) → SameEnd e (written_at xs e k o)
written_same xs e k None = same_end e
written_same xs e k (Some x) =
    same_then e (write e k (fitting xs x)).1 (written_at xs e k (Some x))
    (done_same e (refusal e k (write_refusal e.sending k (length (fitting xs x)))) (changed e.sending k (after_write (fitting xs x))))
    (closed_same (nat_eq (x.accepted + length (fitting xs x)) (length xs)) (write e k (fitting xs x)).1 k)

unless_same : (input : ℕ → List ℕ) (money : ℕ → ℕ) (e : EndState) (k : ℕ) (o : Option EndError) → SameEnd e (begun input money (opened_unless e k o))
unless_same input money e k (Some why) = same_end e
unless_same input money e k None =
    let one = (opened_unless e k None).1 in
    let two = (offer one k (money k)).1 in
    same_then e one (written_on (input k) two k) (record { keys = refl; own = refl; peer = refl })
    (same_then one two (written_on (input k) two k) (done_same one (refusal one k (offer_refusal one.sending k (money k))) (changed one.sending k (after_offer (money k)))) (written_same (input k) two k (outgoing_at two.sending k)))

begun_same : (input : ℕ → List ℕ) (money : ℕ → ℕ) (e : EndState) (o : Option ℕ) → SameEnd e (begun input money (opening_as e o))
begun_same input money e None = same_end e
begun_same input money e (Some k) = unless_same input money e k (connection_refusal e)

pub begin_same : (input : ℕ → List ℕ) (money : ℕ → ℕ) (count : ℕ) (e : EndState) → SameEnd e (begin_each input money count e)
unfolding begin_each
begin_same input money zero e = same_end e
begin_same input money (suc m) e = let f = begun input money (open_stream e) in same_then e f (begin_each input money m f) (begun_same input money e (own_number e)) (begin_same input money m f)

set_if : (b : Bool) (e : EndState) (k amount : ℕ) → SameEnd e (cond {A = Answer × EndState} b (Ok tt, record e { receiving = with_receive_max e.receiving k amount }) (Err NoStream, e)).1
set_if true e k amount = record { keys = refl; own = refl; peer = refl }
set_if false e k amount = same_end e

pub allow_same : (money : ℕ → ℕ) (first count : ℕ) (e : EndState) → SameEnd e (allow_each money first count e)
unfolding allow_each
allow_same money first zero e = same_end e
allow_same money first (suc m) e =
    let f = (set_receive_max e first (money first)).1 in
    same_then e f (allow_each money (first + 1) m f) (set_if (may_name e.receiving first) e first (money first)) (allow_same money (first + 1) m f)
