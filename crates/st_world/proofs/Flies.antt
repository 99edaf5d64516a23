-- What calls, answers and advertised limits leave of an end's flights, and of its keys.
use Rattle.std.proofs.Common.{◌≡◌, ℕ, ◌+◌, Result, Ok, Err, Bool, true, false, cond, List, [], ◌∷◌, refl, ◌∙◌, arith, Option, None, Some, nat_eq}
use Rattle.st_ilp.specs.Packets.{AnswerPacket, Fulfilled, Rejected}
use Rattle.st_ilp.specs.Reading.{answer_at}
use Rattle.st_ilp.specs.declared.error.IlpError.{IlpError}
use Rattle.st_frames.specs.Frames.{Known, CloseFrame, ConnectionClose, OtherFrame, LimitFrame, ConnectionMaxData, BlockedFrame, ConnectionDataBlocked, StreamClose, StreamMoney, StreamMaxMoney, StreamMoneyBlocked, StreamData, StreamMaxData, StreamDataBlocked, Packet, frames_of}
use Rattle.st_keys.specs.declared.error.KeyError.{KeyError}
use Rattle.st_keys.specs.Keys.{fulfillment}
use Rattle.st_keys.specs.Sealed.{opened}
use Rattle.st_sender.specs.Sending.{Sending, Outgoing, Flight, new_outgoing, outgoing_at, with_outgoing, changed_at, SentFrame, Data, Whole}
use Rattle.st_sender.specs.Flights.{without_flight}
use Rattle.st_sender.specs.Answering.{after_acked, after_all_acked, landed, after_fulfilled, after_failed, Failure, Plain, after_told, after_all_told, after_whole_acked}
use Rattle.st_receiver.specs.Streams.{with_receive_max, may_name}
use Rattle.st_end.specs.State.{EndState}
use Rattle.st_streams.specs.declared.end_error.EndError.{EndError}
use Rattle.st_end.specs.Calls.{Answer, own_number, with_stream, opening_as, connection_refusal}
use Rattle.st_streams.specs.declared.end_error.EndError.TheVariants.{NoStream, ConnectionFailed, Closed}
use Rattle.st_end.specs.declared.flight.Open as flights
use Rattle.st_end.specs.Answers.{raised, fits, failure_of, answered_by, after_outcome, pays, pays_by}
use Rattle.st_end.specs.Receiving.{opened_too}
use Rattle.st_world_parts.specs.State.{AnsweredAtEnd}
use Rattle.st_world.proofs.Moves.{Turns, opens, raises, Replied, rejected, risen, accepted}
use Rattle.st_world.proofs.EndSteps.{opened_keeps, marked_keeps, opening_either}
use Rattle.st_receiver.specs.Limits.{reply_frames}

-- what answers and advertised limits leave as it is
pub record Flies (s t : Sending) : Type 0 where
  pub flights : t.flights ≡ s.flights
  pub last : t.last ≡ s.last
  pub paid : t.paid ≡ s.paid

pub same_flies : (s : Sending) → Flies s s
same_flies s = record { flights = refl; last = refl; paid = refl }

pub with_flies : (r s : Sending) (k : ℕ) (x : Outgoing) → Flies r s → Flies r (with_outgoing s k x)
with_flies r s k x h = record { flights = h.flights; last = h.last; paid = h.paid }

changed_flies : (r s : Sending) (k : ℕ) (f : Outgoing → Outgoing) (x : Option Outgoing) → Flies r s → Flies r (changed_at s k f x)
changed_flies r s k f None h = h
changed_flies r s k f (Some x) h = with_flies r s k (f x) h

flies_cond : (r : Sending) (b : Bool) (s t : Sending) → Flies r s → Flies r t → Flies r (cond b s t)
flies_cond r true s t f g = f
flies_cond r false s t f g = g

whole_flies : (r s : Sending) (f : Known) → Flies r s → Flies r (after_whole_acked s f)
whole_flies r s (StreamData k o xs) h = h
whole_flies r s (StreamMoney k n) h = changed_flies r s k _ (outgoing_at s k) h
whole_flies r s (CloseFrame (StreamClose k code message)) h = changed_flies r s k _ (outgoing_at s k) h
whole_flies r s (BlockedFrame (StreamDataBlocked k n)) h = changed_flies r s k _ (outgoing_at s k) h
whole_flies r s (BlockedFrame (StreamMoneyBlocked k n t)) h = changed_flies r s k _ (outgoing_at s k) h
whole_flies r s (BlockedFrame (ConnectionDataBlocked n)) h = record { flights = h.flights; last = h.last; paid = h.paid }
whole_flies r s (LimitFrame (ConnectionMaxData n)) h = record { flights = h.flights; last = h.last; paid = h.paid }
whole_flies r s (LimitFrame (StreamMaxData j n)) h = record { flights = h.flights; last = h.last; paid = h.paid }
whole_flies r s (LimitFrame (StreamMaxMoney j n u)) h = record { flights = h.flights; last = h.last; paid = h.paid }
whole_flies r s (CloseFrame (ConnectionClose code message)) h = h
whole_flies r s (OtherFrame o) h = h

acked_flies : (r s : Sending) (f : SentFrame) → Flies r s → Flies r (after_acked s f)
acked_flies r s (Data k o n) h = changed_flies r s k _ (outgoing_at s k) h
acked_flies r s (Whole f) h = whole_flies r s f h

all_acked_flies : (r : Sending) (fs : List SentFrame) (s : Sending) → Flies r s → Flies r (after_all_acked s fs)
all_acked_flies r [] s h = h
all_acked_flies r (f ∷ fs) s h = all_acked_flies r fs (after_acked s f) (acked_flies r s f h)

told_flies : (r s : Sending) (f : Known) → Flies r s → Flies r (after_told s f)
told_flies r s (StreamData k o xs) h = h
told_flies r s (StreamMoney k n) h = h
told_flies r s (CloseFrame c) h = h
told_flies r s (BlockedFrame b) h = h
told_flies r s (LimitFrame (ConnectionMaxData n)) h = record { flights = h.flights; last = h.last; paid = h.paid }
told_flies r s (LimitFrame (StreamMaxData k n)) h = changed_flies r s k _ (outgoing_at s k) h
told_flies r s (LimitFrame (StreamMaxMoney k n t)) h = changed_flies r s k _ (outgoing_at s k) h
told_flies r s (OtherFrame o) h = h

all_told_flies : (r : Sending) (fs : List Known) (s : Sending) → Flies r s → Flies r (after_all_told s fs)
all_told_flies r [] s h = h
all_told_flies r (f ∷ fs) s h = all_told_flies r fs (after_told s f) (told_flies r s f h)

raised_flies : (r s : Sending) (n : ℕ) (q : Result Packet KeyError) → Flies r s → Flies r (raised s n q)
raised_flies r s n (Err e) h = h
raised_flies r s n (Ok q) h = flies_cond r (nat_eq q.sequence n) (after_all_told s (frames_of q)) s (all_told_flies r (frames_of q) s h) h

pub replied_flies : (e f : EndState) (bytes answer : List ℕ) (x : AnsweredAtEnd) → Replied e bytes answer x f → Flies e.sending f.sending
replied_flies e f bytes answer x (rejected r y i j) = same_flies e.sending
replied_flies e f bytes answer x (risen r y q i j) = all_told_flies e.sending (frames_of q) e.sending (same_flies e.sending)
replied_flies e f bytes answer x (accepted r q v i o j z) =
    let opened' = opened_keeps (λ s. Flies e.sending s) (λ s k none h. with_flies e.sending s k new_outgoing h) v e.sending (same_flies e.sending) in
    let told' = all_told_flies e.sending (frames_of q) (opened_too v e.sending) opened' in
    marked_keeps (λ s. Flies e.sending s) (λ s m h. record { flights = h.flights; last = h.last; paid = h.paid }) (reply_frames v (frames_of q)) (frames_of q) (after_all_told (opened_too v e.sending) (frames_of q)) told'

turned_flies : {A : Type 0} (e : EndState) (b : Bool) (x y : A × EndState) → Flies e.sending x.1.sending → Flies e.sending y.1.sending → Flies e.sending (cond b x y).1.sending
turned_flies e true x y f g = f
turned_flies e false x y f g = g

opening_flies : (e : EndState) (o : Option ℕ) → Flies e.sending (opening_as e o).1.sending
opening_flies e None = same_flies e.sending
opening_flies e (Some k) = opening_either (λ f. Flies e.sending f.sending) e k (connection_refusal e) (same_flies e.sending) (with_flies e.sending e.sending k new_outgoing (same_flies e.sending))

pub turns_flies : (e f : EndState) → Turns e f → Flies e.sending f.sending
turns_flies e f opens = opening_flies e (own_number e)
turns_flies e f (raises k n) = turned_flies {A = Answer} e (may_name e.receiving k) (Ok tt, record e { receiving = with_receive_max e.receiving k n }) (Err NoStream, e) (same_flies e.sending) (same_flies e.sending)

-- a flight that is settled
pub record Lands (s : Sending) (p : Flight) (b : Bool) (t : Sending) : Type 0 where
  pub flights : t.flights ≡ without_flight s.flights p.sequence
  pub last : t.last ≡ s.last
  pub paid : t.paid ≡ s.paid + cond b p.amount 0

lands_cond : (s : Sending) (p : Flight) (b : Bool) (t u : Sending) → Lands s p true t → Lands s p false u → Lands s p b (cond b t u)
lands_cond s p true t u f g = f
lands_cond s p false t u f g = g

fulfilled_lands : (s : Sending) (p : Flight) → Lands s p true (after_fulfilled s p)
fulfilled_lands s p = let h = all_acked_flies (landed s p.sequence) p.frames (landed s p.sequence) (same_flies _) in record { flights = h.flights; last = h.last; paid = refl }

failed_lands : (s : Sending) (p : Flight) (why : Failure) → Lands s p false (after_failed s p why)
failed_lands s p why = record { flights = refl; last = refl; paid = omega arith }

flies_lands : (s : Sending) (p : Flight) (b : Bool) (t u : Sending) → Lands s p b t → Flies t u → Lands s p b u
flies_lands s p b t u h f = record { flights = f.flights ∙ h.flights; last = f.last ∙ h.last; paid = f.paid ∙ h.paid }

raised_lands : (s : Sending) (p : Flight) (b : Bool) (t : Sending) (n : ℕ) (q : Result Packet KeyError) → Lands s p b t → Lands s p b (raised t n q)
raised_lands s p b t n q h = flies_lands s p b t (raised t n q) h (raised_flies t t n q (same_flies t))

answer_lands : (e : EndState) (f : flights.Open) (p : Flight) (a : Result AnswerPacket IlpError) → Lands e.sending p (pays_by f a) (answered_by e.keys e.sending f p a)
answer_lands e f p (Err fault) = failed_lands e.sending p Plain
answer_lands e f p (Ok (Fulfilled fulfillment payload)) =
    lands_cond e.sending p (fits f fulfillment) (raised (after_fulfilled e.sending p) f.sequence (opened e.keys 13 payload)) (after_failed e.sending p Plain)
    (raised_lands e.sending p true (after_fulfilled e.sending p) f.sequence (opened e.keys 13 payload) (fulfilled_lands e.sending p)) (failed_lands e.sending p Plain)
answer_lands e f p (Ok (Rejected code by message payload)) =
    raised_lands e.sending p false (after_failed e.sending p (failure_of code payload)) f.sequence (opened e.keys 14 payload) (failed_lands e.sending p (failure_of code payload))

pub outcome_lands : (e : EndState) (f : flights.Open) (p : Flight) (o : Option (List ℕ)) → Lands e.sending p (pays f o) (after_outcome e f p o).sending
outcome_lands e f p None = failed_lands e.sending p Plain
outcome_lands e f p (Some bytes) = answer_lands e f p (answer_at bytes)

pub replied_secret : (e f : EndState) (bytes answer : List ℕ) (x : AnsweredAtEnd) → Replied e bytes answer x f → f.keys ≡ e.keys
replied_secret e f bytes answer x (rejected r y i j) = refl
replied_secret e f bytes answer x (risen r y q i j) = refl
replied_secret e f bytes answer x (accepted r q v i o j z) = refl

secret_cond : {A : Type 0} (e : EndState) (b : Bool) (x y : A × EndState) → x.1.keys ≡ e.keys → y.1.keys ≡ e.keys → (cond b x y).1.keys ≡ e.keys
secret_cond e true x y f g = f
secret_cond e false x y f g = g

opening_secret : (e : EndState) (o : Option ℕ) → (opening_as e o).1.keys ≡ e.keys
opening_secret e None = refl
opening_secret e (Some k) = opening_either (λ f. f.keys ≡ e.keys) e k (connection_refusal e) refl refl

pub turns_secret : (e f : EndState) → Turns e f → f.keys ≡ e.keys
turns_secret e f opens = opening_secret e (own_number e)
turns_secret e f (raises k n) = secret_cond {A = Answer} e (may_name e.receiving k) (Ok tt, record e { receiving = with_receive_max e.receiving k n }) (Err NoStream, e) refl refl
