-- What each step of an end keeps of the bytes that were written.
use Rattle.std.proofs.Common.{◌≡◌, ℕ, Result, Ok, Err, Bool, true, false, cond, List, [], length, sym, ap, subst, Option, None, Some, nat_eq}
use Rattle.std.specs.Ordering.{nat_cmp}
use Rattle.std.specs.FinMap as fmap
use Rattle.st_ilp.specs.Packets.{AnswerPacket, Fulfilled, Rejected}
use Rattle.st_ilp.specs.Reading.{answer_at}
use Rattle.st_ilp.specs.declared.error.IlpError.{IlpError}
use Rattle.st_keys.specs.declared.error.KeyError.{KeyError}
use Rattle.st_keys.specs.Sealed.{opened}
use Rattle.st_frames.specs.Frames.{Known, Packet, frames_of}
use Rattle.st_sender.specs.Sending.{Sending, Outgoing, Flight, new_outgoing, outgoing_at, with_outgoing}
use Rattle.st_sender.specs.Answering.{landed, after_fulfilled, after_failed, Plain, after_all_told}
use Rattle.st_receiver.specs.Streams.{Receiving}
use Rattle.st_end.specs.State.{EndState}
use Rattle.st_end.specs.declared.flight.Open as flights
use Rattle.st_end.specs.Answers.{fits, raised, failure_of, answered_by, outcome_left}
use Rattle.st_end.specs.Receiving.{opened_too, all_marked}
use Rattle.st_world.proofs.DataSent.{OutFine, SendFine, send-with, send-acked, send-told}
use Rattle.st_world.proofs.EndSteps.{opened_keeps, marked_keeps}

pub new_fine : (w : List ℕ) → w ≡ [] → OutFine w (Some new_outgoing)
new_fine w none = (sym (ap length none), λ o b h. absurd (let no : fmap.get {X = ℕ} {R = nat_cmp} fmap.empty o ≡ None = fmap.get-empty nat_cmp o in cc))

-- a stream that opens
pub send-new : (w : ℕ → List ℕ) (s : Sending) (k : ℕ) → outgoing_at s k ≡ None → SendFine w s → SendFine w (with_outgoing s k new_outgoing)
send-new w s k none fine = send-with w s k new_outgoing fine (new_fine (w k) (let P : Option Outgoing → Type 0 = λ y. OutFine (w k) y in subst P none (fine k)))

pub send-opened : (w : ℕ → List ℕ) (r : Receiving) (s : Sending) → SendFine w s → SendFine w (opened_too r s)
send-opened w r s fine = opened_keeps (SendFine w) (send-new w) r s fine

pub send-marked : (w : ℕ → List ℕ) (reply fs : List Known) (s : Sending) → SendFine w s → SendFine w (all_marked reply s fs)
send-marked w reply fs s fine = marked_keeps (SendFine w) (λ t m h. h) reply fs s fine

sending_cond : (b : Bool) (w : ℕ → List ℕ) (s t : Sending) → SendFine w s → SendFine w t → SendFine w (cond b s t)
sending_cond true w s t x y = x
sending_cond false w s t x y = y

send_raised : (w : ℕ → List ℕ) (s : Sending) (n : ℕ) (q : Result Packet KeyError) → SendFine w s → SendFine w (raised s n q)
send_raised w s n (Err e) fine = fine
send_raised w s n (Ok q) fine = sending_cond (nat_eq q.sequence n) w (after_all_told s (frames_of q)) s (send-told w (frames_of q) s fine) fine

-- an answer of any kind
answered : (w : ℕ → List ℕ) (e : EndState) (f : flights.Open) (p : Flight) (a : Result AnswerPacket IlpError) → SendFine w e.sending → SendFine w (answered_by e.keys e.sending f p a)
answered w e f p (Ok (Fulfilled fulfillment payload)) fine =
    sending_cond (fits f fulfillment) w (raised (after_fulfilled e.sending p) f.sequence (opened e.keys 13 payload)) (after_failed e.sending p Plain)
    (send_raised w (after_fulfilled e.sending p) f.sequence (opened e.keys 13 payload) (send-acked w p.frames (landed e.sending p.sequence) fine))
    fine
answered w e f p (Ok (Rejected code by message payload)) fine =
    send_raised w (after_failed e.sending p (failure_of code payload)) f.sequence (opened e.keys 14 payload) fine
answered w e f p (Err fault) fine = fine

pub send-outcome : (w : ℕ → List ℕ) (e : EndState) (f : flights.Open) (p : Flight) (o : Option (List ℕ)) → SendFine w e.sending → SendFine w (outcome_left e f p o)
send-outcome w e f p (Some bytes) fine = answered w e f p (answer_at bytes) fine
send-outcome w e f p None fine = fine
