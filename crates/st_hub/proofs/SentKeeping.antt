-- What an end keeps of the bytes that it sends, if nothing is written.
use Rattle.std.proofs.Common.{◌≡◌, ℕ, Bool, true, false, cond, List, [], ◌∷◌, refl, sym, ap, subst, ◌∙◌, arith, Option, None, Some, inl, inr, nat_eq, Result, Ok, Err, length-set}
use Rattle.std.specs.FinMap as fmap
use Rattle.std.specs.Ordering.{nat_cmp}
use Rattle.std.proofs.lemmas.Grind.{common_steps}
use Rattle.st_ilp.specs.Packets.{AnswerPacket, Fulfilled, Rejected}
use Rattle.st_ilp.specs.Reading.{answer_at}
use Rattle.st_ilp.specs.declared.error.IlpError.{IlpError}
use Rattle.st_keys.specs.declared.error.KeyError.{KeyError}
use Rattle.st_keys.specs.Sealed.{opened}
use Rattle.st_frames.specs.Frames.{Known, CloseFrame, ConnectionClose, OtherFrame, LimitFrame, ConnectionMaxData, BlockedFrame, ConnectionDataBlocked, StreamClose, StreamMoney, StreamMaxMoney, StreamMoneyBlocked, StreamData, StreamMaxData, StreamDataBlocked, Packet, frames_of}
use Rattle.st_streams.proofs.SlotLemmas.{slot_cases}
use Rattle.st_sender.specs.Sending.{Sending, Outgoing, SentFrame, Data, Whole, Flight, PeerBlocked, new_outgoing, outgoing_at, with_outgoing, changed_at, changed}
use Rattle.st_sender.specs.Answering.{acked_data, acked_close, after_whole_acked, after_acked, after_all_acked, landed, after_fulfilled, after_failed, Plain, after_told, after_all_told}
use Rattle.st_receiver.specs.Streams.{Receiving}
use Rattle.st_end.specs.State.{EndState}
use Rattle.st_end.specs.declared.flight.Open as flights
use Rattle.st_end.specs.Answers.{raised, fits, failure_of, answered_by, outcome_left}
use Rattle.st_end.specs.Receiving.{opened_too, all_marked}
use Rattle.st_hub.specs.Keeping.{KeepsOut, KeepsSent}
use Rattle.st_hub.proofs.EndFolds.{opened_keeps, marked_keeps}

pub out_same : (x : Option Outgoing) → KeepsOut x x
out_same x = record { accepted = refl; kept = λ q b e. e; is_open = λ e. e }

out_join : (x y z : Option Outgoing) → KeepsOut x y → KeepsOut y z → KeepsOut x z
out_join x y z f g = record { accepted = g.accepted ∙ f.accepted; kept = λ q b e. f.kept q b (g.kept q b e); is_open = λ e. g.is_open (f.is_open e) }

pub sent_same : (s : Sending) → KeepsSent s s
sent_same s = record { width = refl; each = λ k. out_same (outgoing_at s k); paid = omega arith }

pub sent_join : (s t u : Sending) → KeepsSent s t → KeepsSent t u → KeepsSent s u
sent_join s t u f g = record { width = g.width ∙ f.width; each = λ k. out_join (outgoing_at s k) (outgoing_at t k) (outgoing_at u k) (f.each k) (g.each k); paid = omega (arith, f.paid, g.paid) }

-- a stream replaced
pub sent_with : (s : Sending) (k : ℕ) (x : Outgoing) → KeepsOut (outgoing_at s k) (Some x) → KeepsSent s (with_outgoing s k x)
sent_with s k x here = record {
  width = length-set s.streams k (Some x);
  each = λ j. elim (slot_cases s.streams k x j) [
    | inl h ↦ rw h.0 (let P : Option Outgoing → Type 0 = λ y. KeepsOut (outgoing_at s k) y in subst P (sym h.1) here)
    | inr h ↦ let P : Option Outgoing → Type 0 = λ y. KeepsOut (outgoing_at s j) y in subst P (sym h) (out_same (outgoing_at s j))
  ];
  paid = omega arith;
}

changed_by : (s : Sending) (k : ℕ) (f : Outgoing → Outgoing) (y : Option Outgoing) → outgoing_at s k ≡ y → ((x : Outgoing) → KeepsOut (Some x) (Some (f x))) → KeepsSent s (changed_at s k f y)
changed_by s k f None e keeps = sent_same s
changed_by s k f (Some x) e keeps = sent_with s k (f x) (let P : Option Outgoing → Type 0 = λ y. KeepsOut y (Some (f x)) in subst P (sym e) (keeps x))

pub sent_changed : (s : Sending) (k : ℕ) (f : Outgoing → Outgoing) → ((x : Outgoing) → KeepsOut (Some x) (Some (f x))) → KeepsSent s (changed s k f)
sent_changed s k f keeps = changed_by s k f (outgoing_at s k) refl keeps

-- all but what is accepted and what is kept of a stream may change
pub out_alike : (x y : Outgoing) → y.accepted ≡ x.accepted → y.unacked ≡ x.unacked → KeepsOut (Some x) (Some y)
out_alike x y a u = record { accepted = a; kept = λ q b e. ap (λ m. fmap.get m q) (sym u) ∙ e; is_open = λ e. refl }

close_alike : (b : Bool) (x : Outgoing) → KeepsOut (Some x) (Some (cond b (record x { clean_settled = true }) (record x { abort_settled = true })))
close_alike true x = out_alike x (record x { clean_settled = true }) refl refl
close_alike false x = out_alike x (record x { abort_settled = true }) refl refl

whole_acked : (s : Sending) (f : Known) → KeepsSent s (after_whole_acked s f)
whole_acked s (StreamData k o xs) = sent_same s
whole_acked s (StreamMoney k n) = sent_changed s k _ (λ x. out_alike x _ refl refl)
whole_acked s (CloseFrame (StreamClose k code message)) = sent_changed s k (acked_close code) (λ x. close_alike (nat_eq code 1) x)
whole_acked s (BlockedFrame (StreamDataBlocked k n)) = sent_changed s k _ (λ x. out_alike x _ refl refl)
whole_acked s (BlockedFrame (StreamMoneyBlocked k n t)) = sent_changed s k _ (λ x. out_alike x _ refl refl)
whole_acked s (BlockedFrame (ConnectionDataBlocked n)) = record { width = refl; each = λ k. out_same (outgoing_at s k); paid = omega arith }
whole_acked s (LimitFrame (ConnectionMaxData n)) = record { width = refl; each = λ k. out_same (outgoing_at s k); paid = omega arith }
whole_acked s (LimitFrame (StreamMaxData k n)) = record { width = refl; each = λ k. out_same (outgoing_at s k); paid = omega arith }
whole_acked s (LimitFrame (StreamMaxMoney k n t)) = record { width = refl; each = λ k. out_same (outgoing_at s k); paid = omega arith }
whole_acked s (CloseFrame (ConnectionClose code message)) = sent_same s
whole_acked s (OtherFrame o) = sent_same s

retained : {X : Type 0} (m : fmap.FinMap nat_cmp X) (p : ℕ → Bool) (q : ℕ) (y : X) → fmap.get (fmap.retain_keys m p) q ≡ Some y → fmap.get m q ≡ Some y
retained m p q y e = grind (arith, common_steps, fmap.gets, fmap.get-retain_keys)

acked : (s : Sending) (f : SentFrame) → KeepsSent s (after_acked s f)
acked s (Data k o n) = sent_changed s k (acked_data o n) (λ x. record { accepted = refl; kept = λ q b e. retained x.unacked _ q b e; is_open = λ e. refl })
acked s (Whole f) = whole_acked s f

all_acked : (fs : List SentFrame) (s : Sending) → KeepsSent s (after_all_acked s fs)
all_acked [] s = sent_same s
all_acked (f ∷ fs) s = sent_join s (after_acked s f) (after_all_acked (after_acked s f) fs) (acked s f) (all_acked fs (after_acked s f))

told : (s : Sending) (f : Known) → KeepsSent s (after_told s f)
told s (LimitFrame (StreamMaxData k n)) = sent_changed s k _ (λ x. out_alike x _ refl refl)
told s (LimitFrame (StreamMaxMoney k n t)) = sent_changed s k _ (λ x. out_alike x _ refl refl)
told s (LimitFrame (ConnectionMaxData n)) = record { width = refl; each = λ k. out_same (outgoing_at s k); paid = omega arith }
told s (StreamData k o xs) = sent_same s
told s (StreamMoney k n) = sent_same s
told s (CloseFrame c) = sent_same s
told s (BlockedFrame b) = sent_same s
told s (OtherFrame o) = sent_same s

pub all_told : (fs : List Known) (s : Sending) → KeepsSent s (after_all_told s fs)
all_told [] s = sent_same s
all_told (f ∷ fs) s = sent_join s (after_told s f) (after_all_told (after_told s f) fs) (told s f) (all_told fs (after_told s f))

-- ---- answers

sent_either : (b : Bool) (s t u : Sending) → KeepsSent s t → KeepsSent s u → KeepsSent s (cond b t u)
sent_either true s t u f g = f
sent_either false s t u f g = g

fulfilled : (s : Sending) (p : Flight) → KeepsSent s (after_fulfilled s p)
fulfilled s p =
    let h = all_acked p.frames (landed s p.sequence) in
    record { width = h.width; each = h.each; paid = omega arith }

failed : (s : Sending) (p : Flight) (why : _) → KeepsSent s (after_failed s p why)
failed s p why = record { width = refl; each = λ k. out_same (outgoing_at s k); paid = omega arith }

raising : (s : Sending) (n : ℕ) (q : Result Packet KeyError) → KeepsSent s (raised s n q)
raising s n (Err e) = sent_same s
raising s n (Ok q) = sent_either (nat_eq q.sequence n) s (after_all_told s (frames_of q)) s (all_told (frames_of q) s) (sent_same s)

answering : (e : EndState) (f : flights.Open) (p : Flight) (a : Result AnswerPacket IlpError) → KeepsSent e.sending (answered_by e.keys e.sending f p a)
answering e f p (Err fault) = failed e.sending p Plain
answering e f p (Ok (Fulfilled fulfillment payload)) =
    sent_either (fits f fulfillment) e.sending (raised (after_fulfilled e.sending p) f.sequence (opened e.keys 13 payload)) (after_failed e.sending p Plain)
    (sent_join e.sending (after_fulfilled e.sending p) (raised (after_fulfilled e.sending p) f.sequence (opened e.keys 13 payload)) (fulfilled e.sending p) (raising (after_fulfilled e.sending p) f.sequence (opened e.keys 13 payload)))
    (failed e.sending p Plain)
answering e f p (Ok (Rejected code by message payload)) =
    let t = after_failed e.sending p (failure_of code payload) in
    sent_join e.sending t (raised t f.sequence (opened e.keys 14 payload)) (failed e.sending p (failure_of code payload)) (raising t f.sequence (opened e.keys 14 payload))

pub outcome_keeps : (e : EndState) (f : flights.Open) (p : Flight) (o : Option (List ℕ)) → KeepsSent e.sending (outcome_left e f p o)
outcome_keeps e f p None = failed e.sending p Plain
outcome_keeps e f p (Some bytes) = answering e f p (answer_at bytes)

-- ---- streams that open, and marks

new_out : (s : Sending) (k : ℕ) → outgoing_at s k ≡ None → KeepsSent s (with_outgoing s k new_outgoing)
new_out s k e =
    let here : KeepsOut None (Some new_outgoing) = record { accepted = refl; kept = λ q b e. e; is_open = λ e. refl } in
    let P : Option Outgoing → Type 0 = λ y. KeepsOut y (Some new_outgoing) in
    sent_with s k new_outgoing (subst P (sym e) here)

pub opening_keeps : (s : Sending) (k : ℕ) → outgoing_at s k ≡ None → KeepsSent s (with_outgoing s k new_outgoing)
opening_keeps s k e = new_out s k e

pub opened_too_keeps : (r : Receiving) (s t : Sending) → KeepsSent s t → KeepsSent s (opened_too r t)
opened_too_keeps r s t h = opened_keeps (KeepsSent s) r (λ u k on e g. sent_join s u (with_outgoing u k new_outgoing) g (new_out u k e)) t h

marks_keep : (s t : Sending) (m : PeerBlocked) → KeepsSent s t → KeepsSent s (record t { marks = m })
marks_keep s t m h = record { width = h.width; each = h.each; paid = h.paid }

pub all_marked_keeps : (reply fs : List Known) (s t : Sending) → KeepsSent s t → KeepsSent s (all_marked reply t fs)
all_marked_keeps reply fs s t h = marked_keeps (KeepsSent s) (λ u m g. marks_keep s u m g) reply fs t h
