-- Closes: what a sender keeps.
use Rattle.std.proofs.Common.{◌≡◌, ℕ, zero, suc, ◌+◌, ◌-◌, ◌<◌, ◌≤◌, Result, Ok, Err, Bool, true, false, not, ◌&&◌, ◌||◌, cond, List, [], ◌∷◌, ◌++◌, length, refl, sym, ap, subst, ◌∙◌, arith, Option, None, Some, ◌⊎◌, inl, inr, nat_lt, nat_le, nat_eq, is_some, length-append}
use Rattle.std.specs.List.{AllByRecursion}
use Rattle.std.specs.Ordering.{nat_cmp}
use Rattle.std.specs.FinMap as fmap
use Rattle.std.proofs.lemmas.Bool.{cases_eq}
use Rattle.std.proofs.lemmas.Grind.{common_steps}
use Rattle.st_ilp.specs.Packets.{AnswerPacket, Fulfilled, Rejected}
use Rattle.st_ilp.specs.Reading.{answer_at, is_fulfill_text, fulfills}
use Rattle.st_ilp.specs.declared.error.IlpError.{IlpError}
use Rattle.st_keys.specs.declared.error.KeyError.{KeyError}
use Rattle.st_keys.specs.Sealed.{opened}
use Rattle.st_frames.specs.Frames.{Known, CloseFrame, ConnectionClose, OtherFrame, LimitFrame, ConnectionMaxData, BlockedFrame, ConnectionDataBlocked, StreamClose, StreamMoney, StreamMaxMoney, StreamMoneyBlocked, StreamData, StreamMaxData, StreamDataBlocked, Packet, frames_of}
use Rattle.st_streams.specs.Slots.{slot}
use Rattle.st_sender.specs.Sending.{Sending, Outgoing, Flight, SentFrame, Data, Whole, new_outgoing, outgoing_at, with_outgoing, changed_at, changed}
use Rattle.st_streams.specs.Table.{is_between, put_bytes}
use Rattle.st_sender.specs.Due.{IsDue, IsDueClose}
use Rattle.st_sender.specs.Answering.{acked_data, acked_close, after_whole_acked, after_acked, after_all_acked, landed, after_fulfilled, after_failed, Plain, after_told, after_all_told}
use Rattle.st_receiver.specs.Streams.{Receiving, Incoming, incoming_at, incoming_or, with_incoming, is_open, may_name, with_receive_max}
use Rattle.st_end.specs.State.{EndState}
use Rattle.st_streams.specs.declared.end_error.EndError.{EndError}
use Rattle.st_end.specs.Calls.{Answer, own_number, with_stream, opening_as, connection_refusal}
use Rattle.st_streams.specs.declared.end_error.EndError.TheVariants.{NoStream, ConnectionFailed, Closed}
use Rattle.st_end.specs.declared.flight.Open as flights
use Rattle.st_end.specs.Answers.{raised, fits, failure_of, answered_by, outcome_left}
use Rattle.st_end.specs.Receiving.{opened_too, all_marked, prepare_in}
use Rattle.st_world_parts.specs.StreamLogs.{StreamLog}
use Rattle.st_world_parts.specs.State.{AnsweredAtEnd}
use Rattle.st_world.proofs.Maps.{get_here, get_apart}
use Rattle.st_streams.proofs.SlotLemmas.{slot_cases}
use Rattle.st_keys.specs.Keys.{DerivedKeys}
use Rattle.st_world.proofs.DataReceived.{fresh_at, FramesFine}
use Rattle.st_world.proofs.EndSteps.{opened_keeps, marked_keeps, opening_either}
use Rattle.st_receiver.specs.Limits.{reply_frames}
use Rattle.st_world.proofs.DataRuns.{own_none}
use Rattle.st_world.proofs.Credited.{faultless}
use Rattle.st_world.proofs.Moves.{Turns, opens, raises, Replied, rejected, risen, accepted, Accepts, wrote, closed_clean, gave_up, offered}
use Rattle.st_world.proofs.WholeReceived.{OutSome, OutWhole, InWhole, SendWhole, RecvWhole, Rise, rise_same, FrameSound, FramesSound, FlownTaken, AllFlownTaken, FramesTaken, Alike, alike_whole, alike_rise, alike_with, alike_same, Good, effect_good}

pub out_rise : (l : StreamLog) (n m : ℕ) (o : Option Outgoing) → n ≤ m → OutWhole l n o → OutWhole l m o
out_rise l n m None s h = h
out_rise l n m (Some y) s h = record { codes = h.codes; aborted = h.aborted; shut = h.shut; clean = h.clean; acked = λ live i a b. let c : i < n = h.acked live i a b in omega arith }

pub out-with : (l : ℕ → StreamLog) (r : Receiving) (s : Sending) (k : ℕ) (x : Outgoing) → SendWhole l r s → OutSome (l k) (incoming_at r k).highest x → SendWhole l r (with_outgoing s k x)
out-with l r s k x h here j =
    elim (slot_cases s.streams k x j) [
      | inl e ↦ rw e.0 (let P : Option Outgoing → Type 0 = λ y. OutWhole (l k) (incoming_at r k).highest y in subst P (sym e.1) here)
      | inr n ↦ let P : Option Outgoing → Type 0 = λ y. OutWhole (l j) (incoming_at r j).highest y in subst P (sym n) (h j)
    ]

out_changed_at : (l : ℕ → StreamLog) (r : Receiving) (s : Sending) (k : ℕ) (f : Outgoing → Outgoing) (y : Option Outgoing) → outgoing_at s k ≡ y
    → ((x : Outgoing) → OutSome (l k) (incoming_at r k).highest x → OutSome (l k) (incoming_at r k).highest (f x)) → SendWhole l r s → SendWhole l r (changed_at s k f y)
out_changed_at l r s k f None e keeps h = h
out_changed_at l r s k f (Some x) e keeps h =
    out-with l r s k (f x) h (keeps x (let P : Option Outgoing → Type 0 = λ y. OutWhole (l k) (incoming_at r k).highest y in subst P e (h k)))

out_changed : (l : ℕ → StreamLog) (r : Receiving) (s : Sending) (k : ℕ) (f : Outgoing → Outgoing) → ((x : Outgoing) → OutSome (l k) (incoming_at r k).highest x → OutSome (l k) (incoming_at r k).highest (f x)) → SendWhole l r s → SendWhole l r (changed s k f)
out_changed l r s k f keeps h = out_changed_at l r s k f (outgoing_at s k) refl keeps h

-- an acknowledged byte was accepted
retained_by : (m : fmap.FinMap nat_cmp ℕ) (p : ℕ → Bool) (q : ℕ) (b : Bool) → p q ≡ b → fmap.get (fmap.retain_keys m p) q ≡ None → (fmap.get m q ≡ None) ⊎ (p q ≡ false)
retained_by m p q true h e = inl (grind (arith, common_steps, fmap.gets, fmap.get-retain_keys))
retained_by m p q false h e = inr h

between_of : (a b : Bool) → not (a && b) ≡ false → (a ≡ true) × (b ≡ true)
between_of true true e = (refl, refl)
between_of true false e = absurd (cc)
between_of false b e = absurd (cc)

less_by : (q o : ℕ) (b : Bool) → nat_lt q o ≡ b → (q < o) ⊎ (o ≤ q)
less_by q o true e = inl (grind (arith))
less_by q o false e = inr (grind (arith))

less_or : (q o : ℕ) → (q < o) ⊎ (o ≤ q)
less_or q o = less_by q o (nat_lt q o) refl

retained : (m : fmap.FinMap nat_cmp ℕ) (p : ℕ → Bool) (q : ℕ) → fmap.get (fmap.retain_keys m p) q ≡ None → (fmap.get m q ≡ None) ⊎ (p q ≡ false)
retained m p q e = retained_by m p q (p q) refl e

acked_out : (l : StreamLog) (x : Incoming) (y : Outgoing) (o n : ℕ) → InWhole l x → ((is_some x.held.aborted ≡ true) ⊎ ((i : ℕ) → i < n → o + i < x.highest)) → OutSome l x.highest y → OutSome l x.highest (acked_data o n y)
acked_out l x y o n inn taken h = record {
  codes = h.codes;
  aborted = h.aborted;
  shut = h.shut;
  clean = h.clean;
  acked = λ live i s none. elim (retained y.unacked (λ k. not (is_between o (o + n) k)) i none) [
    | inl old ↦ h.acked live i s old
    | inr cut ↦ elim taken [
      | inl d ↦ absurd (let a : l.aborted ≡ true = inn.drops d in let b : l.aborted ≡ is_some y.abort = h.aborted in cc)
      | inr f ↦ let z = between_of (nat_le o i) (nat_lt i (o + n)) cut in let below : o ≤ i = let u : nat_le o i ≡ true = z.0 in grind (arith) in let above : i < o + n = let u : nat_lt i (o + n) ≡ true = z.1 in grind (arith) in
          let g : o + (i - o) < x.highest = f (i - o) (omega arith) in omega arith
    ]
  ];
}

close_out : (b : Bool) (l : StreamLog) (n : ℕ) (x : Outgoing) → OutSome l n x → OutSome l n (cond b (record x { clean_settled = true }) (record x { abort_settled = true }))
close_out true l n x z = record { codes = z.codes; aborted = z.aborted; shut = z.shut; clean = z.clean; acked = z.acked }
close_out false l n x z = record { codes = z.codes; aborted = z.aborted; shut = z.shut; clean = z.clean; acked = z.acked }

whole_acked : (l : ℕ → StreamLog) (r : Receiving) (s : Sending) (f : Known) → SendWhole l r s → SendWhole l r (after_whole_acked s f)
whole_acked l r s (StreamData k o xs) h = h
whole_acked l r s (StreamMoney k n) h = out_changed l r s k _ (λ x z. record { codes = z.codes; aborted = z.aborted; shut = z.shut; clean = z.clean; acked = z.acked }) h
whole_acked l r s (CloseFrame (StreamClose k code message)) h = out_changed l r s k (acked_close code) (λ x z. close_out (nat_eq code 1) (l k) (incoming_at r k).highest x z) h
whole_acked l r s (BlockedFrame (StreamDataBlocked k n)) h = out_changed l r s k _ (λ x z. record { codes = z.codes; aborted = z.aborted; shut = z.shut; clean = z.clean; acked = z.acked }) h
whole_acked l r s (BlockedFrame (StreamMoneyBlocked k n u)) h = out_changed l r s k _ (λ x z. record { codes = z.codes; aborted = z.aborted; shut = z.shut; clean = z.clean; acked = z.acked }) h
whole_acked l r s (BlockedFrame (ConnectionDataBlocked n)) h = h
whole_acked l r s (LimitFrame (ConnectionMaxData n)) h = h
whole_acked l r s (LimitFrame (StreamMaxData j n)) h = h
whole_acked l r s (LimitFrame (StreamMaxMoney j n u)) h = h
whole_acked l r s (CloseFrame (ConnectionClose code message)) h = h
whole_acked l r s (OtherFrame o) h = h

out_acked : (l : ℕ → StreamLog) (r : Receiving) (s : Sending) (f : SentFrame) → RecvWhole l r → FlownTaken r f → SendWhole l r s → SendWhole l r (after_acked s f)
out_acked l r s (Data k o n) inn t h = out_changed l r s k (acked_data o n) (λ x z. acked_out (l k) (incoming_at r k) x o n (inn k) t z) h
out_acked l r s (Whole f) inn t h = whole_acked l r s f h

out_all_acked : (l : ℕ → StreamLog) (r : Receiving) (fs : List SentFrame) (s : Sending) → RecvWhole l r → AllFlownTaken r fs → SendWhole l r s → SendWhole l r (after_all_acked s fs)
out_all_acked l r [] s inn t h = h
out_all_acked l r (f ∷ fs) s inn t h = out_all_acked l r fs (after_acked s f) inn t.1 (out_acked l r s f inn t.0 h)

out_told : (l : ℕ → StreamLog) (r : Receiving) (s : Sending) (f : Known) → SendWhole l r s → SendWhole l r (after_told s f)
out_told l r s (StreamData k o xs) h = h
out_told l r s (StreamMoney k n) h = h
out_told l r s (CloseFrame c) h = h
out_told l r s (BlockedFrame b) h = h
out_told l r s (LimitFrame (ConnectionMaxData n)) h = h
out_told l r s (LimitFrame (StreamMaxData k n)) h = out_changed l r s k _ (λ x z. record { codes = z.codes; aborted = z.aborted; shut = z.shut; clean = z.clean; acked = z.acked }) h
out_told l r s (LimitFrame (StreamMaxMoney k n u)) h = out_changed l r s k _ (λ x z. record { codes = z.codes; aborted = z.aborted; shut = z.shut; clean = z.clean; acked = z.acked }) h
out_told l r s (OtherFrame o) h = h

out_all_told : (l : ℕ → StreamLog) (r : Receiving) (fs : List Known) (s : Sending) → SendWhole l r s → SendWhole l r (after_all_told s fs)
out_all_told l r [] s h = h
out_all_told l r (f ∷ fs) s h = out_all_told l r fs (after_told s f) (out_told l r s f h)

-- a stream that is opened
new_some : (l : StreamLog) (n : ℕ) → OutWhole l n None → OutSome l n new_outgoing
new_some l n h = record {
  codes = λ c e. absurd (cc);
  aborted = h.1;
  shut = λ e. absurd (let f : l.clean ≡ false = h.0 in cc);
  clean = λ e. absurd (cc);
  acked = λ live i s e. absurd (let z : length l.written ≡ 0 = ap (λ x. length x) h.2 in omega arith);
}

out_new : (l : ℕ → StreamLog) (r : Receiving) (s : Sending) (k : ℕ) → outgoing_at s k ≡ None → SendWhole l r s → SendWhole l r (with_outgoing s k new_outgoing)
out_new l r s k e h = out-with l r s k new_outgoing h (new_some (l k) (incoming_at r k).highest (let P : Option Outgoing → Type 0 = λ y. OutWhole (l k) (incoming_at r k).highest y in subst P e (h k)))

out_opened : (l : ℕ → StreamLog) (r v : Receiving) (s : Sending) → SendWhole l r s → SendWhole l r (opened_too v s)
out_opened l r v s h = opened_keeps (SendWhole l r) (out_new l r) v s h

out_cond : (l : ℕ → StreamLog) (r : Receiving) (b : Bool) (s t : Sending) → SendWhole l r s → SendWhole l r t → SendWhole l r (cond b s t)
out_cond l r true s t f g = f
out_cond l r false s t f g = g

out_marked : (l : ℕ → StreamLog) (r : Receiving) (reply fs : List Known) (s : Sending) → SendWhole l r s → SendWhole l r (all_marked reply s fs)
out_marked l r reply fs s h = marked_keeps (SendWhole l r) (λ t m h. h) reply fs s h

out_raised : (l : ℕ → StreamLog) (r : Receiving) (s : Sending) (n : ℕ) (q : Result Packet KeyError) → SendWhole l r s → SendWhole l r (raised s n q)
out_raised l r s n (Err e) h = h
out_raised l r s n (Ok q) h = out_cond l r (nat_eq q.sequence n) (after_all_told s (frames_of q)) s (out_all_told l r (frames_of q) s h) h

out_answer : (l : ℕ → StreamLog) (r : Receiving) (e : EndState) (f : flights.Open) (p : Flight) (a : Result AnswerPacket IlpError) → RecvWhole l r → (fulfills a ≡ true → AllFlownTaken r p.frames) → SendWhole l r e.sending → SendWhole l r (answered_by e.keys e.sending f p a)
out_answer l r e f p (Err fault) inn t h = h
out_answer l r e f p (Ok (Fulfilled fulfillment payload)) inn t h =
    out_cond l r (fits f fulfillment) (raised (after_fulfilled e.sending p) f.sequence (opened e.keys 13 payload)) (after_failed e.sending p Plain)
    (out_raised l r (after_fulfilled e.sending p) f.sequence (opened e.keys 13 payload) (out_all_acked l r p.frames (landed e.sending p.sequence) inn (t refl) h)) h
out_answer l r e f p (Ok (Rejected code by message payload)) inn t h =
    out_raised l r (after_failed e.sending p (failure_of code payload)) f.sequence (opened e.keys 14 payload) h

pub out_outcome : (l : ℕ → StreamLog) (r : Receiving) (e : EndState) (f : flights.Open) (p : Flight) (o : Option (List ℕ)) → RecvWhole l r → ((y : List ℕ) → o ≡ Some y → is_fulfill_text y ≡ true → AllFlownTaken r p.frames) → SendWhole l r e.sending → SendWhole l r (outcome_left e f p o)
out_outcome l r e f p None inn t h = h
out_outcome l r e f p (Some bytes) inn t h = out_answer l r e f p (answer_at bytes) inn (λ y. t bytes refl y) h

-- what is due
below : (n m : ℕ) → ((i : ℕ) → i < n → i < m) → n ≤ m
below zero m f = omega arith
below (suc n) m f = let a : n < m = f n (omega arith) in omega arith

close_due : (l : ℕ → StreamLog) (r : Receiving) (s : Sending) (k code : ℕ) (message : List ℕ) → SendWhole l r s → IsDueClose s k code → FrameSound l r (CloseFrame (StreamClose k code message))
close_due l r s k code message send d =
    let P : Option Outgoing → Type 0 = λ y. OutWhole (l k) (incoming_at r k).highest y in
    let h : OutSome (l k) (incoming_at r k).highest d.stream = subst P d.is_open (send k) in
    elim d.asked [
      | inl a ↦ (λ e. absurd (h.codes code a.asked e), λ n. h.aborted ∙ ap (λ z. is_some z) a.asked)
      | inr c ↦ (λ e. (h.clean c.asked, below (length (l k).written) (incoming_at r k).highest (λ i b. h.acked (ap (λ z. is_some z) c.alive) i b (ap (λ m. fmap.get m i) c.acknowledged ∙ fmap.get-empty nat_cmp i))), λ n. absurd (n c.code_is))
    ]

frame_due : (l : ℕ → StreamLog) (r : Receiving) (s : Sending) (fs : List Known) (f : Known) → SendWhole l r s → IsDue s fs f → FrameSound l r f
frame_due l r s fs (StreamData k o xs) h d = tt
frame_due l r s fs (StreamMoney k n) h d = tt
frame_due l r s fs (CloseFrame (StreamClose k code message)) h d = close_due l r s k code message h d.0
frame_due l r s fs (BlockedFrame b) h d = tt
frame_due l r s fs (LimitFrame limit) h d = tt
frame_due l r s fs (CloseFrame (ConnectionClose code message)) h d = absurd d
frame_due l r s fs (OtherFrame o) h d = tt

pub frames_due : (l : ℕ → StreamLog) (r : Receiving) (s : Sending) (ls fs : List Known) → SendWhole l r s → AllByRecursion (IsDue s ls) fs → FramesSound l r fs
frames_due l r s ls [] h d = tt
frames_due l r s ls (f ∷ fs) h d = (frame_due l r s ls f h d.0, frames_due l r s ls fs h d.1)

-- an end: what it sends against the other's receiver, and what it receives
pub record EndGood (own peer : ℕ → StreamLog) (other_end old : Receiving) (e : EndState) : Type 0 where
  pub send : SendWhole own other_end e.sending
  pub recv : RecvWhole peer e.receiving
  pub rise : Rise old e.receiving

either_good : {A : Type 0} (own peer : ℕ → StreamLog) (t old : Receiving) (b : Bool) (x y : A × EndState) → EndGood own peer t old x.1 → EndGood own peer t old y.1 → EndGood own peer t old (cond b x y).1
either_good own peer t old true x y f g = f
either_good own peer t old false x y f g = g

same_good : (own peer : ℕ → StreamLog) (t : Receiving) (e : EndState) → SendWhole own t e.sending → RecvWhole peer e.receiving → EndGood own peer t e.receiving e
same_good own peer t e s r = record { send = s; recv = r; rise = rise_same e.receiving }

opening_good : (own peer : ℕ → StreamLog) (t : Receiving) (e : EndState) (o : Option ℕ) → ((k : ℕ) → o ≡ Some k → outgoing_at e.sending k ≡ None) → SendWhole own t e.sending → RecvWhole peer e.receiving → EndGood own peer t e.receiving (opening_as e o).1
opening_good own peer t e None none s r = same_good own peer t e s r
opening_good own peer t e (Some k) none s r =
    let a = alike_with e.receiving e.receiving k (incoming_at e.receiving k) refl refl (alike_same e.receiving) in
    opening_either (λ f. EndGood own peer t e.receiving f) e k (connection_refusal e) (same_good own peer t e s r)
    (record { send = out_new own t e.sending k (none k refl) s; recv = alike_whole peer e.receiving (with_incoming e.receiving k (incoming_at e.receiving k)) a r; rise = alike_rise e.receiving (with_incoming e.receiving k (incoming_at e.receiving k)) a })

alike_cond : (r : Receiving) (b : Bool) (s t : Receiving) → Alike r s → Alike r t → Alike r (cond b s t)
alike_cond r true s t f g = f
alike_cond r false s t f g = g

kept_alike : (d c : Incoming) (x : Option Incoming) → d.held ≡ c.held → d.highest ≡ c.highest → ((incoming_or d x).held ≡ (incoming_or c x).held) × ((incoming_or d x).highest ≡ (incoming_or c x).highest)
kept_alike d c None a b = (a, b)
kept_alike d c (Some x) a b = (refl, refl)

pub turns_good : (own peer : ℕ → StreamLog) (t : Receiving) (e f : EndState) → Turns e f → SendWhole own t e.sending → RecvWhole peer e.receiving → EndGood own peer t e.receiving f
turns_good own peer t e f opens s r = opening_good own peer t e (own_number e) (λ k is. own_none e k is) s r
turns_good own peer t e f (raises k n) s r =
    let a : Alike e.receiving (with_receive_max e.receiving k n) = alike_cond e.receiving (is_open e.receiving k) _ _ (alike_with e.receiving e.receiving k _ refl refl (alike_same e.receiving)) (λ j. kept_alike _ (fresh_at e.receiving j) (slot e.receiving.streams j) refl refl) in
    either_good {A = Answer} own peer t e.receiving (may_name e.receiving k) (Ok tt, record e { receiving = with_receive_max e.receiving k n }) (Err NoStream, e)
    (record { send = s; recv = alike_whole peer e.receiving (with_receive_max e.receiving k n) a r; rise = alike_rise e.receiving (with_receive_max e.receiving k n) a }) (same_good own peer t e s r)

-- an answer to a Prepare: if it is a Fulfill, the packet's frames are accepted
pub record AnswerGood (own peer : ℕ → StreamLog) (t old : Receiving) (keys : DerivedKeys) (bytes answer : List ℕ) (e : EndState) : Type 0 where
  pub good : EndGood own peer t old e
  pub taken : is_fulfill_text answer ≡ true → (q : Packet) → opened keys 12 (prepare_in bytes).payload ≡ Ok q → FramesTaken e.receiving (frames_of q)

pub replied_good : (own peer : ℕ → StreamLog) (t : Receiving) (e f : EndState) (bytes answer : List ℕ) (x : AnsweredAtEnd) → length e.receiving.streams ≡ 65 → Replied e bytes answer x f
    → ((q : Packet) → opened e.keys 12 (prepare_in bytes).payload ≡ Ok q → FramesSound peer e.receiving (frames_of q) × FramesFine (λ k. (peer k).written) (frames_of q))
    → SendWhole own t e.sending → RecvWhole peer e.receiving → AnswerGood own peer t e.receiving e.keys bytes answer f
replied_good own peer t e f bytes answer x wide (rejected y z never i) sound s r = record { good = same_good own peer t e s r; taken = λ is. absurd (cc) }
replied_good own peer t e f bytes answer x wide (risen y z q never i) sound s r = record { good = record { send = out_all_told own t (frames_of q) e.sending s; recv = r; rise = rise_same e.receiving }; taken = λ is. absurd (cc) }
replied_good own peer t e f bytes answer x wide (accepted y q v i o j z) sound s r =
    let P : Receiving → Type 0 = λ u. Good peer e.receiving (frames_of q) u in
    let both = sound q o in
    let g : Good peer e.receiving (frames_of q) v = subst P (sym z) (effect_good peer e.receiving q (prepare_in bytes).amount wide (faultless e.receiving q (prepare_in bytes).amount j).frames r both.0 both.1) in
    record {
      good = record { send = out_marked own t (reply_frames v (frames_of q)) (frames_of q) (after_all_told (opened_too v e.sending) (frames_of q)) (out_all_told own t (frames_of q) (opened_too v e.sending) (out_opened own t v e.sending s)); recv = g.recv; rise = g.rise };
      taken = λ is p again. (let Q : Packet → Type 0 = λ u. FramesTaken v (frames_of u) in let same : q ≡ p = let w : ◌≡◌ {A = Result Packet KeyError} (Ok q) (Ok p) = sym o ∙ again in cc in subst Q same g.taken);
    }

-- calls that are accepted, on one stream
put_none : (xs : List ℕ) (m : fmap.FinMap nat_cmp ℕ) (o q : ℕ) → fmap.get (put_bytes m o xs) q ≡ None → (fmap.get m q ≡ None) × ((q < o) ⊎ (o + length xs ≤ q))
unfolding put_bytes
put_none [] m o q e = (e, elim (less_or q o) [ inl a ↦ inl a | inr b ↦ inr (omega arith) ])
put_none (x ∷ xs) m o q e =
    let h = put_none xs (fmap.insert m o x) (o + 1) q e in
    elim (cases_eq q o) [
      | inl s ↦ absurd (let a : fmap.get (fmap.insert m o x) q ≡ Some x = rw s (get_here m o x) in let b : fmap.get (fmap.insert m o x) q ≡ None = h.0 in cc)
      | inr n ↦ (sym (get_apart m o x q n) ∙ h.0, elim h.1 [ inl a ↦ inl (omega arith) | inr b ↦ inr (omega arith) ])
    ]

pub out_accepts : (l m : StreamLog) (n : ℕ) (x y : Outgoing) → Accepts x l y m → is_some x.abort ≡ false → x.accepted ≡ length l.written → OutSome l n x → OutSome m n y
out_accepts l m n x y (wrote xs fresh) live count h = record {
  codes = h.codes;
  aborted = h.aborted;
  shut = h.shut;
  clean = h.clean;
  acked = λ a i s e.
      let p = put_none xs x.unacked x.accepted i e in
      let c : length (l.written ++ xs) ≡ length l.written + length xs = length-append l.written xs in
      h.acked a i (elim p.1 [ inl b ↦ (let d : i < length l.written = omega arith in d) | inr b ↦ absurd (omega arith) ]) p.0;
}
out_accepts l m n x y (closed_clean fresh) live count h = record { codes = h.codes; aborted = h.aborted; shut = λ e. refl; clean = λ e. refl; acked = h.acked }
out_accepts l m n x y (gave_up code ne) live count h = record {
  codes = λ c e f. ne (let s : code ≡ c = cc in s ∙ f);
  aborted = refl;
  shut = λ e. refl;
  clean = λ e. absurd (cc);
  acked = λ a. absurd (cc);
}
out_accepts l m n x y (offered k) live count h = record { codes = h.codes; aborted = h.aborted; shut = h.shut; clean = h.clean; acked = h.acked }

unclean : (l : StreamLog) (n : ℕ) (x : Outgoing) → OutSome l n x → x.clean ≡ false → is_some x.abort ≡ false → l.clean ≡ true → ⊥
unclean l n x h a b c = let d : (x.clean || is_some x.abort) ≡ true = h.shut c in let e : (x.clean || is_some x.abort) ≡ (false || false) = ap (λ z. z || is_some x.abort) a ∙ b in cc

pub in_accepts : (l m : StreamLog) (n : ℕ) (x y : Outgoing) (i : Incoming) → Accepts x l y m → is_some x.abort ≡ false → OutSome l n x → InWhole l i → InWhole m i
in_accepts l m n x y i (wrote xs fresh) live o h = record {
  ends = λ k e. absurd (unclean l n x o fresh live (h.ends k e).2);
  drops = h.drops;
  within = let a : i.highest ≤ length l.written = h.within in let b : length (l.written ++ xs) ≡ length l.written + length xs = length-append l.written xs in omega arith;
  past = h.past;
}
in_accepts l m n x y i (closed_clean fresh) live o h = record { ends = λ k e. let f = h.ends k e in (f.0, f.1, refl); drops = h.drops; within = h.within; past = h.past }
in_accepts l m n x y i (gave_up code ne) live o h = record { ends = h.ends; drops = λ e. refl; within = h.within; past = h.past }
in_accepts l m n x y i (offered k) live o h = record { ends = h.ends; drops = h.drops; within = h.within; past = h.past }

-- what an accepted call keeps of a ledger
pub record Follows (l m : StreamLog) : Type 0 where
  pub clean : l.clean ≡ true → (m.clean ≡ true) × (m.written ≡ l.written)
  pub aborted : l.aborted ≡ true → m.aborted ≡ true
  pub read : m.read ≡ l.read
  pub saw_end : m.saw_end ≡ l.saw_end
  pub saw_abort : m.saw_abort ≡ l.saw_abort

pub follows : (l m : StreamLog) (n : ℕ) (x y : Outgoing) → Accepts x l y m → is_some x.abort ≡ false → OutSome l n x → Follows l m
follows l m n x y (wrote xs fresh) live o = record { clean = λ e. absurd (unclean l n x o fresh live e); aborted = λ e. e; read = refl; saw_end = refl; saw_abort = refl }
follows l m n x y (closed_clean fresh) live o = record { clean = λ e. (refl, refl); aborted = λ e. e; read = refl; saw_end = refl; saw_abort = refl }
follows l m n x y (gave_up code ne) live o = record { clean = λ e. (e, refl); aborted = λ e. refl; read = refl; saw_end = refl; saw_abort = refl }
follows l m n x y (offered k) live o = record { clean = λ e. (e, refl); aborted = λ e. e; read = refl; saw_end = refl; saw_abort = refl }
