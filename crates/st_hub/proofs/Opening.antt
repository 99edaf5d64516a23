-- No call of an end but open_stream opens a stream of the end's own numbers: what is a fact of each number that is open
-- before, and of each number of the peer's, is one of each number that is open after.
use Rattle.std.proofs.Common.{◌≡◌, ◌≢◌, ℕ, ℤ, zero, suc, Bool, true, false, not, ◌&&◌, ◌||◌, cond, List, [], ◌∷◌, refl, sym, ap, subst, ◌∙◌, arith, Option, None, Some, inl, inr, ◌⊎◌, is_some, nat_eq, nat_le, nat_lt, Result, Ok, Err}
use Rattle.std.specs.Prelude.{◌%◌, Vec, IfOk, OnErr, MatchOption}
use Rattle.std.specs.Option.{option_or}
use Rattle.std.specs.FinSet.{contains}
use Rattle.std.proofs.lemmas.Bool.Decides.{nat_tests}
use Rattle.std.specs.FinMap as fmap
use Rattle.st_ilp.specs.Packets.{AnswerPacket, PreparePacket, Fulfilled, Rejected}
use Rattle.st_ilp.specs.Reading.{answer_at, prepare_at}
use Rattle.st_ilp.specs.declared.error.IlpError.{IlpError}
use Rattle.st_keys.specs.declared.error.KeyError.{KeyError}
use Rattle.st_keys.specs.Sealed.{opened}
use Rattle.st_frames.specs.Frames.{Known, CloseFrame, ConnectionClose, OtherFrame, LimitFrame, ConnectionMaxData, BlockedFrame, ConnectionDataBlocked, StreamClose, StreamMoney, StreamMaxMoney, StreamMoneyBlocked, StreamData, StreamMaxData, StreamDataBlocked, Packet, frames_of}
use Rattle.st_frames.specs.Told.{shares}
use Rattle.st_streams.specs.Slots.{Slots, slot}
use Rattle.st_streams.proofs.SlotLemmas.{slot_cases, slot_map}
use Rattle.st_sender.specs.Sending.{Sending, Outgoing, SentFrame, Data, Whole, Flight, new_outgoing, outgoing_at, with_outgoing, changed_at, changed}
use Rattle.st_sender.specs.Accepting.{after_write, after_clean, after_offer}
use Rattle.st_sender.specs.Answering.{acked_data, after_whole_acked, after_acked, after_all_acked, landed, after_fulfilled, after_failed, Plain, after_told, after_all_told}
use Rattle.st_receiver.specs.declared.reason.Reason.{Reason}
use Rattle.st_receiver.specs.declared.reason.Reason.TheVariants.{Repeated, AmountTooSmall, StreamId, ConnectionClosed}
use Rattle.st_receiver.specs.Streams.{Receiving, Incoming, incoming_at, with_incoming, is_open, may_name, with_max, with_kept}
use Rattle.st_receiver.specs.Data.{with_data, stream_fault, frame_fault, frames_fault, after_frame, after_frames}
use Rattle.st_receiver.specs.Money.{parts, with_credit, with_credits, after_money, money_fault}
use Rattle.st_receiver.specs.Closes.{with_close, after_close, after_closes, with_abort, after_connection_close, after_connection_closes}
use Rattle.st_receiver.specs.Judged.{fault_of, effect}
use Rattle.st_receiver.specs.Reading.{Got, after_got}
use Rattle.st_receiver.specs.Limits.{reply_frames}
use Rattle.st_end.specs.State.{EndState}
use Rattle.st_streams.specs.declared.end_error.EndError.{EndError}
use Rattle.st_streams.specs.declared.end_error.EndError.TheVariants as end_errors
use Rattle.st_end.specs.declared.flight.Open as flights
use Rattle.st_end.specs.declared.received.Received as answered
use Rattle.st_end.specs.Calls.{Answer, done, write, close, offer, set_receive_max}
use Rattle.st_end.specs.Reading.{read}
use Rattle.st_end.specs.Sending.{Goes, GoesNone, is_kept, open_flight, with_condition}
use Rattle.st_end.specs.Unsealed.{Launched, GoesUnsealed, known_if, known}
use Rattle.st_end.specs.Answers.{raised, fits, failure_of, answered_by, outcome_left, after_outcome, ended_with, ended}
use Rattle.st_end.specs.Receiving.{Received, Verdict, Unread, Rejects, Fulfills, verdict_on, opened_too, all_marked, told, fulfilled, after_verdict, prepare_or_none, received}
use Rattle.st_end.specs.Seen.{received_seen}
use Rattle.st_hub.specs.Handing.{IsOwn, IsKnown}
use Rattle.st_hub.specs.Keeping.{OpensNoOwn}
use Rattle.st_hub.proofs.EndFolds.{opened_keeps, marked_keeps}
use Rattle.st_hub.proofs.Receiving.{Tells, tells_verdict}

-- it is a fact of each stream that is open for sending, or for receiving
abbrev AllSent : (ℕ → Type 0) → Sending → Type 0
AllSent Q s = (k : ℕ) → is_some (outgoing_at s k) ≡ true → Q k

abbrev AllRead : (ℕ → Type 0) → Receiving → Type 0
AllRead Q r = (k : ℕ) → is_some (slot r.streams k) ≡ true → Q k

-- ---- the sending side

module _ (Q : ℕ → Type 0) where
  sent_with : (s : Sending) (k : ℕ) (x : Outgoing) → Q k → AllSent Q s → AllSent Q (with_outgoing s k x)
  sent_with s k x here h j e =
      elim (slot_cases s.streams k x j) [
        | inl c ↦ subst Q (sym c.0) here
        | inr c ↦ h j (ap is_some (sym c) ∙ e)
      ]

  changed_by : (s : Sending) (k : ℕ) (f : Outgoing → Outgoing) (y : Option Outgoing) → outgoing_at s k ≡ y → AllSent Q s → AllSent Q (changed_at s k f y)
  changed_by s k f None e h = h
  changed_by s k f (Some x) e h = sent_with s k (f x) (h k (ap is_some e)) h

  sent_changed : (s : Sending) (k : ℕ) (f : Outgoing → Outgoing) → AllSent Q s → AllSent Q (changed s k f)
  sent_changed s k f h = changed_by s k f (outgoing_at s k) refl h

  whole_acked : (s : Sending) (f : Known) → AllSent Q s → AllSent Q (after_whole_acked s f)
  whole_acked s (StreamMoney k n) h = sent_changed s k _ h
  whole_acked s (CloseFrame (StreamClose k code message)) h = sent_changed s k _ h
  whole_acked s (BlockedFrame (StreamDataBlocked k n)) h = sent_changed s k _ h
  whole_acked s (BlockedFrame (StreamMoneyBlocked k n t)) h = sent_changed s k _ h
  whole_acked s (StreamData k o xs) h = h
  whole_acked s (BlockedFrame (ConnectionDataBlocked n)) h = h
  whole_acked s (LimitFrame (ConnectionMaxData n)) h = h
  whole_acked s (LimitFrame (StreamMaxData j n)) h = h
  whole_acked s (LimitFrame (StreamMaxMoney j n u)) h = h
  whole_acked s (CloseFrame (ConnectionClose code message)) h = h
  whole_acked s (OtherFrame o) h = h

  acked : (s : Sending) (f : SentFrame) → AllSent Q s → AllSent Q (after_acked s f)
  acked s (Data k o n) h = sent_changed s k (acked_data o n) h
  acked s (Whole f) h = whole_acked s f h

  all_acked : (fs : List SentFrame) (s : Sending) → AllSent Q s → AllSent Q (after_all_acked s fs)
  all_acked [] s h = h
  all_acked (f ∷ fs) s h = all_acked fs (after_acked s f) (acked s f h)

  told_one : (s : Sending) (f : Known) → AllSent Q s → AllSent Q (after_told s f)
  told_one s (LimitFrame (StreamMaxData k n)) h = sent_changed s k _ h
  told_one s (LimitFrame (StreamMaxMoney k n t)) h = sent_changed s k _ h
  told_one s (LimitFrame (ConnectionMaxData n)) h = h
  told_one s (StreamData k o xs) h = h
  told_one s (StreamMoney k n) h = h
  told_one s (CloseFrame c) h = h
  told_one s (BlockedFrame b) h = h
  told_one s (OtherFrame o) h = h

  all_told : (fs : List Known) (s : Sending) → AllSent Q s → AllSent Q (after_all_told s fs)
  all_told [] s h = h
  all_told (f ∷ fs) s h = all_told fs (after_told s f) (told_one s f h)

  sent_either : (b : Bool) (s t : Sending) → AllSent Q s → AllSent Q t → AllSent Q (cond b s t)
  sent_either true s t f g = f
  sent_either false s t f g = g

  raising : (s : Sending) (n : ℕ) (q : Result Packet KeyError) → AllSent Q s → AllSent Q (raised s n q)
  raising s n (Err e) h = h
  raising s n (Ok q) h = sent_either (nat_eq q.sequence n) (after_all_told s (frames_of q)) s (all_told (frames_of q) s h) h

  answering : (e : EndState) (f : flights.Open) (p : Flight) (a : Result AnswerPacket IlpError) → AllSent Q e.sending → AllSent Q (answered_by e.keys e.sending f p a)
  answering e f p (Err fault) h = h
  answering e f p (Ok (Fulfilled fulfillment payload)) h =
      sent_either (fits f fulfillment) (raised (after_fulfilled e.sending p) f.sequence (opened e.keys 13 payload)) (after_failed e.sending p Plain)
      (raising (after_fulfilled e.sending p) f.sequence (opened e.keys 13 payload) (all_acked p.frames (landed e.sending p.sequence) h)) h
  answering e f p (Ok (Rejected code by message payload)) h =
      raising (after_failed e.sending p (failure_of code payload)) f.sequence (opened e.keys 14 payload) h

  outcome : (e : EndState) (f : flights.Open) (p : Flight) (o : Option (List ℕ)) → AllSent Q e.sending → AllSent Q (outcome_left e f p o)
  outcome e f p None h = h
  outcome e f p (Some bytes) h = answering e f p (answer_at bytes) h

  opening : (r : Receiving) (s : Sending) → AllRead Q r → AllSent Q s → AllSent Q (opened_too r s)
  opening r s reads h = opened_keeps (AllSent Q) r (λ t k on e g. sent_with t k new_outgoing (reads k on) g) s h

  marking : (reply fs : List Known) (s : Sending) → AllSent Q s → AllSent Q (all_marked reply s fs)
  marking reply fs s h = marked_keeps (AllSent Q) (λ t m g. g) reply fs s h

  -- ---- the receiving side

  read_with : (r : Receiving) (k : ℕ) (x : Incoming) → Q k → AllRead Q r → AllRead Q (with_incoming r k x)
  read_with r k x here h j e =
      elim (slot_cases r.streams k x j) [
        | inl c ↦ subst Q (sym c.0) here
        | inr c ↦ h j (ap is_some (sym c) ∙ e)
      ]

  credit_open : (x : Option Incoming) (p : ℕ) → is_some (with_credit x p) ≡ is_some x
  credit_open None p = refl
  credit_open (Some x) p = refl

  credits_open : (xs : Slots Incoming) (ps : List ℕ) (k : ℕ) → is_some (slot (with_credits xs ps) k) ≡ is_some (slot xs k)
  credits_open [] ps k = refl
  credits_open (x ∷ xs) [] k = refl
  credits_open (x ∷ xs) (p ∷ ps) zero = credit_open x p
  credits_open (x ∷ xs) (p ∷ ps) (suc k) = credits_open xs ps k

  credited_open : (b : Bool) (xs : Slots Incoming) (ps : List ℕ) (k : ℕ) → is_some (slot (cond b (with_credits xs ps) xs) k) ≡ is_some (slot xs k)
  credited_open true xs ps k = credits_open xs ps k
  credited_open false xs ps k = refl

  money_in : (r : Receiving) (amount : ℕ) (fs : List Known) → AllRead Q r → AllRead Q (after_money r amount fs)
  money_in r amount fs h k on = h k (sym (credited_open (nat_lt 0 amount) r.streams (parts amount (shares fs)) k) ∙ on)

  -- each stream that closes name
  abbrev ClosesOne : Known → Type 0
  ClosesOne (CloseFrame (StreamClose k code message)) = Q k
  ClosesOne f = Unit {0}

  abbrev ClosesAll : List Known → Type 0
  ClosesAll [] = Unit {0}
  ClosesAll (f ∷ fs) = ClosesOne f × ClosesAll fs

  close_in : (r : Receiving) (f : Known) → ClosesOne f → AllRead Q r → AllRead Q (after_close r f)
  close_in r (CloseFrame (StreamClose k code message)) q h = read_with r k (with_close code (incoming_at r k)) q h
  close_in r (StreamData k o xs) q h = h
  close_in r (StreamMoney k n) q h = h
  close_in r (CloseFrame (ConnectionClose code message)) q h = h
  close_in r (OtherFrame o) q h = h
  close_in r (LimitFrame l) q h = h
  close_in r (BlockedFrame b) q h = h

  closes_in : (fs : List Known) (r : Receiving) → ClosesAll fs → AllRead Q r → AllRead Q (after_closes r fs)
  unfolding after_closes
  closes_in [] r q h = h
  closes_in (f ∷ fs) r q h = closes_in fs (after_close r f) q.1 (close_in r f q.0 h)

  abort_open : (code : ℕ) (o : Option Incoming) → is_some (with_abort code o) ≡ is_some o
  abort_open code None = refl
  abort_open code (Some x) = refl

  ended_in : (r : Receiving) (f : Known) → AllRead Q r → AllRead Q (after_connection_close r f)
  ended_in r (CloseFrame (ConnectionClose code message)) h = λ k on. h k (sym (ap is_some (slot_map (with_abort code) refl r.streams k) ∙ abort_open code (slot r.streams k)) ∙ on)
  ended_in r (CloseFrame (StreamClose k code message)) h = h
  ended_in r (StreamData k o xs) h = h
  ended_in r (StreamMoney k n) h = h
  ended_in r (OtherFrame o) h = h
  ended_in r (LimitFrame l) h = h
  ended_in r (BlockedFrame b) h = h

  all_ended_in : (fs : List Known) (r : Receiving) → AllRead Q r → AllRead Q (after_connection_closes r fs)
  unfolding after_connection_closes
  all_ended_in [] r h = h
  all_ended_in (f ∷ fs) r h = all_ended_in fs (after_connection_close r f) (ended_in r f h)

-- ---- frames that break no rule name streams that are open or the peer's

or_none : {X : Type 0} (o u : Option X) → option_or o u ≡ None → (o ≡ None) × (u ≡ None)
or_none None u e = (refl, e)
or_none (Some x) u e = absurd (cc)

else_none : (b : Bool) (why : Reason) (o : Option Reason) → cond b (Some why) o ≡ None → o ≡ None
else_none true why o e = absurd (cc)
else_none false why o e = e

then_none : (b : Bool) (why : Reason) → cond b None (Some why) ≡ None → b ≡ true
then_none true why e = refl
then_none false why e = absurd (cc)

named_by : (a b c d : Bool) → (a && b && (c || not d)) ≡ true → (c ≡ true) ⊎ (d ≡ false)
named_by true true true d e = inl refl
named_by true true false true e = absurd (cc)
named_by true true false false e = inr refl
named_by true false c d e = absurd (cc)
named_by false b c d e = absurd (cc)

differ : (a b : ℕ) → nat_eq a b ≡ false → a ≢ b
differ a b e same = grind (arith, nat_tests)

module _ (Q : ℕ → Type 0) (p : ℕ) (peers : (k : ℕ) → k % 2 ≢ p → Q k) where
  named : (r : Receiving) (k : ℕ) → stream_fault r k ≡ None → r.parity ≡ p → AllRead Q r → Q k
  named r k e same h =
      elim (named_by (nat_le 1 k) (nat_le k 64) (is_open r k) (nat_eq (k % 2) r.parity) (then_none (may_name r k) StreamId e)) [
        | inl on ↦ h k on
        | inr off ↦ peers k (λ is. differ (k % 2) r.parity off (is ∙ sym same))
      ]

  record Fine (f : Known) (r : Receiving) : Type 0 where
    closes : ClosesOne Q f
    parity : r.parity ≡ p
    reads : AllRead Q r

  frame_in : (r : Receiving) (f : Known) → frame_fault r f ≡ None → r.parity ≡ p → AllRead Q r → Fine f (after_frame r f)
  frame_in r (StreamData k o xs) e same h = record { closes = tt; parity = same; reads = read_with Q r k (with_data o xs (incoming_at r k)) (named r k (or_none _ _ e).0 same h) h }
  frame_in r (StreamMoney k n) e same h = record { closes = tt; parity = same; reads = read_with Q r k (incoming_at r k) (named r k e same h) h }
  frame_in r (CloseFrame (StreamClose k code message)) e same h = let q = named r k e same h in record { closes = q; parity = same; reads = read_with Q r k (incoming_at r k) q h }
  frame_in r (CloseFrame (ConnectionClose code message)) e same h = record { closes = tt; parity = same; reads = h }
  frame_in r (OtherFrame o) e same h = record { closes = tt; parity = same; reads = h }
  frame_in r (LimitFrame l) e same h = record { closes = tt; parity = same; reads = h }
  frame_in r (BlockedFrame b) e same h = record { closes = tt; parity = same; reads = h }

  frames_in : (fs : List Known) (r : Receiving) → frames_fault r fs ≡ None → r.parity ≡ p → AllRead Q r → ClosesAll Q fs × (AllRead Q (after_frames r fs))
  unfolding frames_fault after_frames
  frames_in [] r e same h = (tt, h)
  frames_in (f ∷ fs) r e same h =
      let o = or_none (frame_fault r f) (frames_fault (after_frame r f) fs) e in
      let x = frame_in r f o.0 same h in
      let y = frames_in fs (after_frame r f) o.1 x.parity x.reads in
      ((x.closes, y.0), y.1)

  effect_in : (r : Receiving) (q : Packet) (amount : ℕ) → fault_of r q amount ≡ None → r.parity ≡ p → AllRead Q r → AllRead Q (effect r q amount)
  effect_in r q amount none same h =
      let fs = frames_of q in
      let s = after_frames r fs in
      let t = after_money s amount fs in
      let last = option_or (frames_fault r fs) (money_fault s amount fs) in
      let small = nat_lt amount q.amount in
      let again = contains r.fulfilled q.sequence in
      let unrepeated = else_none r.closed ConnectionClosed (cond again (Some Repeated) (cond small (Some AmountTooSmall) last)) none in
      let enough = else_none again Repeated (cond small (Some AmountTooSmall) last) unrepeated in
      let frames = (or_none (frames_fault r fs) (money_fault s amount fs) (else_none small AmountTooSmall last enough)).0 in
      let x = frames_in fs r frames same h in
      all_ended_in Q fs (after_closes t fs) (closes_in Q fs t x.0 (money_in Q s amount fs x.1))

-- ---- the calls of an end

-- if it is one of the end's own, it was open before
abbrev Was : EndState → ℕ → Type 0
Was e k = IsOwn e k → IsKnown e k

was_sent : (e : EndState) → AllSent (Was e) e.sending
was_sent e k on own = inl on

was_read : (e : EndState) → AllRead (Was e) e.receiving
was_read e k on own = inr on

opens_by : (e b : EndState) → AllSent (Was e) b.sending → AllRead (Was e) b.receiving → OpensNoOwn e b
opens_by e b s r = record { each = λ k own at. elim at [ inl on ↦ s k on own | inr on ↦ r k on own ] }

pub same_opens : (e : EndState) → OpensNoOwn e e
same_opens e = record { each = λ k own at. at }

done_opens : (e b : EndState) (o : Option EndError) (s : Sending) (r : Answer) → AllSent (Was e) s → done e o s ≡ (r, b) → OpensNoOwn e b
done_opens e b None s r h is = subst (OpensNoOwn e) (ap (λ p. p.1) is) (opens_by e (record e { sending = s }) h (was_read e))
done_opens e b (Some why) s r h is = subst (OpensNoOwn e) (ap (λ p. p.1) is) (same_opens e)

pub write_opens : (e b : EndState) (k : ℕ) (xs : List ℕ) (r : Answer) → write e k xs ≡ (r, b) → OpensNoOwn e b
write_opens e b k xs r h = done_opens e b _ _ r (sent_changed (Was e) e.sending k (after_write xs) (was_sent e)) h

pub close_opens : (e b : EndState) (k : ℕ) (r : Answer) → close e k ≡ (r, b) → OpensNoOwn e b
close_opens e b k r h = done_opens e b _ _ r (sent_changed (Was e) e.sending k after_clean (was_sent e)) h

pub offer_opens : (e b : EndState) (k amount : ℕ) (r : Answer) → offer e k amount ≡ (r, b) → OpensNoOwn e b
offer_opens e b k amount r h = done_opens e b _ _ r (sent_changed (Was e) e.sending k (after_offer amount) (was_sent e)) h

-- an open stream's direction changes
incoming_opens : (e : EndState) (k : ℕ) (x : Incoming) → is_open e.receiving k ≡ true → OpensNoOwn e (record e { receiving = with_incoming e.receiving k x })
incoming_opens e k x on = opens_by e (record e { receiving = with_incoming e.receiving k x }) (was_sent e) (read_with (Was e) e.receiving k x (was_read e k on) (was_read e))

max_if : (b : Bool) (e : EndState) (k amount : ℕ) → is_open e.receiving k ≡ b
    → OpensNoOwn e (record e { receiving = cond b (with_incoming e.receiving k (with_max amount (incoming_at e.receiving k))) (with_kept e.receiving k amount) })
max_if true e k amount on = incoming_opens e k (with_max amount (incoming_at e.receiving k)) on
max_if false e k amount on = opens_by e (record e { receiving = with_kept e.receiving k amount }) (was_sent e) (was_read e)

either_opens : {X : Type 0} (b : Bool) (e f : EndState) (r : X) (x y : X × EndState) → OpensNoOwn e x.1 → OpensNoOwn e y.1 → cond b x y ≡ (r, f) → OpensNoOwn e f
either_opens true e f r x y g h is = subst (OpensNoOwn e) (ap (λ p. p.1) is) g
either_opens false e f r x y g h is = subst (OpensNoOwn e) (ap (λ p. p.1) is) h

pub max_opens : (e b : EndState) (k amount : ℕ) (r : Answer) → set_receive_max e k amount ≡ (r, b) → OpensNoOwn e b
max_opens e b k amount r h = either_opens (may_name e.receiving k) e b r _ _ (max_if (is_open e.receiving k) e k amount refl) (same_opens e) h

read_if : (b : Bool) (e f : EndState) (k limit : ℕ) (g g' : Result Got EndError) → is_open e.receiving k ≡ b
    → ◌≡◌ {A = Result Got EndError × EndState} (cond b (g, record e { receiving = after_got e.receiving k limit }) (Err end_errors.NoStream, e)) (g', f) → OpensNoOwn e f
read_if true e f k limit g g' on is = subst (OpensNoOwn e) (ap (λ p. p.1) is) (incoming_opens e k _ on)
read_if false e f k limit g g' on is = subst (OpensNoOwn e) (ap (λ p. p.1) is) (same_opens e)

pub read_opens : (e b : EndState) (k limit : ℕ) (g : Got) → read e k limit ≡ (Ok g, b) → OpensNoOwn e b
read_opens e b k limit g h = read_if (is_open e.receiving k) e b k limit _ (Ok g) refl h

goes_opens : (e : EndState) (iv : List ℕ) (now : ℤ) (flight : flights.Open) (bytes : List ℕ) (b : EndState) → Goes e iv now flight bytes b → OpensNoOwn e b
goes_opens e iv now flight bytes b g =
    let P : Sending → Type 0 = AllSent (Was e) in
    let s : AllSent (Was e) g.sending = subst P (sym g.sends.after) (was_sent e) in
    subst (OpensNoOwn e) (sym g.after_is) (opens_by e (with_condition e flight g.sending) s (was_read e))

unsealed_opens : (e : EndState) (iv : List ℕ) (now : ℤ) (flight : flights.Open) (bytes : List ℕ) (b : EndState) → GoesUnsealed e iv now flight bytes b → OpensNoOwn e b
unsealed_opens e iv now flight bytes b g = record { each = (goes_opens e iv now flight bytes _ g.goes).each }

known_by : (t : Bool) (e : EndState) (f : flights.Open) → OpensNoOwn e (known_if t e f)
known_by true e f = record { each = (same_opens e).each }
known_by false e f = same_opens e

pub known_opens : (e : EndState) (iv : List ℕ) (f : flights.Open) → OpensNoOwn e (known e iv f)
known_opens e iv f = known_by (is_kept iv (fmap.get e.conditions f.sequence)) e f

pub send_opens : (e b : EndState) (iv : List ℕ) (now : ℤ) (r : Result (Option Launched) EndError)
    → IfOk r (λ s. MatchOption s (GoesNone e × (b ≡ e)) (λ x. GoesUnsealed e iv now x.flight x.bytes b)) → OnErr r (b ≡ e) → OpensNoOwn e b
send_opens e b iv now (Ok None) h u = subst (OpensNoOwn e) (sym h.1) (same_opens e)
send_opens e b iv now (Ok (Some x)) h u = unsealed_opens e iv now x.flight x.bytes b h
send_opens e b iv now (Err why) h u = subst (OpensNoOwn e) (sym u) (same_opens e)

ended_by : (e : EndState) (f : flights.Open) (p : Option Flight) (o : Option (List ℕ)) → OpensNoOwn e (ended_with e f p o)
ended_by e f None o = same_opens e
ended_by e f (Some p) o = opens_by e (after_outcome e f p o) (outcome (Was e) e f p o (was_sent e)) (was_read e)

pub ended_opens : (e : EndState) (f : flights.Open) (o : Option (List ℕ)) → OpensNoOwn e (ended e f o)
ended_opens e f o = ended_by e f (open_flight e f) o

-- ---- a Prepare that arrives

fulfilled_opens : (e : EndState) (p : Packet) (amount : ℕ) (r : Receiving) → r ≡ effect e.receiving p amount → fault_of e.receiving p amount ≡ None → OpensNoOwn e (fulfilled e p r)
fulfilled_opens e p amount r is none =
    let P : Receiving → Type 0 = AllRead (Was e) in
    let reads : AllRead (Was e) r = subst P (sym is) (effect_in (Was e) e.receiving.parity (λ k ne own. absurd (ne own)) e.receiving p amount none refl (was_read e)) in
    let s = opened_too r e.sending in
    opens_by e (fulfilled e p r) (marking (Was e) (reply_frames r (frames_of p)) (frames_of p) (after_all_told s (frames_of p)) (all_told (Was e) (frames_of p) s (opening (Was e) r e.sending reads (was_sent e)))) reads

verdict_opens : (e : EndState) (q : PreparePacket) (v : Verdict) → Tells e q v → OpensNoOwn e (after_verdict e v)
verdict_opens e q (Unread code reason) t = same_opens e
verdict_opens e q (Rejects p reason) t = opens_by e (told e p) (all_told (Was e) (frames_of p) e.sending (was_sent e)) (was_read e)
verdict_opens e q (Fulfills p r) t = fulfilled_opens e p q.amount r t.0 t.1

received_opens : (e : EndState) (bytes : List ℕ) (now : ℤ) → OpensNoOwn e (received e bytes now).1
received_opens e bytes now = verdict_opens e (prepare_or_none (prepare_at bytes)) (verdict_on e now (prepare_at bytes)) (tells_verdict e now (prepare_at bytes))

pub receive_opens : {X : Type 0} (e b : EndState) (bytes : List ℕ) (now : ℤ) (r : Result (answered.Received X) EndError) → IfOk r (λ r. received e bytes now ≡ (received_seen r, b)) → OnErr r (b ≡ e) → OpensNoOwn e b
receive_opens e b bytes now (Ok x) h u = subst (λ (p : Received × EndState). OpensNoOwn e p.1) h (received_opens e bytes now)
receive_opens e b bytes now (Err why) h u = subst (OpensNoOwn e) (sym u) (same_opens e)
