-- What events leave of what was written at the client.
use Rattle.std.proofs.Common.{◌≡◌, ◌≢◌, ℕ, zero, suc, Bool, true, false, List, ◌++◌, refl, sym, ap, subst, ◌∙◌, ℤ, Option, None, Some, inl, inr, Result, Ok, Err, is_ok, nat_eq, slice_get}
use Rattle.std.specs.Ordering.{nat_cmp}
use Rattle.std.specs.FinMap as fmap
use Rattle.st_receiver.specs.Reading.{Got, Bytes, Nothing, End, Aborted}
use Rattle.st_hop.specs.Hop.{Hop}
use Rattle.st_hop.specs.Arriving.{Arrival, Answers, Forwards}
use Rattle.st_hop.specs.Tickets.{ticket_at}
use Rattle.st_hop.specs.declared.ticket.Open as tickets
use Rattle.st_sender.specs.Sending.{Flight}
use Rattle.st_end.specs.Calls.{Answer, close, write, abort, offer}
use Rattle.st_end.specs.Reading as reading
use Rattle.st_end.specs.Sending.{open_flight}
use Rattle.st_streams.specs.declared.end_error.EndError.{EndError}
use Rattle.std.specs.Prelude.{MatchBool}
use Rattle.st_world_parts.specs.Sides.{Side, Client, Server, Both, other}
use Rattle.st_world_parts.specs.StreamLogs.{StreamLog, ledger_or, written, got}
use Rattle.st_world_parts.specs.State.{World, Node, SentPrepare, SentAnswer, Place, AtEnd, AtHop, far, near, nth, direction_at, end_at, with_end, log_at}
use Rattle.st_world_parts.specs.Events.{Event, OpenStream, Write, Read, Close, Abort, Offer, ReceiveMax, Send, Arrive, AnswerArrives, Fault, Crash, Refused, Told, Call, NoMemory}
use Rattle.st_world_parts.specs.Ends.{accepted_at, read_at, taken_if, AbortsAt, ReadsAt, BackAtEnd, flight_of}
use Rattle.st_world_parts.specs.Hops.{Comes, ArrivesAtHop, BackAtTicket, BackAtHop, CrashesAt}
use Rattle.st_world.specs.Steps.{Step, Happens, Refuses, RefusesAt, RefusesArrival, ArrivesAt, Arrives, BackAt, Back, AnswerBack}
use Rattle.st_world.proofs.DataWays.{ledger_here, ledger_apart, ledger_same}
use Rattle.ilpstream_local.specs.Playing.{IsAside, written_on}

abbrev Same : World → World → Type 0
Same w v = v.ledgers ≡ w.ledgers

same_at : (w z after : World) → after ≡ z → Same w z → Same w after
same_at w z after e s = ap (λ (x : World). x.ledgers) e ∙ s

-- ---- arrivals over a link

taken_same : (b : Bool) (w : World) (link : ℕ) (way : Side) (j : ℕ) → Same w (taken_if b w link way j)
taken_same false w link way j = refl
taken_same true w link way zero = refl
taken_same true w link way (suc j) = refl

comes_same : (w : World) (link : ℕ) (way : Side) (which : ℕ) (p : SentPrepare) (i : ℕ) (n : Node) (a : Arrival) (h : Hop) (told : Told) (after : World) → Comes w link way which p i n a h told after → Same w after
comes_same w link way which p i n (Answers bytes) h told after c = same_at w _ after c.1 refl
comes_same w link way which p i n (Forwards t outgoing bytes) h told after c = same_at w _ after c.2 refl

hop_same : (w : World) (link : ℕ) (way : Side) (which : ℕ) (p : SentPrepare) (now : ℤ) (i : ℕ) (o : Option Node) (told : Told) (after : World) → ArrivesAtHop w link way which p now i o told after → Same w after
hop_same w link way which p now i None told after h = same_at w w after h.1 refl
hop_same w link way which p now i (Some n) told after h = comes_same w link way which p i n _ _ told after h

arrives_there : (w : World) (link : ℕ) (way : Side) (which : ℕ) (now : ℤ) (p : SentPrepare) (place : Place) (told : Told) (after : World) → ArrivesAt w link way which now p place told after → Same w after
arrives_there w link way which now p (AtEnd side) told after h = same_at w _ after h.1 refl
arrives_there w link way which now p (AtHop i) told after h = hop_same w link way which p now i (slice_get w.nodes i) told after h

arrives_same : (w : World) (link : ℕ) (way : Side) (which : ℕ) (now : ℤ) (o : Option SentPrepare) (told : Told) (after : World) → Arrives w link way which now o told after → Same w after
arrives_same w link way which now None told after h = same_at w w after h.1 refl
arrives_same w link way which now (Some p) told after h = arrives_there w link way which now p (far w link way) told after h

end_same : (w : World) (link : ℕ) (way : Side) (j : ℕ) (p : SentPrepare) (outcome : Option (List ℕ)) (side : Side) (o : Option Flight) (told : Told) (after : World) → BackAtEnd w link way j p outcome side o told after → Same w after
end_same w link way j p outcome side None told after h = same_at w w after h.1 refl
end_same w link way j p outcome side (Some flown) told after h = same_at w _ after h.1 (taken_same _ _ link way j)

ticket_same : (w : World) (link : ℕ) (way : Side) (j : ℕ) (p : SentPrepare) (outcome : Option (List ℕ)) (now : ℤ) (i : ℕ) (n : Node) (o : Option tickets.Open) (told : Told) (after : World) → BackAtTicket w link way j p outcome now i n o told after → Same w after
ticket_same w link way j p outcome now i n None told after h = same_at w w after h.1 refl
ticket_same w link way j p outcome now i n (Some t) told after h = same_at w _ after h.1 (taken_same _ _ link way j)

node_same : (w : World) (link : ℕ) (way : Side) (j : ℕ) (p : SentPrepare) (outcome : Option (List ℕ)) (now : ℤ) (i : ℕ) (o : Option Node) (told : Told) (after : World) → BackAtHop w link way j p outcome now i o told after → Same w after
node_same w link way j p outcome now i None told after h = same_at w w after h.1 refl
node_same w link way j p outcome now i (Some n) told after h = ticket_same w link way j p outcome now i n (ticket_at n.state.tickets p.name) told after h

back_there : (w : World) (link : ℕ) (way : Side) (j : ℕ) (now : ℤ) (p : SentPrepare) (outcome : Option (List ℕ)) (place : Place) (told : Told) (after : World) → BackAt w link way j now p outcome place told after → Same w after
back_there w link way j now p outcome (AtEnd side) told after h = end_same w link way j p outcome side (open_flight (end_at w side) (flight_of p)) told after h
back_there w link way j now p outcome (AtHop i) told after h = node_same w link way j p outcome now i (slice_get w.nodes i) told after h

back_same : (w : World) (link : ℕ) (way : Side) (j : ℕ) (now : ℤ) (outcome : Option (List ℕ)) (o : Option SentPrepare) (told : Told) (after : World) → Back w link way j now outcome o told after → Same w after
back_same w link way j now outcome None told after h = same_at w w after h.1 refl
back_same w link way j now outcome (Some p) told after h = back_there w link way j now p outcome (near w link way) told after h

answer_same : (w : World) (link : ℕ) (way : Side) (j : ℕ) (now : ℤ) (o : Option SentAnswer) (told : Told) (after : World) → AnswerBack w link way j now o told after → Same w after
answer_same w link way j now None told after h = same_at w w after h.1 refl
answer_same w link way j now (Some g) told after h = back_same w link way j now (Some g.bytes) (nth (direction_at w link way).prepares g.which) told after h

crash_same : (w : World) (i : ℕ) (o : Option Node) (told : Told) (after : World) → CrashesAt w i o told after → Same w after
crash_same w i None told after h = same_at w w after h.1 refl
crash_same w i (Some n) told after h = same_at w _ after h.3 refl

-- ---- out of memory

refuses_at : (w : World) (link : ℕ) (way : Side) (which : ℕ) (now : ℤ) (p : SentPrepare) (place : Place) (after : World) → RefusesAt w link way which now p place after → Same w after
refuses_at w link way which now p (AtEnd side) after h = same_at w _ after h.4 refl
refuses_at w link way which now p (AtHop i) after h = same_at w _ after h.2 refl

refuses_arrival : (w : World) (link : ℕ) (way : Side) (which : ℕ) (now : ℤ) (o : Option SentPrepare) (after : World) → RefusesArrival w link way which now o after → Same w after
refuses_arrival w link way which now None after h = absurd h
refuses_arrival w link way which now (Some p) after h = refuses_at w link way which now p (far w link way) after h

refuses_same : (w : World) (event : Event) (after : World) → Refuses w event after → Same w after
refuses_same w (OpenStream side) after h = same_at w w after h.1 refl
refuses_same w (Write side k xs) after h = same_at w w after h.1 refl
refuses_same w (Read side k limit) after h = same_at w w after h.2 refl
refuses_same w (Close side k) after h = same_at w w after h.1 refl
refuses_same w (Abort side k code) after h = same_at w w after h.2 refl
refuses_same w (Offer side k amount) after h = same_at w w after h.1 refl
refuses_same w (ReceiveMax side k amount) after h = same_at w w after h.1 refl
refuses_same w (Send side iv now) after h = same_at w w after h refl
refuses_same w (Arrive link way which now) after h = refuses_arrival w link way which now (nth (direction_at w link way).prepares which) after h
refuses_same w (AnswerArrives link way j now) after h = absurd h
refuses_same w (Fault link way which now) after h = absurd h
refuses_same w (Crash i) after h = absurd h
refuses_same w Refused after h = absurd h

-- ---- calls on streams

abbrev Kept : World → World → Type 0
Kept w v = (k : ℕ) → written_on v k ≡ written_on w k

kept_by : (w v : World) → Same w v → Kept w v
kept_by w v s k = ap (λ (m : Both (fmap.FinMap nat_cmp StreamLog)). (ledger_or (fmap.get m.client k)).written) s

kept_at : (w z after : World) → after ≡ z → Kept w z → Kept w after
kept_at w z after e h k = ap (λ (x : World). written_on x k) e ∙ h k

-- a call that was accepted leaves this ledger
accepted_kept : (side : Side) (r : Answer) (w : World) (k : ℕ) (x : StreamLog) → x.written ≡ (log_at w side k).written → Kept w (accepted_at r w side k x)
accepted_kept side (Err why) w k x same j = refl
accepted_kept Client (Ok done) w k x same j = ledger_same w.ledgers.client k x (λ (l : StreamLog). l.written) same j
accepted_kept Server (Ok done) w k x same j = refl

-- and at the server any
accepted_apart : (r : Answer) (w : World) (k : ℕ) (x : StreamLog) → Kept w (accepted_at r w Server k x)
accepted_apart (Err why) w k x j = refl
accepted_apart (Ok done) w k x j = refl

got_written : (g : Got) (x : StreamLog) → (got g x).written ≡ x.written
got_written (Bytes xs) x = refl
got_written Nothing x = refl
got_written End x = refl
got_written (Aborted code) x = refl

read_kept : (side : Side) (r : Result Got EndError) (w : World) (k : ℕ) → Kept w (read_at r w (other side) k)
read_kept side (Err why) w k j = refl
read_kept Client (Ok g) w k j = refl
read_kept Server (Ok g) w k j = ledger_same w.ledgers.client k (got g (log_at w Client k)) (λ (l : StreamLog). l.written) (got_written g (log_at w Client k)) j

aborts_kept : (w : World) (side : Side) (k code : ℕ) (b : Bool) (told : Told) (after : World) → AbortsAt w side k code b told after → Kept w after
aborts_kept w side k code true told after h = kept_at w w after h.1 (λ j. refl)
aborts_kept w side k code false told after h = kept_at w _ after h.1 (accepted_kept side _ (with_end w side (abort (end_at w side) k code).1) k _ refl)

reads_kept : (w : World) (side : Side) (k limit : ℕ) (told : Told) (after : World) → ReadsAt w side k limit told after → Kept w after
reads_kept w side k zero told after h = kept_at w w after h.1 (λ j. refl)
reads_kept w side k (suc n) told after h = kept_at w _ after h.1 (read_kept side _ (with_end w side (reading.read (end_at w side) k (suc n)).1) k)

step_kept : (w : World) (event : Event) (told : Told) (after : World) → IsAside event → Step w event told after → Kept w after
step_kept w (OpenStream side) told after a h = kept_by w after (same_at w _ after h.1 refl)
step_kept w (Write Client k xs) told after a h = absurd a
step_kept w (Write Server k xs) told after a h = kept_at w _ after h.1 (accepted_apart _ (with_end w Server (write (end_at w Server) k xs).1) k _)
step_kept w (Read side k limit) told after a h = reads_kept w side k limit told after h
step_kept w (Close side k) told after a h = kept_at w _ after h.1 (accepted_kept side _ (with_end w side (close (end_at w side) k).1) k _ refl)
step_kept w (Abort side k code) told after a h = aborts_kept w side k code (nat_eq code 1) told after h
step_kept w (Offer side k amount) told after a h = kept_at w _ after h.1 (accepted_kept side _ (with_end w side (offer (end_at w side) k amount).1) k _ refl)
step_kept w (ReceiveMax side k amount) told after a h = kept_by w after (same_at w _ after h.1 refl)
step_kept w (Send side iv now) told after a h = elim h [
  | inl i ↦ kept_by w after (same_at w w after i.2 refl)
  | inr g ↦ kept_by w after (same_at w _ after g.5 refl)
]
step_kept w (Arrive link way which now) told after a h = kept_by w after (arrives_same w link way which now (nth (direction_at w link way).prepares which) told after h)
step_kept w (AnswerArrives link way j now) told after a h = kept_by w after (answer_same w link way j now (nth (direction_at w link way).given j) told after h)
step_kept w (Fault link way which now) told after a h = kept_by w after (back_same w link way 0 now None (nth (direction_at w link way).prepares which) told after h)
step_kept w (Crash i) told after a h = kept_by w after (crash_same w i (slice_get w.nodes i) told after h)
step_kept w Refused told after a h = kept_at w w after h.1 (λ j. refl)

-- an event that writes nothing at the client leaves what was written there
pub aside_kept : (w : World) (event : Event) (told : Told) (after : World) → IsAside event → Happens w event told after → (k : ℕ) → written_on after k ≡ written_on w k
aside_kept w event told after a h = elim h.1 [
  | inl met ↦ step_kept w event told after a met
  | inr lacks ↦ kept_by w after (same_at w _ after lacks.3 (refuses_same w event lacks.0 lacks.2))
]

-- ---- a write at the client

-- it was accepted, or changed nothing
wrote_by : (r : Answer) (w : World) (k : ℕ) (xs : List ℕ) → let v = accepted_at r w Client k (written xs (log_at w Client k)) in
    MatchBool (is_ok r) ((written_on v k ≡ written_on w k ++ xs) × ((j : ℕ) → j ≢ k → written_on v j ≡ written_on w j)) (Kept w v)
wrote_by (Err why) w k xs = λ j. refl
wrote_by (Ok done) w k xs =
    let x = written xs (log_at w Client k) in
    (ap (λ (l : StreamLog). l.written) (ledger_here w.ledgers.client k x), λ j n. ap (λ (l : StreamLog). l.written) (ledger_apart w.ledgers.client k x j n))

abbrev call_of : Told → Answer → Answer
call_of (Call a) b = a
call_of told b = b

pub write_called : (w v : World) (k : ℕ) (xs : List ℕ) (a : Answer) → Happens w (Write Client k xs) (Call a) v
    → MatchBool (is_ok a) ((written_on v k ≡ written_on w k ++ xs) × ((j : ℕ) → j ≢ k → written_on v j ≡ written_on w j)) (Kept w v)
write_called w v k xs a h = elim h.1 [
  | inl met ↦
      let r = write (end_at w Client) k xs in
      let same : a ≡ r.0 = ap (λ (t : Told). call_of t a) met.0 in
      let P : Answer → World → Type 0 = λ b z. MatchBool (is_ok b) ((written_on z k ≡ written_on w k ++ xs) × ((j : ℕ) → j ≢ k → written_on z j ≡ written_on w j)) (Kept w z) in
      subst (λ (b : Answer). P b v) (sym same) (subst (P r.0) (sym met.1) (wrote_by r.0 (with_end w Client r.1) k xs))
  | inr lacks ↦ absurd (let no : Call a ≡ NoMemory = lacks.1 in cc)
]
