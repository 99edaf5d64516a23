-- What an end and a hop answer or put, as moves.
use Rattle.std.proofs.Common.{◌≡◌, ℕ, zero, suc, ◌<◌, ◌^◌, arith, Result, Ok, Err, Bool, true, false, not, cond, List, [], slice_get, refl, sym, ap, subst, ◌∙◌, ℤ, Option, None, Some, inl, inr, nat_lt, nat_eq, nat_le}
use Rattle.std.specs.Prelude.{int_le, int_lt, ◌+ℤ◌, pos, ◌≤ℤ◌}
use Rattle.st_oer.specs.Address.{is_within}
use Rattle.st_ilp.specs.Packets.{PreparePacket, AnswerPacket, Fulfilled, Rejected}
use Rattle.st_ilp.specs.Reading.{prepare_at, answer_at, is_fulfill_text, fulfills}
use Rattle.st_ilp.specs.Spelling.{answer_text}
use Rattle.st_ilp.specs.Laws.{IsPrepare}
use Rattle.st_ilp.specs.declared.error.IlpError.{IlpError}
use Rattle.st_frames.specs.Frames.{Packet}
use Rattle.st_keys.specs.Keys.{fulfillment}
use Rattle.st_keys.specs.Sealed.{opened}
use Rattle.st_keys.specs.declared.error.KeyError.{KeyError}
use Rattle.st_hop.specs.declared.ticket.Open.{Open}
use Rattle.st_hop.specs.declared.route.NextHop.{NextHop}
use Rattle.st_hop.specs.Hop.{Hop, Way, account_at, is_over_limit, holding, last_next}
use Rattle.st_hop.specs.Tickets.{ticket_at}
use Rattle.st_hop.specs.Refusals.{reject_text, code_of, payload_of}
use Rattle.st_hop.specs.Routing.{route_to}
use Rattle.st_hop.specs.Ways.{next_hop}
use Rattle.st_hop.specs.Arriving.{Arrival, Answers, Forwards, arrived, at_packet, sent_on, judged, routed, onward, hop_time}
use Rattle.st_hop.proofs.Kept.{fits as fits_limits}
use Rattle.st_hop.specs.Settling.{fits, closing_of, closed, settled, books, is_booked}
use Rattle.st_sender.specs.Sending.{Flight}
use Rattle.st_sender.specs.Flights.{flight_at}
use Rattle.st_receiver.specs.declared.reason.Reason.{Reason}
use Rattle.st_receiver.specs.Judged.{fault_of, effect}
use Rattle.st_end.specs.State.{EndState}
use Rattle.st_end.specs.Sending.{open_flight}
use Rattle.st_receiver.specs.Reasons.{f99}
use Rattle.st_end.specs.Receiving.{Verdict, Unread, Rejects, Fulfills, verdict, verdict_on, opened_as, judged_as, is_own_condition, prepare_or_none, prepare_in, fulfilled, reply_payload, received_as, answer_for}
use Rattle.st_world_parts.specs.Sides.{Side}
use Rattle.st_world_parts.specs.State.{World, Node, SentPrepare, SentAnswer, direction_at, with_prepare, with_answer, end_at, nth, with_node, with_hop_entry, Place, AtEnd, AtHop, far, near, next_link, prev_link, account_from}
use Rattle.st_world_parts.specs.Events.{Told}
use Rattle.st_world_parts.specs.Ends.{end_entry, answer_to, taken_if, flight_of, BackAtEnd}
use Rattle.st_world_parts.specs.Hops.{prepare_of_ticket, Comes, ArrivesAtHop, settled_entry, BackAtTicket, BackAtHop, reject_entry}
use Rattle.st_world.specs.Steps.{ArrivesAt, Arrives, BackAt, Back, AnswerBack}
use Rattle.st_world.proofs.Spellings.{IsSpelled, spelled_at, spelled_reads, goes_on, reject_fails, fulfill_is, opened_long}
use Rattle.st_world.proofs.Moves.{Came, Move, Replied, Settles, accepted, by_answer, by_fault, forwards, lands, move_at, refuses, rejected, replies, risen, settles, stays}

-- an end's answer
VerdictIs : EndState → PreparePacket → Verdict → Type 0
VerdictIs e q (Unread code reason) = Unit {0}
VerdictIs e q (Rejects p reason) = Unit {0}
VerdictIs e q (Fulfills p r) = (opened e.keys 12 q.payload ≡ Ok p) × (fault_of e.receiving p q.amount ≡ None) × (r ≡ effect e.receiving p q.amount)

verdict_cond : (e : EndState) (q : PreparePacket) (b : Bool) (x y : Verdict) → VerdictIs e q x → VerdictIs e q y → VerdictIs e q (cond b x y)
verdict_cond e q true x y f g = f
verdict_cond e q false x y f g = g

unread_is : (e : EndState) (q : PreparePacket) (code : List ℕ) (reason : ℕ) → VerdictIs e q (Unread code reason)
unfolding VerdictIs
unread_is e q code reason = tt

rejects_is : (e : EndState) (q : PreparePacket) (p : Packet) (reason : ℕ) → VerdictIs e q (Rejects p reason)
unfolding VerdictIs
rejects_is e q p reason = tt

judged_is : (e : EndState) (q : PreparePacket) (p : Packet) (o : Option Reason) → opened e.keys 12 q.payload ≡ Ok p → fault_of e.receiving p q.amount ≡ o → VerdictIs e q (judged_as p (effect e.receiving p q.amount) o)
unfolding VerdictIs
judged_is e q p (Some reason) is j = tt
judged_is e q p None is j = (is, j, refl)

opened_is : (e : EndState) (q : PreparePacket) (r : Result Packet KeyError) → opened e.keys 12 q.payload ≡ r → VerdictIs e q (opened_as e q r)
opened_is e q (Err fault) is = unread_is e q _ _
opened_is e q (Ok p) is =
    verdict_cond e q (is_own_condition e q) (judged_as p (effect e.receiving p q.amount) (fault_of e.receiving p q.amount)) (Rejects p 55)
    (judged_is e q p (fault_of e.receiving p q.amount) is refl) (rejects_is e q p 55)

-- an end answers the Prepare that the bytes spell
AnswersAs : EndState → List ℕ → Verdict → Type 0
AnswersAs e bytes v = let r = received_as e (prepare_in bytes) v in Replied e bytes r.0.bytes (end_entry r.0) r.1

answers_as : (e : EndState) (bytes : List ℕ) (v : Verdict) → VerdictIs e (prepare_in bytes) v → AnswersAs e bytes v
unfolding VerdictIs AnswersAs
answers_as e bytes (Unread code reason) h = rejected _ _ (reject_fails code e.own [] []) (reject_fails code e.own [] [])
answers_as e bytes (Rejects p reason) h = risen _ _ p (reject_fails f99 e.own [] _) (reject_fails f99 e.own [] _)
answers_as e bytes (Fulfills p r) h =
    let a = answer_text (answer_for e (prepare_in bytes) (Fulfills p r)) in
    let fits' : is_fulfill_text a ≡ true = fulfill_is e (prepare_in bytes) p r (opened_long e.keys 12 (prepare_in bytes).payload p h.0) in
    let Q : Bool → Type 0 = λ b. Replied e bytes a (record { amount = (prepare_in bytes).amount; sequence = Some p.sequence; fulfilled = b }) (fulfilled e p r) in
    subst Q (sym fits') (accepted a p r fits' h.0 h.1 h.2)

read_verdict : (e : EndState) (bytes : List ℕ) (now : ℤ) (r : Result PreparePacket IlpError) → prepare_at bytes ≡ r → VerdictIs e (prepare_in bytes) (verdict_on e now r)
read_verdict e bytes now (Err fault) is = unread_is e (prepare_in bytes) _ _
read_verdict e bytes now (Ok q) is =
    let same : prepare_in bytes ≡ q = ap prepare_or_none is in
    let P : PreparePacket → Type 0 = λ y. VerdictIs e y (verdict_on e now (Ok q)) in
    subst P (sym same)
    (verdict_cond e q (not (is_within e.own q.destination)) (Unread _ 56) _ (unread_is e q _ 56)
    (verdict_cond e q (int_le q.expiry now) (Unread _ 57) _ (unread_is e q _ 57) (opened_is e q (opened e.keys 12 q.payload) refl)))

received_is : (e : EndState) (bytes : List ℕ) (now : ℤ) → AnswersAs e bytes (verdict e bytes now)
received_is e bytes now = answers_as e bytes (verdict e bytes now) (read_verdict e bytes now (prepare_at bytes) refl)

-- at a hop
pub reject_text_fails : (own : List ℕ) (refusal : _) → is_fulfill_text (reject_text own refusal) ≡ false
unfolding reject_text
reject_text_fails own refusal = reject_fails (code_of refusal) own [] (payload_of refusal)

ArrivalIs : Hop → Side → List ℕ → Arrival → Hop → Type 0
ArrivalIs h way bytes (Answers answer) after = (is_fulfill_text answer ≡ false) × (after ≡ h)
ArrivalIs h way bytes (Forwards t outgoing next) after =
    (t.number ≡ h.next) × (t.incoming ≡ account_from way) × (t.outgoing ≡ outgoing) × (t.amount_in ≡ (prepare_in bytes).amount) × (t.amount_out ≡ (prepare_in next).amount)
    × ((prepare_in next).payload ≡ (prepare_in bytes).payload) × IsSpelled next × (after ≡ holding h t)

-- the outcome of forwarding: a next hop, or a refusal
sent_cond : (h : Hop) (way : Side) (bytes : List ℕ) (p : PreparePacket) (b : Bool) (x y : Result NextHop _) → ArrivalIs h way bytes (sent_on h (account_from way) p x).0 (sent_on h (account_from way) p x).1 → (b ≡ false → ArrivalIs h way bytes (sent_on h (account_from way) p y).0 (sent_on h (account_from way) p y).1) → ArrivalIs h way bytes (sent_on h (account_from way) p (cond b x y)).0 (sent_on h (account_from way) p (cond b x y)).1
sent_cond h way bytes p true x y f g = f
sent_cond h way bytes p false x y f g = g refl

sent_refused : (h : Hop) (way : Side) (bytes : List ℕ) (p : PreparePacket) (refusal : _) → ArrivalIs h way bytes (sent_on h (account_from way) p (Err refusal)).0 (sent_on h (account_from way) p (Err refusal)).1
unfolding ArrivalIs
sent_refused h way bytes p refusal = (reject_text_fails h.own refusal, refl)

-- an amount that fits the hop's sums fits a Prepare
small_enough : (h : Hop) (account received sent : ℕ) → is_over_limit h account received sent ≡ false → sent < 2 ^ 64
small_enough h account received sent e = let l = (fits_limits h account received sent e).due in omega (arith, l)

sent_forward : (h : Hop) (way : Side) (bytes : List ℕ) (p : PreparePacket) (now : ℤ) (to : NextHop) → IsPrepare p → prepare_in bytes ≡ p → pos 0 ≤ℤ now → int_le p.expiry (now +ℤ hop_time) ≡ false → is_over_limit h (account_from way) p.amount (onward to.rate p).amount ≡ false
    → ArrivalIs h way bytes (sent_on h (account_from way) p (Ok to)).0 (sent_on h (account_from way) p (Ok to)).1
unfolding ArrivalIs
sent_forward h way bytes p now to is same from late under =
    let good = goes_on to.rate p now is from late (small_enough h (account_from way) p.amount (onward to.rate p).amount under) in
    let next = spelled_at (onward to.rate p) good in
    (refl, refl, refl, ap (λ (q : PreparePacket). q.amount) (sym same), ap (λ (q : PreparePacket). q.amount) (sym next), ap (λ (q : PreparePacket). q.payload) next ∙ ap (λ (q : PreparePacket). q.payload) (sym same), (onward to.rate p, good, refl), refl)

routed_is : (h : Hop) (way : Side) (bytes : List ℕ) (p : PreparePacket) (now : ℤ) (o : Option Way) → IsPrepare p → prepare_in bytes ≡ p → pos 0 ≤ℤ now → int_le p.expiry (now +ℤ hop_time) ≡ false → ArrivalIs h way bytes (sent_on h (account_from way) p (routed h (account_from way) p o)).0 (sent_on h (account_from way) p (routed h (account_from way) p o)).1
routed_is h way bytes p now None is same from late = sent_refused h way bytes p _
routed_is h way bytes p now (Some r) is same from late =
    sent_cond h way bytes p (nat_eq r.account (account_from way)) (Err _) _ (sent_refused h way bytes p _)
    (λ apart. sent_cond h way bytes p (is_over_limit h (account_from way) p.amount (onward r.rate p).amount) (Err _) _ (sent_refused h way bytes p _) (λ under. sent_cond h way bytes p (nat_le last_next h.next) (Err _) (Ok (next_hop r)) (sent_refused h way bytes p _) (λ left. sent_forward h way bytes p now (next_hop r) is same from late under)))

judged_sent : (h : Hop) (way : Side) (bytes : List ℕ) (p : PreparePacket) (now : ℤ) → IsPrepare p → prepare_in bytes ≡ p → pos 0 ≤ℤ now → ArrivalIs h way bytes (sent_on h (account_from way) p (judged h (account_from way) p now)).0 (sent_on h (account_from way) p (judged h (account_from way) p now)).1
judged_sent h way bytes p now is same from =
    sent_cond h way bytes p (nat_lt (account_at h (account_from way)).max_packet p.amount) (Err _) _ (sent_refused h way bytes p _)
    (λ small. sent_cond h way bytes p (int_le p.expiry (now +ℤ hop_time)) (Err _) _ (sent_refused h way bytes p _) (λ late. routed_is h way bytes p now (route_to h.routes p.destination) is same from late))

arrival_at : (h : Hop) (way : Side) (bytes : List ℕ) (now : ℤ) (r : Result PreparePacket IlpError) → prepare_at bytes ≡ r → IsSpelled bytes → pos 0 ≤ℤ now
    → let x = at_packet h (account_from way) r now in ArrivalIs h way bytes x.0 x.1
unfolding ArrivalIs
arrival_at h way bytes now (Err e) is spelled from = (reject_text_fails h.own _, refl)
arrival_at h way bytes now (Ok p) is spelled from = let x = spelled_reads bytes p spelled is in judged_sent h way bytes p now x.0 x.1 from

arrival_is : (h : Hop) (way : Side) (bytes : List ℕ) (now : ℤ) → IsSpelled bytes → pos 0 ≤ℤ now → let x = arrived h (account_from way) bytes now in ArrivalIs h way bytes x.0 x.1
arrival_is h way bytes now spelled from = arrival_at h way bytes now (prepare_at bytes) refl spelled from

comes_move : (w : World) (link : ℕ) (way : Side) (which : ℕ) (p : SentPrepare) (i : ℕ) (n : Node) (x : Arrival) (h : Hop) (t : Told) (after : World) (now : ℤ) → (arrived n.state (account_from way) p.bytes now).1 ≡ h → nth (direction_at w link way).prepares which ≡ Some p → far w link way ≡ AtHop i → slice_get w.nodes i ≡ Some n
    → ArrivalIs n.state way p.bytes x h → Comes w link way which p i n x h t after → Move w after
unfolding ArrivalIs
comes_move w link way which p i n (Answers answer) h t after now came is place here x c =
    let P : Hop → Type 0 = λ y. Move w (with_answer (with_hop_entry w i n y (reject_entry (account_from way) p.bytes)) link way (answer_to which answer)) in
    move_at w _ after c.1 (subst P (sym x.1) (refuses link way which p i n answer is place here x.0))
comes_move w link way which p i n (Forwards ticket outgoing bytes) h t after now came is place here x c =
    let P : Hop → Type 0 = λ y. Move w (with_prepare (with_node w i (record { state = y; answered = n.answered })) (next_link link way) way (prepare_of_ticket ticket bytes which)) in
    move_at w _ after c.2 (subst P (sym x.7) (forwards link way which p i n ticket bytes is place here x.0 x.1 (x.2 ∙ c.0) x.3 x.4 x.5 x.6 now (came ∙ x.7)))

-- all that was put is spelled
abbrev pub AllSpelled : World → Type 0
AllSpelled w = (link : ℕ) (way : Side) (j : ℕ) (p : SentPrepare) → slice_get (direction_at w link way).prepares j ≡ Some p → IsSpelled p.bytes

pub nth_spelled : (w : World) (link : ℕ) (way : Side) (k : ℕ) (p : SentPrepare) → AllSpelled w → nth (direction_at w link way).prepares k ≡ Some p → IsSpelled p.bytes
nth_spelled w link way zero p h e = absurd (cc)
nth_spelled w link way (suc k) p h e = h link way k p e

hop_move : (w : World) (link : ℕ) (way : Side) (which : ℕ) (p : SentPrepare) (now : ℤ) (i : ℕ) (o : Option Node) (t : Told) (after : World) → AllSpelled w → pos 0 ≤ℤ now → nth (direction_at w link way).prepares which ≡ Some p → far w link way ≡ AtHop i → slice_get w.nodes i ≡ o
    → ArrivesAtHop w link way which p now i o t after → Move w after
hop_move w link way which p now i None t after all from is place here h = move_at w w after h.1 stays
hop_move w link way which p now i (Some n) t after all from is place here h =
    let x = arrived n.state (account_from way) p.bytes now in
    comes_move w link way which p i n x.0 x.1 t after now refl is place here (arrival_is n.state way p.bytes now (nth_spelled w link way which p all is) from) h

arrives_at : (w : World) (link : ℕ) (way : Side) (which : ℕ) (now : ℤ) (p : SentPrepare) (place : Place) (t : Told) (after : World) → AllSpelled w → pos 0 ≤ℤ now → nth (direction_at w link way).prepares which ≡ Some p → far w link way ≡ place
    → ArrivesAt w link way which now p place t after → Move w after
unfolding AnswersAs
arrives_at w link way which now p (AtEnd a) t after all from is place h = move_at w _ after h.1 (replies link way which p a _ _ _ is place (received_is (end_at w a) p.bytes now))
arrives_at w link way which now p (AtHop i) t after all from is place h = hop_move w link way which p now i (slice_get w.nodes i) t after all from is place refl h

pub arrives_move : (w : World) (link : ℕ) (way : Side) (which : ℕ) (now : ℤ) (o : Option SentPrepare) (t : Told) (after : World) → AllSpelled w → pos 0 ≤ℤ now → nth (direction_at w link way).prepares which ≡ o → Arrives w link way which now o t after → Move w after
arrives_move w link way which now None t after all from is h = move_at w w after h.1 stays
arrives_move w link way which now (Some p) t after all from is h = arrives_at w link way which now p (far w link way) t after all from is refl h

-- an outcome
open_cond : (b : Bool) (x : Option Flight) (p : Flight) → cond b x None ≡ Some p → x ≡ Some p
open_cond true x p e = e
open_cond false x p e = absurd (cc)

back_end : (w : World) (link : ℕ) (way : Side) (j : ℕ) (p : SentPrepare) (o : Option (List ℕ)) (a : Side) (load : Option Flight) (t : Told) (after : World) → Came w link way j p o → near w link way ≡ AtEnd a
    → open_flight (end_at w a) (flight_of p) ≡ load → BackAtEnd w link way j p o a load t after → Move w after
back_end w link way j p o a None t after came place is h = move_at w w after h.1 stays
back_end w link way j p o a (Some load) t after came place is h = move_at w _ after h.1 (lands link way j p o a load came place (open_cond _ (flight_at (end_at w a).sending.flights p.name) load is))

-- how a ticket ends
closes_cond : (h : Hop) (t : Open) (o : Option (List ℕ)) (b : Bool) (x y : Result _ _) → Settles h t o (closed h t o x).0 (closed h t o x).1 → Settles h t o (closed h t o y).0 (closed h t o y).1 → Settles h t o (closed h t o (cond b x y)).0 (closed h t o (cond b x y)).1
closes_cond h t o true x y f g = f
closes_cond h t o false x y f g = g

refused_closes : (h : Hop) (t : Open) (o : Option (List ℕ)) (refusal : _) → Settles h t o (closed h t o (Err refusal)).0 (closed h t o (Err refusal)).1
refused_closes h t o refusal = inl (reject_text_fails h.own refusal, refl)

answer_closes : (h : Hop) (t : Open) (bytes : List ℕ) (now : ℤ) (a : Result AnswerPacket IlpError) → answer_at bytes ≡ a → Settles h t (Some bytes) (closed h t (Some bytes) (closing_of t a now)).0 (closed h t (Some bytes) (closing_of t a now)).1
answer_closes h t bytes now (Err e) is = refused_closes h t (Some bytes) _
answer_closes h t bytes now (Ok (Rejected code by message payload)) is = inl (ap fulfills is, refl)
answer_closes h t bytes now (Ok (Fulfilled f payload)) is =
    closes_cond h t (Some bytes) (not (fits f t.condition)) (Err _) _ (refused_closes h t (Some bytes) _)
    (closes_cond h t (Some bytes) (int_lt now t.expiry) (Ok _) (Err _) (inr (ap fulfills is, refl, refl)) (refused_closes h t (Some bytes) _))

settles_is : (h : Hop) (t : Open) (o : Option (List ℕ)) (now : ℤ) → let r = settled h t o now in Settles h t o r.0 r.1
settles_is h t None now = refused_closes h t None _
settles_is h t (Some bytes) now = answer_closes h t bytes now (answer_at bytes) refl

-- a hop books if it returns a Fulfill
refused_books : (h : Hop) (t : Open) (o : Option (List ℕ)) (refusal : _) → books (Err refusal) ≡ is_fulfill_text (closed h t o (Err refusal)).0
refused_books h t o refusal = sym (reject_text_fails h.own refusal)

books_cond : (h : Hop) (t : Open) (o : Option (List ℕ)) (b : Bool) (x y : Result _ _) → books x ≡ is_fulfill_text (closed h t o x).0 → books y ≡ is_fulfill_text (closed h t o y).0 → books (cond b x y) ≡ is_fulfill_text (closed h t o (cond b x y)).0
books_cond h t o true x y f g = f
books_cond h t o false x y f g = g

answer_books : (h : Hop) (t : Open) (bytes : List ℕ) (now : ℤ) (a : Result AnswerPacket IlpError) → answer_at bytes ≡ a → books (closing_of t a now) ≡ is_fulfill_text (closed h t (Some bytes) (closing_of t a now)).0
answer_books h t bytes now (Err e) is = refused_books h t (Some bytes) _
answer_books h t bytes now (Ok (Rejected code by message payload)) is = sym (ap fulfills is)
answer_books h t bytes now (Ok (Fulfilled f payload)) is =
    books_cond h t (Some bytes) (not (fits f t.condition)) (Err _) _ (refused_books h t (Some bytes) _)
    (books_cond h t (Some bytes) (int_lt now t.expiry) (Ok _) (Err _) (sym (ap fulfills is)) (refused_books h t (Some bytes) _))

booked_is : (h : Hop) (t : Open) (o : Option (List ℕ)) (now : ℤ) → is_booked t o now ≡ is_fulfill_text (settled h t o now).0
booked_is h t None now = refused_books h t None _
booked_is h t (Some bytes) now = answer_books h t bytes now (answer_at bytes) refl

back_ticket : (w : World) (link : ℕ) (way : Side) (j : ℕ) (p : SentPrepare) (o : Option (List ℕ)) (now : ℤ) (i : ℕ) (n : Node) (ticket : Option Open) (t : Told) (after : World) → Came w link way j p o → near w link way ≡ AtHop i → slice_get w.nodes i ≡ Some n
    → ticket_at n.state.tickets p.name ≡ ticket → BackAtTicket w link way j p o now i n ticket t after → Move w after
back_ticket w link way j p o now i n None t after came place here is h = move_at w w after h.1 stays
back_ticket w link way j p o now i n (Some ticket) t after came place here is h =
    let r = settled n.state ticket o now in
    let M : Bool → Type 0 = λ b. Move w (with_answer (taken_if b (with_hop_entry w i n r.1 (settled_entry ticket b)) link way j) (prev_link link way) way (answer_to p.cause r.0)) in
    move_at w _ after h.1 (subst M (sym (booked_is n.state ticket o now)) (settles link way j p o i n ticket r.0 r.1 came place here is (settles_is n.state ticket o now)))

back_hop : (w : World) (link : ℕ) (way : Side) (j : ℕ) (p : SentPrepare) (o : Option (List ℕ)) (now : ℤ) (i : ℕ) (n : Option Node) (t : Told) (after : World) → Came w link way j p o → near w link way ≡ AtHop i → slice_get w.nodes i ≡ n
    → BackAtHop w link way j p o now i n t after → Move w after
back_hop w link way j p o now i None t after came place here h = move_at w w after h.1 stays
back_hop w link way j p o now i (Some n) t after came place here h = back_ticket w link way j p o now i n (ticket_at n.state.tickets p.name) t after came place here refl h

back_at : (w : World) (link : ℕ) (way : Side) (j : ℕ) (now : ℤ) (p : SentPrepare) (o : Option (List ℕ)) (place : Place) (t : Told) (after : World) → Came w link way j p o → near w link way ≡ place
    → BackAt w link way j now p o place t after → Move w after
back_at w link way j now p o (AtEnd a) t after came is h = back_end w link way j p o a _ t after came is refl h
back_at w link way j now p o (AtHop i) t after came is h = back_hop w link way j p o now i (slice_get w.nodes i) t after came is refl h

pub fault_move : (w : World) (link : ℕ) (way : Side) (which : ℕ) (now : ℤ) (p : Option SentPrepare) (t : Told) (after : World) → nth (direction_at w link way).prepares which ≡ p → Back w link way 0 now None p t after → Move w after
fault_move w link way which now None t after is h = move_at w w after h.1 stays
fault_move w link way which now (Some p) t after is h = back_at w link way 0 now p None (near w link way) t after (by_fault 0 which p is) refl h

reply_move : (w : World) (link : ℕ) (way : Side) (j : ℕ) (now : ℤ) (g : SentAnswer) (p : Option SentPrepare) (t : Told) (after : World) → nth (direction_at w link way).given j ≡ Some g → nth (direction_at w link way).prepares g.which ≡ p
    → Back w link way j now (Some g.bytes) p t after → Move w after
reply_move w link way j now g None t after here is h = move_at w w after h.1 stays
reply_move w link way j now g (Some p) t after here is h = back_at w link way j now p (Some g.bytes) (near w link way) t after (by_answer j g p here is) refl h

pub answer_move : (w : World) (link : ℕ) (way : Side) (j : ℕ) (now : ℤ) (g : Option SentAnswer) (t : Told) (after : World) → nth (direction_at w link way).given j ≡ g → AnswerBack w link way j now g t after → Move w after
answer_move w link way j now None t after is h = move_at w w after h.1 stays
answer_move w link way j now (Some g) t after is h = reply_move w link way j now g (nth (direction_at w link way).prepares g.which) t after is refl h
