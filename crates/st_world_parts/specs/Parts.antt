-- What one event does to a part of a chain: to an end or a hop with its record, and to the lists of a link. The last case of
-- each is a call that ran out of memory.
use Rattle.std.specs.Prelude.{◌≡◌, ◌⊎◌, ℕ, zero, suc, ℤ, Bool, true, false, ◌&&◌, List, [], ◌∷◌, ◌++◌, set, get_or, is_ok, if◌then◌else◌, Result, Ok, Err}
use Rattle.std.specs.declared.option.Option.{Option}
use Rattle.std.specs.declared.option.Option.TheVariants.{None, Some}
use Rattle.std.specs.Ordering.{nat_cmp}
use Rattle.std.specs.FinMap as fmap
use Rattle.st_hop.specs.declared.ticket.Open.{Open}
use Rattle.st_hop.specs.Hop.{Hop, restarted}
use Rattle.st_hop.specs.Refusals as hop
use Rattle.st_hop.specs.Tickets.{ticket_at}
use Rattle.st_hop.specs.Arriving.{Answers, Forwards, arrived}
use Rattle.st_hop.specs.Settling.{settled, is_booked}
use Rattle.st_receiver.specs.Reading.{Got}
use Rattle.st_streams.specs.declared.end_error.EndError.{EndError}
use Rattle.st_end.specs.declared.flight.Open as flights
use Rattle.st_end.specs.State.{EndState}
use Rattle.st_end.specs.Calls.{Answer}
use Rattle.st_end.specs.Sending.{Goes, GoesNone, is_open}
use Rattle.st_end.specs.Answers.{ended, pays}
use Rattle.st_end.specs.Receiving.{Received, received, t00_text}
use Rattle.st_world_parts.specs.Sides.{Side, Both, at, put}
use Rattle.st_world_parts.specs.StreamLogs.{StreamLog, ledger_or, got}
use Rattle.st_world_parts.specs.State.{AnsweredAtEnd, AnsweredAtHop, Party, Node, SentPrepare, SentAnswer, Direction, empty_link, account_from, account_to}
use Rattle.st_world_parts.specs.Events.{Told, Silent, Call, Took, Opened, Gave, Sent, Answered, Replied, Went, NoMemory}
use Rattle.st_world_parts.specs.Ends.{prepare_of_flight, end_entry, refused_entry, answer_to, took, flight_of}
use Rattle.st_world_parts.specs.Hops.{reject_entry, prepare_of_ticket, settled_entry}

-- ---- lanes

abbrev pub lane_in : List (Both Direction) → (link : ℕ) → (way : Side) → Direction
lane_in ls link way = at (get_or ls link empty_link) way

abbrev pub with_lane_in : List (Both Direction) → (link : ℕ) → (way : Side) → Direction → List (Both Direction)
with_lane_in ls link way lane = set ls link (put (get_or ls link empty_link) way lane)

-- the j-th answer, from 1, is noted as booked, if it was
abbrev pub taken_in : Bool → List SentAnswer → ℕ → List SentAnswer
taken_in false gs j = gs
taken_in true gs zero = gs
taken_in true gs (suc j) = set gs j (took (get_or gs j (answer_to 0 [])))

-- ---- calls on streams

abbrev pub StreamLogs : Type 0
StreamLogs = fmap.FinMap nat_cmp StreamLog

abbrev pub with_state : Party → EndState → Party
with_state p e = record { state = e; answered = p.answered }

abbrev pub kept_if : Answer → StreamLogs → (stream : ℕ) → StreamLog → StreamLogs
kept_if (Ok done) l k x = fmap.insert l k x
kept_if (Err why) l k x = l

-- r is what the call answers and leaves, x the stream's ledger after it
abbrev pub CallMet : (r : Answer × EndState) → (stream : ℕ) → (x : StreamLog) → Told → (p q : Party) → (l m : StreamLogs) → Type 0
CallMet r k x told p q l m =
    ((told ≡ Call r.0) × (q ≡ with_state p r.1) × (m ≡ kept_if r.0 l k x))
    ⊎ ((told ≡ NoMemory) × (is_ok r.0 ≡ true) × (q ≡ p) × (m ≡ l))

abbrev pub OpenMet : (r : Result ℕ EndError × EndState) → Told → (p q : Party) → Type 0
OpenMet r told p q = ((told ≡ Opened r.0) × (q ≡ with_state p r.1)) ⊎ ((told ≡ NoMemory) × (is_ok r.0 ≡ true) × (q ≡ p))

abbrev pub RaiseMet : (r : Answer × EndState) → Told → (p q : Party) → Type 0
RaiseMet r told p q = (told ≡ Call r.0) × (q ≡ with_state p r.1)

abbrev pub read_if : Result Got EndError → StreamLogs → (stream : ℕ) → StreamLogs
read_if (Err why) l k = l
read_if (Ok g) l k = fmap.insert l k (got g (ledger_or (fmap.get l k)))

abbrev pub ReadMet : (r : Result Got EndError × EndState) → (stream : ℕ) → Told → (p q : Party) → (l m : StreamLogs) → Type 0
ReadMet r k told p q l m =
    ((told ≡ Gave r.0) × (q ≡ with_state p r.1) × (m ≡ read_if r.0 l k))
    ⊎ ((told ≡ NoMemory) × (is_ok r.0 ≡ true) × (q ≡ p) × (m ≡ l))

-- ---- an end sends, answers, and takes an outcome

abbrev pub with_put_in : Direction → SentPrepare → Direction
with_put_in x p = record { prepares = x.prepares ++ p ∷ []; given = x.given }

abbrev pub with_given_in : Direction → SentAnswer → Direction
with_given_in x g = record { prepares = x.prepares; given = x.given ++ g ∷ [] }

abbrev pub with_taken_in : Bool → Direction → ℕ → Direction
with_taken_in b x j = record { prepares = x.prepares; given = taken_in b x.given j }

abbrev pub EndSends : (iv : List ℕ) → (now : ℤ) → Told → (p q : Party) → (x y : Direction) → Type 0
EndSends iv now told p q x y =
    (GoesNone p.state × (told ≡ Silent) × (q ≡ p) × (y ≡ x))
    ⊎ (((flight : flights.Open) × (bytes : List ℕ) × (e : EndState) × Goes p.state iv now flight bytes e × (told ≡ Sent) × (q ≡ with_state p e)
    × (y ≡ with_put_in x (prepare_of_flight flight bytes)))
    ⊎ ((told ≡ NoMemory) × (q ≡ p) × (y ≡ x)))

abbrev pub with_answered : Party → EndState → AnsweredAtEnd → Party
with_answered p e x = record { state = e; answered = p.answered ++ x ∷ [] }

abbrev pub EndMet : (which : ℕ) → (bytes : List ℕ) → (now : ℤ) → Told → (p q : Party) → (x y : Direction) → Type 0
EndMet which bytes now told p q x y =
    (let r = received p.state bytes now in (told ≡ Answered r.0.reason r.0.amount r.0.sequence) × (q ≡ with_answered p r.1 (end_entry r.0))
    × (y ≡ with_given_in x (answer_to which r.0.bytes)))
    ⊎ ((told ≡ NoMemory) × (q ≡ with_answered p p.state (refused_entry bytes None)) × (y ≡ with_given_in x (answer_to which (t00_text p.state.own))))

-- a flight that is spent, or that this end has not, changes nothing
abbrev pub EndBack : SentPrepare → ℕ → (outcome : Option (List ℕ)) → Told → (p q : Party) → (x y : Direction) → Type 0
EndBack z j outcome told p q x y =
    let live = is_open p.state (flight_of z) in
    (told ≡ (if live then Took (pays (flight_of z) outcome) else Silent))
    × (q ≡ with_state p (ended p.state (flight_of z) outcome))
    × (y ≡ with_taken_in (live && pays (flight_of z) outcome) x j)

-- ---- a hop: it forwards a Prepare on the next lane, or answers it on the lane on which it arrived

abbrev pub with_settled : Node → Hop → AnsweredAtHop → Node
with_settled n h x = record { state = h; answered = n.answered ++ x ∷ [] }

abbrev pub HopMet : (way : Side) → (which : ℕ) → (bytes : List ℕ) → (now : ℤ) → Told → (n m : Node) → (next next' back back' : Direction) → Type 0
HopMet way which bytes now told n m next next' back back' =
    ((reply : List ℕ) × (h : Hop) × (arrived n.state (account_from way) bytes now ≡ (Answers reply, h))
    × (told ≡ Replied) × (m ≡ with_settled n h (reject_entry (account_from way) bytes)) × (next' ≡ next) × (back' ≡ with_given_in back (answer_to which reply)))
    ⊎ (((t : Open) × (outgoing : ℕ) × (text : List ℕ) × (h : Hop) × (arrived n.state (account_from way) bytes now ≡ (Forwards t outgoing text, h))
    × (outgoing ≡ account_to way)
    × (told ≡ Went) × (m ≡ record { state = h; answered = n.answered }) × (next' ≡ with_put_in next (prepare_of_ticket t text which)) × (back' ≡ back))
    ⊎ ((told ≡ NoMemory) × (m ≡ with_settled n n.state (reject_entry (account_from way) bytes)) × (next' ≡ next)
    × (back' ≡ with_given_in back (answer_to which (hop.t00_text n.state.own)))))

-- a ticket that is spent changes nothing
abbrev pub HopBack : SentPrepare → ℕ → (outcome : Option (List ℕ)) → (now : ℤ) → Told → (n m : Node) → (from from' back back' : Direction) → Type 0
HopBack z j outcome now told n m from from' back back' =
    ((ticket_at n.state.tickets z.name ≡ None) × (told ≡ Silent) × (m ≡ n) × (from' ≡ from) × (back' ≡ back))
    ⊎ ((t : Open) × (ticket_at n.state.tickets z.name ≡ Some t)
    × (told ≡ Replied) × (m ≡ with_settled n (settled n.state t outcome now).1 (settled_entry t (is_booked t outcome now)))
    × (from' ≡ with_taken_in (is_booked t outcome now) from j)
    × (back' ≡ with_given_in back (answer_to z.cause (settled n.state t outcome now).0)))

-- a hop that crashes restarts with its books
abbrev pub HopCrashed : (n m : Node) → Type 0
HopCrashed n m = m ≡ record { state = restarted n.state n.state.next; answered = n.answered }

-- ---- a call with the place of the stream's ledger

abbrev pub slot_if : Answer → Option StreamLog → StreamLog → Option StreamLog
slot_if (Ok done) o x = Some x
slot_if (Err why) o x = o

abbrev pub SlotMet : (r : Answer × EndState) → (x : StreamLog) → Told → (e f : EndState) → (o u : Option StreamLog) → Type 0
SlotMet r x told e f o u =
    ((told ≡ Call r.0) × (f ≡ r.1) × (u ≡ slot_if r.0 o x))
    ⊎ ((told ≡ NoMemory) × (is_ok r.0 ≡ true) × (f ≡ e) × (u ≡ o))

abbrev pub slot_read : Result Got EndError → Option StreamLog → Option StreamLog
slot_read (Err why) o = o
slot_read (Ok g) o = Some (got g (ledger_or o))

abbrev pub SlotRead : (r : Result Got EndError × EndState) → Told → (e f : EndState) → (o u : Option StreamLog) → Type 0
SlotRead r told e f o u =
    ((told ≡ Gave r.0) × (f ≡ r.1) × (u ≡ slot_read r.0 o))
    ⊎ ((told ≡ NoMemory) × (is_ok r.0 ≡ true) × (f ≡ e) × (u ≡ o))
