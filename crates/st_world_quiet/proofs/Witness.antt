-- A lossless run of one round: the client opens its first stream and closes it, and the Prepare with that close crosses all
-- hops.
use Rattle.std.proofs.Common.{◌≡◌, ℕ, zero, suc, ◌+◌, ◌-◌, ◌*◌, ◌/◌, ◌^◌, ◌<◌, ◌≤◌, Bool, true, false, cond, List, [], ◌∷◌, ◌++◌, length, map, max, replicate, slice_get, is_some, refl, sym, ap, subst, ◌∙◌, arith, ℤ, Option, None, Some, Ok, Err, ◌⊎◌, inl, inr, nat_le}
use Rattle.std.specs.Prelude.{pos}
use Rattle.std.specs.List.{AllByRecursion, Contains, list_any}
use Rattle.std.proofs.Math.Nat.{div-eq_of_lt}
use Rattle.std.proofs.lemmas.Bool.{le-ltb}
use Rattle.std.proofs.lemmas.Bool.Decides.{nat_tests}
use Rattle.std.proofs.lemmas.Int.{ints}
use Rattle.std.proofs.lemmas.List.Sums.{sum_by-cons}
use Rattle.std.proofs.lemmas.Str.{IsUtf8-from_ascii, is_utf8-from_IsUtf8}
use Rattle.st_oer.specs.Address.{is_address}
use Rattle.st_ilp.specs.Moments.{IsMoment}
use Rattle.st_ilp.specs.Spelling.{prepare_kind, prepare_text}
use Rattle.st_ilp.specs.Laws.{IsPrepare}
use Rattle.st_frames.specs.Frames.{Known, CloseFrame, StreamClose, StreamData, max_packet}
use Rattle.st_frames.specs.Table.{row_of}
use Rattle.st_frames.specs.Told.{shares_of}
use Rattle.st_frames.specs.Written.{KnownFits, packet_text, written}
use Rattle.st_frames.specs.declared.error.FrameError.TheVariants.{TooLong}
use Rattle.st_frames.proofs.Puts.{length-packet_text}
use Rattle.st_keys.specs.Keys.{fulfillment, keys_of}
use Rattle.st_keys.specs.Sealed.{sealed, sealed_packet, sealed_text}
use Rattle.st_keys.proofs.Lengths.{condition_is, packet_length}
use Rattle.st_hop.specs.declared.ticket.Open.{Open}
use Rattle.st_hop.specs.Hop.{Hop}
use Rattle.st_hop.specs.Tickets.{ticket_at}
use Rattle.st_hop.specs.Arriving.{Answers, Arrival, Forwards, arrived}
use Rattle.st_hop.proofs.Crossings.{arrived_crosses}
use Rattle.st_sender.specs.Sending.{Flight, Load, Outgoing, Sending, outgoing_at}
use Rattle.st_sender.specs.Due.{IsDueClose, IsAbort, IsCleanClose}
use Rattle.st_sender.specs.Flights.{is_close}
use Rattle.st_sender.specs.Prompt.{IsPrompt, is_blocked}
use Rattle.st_sender.specs.Unmarked.{NoneStands}
use Rattle.st_sender.proofs.Unmarked.{no_limit_due}
use Rattle.st_world_quiet.proofs.Lowering.{no_slot}
use Rattle.st_sender.specs.Loads.{Sends, load_with, with_flight}
use Rattle.st_sender.specs.Filling.{Fills}
use Rattle.st_receiver.specs.Limits.{limits}
use Rattle.st_end.specs.declared.flight.Open as flights
use Rattle.st_end.specs.declared.role.Role.TheVariants as roles
use Rattle.st_end.specs.State.{EndState, new_end}
use Rattle.st_end.specs.Calls.{open_stream}
use Rattle.st_end.specs.Sending.{Goes, flight_for, open_flight, prepare_for, with_condition}
use Rattle.st_world_parts.specs.Sides.{Client, Server, Side}
use Rattle.st_world_parts.specs.State.{AtEnd, AtHop, SentAnswer, Node, Place, SentPrepare, World, end_at, far, first_link, direction_at, log_at, near, nth, with_end, with_prepare}
use Rattle.st_world_parts.specs.StreamLogs.{StreamLog}
use Rattle.st_world_parts.specs.Events.{Abort, AnswerArrives, Arrive, Close, Crash, Event, Fault, IsEvent, Offer, OpenStream, Opened, Read, ReceiveMax, Refused, Send, Sent, Told, Write}
use Rattle.st_world_parts.specs.Ends.{BackAtEnd, flight_of, prepare_of_flight}
use Rattle.st_world_parts.specs.Hops.{ArrivesAtHop, BackAtHop, BackAtTicket, Comes}
use Rattle.st_world.specs.Steps.{AnswerBack, Arrives, ArrivesAt, Back, BackAt, Step}
use Rattle.st_world.specs.Runs.{Chain, is_chain, new_node, opening}
use Rattle.st_world_quiet.specs.Left.{all_frames_left, all_money_left, work_left}
use Rattle.st_world_quiet.specs.Quiet.{IsQuiet}
use Rattle.st_world_quiet.specs.Calls.{allow_each, begin_each, lengths}
use Rattle.st_world_quiet.proofs.Beginning.{IsBegun, calls_begun}
use Rattle.st_world_quiet.proofs.Closing.{close_goes}
use Rattle.st_world_quiet.proofs.SameEnds.{begin_same}
use Rattle.st_world_quiet.specs.Worlds.{HasPassed, IsAtRest, Met, going_over, passing, state_of}
use Rattle.st_world_quiet.specs.HopRounds.{Begins, BeginsEach, MayRun, QuietRun, Round, Writes, allows, close_if, opening_client, reads, writes}
use Rattle.st_world_quiet.specs.Plays.{MayPlay, all_frames, input_of, money_of, sends_needed}
use Rattle.st_world_quiet.proofs.HopRounds.{IsReachedBy, reached_first, reached_lawful, reached_met}
use Rattle.st_world_quiet.proofs.HopRuns.{opening_stands}
use Rattle.st_world_quiet.proofs.Opened.{OpenTo, place_of}
use Rattle.st_world_quiet.proofs.WorldRuns.{begun_rests, nothing_open, run_crosses, run_sharper}
use Rattle.st_world_quiet.proofs.Begun.{all_frames_most, opens_all, opens_here}
use Rattle.st_world_quiet.proofs.Plays.{may_run, needed_most, offered_is}

-- ---- what may happen: calls at an end, and a packet that arrives over a link on the way to the server or back

abbrev Follows : World → Event → Type 0
Follows w event = (told : Told) × (v : World) × Step w event told v

abbrev MayCome : Event → Type 0
MayCome (Arrive link way which now) = (way ≡ Client) × IsMoment now
MayCome (AnswerArrives link way which now) = (way ≡ Client) × IsMoment now
MayCome (Write side k xs) = Unit {0}
MayCome (Read side k limit) = Unit {0}
MayCome (Close side k) = Unit {0}
MayCome (Offer side k amount) = Unit {0}
MayCome (ReceiveMax side k amount) = Unit {0}
MayCome event = ⊥

read_may : (w : World) (side : Side) (k limit : ℕ) → Follows w (Read side k limit)
read_may w side k zero = (_, _, (refl, refl))
read_may w side k (suc n) = (_, _, (refl, refl))

-- ---- a Prepare that comes

across : (c : Chain) (w : World) (i : ℕ) (n : Node) (bytes : List ℕ) (now : ℤ) → is_chain c ≡ true → IsReachedBy c w → slice_get w.nodes i ≡ Some n → (t : Open) (outgoing : ℕ) (text : List ℕ) → (arrived n.state 0 bytes now).0 ≡ Forwards t outgoing text → outgoing ≡ 1
across c w i n bytes now lawful r here t outgoing text e =
    let fine = reached_lawful c w lawful r i n here in
    let x = arrived_crosses n.state 0 bytes now fine.0 t outgoing text e in
    let two = fine.1 in
    let low = x.0 in
    let apart = x.1 in
    omega (arith, two, low, apart)

comes_may : (w : World) (link which : ℕ) (p : SentPrepare) (i : ℕ) (n : Node) (a : Arrival) (h : Hop) → ((t : Open) (outgoing : ℕ) (text : List ℕ) → a ≡ Forwards t outgoing text → outgoing ≡ 1) → (told : Told) × (v : World) × Comes w link Client which p i n a h told v
comes_may w link which p i n (Answers bytes) h one = (_, _, (refl, refl))
comes_may w link which p i n (Forwards t outgoing bytes) h one = (_, _, (one t outgoing bytes refl, refl, refl))

module _ (c : Chain) (w : World) (lawful : is_chain c ≡ true) (r : IsReachedBy c w) (link which : ℕ) (now : ℤ) where
  hop_may : (p : SentPrepare) (i : ℕ) (o : Option Node) → slice_get w.nodes i ≡ o → (told : Told) × (v : World) × ArrivesAtHop w link Client which p now i o told v
  hop_may p i None here = (_, _, (refl, refl))
  hop_may p i (Some n) here = let a = arrived n.state 0 p.bytes now in comes_may w link which p i n a.0 a.1 (across c w i n p.bytes now lawful r here)

  place_may : (p : SentPrepare) (place : Place) → (told : Told) × (v : World) × ArrivesAt w link Client which now p place told v
  place_may p (AtEnd side) = (_, _, (refl, refl))
  place_may p (AtHop i) = hop_may p i (slice_get w.nodes i) refl

  put_may : (o : Option SentPrepare) → (told : Told) × (v : World) × Arrives w link Client which now o told v
  put_may None = (_, _, (refl, refl))
  put_may (Some p) = place_may p (far w link Client)

-- ---- an answer that comes

module _ (w : World) (link j : ℕ) (now : ℤ) where
  ended_may : (p : SentPrepare) (outcome : Option (List ℕ)) (side : Side) (o : Option Flight) → (told : Told) × (v : World) × BackAtEnd w link Client j p outcome side o told v
  ended_may p outcome side None = (_, _, (refl, refl))
  ended_may p outcome side (Some flown) = (_, _, (refl, refl))

  ticket_may : (p : SentPrepare) (outcome : Option (List ℕ)) (i : ℕ) (n : Node) (o : Option Open) → (told : Told) × (v : World) × BackAtTicket w link Client j p outcome now i n o told v
  ticket_may p outcome i n None = (_, _, (refl, refl))
  ticket_may p outcome i n (Some t) = (_, _, (refl, refl))

  node_may : (p : SentPrepare) (outcome : Option (List ℕ)) (i : ℕ) (o : Option Node) → (told : Told) × (v : World) × BackAtHop w link Client j p outcome now i o told v
  node_may p outcome i None = (_, _, (refl, refl))
  node_may p outcome i (Some n) = ticket_may p outcome i n (ticket_at n.state.tickets p.name)

  back_may : (p : SentPrepare) (outcome : Option (List ℕ)) (place : Place) → (told : Told) × (v : World) × BackAt w link Client j now p outcome place told v
  back_may p outcome (AtEnd side) = ended_may p outcome side (open_flight (end_at w side) (flight_of p))
  back_may p outcome (AtHop i) = node_may p outcome i (slice_get w.nodes i)

  outcome_may : (outcome : Option (List ℕ)) (o : Option SentPrepare) → (told : Told) × (v : World) × Back w link Client j now outcome o told v
  outcome_may outcome None = (_, _, (refl, refl))
  outcome_may outcome (Some p) = back_may p outcome (near w link Client)

  given_may : (o : Option SentAnswer) → (told : Told) × (v : World) × AnswerBack w link Client j now o told v
  given_may None = (_, _, (refl, refl))
  given_may (Some g) = outcome_may (Some g.bytes) (nth (direction_at w link Client).prepares g.which)

-- ---- any of these, and a list of them

event_may : (c : Chain) (w : World) → is_chain c ≡ true → IsReachedBy c w → (event : Event) → MayCome event → Follows w event
event_may c w lawful r (Arrive link Client which now) may = put_may c w lawful r link which now (nth (direction_at w link Client).prepares which)
event_may c w lawful r (Arrive link Server which now) may = absurd (let clash : ◌≡◌ {A = Side} Server Client = may.0 in cc)
event_may c w lawful r (AnswerArrives link Client which now) may = given_may w link which now (nth (direction_at w link Client).given which)
event_may c w lawful r (AnswerArrives link Server which now) may = absurd (let clash : ◌≡◌ {A = Side} Server Client = may.0 in cc)
event_may c w lawful r (Write side k xs) may = (_, _, (refl, refl))
event_may c w lawful r (Read side k limit) may = read_may w side k limit
event_may c w lawful r (Close side k) may = (_, _, (refl, refl))
event_may c w lawful r (Offer side k amount) may = (_, _, (refl, refl))
event_may c w lawful r (ReceiveMax side k amount) may = (_, _, (refl, refl))
event_may c w lawful r (OpenStream side) may = absurd may
event_may c w lawful r (Abort side k code) may = absurd may
event_may c w lawful r (Send side iv now) may = absurd may
event_may c w lawful r (Fault link way which now) may = absurd may
event_may c w lawful r (Crash hop) may = absurd may
event_may c w lawful r Refused may = absurd may

event_is : (event : Event) → MayCome event → IsEvent event
event_is (Arrive link way which now) may = may.1
event_is (AnswerArrives link way which now) may = may.1
event_is (Write side k xs) may = tt
event_is (Read side k limit) may = tt
event_is (Close side k) may = tt
event_is (Offer side k amount) may = tt
event_is (ReceiveMax side k amount) may = tt
event_is (OpenStream side) may = tt
event_is (Abort side k code) may = tt
event_is (Send side iv now) may = absurd may
event_is (Fault link way which now) may = absurd may
event_is (Crash hop) may = tt
event_is Refused may = tt

events_may : (c : Chain) (events : List Event) (w : World) → is_chain c ≡ true → IsReachedBy c w → AllByRecursion MayCome events → (v : World) × Met w events v
events_may c [] w lawful r all = (w, refl)
events_may c (event ∷ events) w lawful r all =
    let one = event_may c w lawful r event all.0 in
    let is = event_is event all.0 in
    let rest = events_may c events one.1 lawful (reached_met c (event ∷ []) w one.1 r (one.1, one.0, is, one.2, refl)) all.1 in
    (rest.0, (one.1, one.0, is, one.2, rest.1))

all_append : (xs ys : List Event) → AllByRecursion MayCome xs → AllByRecursion MayCome ys → AllByRecursion MayCome (xs ++ ys)
all_append [] ys a b = b
all_append (x ∷ xs) ys a b = (a.0, all_append xs ys a.1 b)

over_may : (link hops which : ℕ) (now : ℤ) → IsMoment now → AllByRecursion MayCome (going_over link hops which now)
unfolding going_over
over_may link zero which now at = ((refl, at), tt)
over_may link (suc more) which now at = ((refl, at), all_append (going_over (suc link) more which now) (AnswerArrives (suc link) Client which now ∷ []) (over_may (suc link) more which now at) ((refl, at), tt))

reads_may : (limit first count : ℕ) → AllByRecursion MayCome (reads limit first count)
unfolding reads
reads_may limit first zero = tt
reads_may limit first (suc m) = (tt, reads_may limit (first + 1) m)

allows_may : (money : ℕ → ℕ) (first count : ℕ) → AllByRecursion MayCome (allows money first count)
unfolding allows
allows_may money first zero = tt
allows_may money first (suc m) = (tt, allows_may money (first + 1) m)

close_may : (b : Bool) (k : ℕ) → AllByRecursion MayCome (close_if b k)
close_may true k = (tt, tt)
close_may false k = tt

write_may : (xs : List ℕ) (k : ℕ) (l : StreamLog) → AllByRecursion MayCome (writes xs k l)
write_may xs k l = (tt, close_may _ k)

writes_may : (c : Chain) (input : ℕ → List ℕ) (first count : ℕ) (w : World) → is_chain c ≡ true → IsReachedBy c w → (v : World) × Writes input first count w v
writes_may c input first zero w lawful r = (w, refl)
writes_may c input first (suc m) w lawful r =
    let events = writes (input first) first (log_at w Client first) in
    let one = events_may c events w lawful r (write_may (input first) first (log_at w Client first)) in
    let rest = writes_may c input (first + 1) m one.0 lawful (reached_met c events w one.0 r one.1) in
    (rest.0, (one.0, one.1, rest.1))

-- ---- a close is sent by itself, if nothing else is left

module _ (n : ℕ → ℕ) (e : EndState) (k : ℕ) (x : Outgoing) (quiet : IsQuiet n e.sending) (bare : all_frames_left n e.sending ≡ 0) (poor : all_money_left e.sending ≡ 0) (open_is : outgoing_at e.sending k ≡ Some x) (unsettled : x.clean_settled ≡ false) (small : k < 2 ^ 64) (first : e.sending.last ≡ 0)
    (unclosed : e.receiving.closed ≡ false) (address : is_address e.peer ≡ true) (only : (j by : ℕ) → IsDueClose e.sending j by → (j ≡ k) × (by ≡ 1)) where
  abbrev iv : List ℕ
  iv = replicate 12 0

  abbrev load : Load
  load = load_with e.sending ((CloseFrame (StreamClose k 1 [])) ∷ [])

  abbrev text : List ℕ
  text = packet_text prepare_kind load.sequence load.least load.frames

  abbrev payload : List ℕ
  payload = sealed e.keys iv text

  both : Sends e.sending (limits e.receiving) max_packet load (with_flight e.sending load) × Fills e.sending (limits e.receiving) max_packet load
  both = close_goes n e.sending (limits e.receiving) k x quiet bare poor open_is unsettled

  short : length text ≤ max_packet
  short = let long = length-packet_text prepare_kind load.sequence load.least load.frames in let room = both.0.fits.room_left in omega (arith, long, room)

  is_sealed : sealed_packet e.keys iv prepare_kind load.sequence load.least load.frames ≡ Ok payload
  unfolding sealed_packet written
  is_sealed = ap (λ b. sealed_text e.keys iv (cond b (Err TooLong) (Ok text))) (le-ltb max_packet (length text) short)

  frame_fits : KnownFits (CloseFrame (StreamClose k 1 []))
  unfolding KnownFits row_of
  frame_fits = (small, (omega arith, (is_utf8-from_IsUtf8 [] (IsUtf8-from_ascii [] (λ i. omega arith)), tt)))

  prepare_is : IsPrepare (prepare_for e (pos 0) load.amount payload)
  prepare_is = record {
    amount = (let none = sum_by-cons shares_of (CloseFrame (StreamClose k 1 [])) [] in omega (arith, none));
    expiry = refl;
    condition = (condition_is (fulfillment e.keys payload)).count;
    destination = address;
    payload = (let long = packet_length e.keys iv payload prepare_kind load.sequence load.least load.frames refl is_sealed in few (length payload) long);
  }
    where
      few : (m : ℕ) → m ≤ 32767 → nat_le m 32767 ≡ true
      few m l = grind (arith, nat_tests)

  -- no other close is due, and no limit
  unmarked : NoneStands e.sending.marks
  unmarked = subst NoneStands (sym quiet.unmarked) (refl, no_slot, no_slot)

  prompts : IsPrompt e.sending (limits e.receiving) load
  prompts = record {
    closes = λ j by due. (let w = only j by due in own j by w.0 w.1);
    limits = λ f is_own due. absurd (no_limit_due e.sending unmarked (limits e.receiving) f is_own due);
    alone = λ f has blocked. absurd (still f has blocked);
  }
    where
      own : (j by : ℕ) → j ≡ k → by ≡ 1 → list_any (is_close j by) load.frames ≡ true
      own j by same one = grind (arith, nat_tests)

      still : (f : Known) → Contains load.frames f → is_blocked f ≡ true → ⊥
      still f (zero, h, e) blocked = (let none = ap is_blocked e in cc)
      still f (suc i, h, e) blocked = omega (arith, h)

  -- it has no data, so no byte could go
  no_data : (j o : ℕ) (ys : List ℕ) → Contains load.frames (StreamData j o ys) → ⊥
  no_data j o ys (zero, h, e) = absurd (cc)
  no_data j o ys (suc i, h, e) = absurd (omega (arith, h))

  close_goes_out : (flight : flights.Open) × (bytes : List ℕ) × (gone : EndState) × Goes e (replicate 12 0) (pos 0) flight bytes gone
  close_goes_out = (
    flight_for e load payload,
    prepare_text (prepare_for e (pos 0) load.amount payload),
    with_condition e (flight_for e load payload) (with_flight e.sending load),
    record {
      load = load;
      payload = payload;
      sending = with_flight e.sending load;
      unclosed = unclosed;
      sends = both.0;
      filled = record { prompt = prompts; whole = λ all. both.1; turns = record { order = tt; passed = λ m k o among before can. absurd (cc) }; round = inl (λ m o can. absurd (let w = both.1.bytes m o can in no_data w.0 w.1 w.2 w.3)) };
      spells = record { sequence = omega (arith, first); least = omega arith; frames = (frame_fits, tt) };
      sealed = is_sealed;
      lawful = prepare_is;
      flight_is = refl;
      bytes_are = refl;
      after_is = refl;
    },
  )

-- ---- the run

client_stays : (money : ℕ → ℕ) (first count : ℕ) (w v : World) → Met w (allows money first count) v → end_at v Client ≡ end_at w Client
unfolding allows
client_stays money first zero w v run = ap (λ z. end_at z Client) run
client_stays money first (suc m) w v run = client_stays money (first + 1) m run.0 v run.4 ∙ ap (λ z. end_at z Client) run.3.1

some_there : (o : Option Outgoing) → is_some o ≡ true → (x : Outgoing) × (o ≡ Some x)
some_there None e = absurd (cc)
some_there (Some x) e = (x, refl)

at_start : IsMoment (pos 0)
at_start = (omega (arith, ints), omega (arith, ints))

module _ (c : Chain) (limit : ℕ) (lawful : is_chain c ≡ true) (address : is_address c.server ≡ true) (may : MayPlay c ([] ∷ []) (0 ∷ [])) (room : 32739 ≤ limit) where
  abbrev input : ℕ → List ℕ
  input = input_of ([] ∷ [])

  abbrev money : ℕ → ℕ
  money = money_of (0 ∷ [])

  abbrev new : EndState
  new = new_end roles.Client (keys_of c.secret) c.client c.server c.config

  abbrev client : EndState
  client = opening_client c input money 1

  goes_on : MayRun c input money 1 limit
  goes_on = may_run c ([] ∷ []) (0 ∷ []) refl may limit room

  -- the opening
  allowed : (v : World) × Met (opening c) (allows money 0 65) v
  allowed = events_may c (allows money 0 65) (opening c) lawful (reached_first c) (allows_may money 0 65)

  allowed_reached : IsReachedBy c allowed.0
  allowed_reached = reached_met c (allows money 0 65) (opening c) allowed.0 (reached_first c) allowed.1

  new_begun : IsBegun 1 (lengths input) money c.config new
  unfolding begin_each
  new_begun = calls_begun roles.Client (keys_of c.secret) c.client c.server c.config input money 0 goes_on.input_fits goes_on.money_fits

  number : (open_stream (end_at allowed.0 Client)).0 ≡ Ok 1
  number = ap (λ z. (open_stream z).0) (client_stays money 0 65 (opening c) allowed.0 allowed.1) ∙ opens_here c.config input money 0 new (omega arith) new_begun (nothing_open c.config (keys_of c.secret) c.client c.server)

  abbrev opened : World
  opened = with_end allowed.0 Client (open_stream (end_at allowed.0 Client)).1

  opens : Step allowed.0 (OpenStream Client) (Opened (Ok 1)) opened
  opens = (ap Opened (sym number), refl)

  opened_reached : IsReachedBy c opened
  opened_reached = reached_met c (OpenStream Client ∷ []) allowed.0 opened allowed_reached (opened, Opened (Ok 1), tt, opens, refl)

  offered : (v : World) × Met opened (Offer Client 1 (money 1) ∷ []) v
  offered = events_may c (Offer Client 1 (money 1) ∷ []) opened lawful opened_reached (tt, tt)

  offered_reached : IsReachedBy c offered.0
  offered_reached = reached_met c (Offer Client 1 (money 1) ∷ []) opened offered.0 opened_reached offered.1

  begun : (v : World) × Met offered.0 (writes (input 1) 1 (log_at offered.0 Client 1)) v
  begun = events_may c (writes (input 1) 1 (log_at offered.0 Client 1)) offered.0 lawful offered_reached (write_may (input 1) 1 (log_at offered.0 Client 1))

  begins : Begins input money allowed.0 begun.0
  begins = record { stream = 1; opened = opened; offered = offered.0; opens = opens; offers = offered.1; writes_first = begun.1 }

  begins_one : BeginsEach input money 1 allowed.0 begun.0
  begins_one = (begun.0, begins, refl)

  rests : IsAtRest begun.0 client (map state_of (map new_node c.hops)) (allow_each money 0 65 (new_end roles.Server (keys_of c.secret) c.server c.client c.config)) 0 × IsReachedBy c begun.0 × OpenTo (0 + 1) client
  rests = begun_rests c input money 1 allowed.0 begun.0 goes_on.may_send goes_on.input_fits goes_on.money_fits allowed.1 begins_one

  -- the client then
  client_begun : IsBegun 1 (lengths input) money c.config client
  client_begun = calls_begun roles.Client (keys_of c.secret) c.client c.server c.config input money 1 goes_on.input_fits goes_on.money_fits

  client_opened : OpenTo 1 client
  client_opened = opens_all (keys_of c.secret) c.client c.server c.config input money 1 (omega arith) goes_on.input_fits goes_on.money_fits

  quiet : IsQuiet (lengths input) client.sending
  quiet = (opening_stands roles.Client (keys_of c.secret) c.client c.server c.config c.config input money 1 goes_on.may_send goes_on.input_fits goes_on.money_fits).0.quiet

  bare : all_frames_left (lengths input) client.sending ≡ 0
  bare = let most = all_frames_most ([] ∷ []) (0 ∷ []) c.config client (omega arith) refl client_begun client_opened in omega (arith, most)

  poor : all_money_left client.sending ≡ 0
  poor = offered_is c ([] ∷ []) (0 ∷ []) refl may

  stream : (x : Outgoing) × (outgoing_at client.sending 1 ≡ Some x)
  stream = some_there (outgoing_at client.sending 1) (client_opened.opened 0 (omega arith))

  unsettled : stream.0.clean_settled ≡ false
  unsettled = ap (λ (z : Outgoing). z.clean_settled) (client_begun.streams 1 stream.0 stream.1).is

  only : (j by : ℕ) → IsDueClose client.sending j by → (j ≡ 1) × (by ≡ 1)
  only j by due =
      let own = client_begun.own j due.stream due.is_open in
      let alive = ap (λ (z : Outgoing). z.abort) (client_begun.streams j due.stream due.is_open).is in
      (alone own.0 own.1 own.2, clean due.asked alive)
    where
      alone : (i : ℕ) → i < 32 → j ≡ 2 * i + (2 - 1) → j ≡ 1
      alone zero few is = is
      alone (suc i) few is = absurd (let none = client_opened.left (suc i) (omega arith) few in
          let here : outgoing_at client.sending (place_of (suc i)) ≡ Some due.stream = ap (outgoing_at client.sending) (sym is) ∙ due.is_open in
          let some = ap is_some here in cc)

      clean : IsAbort due.stream by ⊎ IsCleanClose due.stream by → due.stream.abort ≡ None → by ≡ 1
      clean (inl a) none = absurd (let some = a.asked in cc)
      clean (inr a) none = a.code_is

  peer_is : is_address client.peer ≡ true
  peer_is = ap is_address (begin_same input money 1 new).peer ∙ address

  first : client.sending.last ≡ 0
  first = ap (λ (z : Sending). z.last) client_begun.rest

  went : (flight : flights.Open) × (bytes : List ℕ) × (gone : EndState) × Goes client (replicate 12 0) (pos 0) flight bytes gone
  went = close_goes_out (lengths input) client 1 stream.0 quiet bare poor stream.1 unsettled (omega arith) first client_begun.unclosed peer_is only

  -- its round
  abbrev sent : World
  sent = with_prepare (with_end begun.0 Client went.2) (first_link begun.0 Client) Client (prepare_of_flight went.0 went.1)

  sends : Step begun.0 (Send Client (replicate 12 0) (pos 0)) Sent sent
  sends = inr (went.0, went.1, went.2, subst (λ (z : EndState). Goes z (replicate 12 0) (pos 0) went.0 went.1 went.2) (sym rests.0.client) went.3, refl, refl)

  sent_reached : IsReachedBy c sent
  sent_reached = reached_met c (Send Client (replicate 12 0) (pos 0) ∷ []) begun.0 sent rests.1 (sent, Sent, (refl, at_start), sends, refl)

  passed : (v : World) × Met sent (passing (length c.hops) 1 (pos 0)) v
  passed = events_may c (passing (length c.hops) 1 (pos 0)) sent lawful sent_reached (all_append (going_over 0 (length c.hops) 1 (pos 0)) (AnswerArrives 0 Client 1 (pos 0) ∷ []) (over_may 0 (length c.hops) 1 (pos 0) at_start) ((refl, at_start), tt))

  passed_reached : IsReachedBy c passed.0
  passed_reached = reached_met c (passing (length c.hops) 1 (pos 0)) sent passed.0 sent_reached passed.1

  read : (v : World) × Met passed.0 (reads limit 0 65) v
  read = events_may c (reads limit 0 65) passed.0 lawful passed_reached (reads_may limit 0 65)

  wrote : (v : World) × Writes input 0 65 read.0 v
  wrote = writes_may c input 0 65 read.0 lawful (reached_met c (reads limit 0 65) passed.0 read.0 passed_reached read.1)

  round : Round input limit (length c.hops) 0 begun.0 wrote.0
  round = record {
    iv = replicate 12 0;
    now = pos 0;
    sent = sent;
    passed = passed.0;
    read = read.0;
    lawful = (refl, at_start);
    goes = sends;
    passes = passed.1;
    reads_each = read.1;
    writes_each = wrote.1;
  }

  run : QuietRun c input money 1 limit 1 wrote.0
  run = record { allowed = allowed.0; begun = begun.0; allows_each = allowed.1; begins_each = begins_one; rounds = (wrote.0, round, refl) }

  crossed_links : (link : ℕ) → link ≤ length wrote.0.nodes → HasPassed 1 (direction_at wrote.0 link Client)
  crossed_links = (run_crosses c input money 1 limit 1 wrote.0 goes_on run).2.rests.lanes

  -- nothing is left: what was sent was fulfilled
  needed_one : sends_needed c.config.packet_limit ([] ∷ []) (0 ∷ []) ≡ 1
  needed_one = ap (λ n. max (all_frames ([] ∷ [])) n + 1) (none c.config.packet_limit may.may_send.pays)
    where
      none : (most : ℕ) → 0 < most → (0 + most - 1) / most ≡ 0
      none most some = div-eq_of_lt (omega (arith, some))

  none_left : work_left (lengths input) (end_at wrote.0 Client).sending ≡ 0
  none_left = by _ _ _ (run_sharper c input money 1 limit 1 wrote.0 goes_on run) (needed_most c ([] ∷ []) (0 ∷ []) refl may) needed_one
    where
      by : (a b n : ℕ) → 1 + a ≤ b → b ≤ n → n ≡ 1 → a ≡ 0
      by a b n more most one = omega (arith, more, most, one)

  pub may_cross : (v : World) × QuietRun c input money 1 limit 1 v × ((link : ℕ) → link ≤ length v.nodes → HasPassed 1 (direction_at v link Client)) × (work_left (lengths input) (end_at v Client).sending ≡ 0)
  may_cross = (wrote.0, run, crossed_links, none_left)
