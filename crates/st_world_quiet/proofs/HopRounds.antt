-- A round of events in a world at rest is a crossing, reads and writes.
use Rattle.std.proofs.Common.{append_assoc, take, drop, nat_eq, inl, inr, ◌≡◌, ℕ, zero, suc, ◌+◌, ◌-◌, ◌*◌, ◌<◌, ◌≤◌, Bool, true, false, List, [], ◌∷◌, ◌++◌, length, map, get_or, slice_get, refl, sym, ap, subst, ◌∙◌, arith, ℤ, Option, None, Some, Result, Ok, Err}
use Rattle.std.proofs.Math.Seq.{drop-append_seam}
use Rattle.std.proofs.lemmas.List.{take-append-drop}
use Rattle.std.proofs.lemmas.Bool.{cases_eq}
use Rattle.std.specs.Ordering.{nat_cmp}
use Rattle.std.specs.FinMap as fmap
use Rattle.st_receiver.specs.Reading.{Aborted, Bytes, End, Nothing, Got}
use Rattle.st_world_parts.specs.Sides.{Both, IsPrefixOf, Client, Server, at}
use Rattle.st_world_parts.specs.State.{with_ledger, log_at, Node, World, end_at, empty_link, with_end}
use Rattle.st_world_parts.specs.StreamLogs.{got, ledger_or, StreamLog}
use Rattle.st_world.proofs.Maps.{get_apart, get_here}
use Rattle.st_sender.specs.declared.error.OutboxError.{OutboxError}
use Rattle.st_sender.specs.Sending.{Sending, changed, changed_at, with_outgoing, Outgoing, outgoing_at}
use Rattle.st_sender.specs.Accepting.{after_clean, after_write}
use Rattle.st_sender.specs.Flights.{sent_end}
use Rattle.st_sender.specs.Refusals.{close_refusal, write_refusal}
use Rattle.st_receiver.specs.Streams.{incoming_at}
use Rattle.st_streams.proofs.SlotLemmas.{slot_cases}
use Rattle.st_end.specs.Calls.{done, refusal, refusal_at, Answer, close, write}
use Rattle.st_world_parts.specs.Events.{Event, Send, Sent, Close}
use Rattle.st_world.specs.Runs.{Chain, Run, is_chain, opening}
use Rattle.st_world.proofs.DataSent.{OutFine}
use Rattle.st_world.proofs.EveryRun.{hops_lawful, reached}
use Rattle.st_world_quiet.specs.Exchanges.{IsModest}
use Rattle.st_world_quiet.specs.Calls.{lengths, closed_if, fitting, take_each, write_each, written_at, written_on}
use Rattle.st_world_quiet.proofs.Replies.{acked_is_sent}
use Rattle.st_world_quiet.specs.Worlds.{passing, AllForward, HasGone, IsAtRest, IsSettled, Met, state_of}
use Rattle.st_world_quiet.specs.HopRounds.{fits, Round, Writes, close_if, reads, writes}
use Rattle.st_world_quiet.proofs.HopRuns.{crossing_turn, turn_stands, load_has_room}
use Rattle.std.specs.Prelude.{int_le, pos, ◌+ℤ◌, ◌-ℤ◌, ◌≤ℤ◌, ◌<ℤ◌}
use Rattle.std.specs.List.{AllByRecursion}
use Rattle.std.proofs.lemmas.Int.{ints}
use Rattle.st_ilp.specs.Packets.{PreparePacket}
use Rattle.st_ilp.specs.Spelling.{prepare_text}
use Rattle.st_ilp.specs.Laws.{IsPrepare}
use Rattle.st_ilp.proofs.DateFinding.{is_not_le}
use Rattle.st_hop.specs.Hop.{Hop}
use Rattle.st_hop.specs.Lawful.{IsLawful}
use Rattle.st_hop.specs.Tickets.{ticket_at}
use Rattle.st_hop.specs.Arriving.{hop_time}
use Rattle.st_hop.proofs.Sums.{same_test}
use Rattle.st_streams.specs.declared.end_error.EndError.{EndError}
use Rattle.st_end.specs.State.{EndState}
use Rattle.st_end.specs.declared.flight.Open as flights
use Rattle.st_end.specs.Sending.{Goes, answer_time, prepare_for}
use Rattle.st_end.specs.Answers.{ended}
use Rattle.st_end.specs.Reading.{read}
use Rattle.st_world_parts.specs.Ends.{accepted_at, read_at}
use Rattle.st_world_quiet.specs.Left.{all_money_left}
use Rattle.st_world_quiet.specs.Trips.{Passage}
use Rattle.st_world_quiet.specs.Crossing.{crossed, less_time}
use Rattle.st_world_quiet.specs.Calm.{AreCalm, HasRoom, IsCalm, earlier, ticket_of}
use Rattle.st_world_quiet.specs.Chains.{Crossing, Stands}
use Rattle.st_world_quiet.proofs.Hops.{earlier_lawful, goes_on}
use Rattle.st_world_quiet.proofs.Chains.{still_time}
use Rattle.st_world_quiet.proofs.Worlds.{crossing_rests, met_one}

-- ---- calm hops send on

alone_there : (h : Hop) (p : PreparePacket) → h.tickets ≡ [] → ticket_at (h.tickets ++ ticket_of h p ∷ []) (ticket_of h p).number ≡ Some (ticket_of h p)
alone_there h p e = ap (λ ts. ticket_at (ts ++ ticket_of h p ∷ []) h.next) e ∙ same_test h.next h.next (Some (ticket_of h p)) None refl

pub calm_forwards : (destination : List ℕ) (sent most left after : ℕ) (hops : List Hop) (p : PreparePacket) (now : ℤ) → AllByRecursion (IsCalm destination sent most left) hops → IsPrepare p → HasRoom destination sent most left after p → pos 0 ≤ℤ now
    → int_le (less_time hops p.expiry) now ≡ false → AllForward hops (prepare_text p) now
calm_forwards destination sent most left after [] p now calm is room from late = tt
calm_forwards destination sent most left after (h ∷ others) p now calm is room from late =
    let early = still_time others (p.expiry -ℤ hop_time) now late in (
      ticket_of h p,
      1,
      prepare_text (earlier p),
      _,
      goes_on destination sent most left after h p now calm.0 is room early,
      alone_there h p calm.0.alone,
      calm_forwards destination sent most left after others (earlier p) now calm.1 (earlier_lawful p now is from early) (record { there = room.there; small = room.small; spends = room.spends; numbers = room.numbers }) from late,
    )

-- ---- eight hops leave time

time_left : (hops : List Hop) (expiry now : ℤ) (k : ℕ) → 1000 * length hops ≤ k → (now +ℤ pos k) <ℤ expiry → int_le (less_time hops expiry) now ≡ false
time_left [] expiry now k few later = is_not_le expiry now (omega (arith, ints, later))
time_left (h ∷ others) expiry now k few later =
    let some : 1000 ≤ k = omega (arith, few) in
    let rest : (d : ℕ) × (k ≡ d + 1000) = less k some in
    time_left others (expiry -ℤ hop_time) now rest.0 (let is = rest.1 in omega (arith, few, is)) (shift expiry now k rest.0 rest.1 later)
  where
    less : (k : ℕ) → 1000 ≤ k → (d : ℕ) × (k ≡ d + 1000)
    less k some = (k - 1000, omega (arith, some))

    shift : (expiry now : ℤ) (k d : ℕ) → k ≡ d + 1000 → (now +ℤ pos k) <ℤ expiry → (now +ℤ pos d) <ℤ (expiry -ℤ hop_time)
    shift expiry now k d e later = let l = subst (λ z. (now +ℤ pos z) <ℤ expiry) e later in omega (arith, ints, l)

pub in_time : (hops : List Hop) (now : ℤ) → length hops ≤ 8 → int_le (less_time hops (now +ℤ answer_time)) now ≡ false
in_time hops now few = time_left hops (now +ℤ answer_time) now 8000 (omega (arith, few)) (omega (arith, ints))

-- ---- calls at the ends leave the rest at rest

-- what a call at an end leaves: that end, and ledgers
pub record Moves (w v : World) (client server : EndState) : Type 0 where
  pub client_is : end_at v Client ≡ client
  pub server_is : end_at v Server ≡ server
  pub nodes : v.nodes ≡ w.nodes
  pub links : v.links ≡ w.links

pub settled_moved : (w v : World) (e f g h : EndState) (hops : List Hop) (p q : ℕ → ℕ) → IsSettled w e hops f p q → Moves w v g h → IsSettled v g hops h p q
settled_moved w v e f g h hops p q rest m = record {
  client = m.client_is;
  server = m.server_is;
  hops_are = ap (map state_of) m.nodes ∙ rest.hops_are;
  links = ap length m.links ∙ rest.links ∙ ap (λ ns. length ns + 1) (sym m.nodes);
  lanes = λ j l. subst (λ ls. HasGone (p j) (q j) (at (get_or ls j empty_link) Client)) (sym m.links) (rest.lanes j (let many : length v.nodes ≡ length w.nodes = ap length m.nodes in omega (arith, l, many)));
}

pub rest_moved : (w v : World) (e f g h : EndState) (hops : List Hop) (n : ℕ) → IsAtRest w e hops f n → Moves w v g h → IsAtRest v g hops h n
rest_moved w v e f g h hops n rest m = settled_moved w v e f g h hops (λ l. n) (λ l. n) rest m

accepted_moves : (a : Answer) (w v : World) (g f : EndState) (k : ℕ) (x : StreamLog) → end_at w Server ≡ f → v ≡ accepted_at a (with_end w Client g) Client k x → Moves w v g f
accepted_moves (Ok done) w v g f k x server is = record {
  client_is = ap (λ z. end_at z Client) is;
  server_is = ap (λ z. end_at z Server) is ∙ server;
  nodes = ap (λ (z : World). z.nodes) is;
  links = ap (λ (z : World). z.links) is;
}
accepted_moves (Err why) w v g f k x server is = record {
  client_is = ap (λ z. end_at z Client) is;
  server_is = ap (λ z. end_at z Server) is ∙ server;
  nodes = ap (λ (z : World). z.nodes) is;
  links = ap (λ (z : World). z.links) is;
}

read_moves : (r : Result Got EndError) (w v : World) (e h : EndState) (k : ℕ) → end_at w Client ≡ e → v ≡ read_at r (with_end w Server h) Client k → Moves w v e h
read_moves (Ok got) w v e h k client is = record {
  client_is = ap (λ z. end_at z Client) is ∙ client;
  server_is = ap (λ z. end_at z Server) is;
  nodes = ap (λ (z : World). z.nodes) is;
  links = ap (λ (z : World). z.links) is;
}
read_moves (Err why) w v e h k client is = record {
  client_is = ap (λ z. end_at z Client) is ∙ client;
  server_is = ap (λ z. end_at z Server) is;
  nodes = ap (λ (z : World). z.nodes) is;
  links = ap (λ (z : World). z.links) is;
}

-- a call of the client
pub client_calls : (call : EndState → Answer × EndState) (w v : World) (e : EndState) (hops : List Hop) (f : EndState) (n k : ℕ) (x : StreamLog) → IsAtRest w e hops f n → v ≡ accepted_at (call (end_at w Client)).0 (with_end w Client (call (end_at w Client)).1) Client k x → IsAtRest v (call e).1 hops f n
client_calls call w v e hops f n k x rest is =
    subst (λ z. IsAtRest v (call z).1 hops f n) rest.client (rest_moved w v e f (call (end_at w Client)).1 f hops n rest (accepted_moves (call (end_at w Client)).0 w v (call (end_at w Client)).1 f k x rest.server is))

pub reads_settle : (limit first count : ℕ) (w v : World) (e : EndState) (hops : List Hop) (f : EndState) (p q : ℕ → ℕ) → 1 ≤ limit → IsSettled w e hops f p q → Met w (reads limit first count) v → IsSettled v e hops (take_each limit first count f) p q
unfolding reads take_each
reads_settle limit first zero w v e hops f p q some rest run = subst (λ z. IsSettled z e hops f p q) (sym run) rest
reads_settle zero first (suc m) w v e hops f p q some rest run = absurd (omega (arith, some))
reads_settle (suc l) first (suc m) w v e hops f p q some rest run =
    let r = read (end_at w Server) first (suc l) in
    let mid = run.0 in
    let one : IsSettled mid e hops r.1 p q = settled_moved w mid e f e r.1 hops p q rest (read_moves r.0 w mid e r.1 first rest.client run.3.1) in
    reads_settle (suc l) (first + 1) m mid v e hops (read f first (suc l)).1 p q some (subst (λ z. IsSettled mid e hops (read z first (suc l)).1 p q) rest.server one) run.4

reads_rest : (limit first count : ℕ) (w v : World) (e : EndState) (hops : List Hop) (f : EndState) (n : ℕ) → 1 ≤ limit → IsAtRest w e hops f n → Met w (reads limit first count) v → IsAtRest v e hops (take_each limit first count f) n
reads_rest limit first count w v e hops f n some rest run = reads_settle limit first count w v e hops f (λ l. n) (λ l. n) some rest run

close_rest : (b : Bool) (k : ℕ) (w v : World) (e : EndState) (hops : List Hop) (f : EndState) (n : ℕ) → IsAtRest w e hops f n → Met w (close_if b k) v → IsAtRest v (closed_if b e k) hops f n
close_rest false k w v e hops f n rest run = subst (λ z. IsAtRest z e hops f n) (sym run) rest
close_rest true k w v e hops f n rest run = let last = met_one (Close Client k) w v run in client_calls (λ z. close z k) w v e hops f n k _ rest last.1.1

-- ---- what fits, by the ledgers of a world that is reached

pub IsReachedBy : Chain → World → Type 0
IsReachedBy c w = (events : List Event) × Run (opening c) events w

run_on : (xs ys : List Event) (w v u : World) → Run w xs v → Run v ys u → Run w (xs ++ ys) u
run_on [] ys w v u first second = subst (λ z. Run z ys u) first second
run_on (x ∷ xs) ys w v u first second = (first.0, first.1, first.2, run_on xs ys first.0 v u first.3 second)

met_runs : (events : List Event) (w v : World) → Met w events v → Run w events v
met_runs [] w v run = run
met_runs (event ∷ events) w v run = (run.0, run.1, (run.2, inl run.3), met_runs events run.0 v run.4)

pub reached_met : (c : Chain) (events : List Event) (w v : World) → IsReachedBy c w → Met w events v → IsReachedBy c v
unfolding IsReachedBy
reached_met c events w v r run = (r.0 ++ events, run_on r.0 events (opening c) w v r.1 (met_runs events w v run))

pub reached_first : (c : Chain) → IsReachedBy c (opening c)
unfolding IsReachedBy
reached_first c = ([], refl)

-- the hops of a lawful chain stay lawful
pub reached_lawful : (c : Chain) (w : World) → is_chain c ≡ true → IsReachedBy c w → (i : ℕ) (n : Node) → slice_get w.nodes i ≡ Some n → IsLawful n.state × (length n.state.accounts ≡ 2)
unfolding IsReachedBy
reached_lawful c w lawful r = hops_lawful c r.0 w lawful r.1

abbrev pub acked_of : Option Outgoing → ℕ
acked_of None = 0
acked_of (Some x) = x.acked_end

-- what its ledgers say of a stream
pub record Ledgered (w : World) (e f : EndState) (k : ℕ) : Type 0 where
  pub written : OutFine (log_at w Client k).written (outgoing_at e.sending k)
  pub read : length (log_at w Client k).read ≡ (incoming_at f.receiving k).held.read

pub ledgered_by : (c : Chain) (w : World) (e f : EndState) (k : ℕ) → IsReachedBy c w → end_at w Client ≡ e → end_at w Server ≡ f → Ledgered w e f k
unfolding IsReachedBy
ledgered_by c w e f k r client server =
    let ways = (reached c r.0 w r.1).in_order.ways Client in
    record {
      written = subst (λ (z : EndState). OutFine (log_at w Client k).written (outgoing_at z.sending k)) client (ways.send k);
      read = (ways.recv k).count ∙ ap (λ (z : EndState). (incoming_at z.receiving k).held.read) server;
    }

pub ledgered : (c : Chain) (w : World) (e : EndState) (hops : List Hop) (f : EndState) (n k : ℕ) → IsReachedBy c w → IsAtRest w e hops f n → Ledgered w e f k
ledgered c w e hops f n k r rest = ledgered_by c w e f k r rest.client rest.server

-- an end that the server knows is the end of what the client wrote
pub ledger_end : (c : Chain) (w : World) (k m : ℕ) → IsReachedBy c w → (incoming_at (end_at w Server).receiving k).held.end ≡ Some m → m ≡ length (log_at w Client k).written
unfolding IsReachedBy
ledger_end c w k m r e = let all = (((reached c r.0 w r.1).whole.states Client).recv k).ends m e in all.0

pub ledger_prefix : (c : Chain) (w : World) (k : ℕ) → IsReachedBy c w → IsPrefixOf (log_at w Client k).read (log_at w Client k).written
unfolding IsReachedBy
ledger_prefix c w k r = (((reached c r.0 w r.1).in_order.ways Client).recv k).is_prefix

none_called : (e : EndState) (k : ℕ) (why : Option OutboxError) (s : Sending) → outgoing_at e.sending k ≡ None → (done e (refusal e k why) s).1 ≡ e
none_called e k why s none = ap (λ o. (done e (refusal_at e o why) s).1) none

none_closed : (b : Bool) (e : EndState) (k : ℕ) → outgoing_at e.sending k ≡ None → closed_if b e k ≡ e
none_closed true e k none = none_called e k _ _ none
none_closed false e k none = refl

fits_the_same : (xs : List ℕ) (l : StreamLog) (x : Outgoing) → length l.written ≡ x.accepted → length l.read ≡ x.acked_end → fits xs l ≡ fitting xs x
fits_the_same xs l x written read = rw (written, read) refl

write_at : (xs : List ℕ) (k : ℕ) (o : Option Outgoing) (l : StreamLog) (w v : World) (e : EndState) (hops : List Hop) (f : EndState) (n : ℕ) → outgoing_at e.sending k ≡ o → OutFine l.written o → length l.read ≡ acked_of o → IsAtRest w e hops f n → Met w (writes xs k l) v
    → IsAtRest v (written_at xs e k o) hops f n
write_at xs k None l w v e hops f n at written read rest run =
    let b = nat_eq (length l.written + length (fits xs l)) (length xs) in
    let one : IsAtRest run.0 (write e k (fits xs l)).1 hops f n = client_calls (λ z. write z k (fits xs l)) w run.0 e hops f n k _ rest run.3.1 in
    let same : (write e k (fits xs l)).1 ≡ e = none_called e k _ _ at in
    subst (λ z. IsAtRest v z hops f n) (none_closed b e k at) (close_rest b k run.0 v e hops f n (subst (λ z. IsAtRest run.0 z hops f n) same one) run.4)
write_at xs k (Some x) l w v e hops f n at written read rest run =
    let part = fits_the_same xs l x (sym written.0) read in
    let b = nat_eq (length l.written + length (fits xs l)) (length xs) in
    let one : IsAtRest run.0 (write e k (fits xs l)).1 hops f n = client_calls (λ z. write z k (fits xs l)) w run.0 e hops f n k _ rest run.3.1 in
    let both : IsAtRest v (closed_if b (write e k (fits xs l)).1 k) hops f n = close_rest b k run.0 v (write e k (fits xs l)).1 hops f n one run.4 in
    let P : ℕ → List ℕ → Type 0 = λ m ys. IsAtRest v (closed_if (nat_eq (m + length ys) (length xs)) (write e k ys).1 k) hops f n in
    subst (λ ys. P x.accepted ys) part (subst (λ m. P m (fits xs l)) (sym written.0) both)

pub write_rest : (c : Chain) (xs : List ℕ) (k : ℕ) (w v : World) (e : EndState) (hops : List Hop) (f : EndState) (n : ℕ) → IsReachedBy c w → IsAtRest w e hops f n → acked_of (outgoing_at e.sending k) ≡ (incoming_at f.receiving k).held.read
    → Met w (writes xs k (log_at w Client k)) v → IsAtRest v (written_on xs e k) hops f n
write_rest c xs k w v e hops f n r rest acked run =
    let told = ledgered c w e hops f n k r rest in
    write_at xs k (outgoing_at e.sending k) (log_at w Client k) w v e hops f n refl told.written (told.read ∙ sym acked) rest run

-- ---- what was written is a front of the input

abbrev pub Copies : (ℕ → List ℕ) → World → Type 0
Copies input w = (k : ℕ) → IsPrefixOf (log_at w Client k).written (input k)

pub copies_same : (input : ℕ → List ℕ) (w v : World) → v.ledgers ≡ w.ledgers → Copies input w → Copies input v
copies_same input w v same copies k = subst (λ (ls : Both (fmap.FinMap nat_cmp StreamLog)). IsPrefixOf (ledger_or (fmap.get (at ls Client) k)).written (input k)) (sym same) (copies k)

-- one ledger of the client's is another
copies_with : (input : ℕ → List ℕ) (w v : World) (k : ℕ) (x : StreamLog) → v.ledgers ≡ (with_ledger w Client k x).ledgers → IsPrefixOf x.written (input k) → Copies input w → Copies input v
copies_with input w v k x is here copies =
    copies_same input (with_ledger w Client k x) v is (λ j. elim (cases_eq j k) [
      | inl same ↦ subst (λ i. IsPrefixOf (log_at (with_ledger w Client k x) Client i).written (input i)) (sym same)
          (subst (λ o. IsPrefixOf (ledger_or o).written (input k)) (sym (get_here (at w.ledgers Client) k x)) here)
      | inr apart ↦ subst (λ o. IsPrefixOf (ledger_or o).written (input j)) (sym (get_apart (at w.ledgers Client) k x j apart)) (copies j)
    ])

pub copies_accepted : (input : ℕ → List ℕ) (a : Answer) (w v : World) (g : EndState) (k : ℕ) (x : StreamLog) → v ≡ accepted_at a (with_end w Client g) Client k x → IsPrefixOf x.written (input k) → Copies input w → Copies input v
copies_accepted input (Ok done) w v g k x is here copies = copies_with input w v k x (ap (λ (z : World). z.ledgers) is) here copies
copies_accepted input (Err why) w v g k x is here copies = copies_same input w v (ap (λ (z : World). z.ledgers) is) copies

got_written : (g : Got) (x : StreamLog) → (got g x).written ≡ x.written
got_written (Bytes xs) x = refl
got_written Nothing x = refl
got_written End x = refl
got_written (Aborted code) x = refl

copies_read : (input : ℕ → List ℕ) (r : Result Got EndError) (w v : World) (h : EndState) (k : ℕ) → v ≡ read_at r (with_end w Server h) Client k → Copies input w → Copies input v
copies_read input (Ok g) w v h k is copies = copies_with input w v k (got g (log_at w Client k)) (ap (λ (z : World). z.ledgers) is) (subst (λ xs. IsPrefixOf xs (input k)) (sym (got_written g (log_at w Client k))) (copies k)) copies
copies_read input (Err why) w v h k is copies = copies_same input w v (ap (λ (z : World). z.ledgers) is) copies

pub copies_reads : (input : ℕ → List ℕ) (limit first count : ℕ) (w v : World) → 1 ≤ limit → Met w (reads limit first count) v → Copies input w → Copies input v
unfolding reads
copies_reads input limit first zero w v some run copies = subst (Copies input) (sym run) copies
copies_reads input zero first (suc m) w v some run copies = absurd (omega (arith, some))
copies_reads input (suc l) first (suc m) w v some run copies =
    copies_reads input (suc l) (first + 1) m run.0 v some run.4 (copies_read input (read (end_at w Server) first (suc l)).0 w run.0 (read (end_at w Server) first (suc l)).1 first run.3.1 copies)

copy_more : (xs ys : List ℕ) (r : ℕ) → IsPrefixOf ys xs → IsPrefixOf (ys ++ take r (drop (length ys) xs)) xs
copy_more xs ys r (rest, is) =
    let left : drop (length ys) xs ≡ rest = ap (drop (length ys)) (sym is) ∙ drop-append_seam ys rest in (
      drop r rest,
      ap (λ zs. (ys ++ take r zs) ++ drop r rest) left ∙ append_assoc ys (take r rest) (drop r rest) ∙ ap (λ zs. ys ++ zs) (take-append-drop r rest) ∙ is,
    )

copies_close : (input : ℕ → List ℕ) (b : Bool) (k : ℕ) (w v : World) → Met w (close_if b k) v → Copies input w → Copies input v
copies_close input false k w v run copies = subst (Copies input) (sym run) copies
copies_close input true k w v run copies =
    let last = met_one (Close Client k) w v run in
    copies_accepted input (close (end_at w Client) k).0 w v (close (end_at w Client) k).1 k _ last.1.1 (copies k) copies

pub copies_write : (input : ℕ → List ℕ) (k : ℕ) (w v : World) → Met w (writes (input k) k (log_at w Client k)) v → Copies input w → Copies input v
copies_write input k w v run copies =
    let l = log_at w Client k in
    let part = fits (input k) l in
    copies_close input (nat_eq (length l.written + length part) (length (input k))) k run.0 v run.4
    (copies_accepted input (write (end_at w Client) k part).0 w run.0 (write (end_at w Client) k part).1 k _ run.3.1 (copy_more (input k) l.written (length l.read + 262144 - length l.written) (copies k)) copies)

copies_writes : (input : ℕ → List ℕ) (first count : ℕ) (w v : World) → Writes input first count w v → Copies input w → Copies input v
copies_writes input first zero w v run copies = subst (Copies input) (sym run) copies
copies_writes input first (suc m) w v run copies = copies_writes input (first + 1) m run.0 v run.2 (copies_write input first w run.0 run.1 copies)

-- ---- writes and closes change no acknowledged end

abbrev pub SameAcks : EndState → EndState → Type 0
SameAcks e f = (j : ℕ) → acked_of (outgoing_at f.sending j) ≡ acked_of (outgoing_at e.sending j)

pub acks_changed : (s : Sending) (k : ℕ) (g : Outgoing → Outgoing) (o : Option Outgoing) → ((x : Outgoing) → (g x).acked_end ≡ x.acked_end) → outgoing_at s k ≡ o → (j : ℕ) → acked_of (outgoing_at (changed_at s k g o) j) ≡ acked_of (outgoing_at s j)
acks_changed s k g None keeps at j = refl
acks_changed s k g (Some x) keeps at j = elim (slot_cases s.streams k (g x) j) [
  | inl same ↦ subst (λ i. acked_of (outgoing_at (with_outgoing s k (g x)) i) ≡ acked_of (outgoing_at s i)) (sym same.0) (ap acked_of same.1 ∙ keeps x ∙ sym (ap acked_of at))
  | inr apart ↦ ap acked_of apart
]

pub acks_done : (e : EndState) (why : Option EndError) (s : Sending) → ((j : ℕ) → acked_of (outgoing_at s j) ≡ acked_of (outgoing_at e.sending j)) → SameAcks e (done e why s).1
acks_done e None s same j = same j
acks_done e (Some why) s same j = refl

acks_close : (b : Bool) (e : EndState) (k : ℕ) → SameAcks e (closed_if b e k)
acks_close false e k j = refl
acks_close true e k j = acks_done e (refusal e k (close_refusal e.sending k)) (changed e.sending k after_clean) (acks_changed e.sending k after_clean (outgoing_at e.sending k) (λ x. refl) refl) j

pub acks_written_at : (xs : List ℕ) (e : EndState) (k : ℕ) (o : Option Outgoing) → SameAcks e (written_at xs e k o)
acks_written_at xs e k None j = refl
acks_written_at xs e k (Some x) j =
    let one = acks_done e (refusal e k (write_refusal e.sending k (length (fitting xs x)))) (changed e.sending k (after_write (fitting xs x))) (acks_changed e.sending k (after_write (fitting xs x)) (outgoing_at e.sending k) (λ y. refl) refl) j in
    acks_close (nat_eq (x.accepted + length (fitting xs x)) (length xs)) (write e k (fitting xs x)).1 k j ∙ one

acks_written : (input : ℕ → List ℕ) (first count : ℕ) (e : EndState) → SameAcks e (write_each input first count e)
unfolding write_each
acks_written input first zero e j = refl
acks_written input first (suc m) e j = acks_written input (first + 1) m (written_on (input first) e first) j ∙ acks_written_at (input first) e first (outgoing_at e.sending first) j

abbrev pub AreAcked : EndState → EndState → Type 0
AreAcked e f = (k : ℕ) → acked_of (outgoing_at e.sending k) ≡ (incoming_at f.receiving k).held.read

writes_rest : (c : Chain) (input : ℕ → List ℕ) (first count : ℕ) (w v : World) (e : EndState) (hops : List Hop) (f : EndState) (n : ℕ) → IsReachedBy c w → IsAtRest w e hops f n → AreAcked e f → Writes input first count w v
    → IsAtRest v (write_each input first count e) hops f n × IsReachedBy c v
unfolding write_each
writes_rest c input first zero w v e hops f n r rest acked run = (subst (λ z. IsAtRest z e hops f n) (sym run) rest, subst (IsReachedBy c) (sym run) r)
writes_rest c input first (suc m) w v e hops f n r rest acked run =
    writes_rest c input (first + 1) m run.0 v (written_on (input first) e first) hops f n (reached_met c (writes (input first) first (log_at w Client first)) w run.0 r run.1)
    (write_rest c (input first) first w run.0 e hops f n r rest (acked first) run.1)
    (λ k. acks_written_at (input first) e first (outgoing_at e.sending first) k ∙ acked k) run.2

-- while nothing is in flight, what was sent is what is acknowledged
pub acked_sent : (s : Sending) (k : ℕ) (o : Option Outgoing) → s.flights ≡ [] → outgoing_at s k ≡ o → sent_end s k (outgoing_at s k) ≡ acked_of (outgoing_at s k)
acked_sent s k None alone at = ap (sent_end s k) at ∙ sym (ap acked_of at)
acked_sent s k (Some x) alone at = acked_is_sent s k x alone at ∙ sym (ap acked_of at)

pub acked_from : (input : ℕ → List ℕ) (e f : EndState) → Stands input e f → AreAcked e f
acked_from input e f s k = sym (s.abreast.level refl k ∙ acked_sent e.sending k (outgoing_at e.sending k) s.quiet.alone refl)

-- ---- a round

-- what was sent in it
goes_passage : (e : EndState) (iv : List ℕ) (now : ℤ) (flight : flights.Open) (bytes : List ℕ) (gone : EndState) → length iv ≡ 12 → Goes e iv now flight bytes gone → e.sending.last + 1 < e.sending.config.packets → Passage e
goes_passage e iv now flight bytes gone long goes left = record {
  iv = iv;
  now = now;
  later = now;
  flight = flight;
  bytes = bytes;
  gone = gone;
  long = long;
  goes = goes;
  in_time = in_time [] now (omega arith);
  left = left;
}

-- each hop sends it on
all_forward : (input : ℕ → List ℕ) (e : EndState) (hops : List Hop) (f : EndState) (iv : List ℕ) (now : ℤ) → Stands input e f → AreCalm e.peer e.sending hops → length iv ≡ 12 → pos 0 ≤ℤ now → int_le (less_time hops (now +ℤ answer_time)) now ≡ false → e.sending.last + 1 < e.sending.config.packets
    → (flight : flights.Open) (bytes : List ℕ) (gone : EndState) → Goes e iv now flight bytes gone → AllForward hops bytes now
unfolding goes_passage
all_forward input e hops f iv now stands calm long moment early left flight bytes gone goes =
    subst (λ text. AllForward hops text now) (sym goes.bytes_are)
    (calm_forwards e.peer e.sending.last e.sending.packet_limit (all_money_left e.sending) _ hops (prepare_for e now goes.load.amount goes.payload) now calm goes.lawful (load_has_room input e f stands (goes_passage e iv now flight bytes gone long goes left)) moment early)

-- the ends and hops after a round
pub record IsCrossed (c : Chain) (input : ℕ → List ℕ) (limit : ℕ) (e : EndState) (hops : List Hop) (f : EndState) (n : ℕ) (w v : World) : Type 0 where
  pub client : EndState
  pub others : List Hop
  pub server : EndState
  pub crosses : Crossing input limit e hops f client others server
  pub rests : IsAtRest v client others server n
  pub is_reached : IsReachedBy c v
  pub copies : Copies input w → Copies input v

back_acked : (input : ℕ → List ℕ) (back h : EndState) → Stands input (write_each input 0 65 back) h → AreAcked back h
back_acked input back h s k = sym (acks_written input 0 65 back k) ∙ acked_from input (write_each input 0 65 back) h s k

pub round_crosses : (c : Chain) (input : ℕ → List ℕ) (limit : ℕ) (e : EndState) (hops : List Hop) (f : EndState) (n : ℕ) (w v : World) → 32739 ≤ limit → IsModest (lengths input) → Stands input e f → AreCalm e.peer e.sending hops → length hops ≤ 8 → e.sending.last + 1 < e.sending.config.packets
    → IsReachedBy c w → IsAtRest w e hops f n → Round input limit (length hops) n w v → IsCrossed c input limit e hops f (suc n) w v
unfolding goes_passage
round_crosses chain input limit e hops f n w v room modest stands calm few left is_reached rest x =
    let moment = x.lawful.1.0 in
    let early = in_time hops x.now few in
    let forward = all_forward input e hops f x.iv x.now stands calm x.lawful.0 moment early left in
    let crossed_is = crossing_rests w x.sent x.passed e hops f n x.iv x.now rest forward x.goes x.passes in
    let c = crossed hops f crossed_is.bytes x.now in
    let back = ended crossed_is.gone crossed_is.flight (Some c.answer) in
    let read_rest = reads_rest limit 0 65 x.passed x.read back c.hops c.end (suc n) (omega (arith, room)) crossed_is.rests x.reads_each in
    let crosses : Crossing input limit e hops f (write_each input 0 65 back) c.hops (take_each limit 0 65 c.end) = record {
      passage = goes_passage e x.iv x.now crossed_is.flight crossed_is.bytes crossed_is.gone x.lawful.0 crossed_is.goes left;
      moment = moment;
      in_time = early;
      passed = refl;
      reads = refl;
      writes = refl;
    } in
    let after = turn_stands input limit e f (write_each input 0 65 back) (take_each limit 0 65 c.end) modest stands (crossing_turn input limit e hops f (write_each input 0 65 back) c.hops (take_each limit 0 65 c.end) room stands calm crosses) in
    let sent_reached = reached_met chain (Send Client x.iv x.now ∷ []) w x.sent is_reached (x.sent, Sent, x.lawful, x.goes, refl) in
    let passed_reached = reached_met chain (passing (length hops) (suc n) x.now) x.sent x.passed sent_reached x.passes in
    let read_reached = reached_met chain (reads limit 0 65) x.passed x.read passed_reached x.reads_each in
    let done = writes_rest chain input 0 65 x.read v back c.hops (take_each limit 0 65 c.end) (suc n) read_reached read_rest (back_acked input back (take_each limit 0 65 c.end) after) x.writes_each in
    record {
      client = write_each input 0 65 back;
      others = c.hops;
      server = take_each limit 0 65 c.end;
      crosses = crosses;
      rests = done.0;
      is_reached = done.1;
      copies = λ old. copies_writes input 0 65 x.read v x.writes_each (copies_reads input limit 0 65 x.passed x.read (omega (arith, room)) x.reads_each (copies_same input w x.passed crossed_is.ledgers old));
    }
