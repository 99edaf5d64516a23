-- A lossy run of a world is a run of crossings in which some are lost.
use Rattle.std.proofs.Common.{◌≡◌, ℕ, zero, suc, ◌+◌, ◌-◌, ◌*◌, ◌^◌, ◌<◌, ◌≤◌, false, true, Bool, List, [], ◌∷◌, length, map, min, refl, sym, ap, subst, ◌∙◌, arith, ℤ, pos, Option, None, Some, inl, inr}
use Rattle.std.specs.Prelude.{int_le, ◌+ℤ◌, ◌≤ℤ◌}
use Rattle.std.specs.List.{AllByRecursion}
use Rattle.std.proofs.lemmas.Bool.{cases_lt}
use Rattle.st_hop.specs.Hop.{Hop}
use Rattle.st_hop.specs.declared.ticket.Open as tickets
use Rattle.st_hop.specs.Arriving.{Answers, Arrival, Forwards, arrived}
use Rattle.st_keys.specs.Keys.{keys_of}
use Rattle.st_sender.specs.Sending.{Config, Outgoing, Sending, outgoing_at}
use Rattle.st_receiver.specs.Streams.{Receiving, incoming_at}
use Rattle.st_receiver.specs.Limits.{limits}
use Rattle.st_end.specs.declared.flight.Open as flights
use Rattle.st_end.specs.declared.role.Role.TheVariants as roles
use Rattle.st_end.specs.State.{EndState, new_end}
use Rattle.st_end.specs.Sending.{Goes, answer_time, prepare_for}
use Rattle.st_end.specs.Answers.{ended}
use Rattle.st_world_parts.specs.Sides.{Client, Server}
use Rattle.st_world_parts.specs.State.{World, end_at}
use Rattle.st_world_parts.specs.Events.{IsEvent, Send, Sent, Silent, Told}
use Rattle.st_world.specs.Steps.{Step}
use Rattle.st_world.specs.Runs.{Chain, Table, new_node, opening}
use Rattle.st_world_quiet.specs.Quiet.{IsQuiet}
use Rattle.st_world_quiet.specs.Left.{all_money_left, work_left}
use Rattle.st_world_quiet.specs.Mirrored.{IsAhead, Tally}
use Rattle.st_world_quiet.specs.Exchanges.{IsModest}
use Rattle.st_world_quiet.specs.Losses as losses
use Rattle.st_world_quiet.specs.Losses.{MayLose, lost_answers}
use Rattle.st_world_quiet.specs.Calls.{MaySend, allow_each, lengths, take_each, write_each}
use Rattle.st_world_quiet.specs.Trips.{AreJoined, CanTell, Passage}
use Rattle.st_world_quiet.specs.LostTrips.{Departure}
use Rattle.st_world_quiet.proofs.EndRounds.{offer_of}
use Rattle.st_world_quiet.proofs.Lowering.{none_goes}
use Rattle.st_world_quiet.proofs.Credited.{amount_left}
use Rattle.st_world_quiet.proofs.Trips.{both_came, goes_sends}
use Rattle.st_world_quiet.proofs.LostTrips.{goes_faulted}
use Rattle.st_world_quiet.proofs.Bound.{opening_quiet}
use Rattle.st_world_quiet.proofs.Beginning.{IsBegun, calls_begun}
use Rattle.st_world_quiet.proofs.SameEnds.{begin_same}
use Rattle.st_world_quiet.proofs.Trying.{opening_room, opening_spare, opening_tally}
use Rattle.st_world_quiet.proofs.LostRuns.{Opens, calls_lose, modest_money}
use Rattle.st_world_quiet.specs.Crossing.{Crossed, back_over, crossed, less_time, over_one}
use Rattle.st_world_quiet.specs.Calm.{IsCalm}
use Rattle.st_world_quiet.specs.LostCrossings.{AreWide, Beyond, FatedCross, FatedCrosses, lost_one, lost_past, unanswered_one, unanswered_past}
use Rattle.st_world_quiet.specs.Worlds.{AllForward, IsSettled, Met, state_of}
use Rattle.st_world_quiet.specs.HopRounds.{BeginsEach, all_of, allows, opening_client, reads}
use Rattle.st_world_quiet.specs.LostWorlds.{AnswerLost, Arrives, Course, FatedRound, FatedRounds, LossyRun, MayRunLossy, PrepareLost, carried_by, carried_in, fate_of, fates_of, following, gives_by, gives_on, puts_by, puts_on}
use Rattle.st_world_quiet.proofs.Worlds.{crossing_settles, map_long}
use Rattle.st_world_quiet.proofs.HopRounds.{Copies, IsReachedBy, acked_sent, calm_forwards, copies_reads, copies_same, in_time, reached_first, reached_met, reads_settle}
use Rattle.st_world_quiet.proofs.HopLostRuns.{AreRoomy, crossed_comes, load_room}
use Rattle.st_world_quiet.proofs.WorldRuns.{NoReads, acks_begun_each, allows_rest, begins_all, calm_tables, copies_allows, copies_begins_each, copies_first, money_most, no_acks_first, nothing_open, opening_rests}
use Rattle.st_world_quiet.proofs.Opened.{OpenTo}
use Rattle.st_world_quiet.proofs.Links.{loses_at, Loses, lost_settles, one_more, stranded_settles}
use Rattle.st_world_quiet.proofs.Whole.{AreWhole, answered_whole, begun_whole, faulted_whole, whole_still}
use Rattle.st_world_quiet.proofs.LostRounds.{Stays, carried, send_stays}

-- ---- hops stay as many

lost_one_long : (onward : List ℕ → List Hop) (others : List Hop) (now : ℤ) → ((text : List ℕ) → length (onward text) ≡ length others) → (r : Arrival × Hop) → length (lost_one onward others now r) ≡ suc (length others)
lost_one_long onward others now same (Answers bytes, h) = refl
lost_one_long onward others now same (Forwards t account text, h) = ap suc (same text)

lost_long : (past : ℕ) (hops : List Hop) (text : List ℕ) (now : ℤ) → length (lost_past past hops text now) ≡ length hops
unfolding lost_past
lost_long zero hops text now = refl
lost_long (suc m) [] text now = refl
lost_long (suc m) (h ∷ others) text now = lost_one_long (λ bytes. lost_past m others bytes now) others now (λ bytes. lost_long m others bytes now) (arrived h 0 text now)

over_one_long : (onward : List ℕ → Crossed) (others : List Hop) (f : EndState) (now : ℤ) → ((text : List ℕ) → length (onward text).hops ≡ length others) → (r : Arrival × Hop) → length (over_one onward others f now r).hops ≡ suc (length others)
over_one_long onward others f now same (Answers bytes, h) = refl
over_one_long onward others f now same (Forwards t account text, h) = ap suc (same text)

crossed_long : (hops : List Hop) (f : EndState) (text : List ℕ) (now : ℤ) → length (crossed hops f text now).hops ≡ length hops
unfolding crossed
crossed_long [] f text now = refl
crossed_long (h ∷ others) f text now = over_one_long (λ bytes. crossed others f bytes now) others f now (λ bytes. crossed_long others f bytes now) (arrived h 0 text now)

unanswered_one_long : (onward : List ℕ → Beyond) (others : List Hop) (f : EndState) (now : ℤ) → ((text : List ℕ) → length (onward text).hops ≡ length others) → (r : Arrival × Hop) → length (unanswered_one onward others f now r).hops ≡ suc (length others)
unanswered_one_long onward others f now same (Answers bytes, h) = refl
unanswered_one_long onward others f now same (Forwards t account text, h) = ap suc (same text)

unanswered_long : (past : ℕ) (hops : List Hop) (f : EndState) (text : List ℕ) (now : ℤ) → length (unanswered_past past hops f text now).hops ≡ length hops
unfolding unanswered_past
unanswered_long zero hops f text now = crossed_long hops f text now
unanswered_long (suc m) [] f text now = crossed_long [] f text now
unanswered_long (suc m) (h ∷ others) f text now = unanswered_one_long (λ bytes. unanswered_past m others f bytes now) others f now (λ bytes. unanswered_long m others f bytes now) (arrived h 0 text now)

-- ---- a Send that went

sent_works : (n : ℕ → ℕ) (e : EndState) (w v : World) (iv : List ℕ) (now : ℤ) → IsQuiet n e.sending → end_at w Client ≡ e → Step w (Send Client iv now) Sent v → 0 < work_left n e.sending
sent_works n e w v iv now quiet client (inl none) = absurd (let no : ◌≡◌ {A = Told} Sent Silent = none.1 in cc)
sent_works n e w v iv now quiet client (inr sent) =
    let goes : Goes e iv now sent.0 sent.1 sent.2 = subst (λ z. Goes z iv now sent.0 sent.1 sent.2) client sent.3 in
    elim (cases_lt 0 (work_left n e.sending)) [
      | inl some ↦ some
      | inr none ↦ absurd (none_goes n e.sending (limits e.receiving) goes.load quiet (zero_is _ none) (goes_sends e sent.2 iv sent.1 now sent.0 goes))
    ]
  where
    zero_is : (m : ℕ) → m ≤ 0 → m ≡ 0
    zero_is m l = omega arith

put_back : (amount money spare : ℕ) → amount ≤ money → money + spare - amount + amount ≡ money + spare
put_back amount money spare l = omega arith

forwards : (c : Tally) (n : ℕ → ℕ) (e : EndState) (hops : List Hop) (iv : List ℕ) (now : ℤ) → IsQuiet n e.sending → AreRoomy c e hops → pos 0 ≤ℤ now → int_le (less_time hops (now +ℤ answer_time)) now ≡ false
    → (flight : flights.Open) (bytes : List ℕ) (gone : EndState) → Goes e iv now flight bytes gone → AllForward hops bytes now
forwards c n e hops iv now quiet calm moment early flight bytes gone goes =
    let p = goes.load in
    let few = amount_left n e.sending (limits e.receiving) p quiet (goes_sends e gone iv bytes now flight goes) in
    subst (λ text. AllForward hops text now) (sym goes.bytes_are)
    (calm_forwards e.peer e.sending.last e.sending.packet_limit (all_money_left e.sending + c.spare_all) (all_money_left e.sending + c.spare_all - p.amount) hops (prepare_for e now p.amount goes.payload) now calm goes.lawful
    (load_room c n e gone iv bytes now flight goes _ (put_back _ _ _ few)) moment early)

settled_as : (v : World) (e : EndState) (hops : List Hop) (f : EndState) (p g q h : ℕ → ℕ) → ((j : ℕ) → p j ≡ q j) → ((j : ℕ) → g j ≡ h j) → IsSettled v e hops f p g → IsSettled v e hops f q h
settled_as v e hops f p g q h prepares gives rest = record {
  client = rest.client;
  server = rest.server;
  hops_are = rest.hops_are;
  links = rest.links;
  lanes = λ j l. (let lane = rest.lanes j l in record { prepares = lane.prepares ∙ prepares j; given = lane.given ∙ gives j });
}

-- ---- one Send, and what becomes of it

pub record IsFated (chain : Chain) (input : ℕ → List ℕ) (limit all : ℕ) (course : Course) (e : EndState) (hops : List Hop) (f : EndState) (p g : ℕ → ℕ) (w v : World) : Type 0 where
  pub client : EndState
  pub others : List Hop
  pub server : EndState
  pub crosses : FatedCross (fate_of course) input limit e hops f client others server
  pub rests : IsSettled v client others server (λ j. p j + puts_on course j) (λ j. g j + gives_on all course j)
  pub whole : AreWhole input client.sending
  pub still : client.receiving ≡ e.receiving
  pub count : length others ≡ length hops
  pub is_reached : IsReachedBy chain v
  pub copies : Copies input w → Copies input v

-- what a Send of a lossy run has in addition to its course
record Sends (input : ℕ → List ℕ) (e : EndState) (hops : List Hop) (iv : List ℕ) (now : ℤ) : Type 0 where
  long : length iv ≡ 12
  moment : pos 0 ≤ℤ now
  early : int_le (less_time hops (now +ℤ answer_time)) now ≡ false
  left : e.sending.last + 1 < e.sending.config.packets
  forward : (flight : flights.Open) (bytes : List ℕ) (gone : EndState) → Goes e iv now flight bytes gone → AllForward hops bytes now

sends_by : {c : Tally} (input : ℕ → List ℕ) (fates : List losses.Fate) (in_row : ℕ) (e : EndState) (hops : List Hop) (f : EndState) (w v : World) (iv : List ℕ) (now : ℤ) → Stays input c fates in_row e hops f → end_at w Client ≡ e → IsEvent (Send Client iv now) → Step w (Send Client iv now) Sent v → Sends input e hops iv now
sends_by {c} input fates in_row e hops f w v iv now s client lawful goes =
    let some = sent_works (lengths input) e w v iv now s.quiet client goes in
    let early = in_time hops now s.few_hops in
    record {
      long = lawful.0;
      moment = lawful.1.0;
      early = early;
      left = next _ _ _ _ some s.packets;
      forward = forwards c (lengths input) e hops iv now s.quiet s.calm lawful.1.0 early;
    }
  where
    next : (last left lost packets : ℕ) → 0 < left → last + left + lost < packets → last + 1 < packets
    next last left lost packets a b = omega arith

fated_arrives : {c : Tally} (chain : Chain) (input : ℕ → List ℕ) (limit : ℕ) (fates : List losses.Fate) (in_row : ℕ) (e : EndState) (hops : List Hop) (f : EndState) (p g : ℕ → ℕ) (w sent passed v : World) (iv : List ℕ) (now : ℤ) → 32739 ≤ limit → Stays input c fates in_row e hops f → Sends input e hops iv now → IsSettled w e hops f p g
    → Step w (Send Client iv now) Sent sent → Met sent (following Arrives p g (length hops) now) passed → Met passed (reads limit 0 65) v → IsReachedBy chain v → IsFated chain input limit (length hops) Arrives e hops f p g w v
fated_arrives {c} chain input limit fates in_row e hops f p g w sent passed v iv now room s x rest goes passes reads_each reached =
    let n = lengths input in
    let is = crossing_settles w sent passed e hops f p g iv now rest x.forward goes passes in
    let flight = is.flight in
    let load = is.goes.load in
    let over = crossed hops f is.bytes now in
    let back = ended is.gone flight (Some over.answer) in
    let passage : Passage e = record { iv = iv; now = now; later = now; flight = flight; bytes = is.bytes; gone = is.gone; long = x.long; goes = is.goes; in_time = in_time [] now (omega arith); left = x.left } in
    let few = amount_left n e.sending (limits e.receiving) load s.quiet (goes_sends e is.gone iv is.bytes now flight is.goes) in
    let come = crossed_comes n e hops f (all_money_left e.sending + c.spare_all - load.amount) s.quiet s.ahead s.joined s.tellable s.calm passage x.moment x.early (put_back _ _ _ few) in
    let whole : AreWhole input back.sending = subst (λ bytes. AreWhole input (ended is.gone flight (Some bytes)).sending) (sym come.answer) (answered_whole n input e f s.quiet s.ahead s.joined s.tellable s.whole passage) in
    record {
      client = back;
      others = over.hops;
      server = take_each limit 0 65 over.end;
      crosses = record { passage = passage; moment = x.moment; in_time = x.early; passed = refl; reads = refl; writes = sym (whole_still input back whole) };
      rests = settled_as v back over.hops (take_each limit 0 65 over.end) _ _ _ _ (λ j. sym (one_more (p j))) (λ j. sym (one_more (g j)))
          (reads_settle limit 0 65 passed v back over.hops over.end (λ j. suc (p j)) (λ j. suc (g j)) (omega (arith, room)) is.rests reads_each);
      whole = whole;
      still = ap (λ bytes. (ended is.gone flight (Some bytes)).receiving) come.answer ∙ ap (λ (z : EndState). z.receiving) (both_came n e f s.quiet s.ahead s.joined s.tellable passage).here;
      count = crossed_long hops f is.bytes now;
      is_reached = reached;
      copies = λ old. copies_reads input limit 0 65 passed v (omega (arith, room)) reads_each (copies_same input w passed is.ledgers old);
    }

fated_lost : {c : Tally} (chain : Chain) (input : ℕ → List ℕ) (limit at : ℕ) (fates : List losses.Fate) (in_row : ℕ) (e : EndState) (hops : List Hop) (f : EndState) (p g : ℕ → ℕ) (w sent passed v : World) (iv : List ℕ) (now : ℤ) → 32739 ≤ limit → Stays input c fates in_row e hops f → Sends input e hops iv now → IsSettled w e hops f p g
    → Step w (Send Client iv now) Sent sent → Met sent (following (PrepareLost at) p g (length hops) now) passed → Met passed (reads limit 0 65) v → IsReachedBy chain v → IsFated chain input limit (length hops) (PrepareLost at) e hops f p g w v
fated_lost chain input limit at fates in_row e hops f p g w sent passed v iv now room s x rest goes passes reads_each reached =
    let q : ℕ → ℕ = λ j. p j + puts_on (PrepareLost at) j in
    let h : ℕ → ℕ = λ j. g j + gives_on (length hops) (PrepareLost at) j in
    let many : length w.nodes ≡ length hops = sym (map_long w.nodes) ∙ ap length rest.hops_are in
    let is = lost_settles w sent passed e hops f p g q h at iv now rest many (loses_at at (length hops) p g) x.forward goes passes in
    let back = ended is.gone is.flight None in
    let departure : Departure e = record { iv = iv; now = now; flight = is.flight; bytes = is.bytes; gone = is.gone; long = x.long; goes = is.goes; left = x.left } in
    let whole : AreWhole input back.sending = faulted_whole input e is.gone iv is.bytes now is.flight s.quiet.alone is.goes s.whole in
    let others = lost_past at hops is.bytes now in
    record {
      client = back;
      others = others;
      server = take_each limit 0 65 f;
      crosses = record { departure = departure; past = at; later = now; moment = x.moment; in_time = x.early; passed = refl; reads = refl; writes = sym (whole_still input back whole) };
      rests = reads_settle limit 0 65 passed v back others f q h (omega (arith, room)) is.rests reads_each;
      whole = whole;
      still = ap (λ (z : EndState). z.receiving) (goes_faulted e is.gone iv is.bytes now is.flight s.quiet.alone is.goes);
      count = lost_long at hops is.bytes now;
      is_reached = reached;
      copies = λ old. copies_reads input limit 0 65 passed v (omega (arith, room)) reads_each (copies_same input w passed is.ledgers old);
    }

fated_stranded : {c : Tally} (chain : Chain) (input : ℕ → List ℕ) (limit at : ℕ) (fates : List losses.Fate) (in_row : ℕ) (e : EndState) (hops : List Hop) (f : EndState) (p g : ℕ → ℕ) (w sent passed v : World) (iv : List ℕ) (now : ℤ) → 32739 ≤ limit → Stays input c fates in_row e hops f → Sends input e hops iv now → IsSettled w e hops f p g
    → Step w (Send Client iv now) Sent sent → Met sent (following (AnswerLost at) p g (length hops) now) passed → Met passed (reads limit 0 65) v → IsReachedBy chain v → IsFated chain input limit (length hops) (AnswerLost at) e hops f p g w v
fated_stranded chain input limit at fates in_row e hops f p g w sent passed v iv now room s x rest goes passes reads_each reached =
    let q : ℕ → ℕ = λ j. p j + puts_on (AnswerLost at) j in
    let h : ℕ → ℕ = λ j. g j + gives_on (length hops) (AnswerLost at) j in
    let is = stranded_settles w sent passed e hops f p g q h at iv now rest (λ j. one_more (p j)) (λ j. one_more (g j)) x.forward goes passes in
    let back = ended is.gone is.flight None in
    let passage : Passage e = record { iv = iv; now = now; later = now; flight = is.flight; bytes = is.bytes; gone = is.gone; long = x.long; goes = is.goes; in_time = in_time [] now (omega arith); left = x.left } in
    let whole : AreWhole input back.sending = faulted_whole input e is.gone iv is.bytes now is.flight s.quiet.alone is.goes s.whole in
    let left = unanswered_past at hops f is.bytes now in
    record {
      client = back;
      others = left.hops;
      server = take_each limit 0 65 left.end;
      crosses = record { passage = passage; past = at; moment = x.moment; in_time = x.early; passed = refl; reads = refl; writes = sym (whole_still input back whole) };
      rests = reads_settle limit 0 65 passed v back left.hops left.end q h (omega (arith, room)) is.rests reads_each;
      whole = whole;
      still = ap (λ (z : EndState). z.receiving) (goes_faulted e is.gone iv is.bytes now is.flight s.quiet.alone is.goes);
      count = unanswered_long at hops f is.bytes now;
      is_reached = reached;
      copies = λ old. copies_reads input limit 0 65 passed v (omega (arith, room)) reads_each (copies_same input w passed is.ledgers old);
    }

fated_by : {c : Tally} (chain : Chain) (input : ℕ → List ℕ) (limit : ℕ) (course : Course) (fates : List losses.Fate) (in_row : ℕ) (e : EndState) (hops : List Hop) (f : EndState) (p g : ℕ → ℕ) (w sent passed v : World) (iv : List ℕ) (now : ℤ) → 32739 ≤ limit → Stays input c fates in_row e hops f → Sends input e hops iv now → IsSettled w e hops f p g
    → Step w (Send Client iv now) Sent sent → Met sent (following course p g (length hops) now) passed → Met passed (reads limit 0 65) v → IsReachedBy chain v → IsFated chain input limit (length hops) course e hops f p g w v
fated_by chain input limit Arrives fates in_row e hops f p g w sent passed v iv now room s x rest goes passes reads_each reached = fated_arrives chain input limit fates in_row e hops f p g w sent passed v iv now room s x rest goes passes reads_each reached
fated_by chain input limit (PrepareLost at) fates in_row e hops f p g w sent passed v iv now room s x rest goes passes reads_each reached = fated_lost chain input limit at fates in_row e hops f p g w sent passed v iv now room s x rest goes passes reads_each reached
fated_by chain input limit (AnswerLost at) fates in_row e hops f p g w sent passed v iv now room s x rest goes passes reads_each reached = fated_stranded chain input limit at fates in_row e hops f p g w sent passed v iv now room s x rest goes passes reads_each reached

round_fates : {c : Tally} (chain : Chain) (input : ℕ → List ℕ) (limit all : ℕ) (course : ℕ → Course) (count : ℕ) (fates : List losses.Fate) (in_row : ℕ) (e : EndState) (hops : List Hop) (f : EndState) (w v : World) → 32739 ≤ limit → all ≡ length hops → Stays input c fates in_row e hops f → IsReachedBy chain w
    → IsSettled w e hops f (puts_by course count) (gives_by all course count) → FatedRound limit all course count w v → IsFated chain input limit all (course count) e hops f (puts_by course count) (gives_by all course count) w v
round_fates chain input limit all course count fates in_row e hops f w v room same s reached rest x =
    let p = puts_by course count in
    let g = gives_by all course count in
    let sends = sends_by input fates in_row e hops f w x.sent x.iv x.now s rest.client x.lawful x.goes in
    let sent_reached = reached_met chain (Send Client x.iv x.now ∷ []) w x.sent reached (x.sent, Sent, x.lawful, x.goes, refl) in
    let passed_reached = reached_met chain (following (course count) p g all x.now) x.sent x.passed sent_reached x.passes in
    let read_reached = reached_met chain (reads limit 0 65) x.passed v passed_reached x.reads_each in
    let passes : Met x.sent (following (course count) p g (length hops) x.now) x.passed = subst (λ k. Met x.sent (following (course count) p g k x.now) x.passed) same x.passes in
    subst (λ k. IsFated chain input limit k (course count) e hops f p g w v) (sym same) (fated_by chain input limit (course count) fates in_row e hops f p g w x.sent x.passed v x.iv x.now room s sends rest x.goes passes x.reads_each read_reached)

-- ---- m rounds

pub record AreFated (chain : Chain) (input : ℕ → List ℕ) (limit all : ℕ) (course : ℕ → Course) (count m : ℕ) (e : EndState) (hops : List Hop) (f : EndState) (w v : World) (run : FatedRounds limit all course count m w v) : Type 0 where
  pub client : EndState
  pub others : List Hop
  pub server : EndState
  pub crosses : FatedCrosses input limit (fates_of course count m) e hops f client others server
  pub rests : IsSettled v client others server (puts_by course (count + m)) (gives_by all course (count + m))
  pub quiet : IsQuiet (lengths input) client.sending
  pub unclosed : client.receiving.closed ≡ false
  pub is_reached : IsReachedBy chain v
  pub copies : Copies input v
  pub offers : (k : ℕ) → offer_of (outgoing_at client.sending k) ≡ offer_of (outgoing_at e.sending k)
  pub credits : server.receiving.credit + all_money_left client.sending ≡ f.receiving.credit + all_money_left e.sending + carried_by limit all course count m w v run
  pub small : server.receiving.credit < 2 ^ 63

carried_same : (course : Course) (w v : World) (before after : ℕ) → (end_at w Server).receiving.credit ≡ before → (end_at v Server).receiving.credit ≡ after → carried (fate_of course) before after ≡ carried_in course w v
carried_same Arrives w v before after a b = refl
carried_same (PrepareLost at) w v before after a b = refl
carried_same (AnswerLost at) w v before after a b = omega (arith, a, b)

pub rounds_fates : (chain : Chain) (input : ℕ → List ℕ) (limit all : ℕ) (course : ℕ → Course) (m count in_row : ℕ) (c : Tally) (e : EndState) (hops : List Hop) (f : EndState) (w v : World) → 32739 ≤ limit → IsModest (lengths input) → all ≡ length hops → Stays input c (fates_of course count m) in_row e hops f → Copies input w → IsReachedBy chain w
    → IsSettled w e hops f (puts_by course count) (gives_by all course count) → (run : FatedRounds limit all course count m w v) → AreFated chain input limit all course count m e hops f w v run
rounds_fates chain input limit all course zero count in_row c e hops f w v room modest same s copies reached rest run =
    let none : count ≡ count + 0 = omega arith in
    record {
      client = e;
      others = hops;
      server = f;
      crosses = (refl, refl, refl);
      rests = subst (λ k. IsSettled v e hops f (puts_by course k) (gives_by all course k)) none (subst (λ z. IsSettled z e hops f (puts_by course count) (gives_by all course count)) (sym run) rest);
      quiet = s.quiet;
      unclosed = s.unclosed;
      is_reached = subst (IsReachedBy chain) (sym run) reached;
      copies = subst (Copies input) (sym run) copies;
      offers = λ k. refl;
      credits = omega arith;
      small = (let few = s.ahead.credit in omega (arith, few));
    }
rounds_fates chain input limit all course (suc m) count in_row c e hops f w v room modest same s copies reached rest run =
    let mid = run.0 in
    let one = round_fates chain input limit all course count (fates_of course count (suc m)) in_row e hops f w mid room same s reached rest run.1 in
    let next = send_stays input limit c (fate_of (course count)) (fates_of course (suc count) m) in_row e hops f one.client one.others one.server room modest s one.crosses one.whole one.still one.count in
    let more = rounds_fates chain input limit all course m (suc count) next.in_row next.tally one.client one.others one.server mid v room modest (same ∙ sym one.count) next.stays (one.copies copies) one.is_reached one.rests run.2 in
    let before : (end_at w Server).receiving.credit ≡ f.receiving.credit = ap (λ (z : EndState). z.receiving.credit) rest.server in
    let after : (end_at mid Server).receiving.credit ≡ one.server.receiving.credit = ap (λ (z : EndState). z.receiving.credit) one.rests.server in
    let carried_here = carried_same (course count) w mid f.receiving.credit one.server.receiving.credit before after in
    let all_now = more.credits in
    let now = next.credits in
    record {
      client = more.client;
      others = more.others;
      server = more.server;
      crosses = (one.client, one.others, one.server, one.crosses, more.crosses);
      rests = subst (λ k. IsSettled v more.client more.others more.server (puts_by course k) (gives_by all course k)) (let is : suc count + m ≡ count + suc m = omega arith in is) more.rests;
      quiet = more.quiet;
      unclosed = more.unclosed;
      is_reached = more.is_reached;
      copies = more.copies;
      offers = λ k. more.offers k ∙ next.offers k;
      credits = added _ _ _ _ _ _ all_now now carried_here;
      small = more.small;
    }
  where
    added : (last middle first rest here is : ℕ) → last ≡ middle + rest → middle ≡ first + here → here ≡ is → last ≡ first + (is + rest)
    added last middle first rest here is a b d = omega arith

-- ---- from the opening on

-- a client that opened `streams` streams, and a server that accepts their money and what lost answers may carry
pub record LossyBegun (c : Chain) (input : ℕ → List ℕ) (money : ℕ → ℕ) (streams answers : ℕ) (e : EndState) (hops : List Hop) (f : EndState) (begun : World) : Type 0 where
  pub opens : Opens (lengths input) money c.config answers e f
  pub begins : IsBegun 1 (lengths input) money c.config e
  pub quiet : IsQuiet (lengths input) e.sending
  pub ahead : IsAhead (lengths input) (opening_tally answers e.sending) e.sending f.receiving
  pub rests : IsSettled begun e hops f (λ j. 0) (λ j. 0)
  pub is_reached : IsReachedBy c begun
  pub opened : OpenTo streams e

pub lossy_begun : (c : Chain) (input : ℕ → List ℕ) (money most : ℕ → ℕ) (streams answers : ℕ) (allowed begun : World) → MaySend c.config → IsModest (lengths input) → IsModest most → MayLose answers c.config money most → Met (opening c) (allows most 0 65) allowed → BeginsEach input money streams allowed begun
    → LossyBegun c input money streams answers (opening_client c input money streams) (map state_of (map new_node c.hops)) (allow_each most 0 65 (new_end roles.Server (keys_of c.secret) c.server c.client c.config)) begun
lossy_begun c input money most streams A allowed begun may_send input_fits most_fits lose allows_each begins_each = record {
  opens = opens;
  begins = calls_begun roles.Client (keys_of c.secret) c.client c.server c.config input money streams input_fits (modest_money A c.config money most lose);
  quiet = quiet;
  ahead = ahead;
  rests = all.0;
  is_reached = all.1;
  opened = subst (λ l. OpenTo l e) (let same : 0 + streams ≡ streams = omega arith in same) all.2;
}
  where
    n : ℕ → ℕ
    n = lengths input

    new : EndState
    new = new_end roles.Client (keys_of c.secret) c.client c.server c.config

    e : EndState
    e = opening_client c input money streams

    f : EndState
    f = allow_each most 0 65 (new_end roles.Server (keys_of c.secret) c.server c.client c.config)

    hops : List Hop
    hops = map state_of (map new_node c.hops)

    opens : Opens n money c.config A e f
    opens = calls_lose roles.Client (keys_of c.secret) c.client c.server c.config c.config input money most streams A may_send input_fits most_fits lose

    quiet : IsQuiet n e.sending
    quiet = opening_quiet n c.config e.sending opens.opening

    ahead : IsAhead n (opening_tally A e.sending) e.sending f.receiving
    ahead = subst (λ (r : Receiving). IsAhead n (opening_tally A e.sending) e.sending r) (sym opens.is) (opening_room n c.config A e.sending opens.parity opens.kept input_fits opens.opening opens.allows)

    unread : NoReads f
    unread k = ahead.level refl k ∙ acked_sent e.sending k (outgoing_at e.sending k) quiet.alone refl ∙ acks_begun_each input money streams new (no_acks_first roles.Client (keys_of c.secret) c.client c.server c.config) k

    all : IsSettled begun e hops f (λ j. 0) (λ j. 0) × IsReachedBy c begun × OpenTo (0 + streams) e
    all = begins_all c input money streams 0 allowed begun new hops f 0 (reached_met c (allows most 0 65) (opening c) allowed (reached_first c) allows_each)
        (allows_rest most 0 65 (opening c) allowed new hops (new_end roles.Server (keys_of c.secret) c.server c.client c.config) 0 (opening_rests c) allows_each) (no_acks_first roles.Client (keys_of c.secret) c.client c.server c.config) unread (nothing_open c.config (keys_of c.secret) c.client c.server) begins_each

pub record LossyOpening (c : Chain) (input : ℕ → List ℕ) (money : ℕ → ℕ) (streams : ℕ) (fates : List losses.Fate) (e : EndState) (hops : List Hop) (f : EndState) (begun : World) : Type 0 where
  pub begun_is : LossyBegun c input money streams (lost_answers fates) e hops f begun
  pub peer : e.peer ≡ c.server
  pub wide : AreWide c.server (lost_answers fates) c.config e.sending hops
  pub stays : Stays input (opening_tally (lost_answers fates) e.sending) fates 0 e hops f
  pub long : length hops ≡ length c.hops
  pub copies : Copies input begun

pub lossy_opening : (c : Chain) (input : ℕ → List ℕ) (money most : ℕ → ℕ) (streams limit : ℕ) (fates : List losses.Fate) (allowed begun : World) → MayRunLossy c input money most streams limit fates → Met (opening c) (allows most 0 65) allowed → BeginsEach input money streams allowed begun
    → LossyOpening c input money streams fates (opening_client c input money streams) (map state_of (map new_node c.hops)) (allow_each most 0 65 (new_end roles.Server (keys_of c.secret) c.server c.client c.config)) begun
lossy_opening c input money most streams limit fates allowed begun may allows_each begins_each = record {
  begun_is = b;
  peer = peer;
  wide = wide;
  stays = record {
    quiet = b.quiet;
    ahead = b.ahead;
    spare = opening_spare A e.sending;
    joined = b.opens.joined;
    tellable = b.opens.tellable;
    held_back = b.begins.held_back;
    calm = subst (λ x. AllByRecursion (IsCalm x e.sending.last e.sending.packet_limit (all_money_left e.sending + A * e.sending.packet_limit)) hops) (sym peer)
        (subst (λ l. AllByRecursion (IsCalm c.server e.sending.last e.sending.packet_limit (all_money_left e.sending + A * l)) hops) (sym b.opens.limit) wide);
    failures = ap (λ (z : Sending). z.failures) b.opens.opening.rest;
    few = may.few;
    whole = begun_whole 1 input money c.config e may.short b.begins;
    packets = packets;
    unclosed = b.begins.unclosed;
    few_hops = (let few = may.few_hops in omega (arith, few, long));
  };
  long = long;
  copies = copies_begins_each input money streams allowed begun begins_each (copies_allows input most 0 65 (opening c) allowed allows_each (copies_first c input));
}
  where
    A : ℕ
    A = lost_answers fates

    e : EndState
    e = opening_client c input money streams

    f : EndState
    f = allow_each most 0 65 (new_end roles.Server (keys_of c.secret) c.server c.client c.config)

    hops : List Hop
    hops = map state_of (map new_node c.hops)

    b : LossyBegun c input money streams A e hops f begun
    b = lossy_begun c input money most streams A allowed begun may.may_send may.input_fits may.most_fits may.lose allows_each begins_each

    peer : e.peer ≡ c.server
    peer = (begin_same input money streams (new_end roles.Client (keys_of c.secret) c.client c.server c.config)).peer

    within : (left all spare : ℕ) → left ≤ all → left + spare ≤ all + spare
    within left all spare l = omega arith

    wide : AreWide c.server A c.config e.sending hops
    wide = subst (λ l. AllByRecursion (IsCalm c.server e.sending.last l (all_money_left e.sending + A * c.config.packet_limit)) hops) (sym b.opens.limit)
        (calm_tables c.server e.sending.last c.config.packet_limit (all_money_left e.sending + A * c.config.packet_limit) (all_of money + A * c.config.packet_limit) c.hops
        (within _ _ (A * c.config.packet_limit) (money_most 1 (lengths input) money c.config e b.begins)) may.lose.all may.room)

    numbers : (last left lost packets all : ℕ) → last ≡ 0 → packets ≡ all → left + lost < all → last + left + lost < packets
    numbers last left lost packets all a b l = omega arith

    packets : e.sending.last + work_left (lengths input) e.sending + losses.losses fates < e.sending.config.packets
    packets = let last : e.sending.last ≡ 0 = ap (λ (z : Sending). z.last) b.begins.rest in let same : e.sending.config ≡ c.config = ap (λ (z : Sending). z.config) b.begins.rest in
        let many = ap (λ (z : Config). z.packets) same in numbers _ _ _ _ _ last many may.packets

    tables_long : (ts : List Table) → length (map state_of (map new_node ts)) ≡ length ts
    tables_long [] = refl
    tables_long (t ∷ ts) = let is = tables_long ts in omega (arith, is)

    long : length hops ≡ length c.hops
    long = tables_long c.hops
