-- The laws of a lossless run over hops, as sentences. A Send is a call of `send`.
use Rattle.std.specs.Prelude.{◌≡◌, ℕ, ◌+◌, ◌*◌, ◌-ℤ◌, ◌<◌, ◌≤◌, ◌^◌, ℤ, true, false, int_le, int_lt, List, [], ◌∷◌, length, sum, is_ok, Ok}
use Rattle.std.specs.declared.option.Option.TheVariants.{Some}
use Rattle.st_ilp.specs.Packets.{Fulfilled, PreparePacket}
use Rattle.st_ilp.specs.Spelling.{prepare_text}
use Rattle.st_ilp.specs.Reading.{answer_at}
use Rattle.st_ilp.specs.Laws.{IsPrepare}
use Rattle.st_hop.specs.declared.account.Account.{Account}
use Rattle.st_hop.specs.Hop.{Hop, Way, holding}
use Rattle.st_hop.specs.Table.{new_hop}
use Rattle.st_hop.specs.Arriving.{Forwards, arrived, hop_time}
use Rattle.st_hop.specs.Settling.{fits, settled}
use Rattle.st_keys.specs.Keys.{DerivedKeys}
use Rattle.st_sender.specs.Sending.{Config, Outgoing, outgoing_at}
use Rattle.st_receiver.specs.Streams.{incoming_at}
use Rattle.st_receiver.specs.Reading.{End, got}
use Rattle.st_end.specs.State.{EndState, new_end}
use Rattle.st_end.specs.declared.role.Role.{Role}
use Rattle.st_world_quiet.specs.Left.{bound, work_left}
use Rattle.st_world_quiet.specs.Exchanges.{IsModest}
use Rattle.st_world_quiet.specs.Calls.{MaySend, allow_each, begin_each, lengths, other}
use Rattle.st_world_quiet.specs.Trips.{Turn}
use Rattle.st_world_quiet.specs.Calm.{AreCalm, HasRoom, IsCalm, LeadsOn, after_one, earlier, ticket_of}
use Rattle.st_end.specs.declared.flight.Open as flights
use Rattle.st_end.specs.Sending.{Goes, GoesNone}
use Rattle.st_world_parts.specs.Sides.{Client, Server}
use Rattle.st_world_parts.specs.State.{World, end_at, direction_at, log_at}
use Rattle.st_world_parts.specs.Events.{Send, Sent}
use Rattle.st_world.specs.Steps.{Step}
use Rattle.st_world_quiet.specs.Chains.{Crossing, Crossings, Stands}
use Rattle.st_oer.specs.Address.{is_address}
use Rattle.st_world.specs.Runs.{Chain, is_chain, opening}
use Rattle.st_end.specs.Calls.{open_stream}
use Rattle.st_world_quiet.specs.HopRounds.{BeginsEach, MayRun, QuietRun, allows, opening_client, reads}
use Rattle.st_world_quiet.specs.Worlds.{AllForward, HasCrossed, HasPassed, IsAtRest, Met, passing}
use Rattle.st_world_quiet.specs.Plays.{IsDelivered, MayPlay, are_lawful, input_of, money_of, most_sends, sends_needed}

-- a calm hop forwards a Prepare unchanged but for its expiry, and holds its ticket
abbrev pub CalmHopForwards : Type 0
CalmHopForwards =
    (destination : List ℕ) (sent most left after : ℕ) (h : Hop) (p : PreparePacket) (now : ℤ)
    → IsCalm destination sent most left h
    → IsPrepare p
    → HasRoom destination sent most left after p
    → int_le (p.expiry -ℤ hop_time) now ≡ false
    → arrived h 0 (prepare_text p) now ≡ (Forwards (ticket_of h p) 1 (prepare_text (earlier p)), holding h (ticket_of h p))

-- it sends the fitting Fulfill back with the same bytes
abbrev pub CalmHopSendsBack : Type 0
CalmHopSendsBack =
    (h : Hop) (p : PreparePacket) (bytes text payload : List ℕ) (now : ℤ)
    → answer_at bytes ≡ Ok (Fulfilled text payload)
    → fits text p.condition ≡ true
    → int_lt now (earlier p).expiry ≡ true
    → settled (holding h (ticket_of h p)) (ticket_of h p) (Some bytes) now ≡ (bytes, after_one h p)

-- and is calm again
abbrev pub CalmHopStaysCalm : Type 0
CalmHopStaysCalm =
    (destination : List ℕ) (sent most left after : ℕ) (h : Hop) (p : PreparePacket)
    → IsCalm destination sent most left h
    → HasRoom destination sent most left after p
    → IsCalm destination (sent + 1) most after (after_one h p)

-- a new hop with a route to the destination and room towards the client is calm
abbrev pub NewHopIsCalm : Type 0
NewHopIsCalm =
    (destination own : List ℕ) (client server : Account) (routes : List Way) (most left : ℕ)
    → LeadsOn (new_hop own (client ∷ server ∷ []) routes) destination
    → most ≤ client.max_packet
    → left ≤ client.limit
    → left < 2 ^ 63
    → IsCalm destination 0 most left (new_hop own (client ∷ server ∷ []) routes)

-- to both ends a Prepare and its answer over calm hops are as without hops
abbrev pub CrossingIsTurn : Type 0
CrossingIsTurn =
    (input : ℕ → List ℕ) (limit : ℕ) (e f g h : EndState) (hops others : List Hop)
    → 32739 ≤ limit
    → IsModest (lengths input)
    → Stands input e f
    → AreCalm e.peer e.sending hops
    → Crossing input limit e hops f g others h
    → Turn input limit e f g h

-- what is so of both ends at the start is so again
abbrev pub CrossingKeepsStanding : Type 0
CrossingKeepsStanding =
    (input : ℕ → List ℕ) (limit : ℕ) (e f g h : EndState) (hops others : List Hop)
    → 32739 ≤ limit
    → IsModest (lengths input)
    → Stands input e f
    → AreCalm e.peer e.sending hops
    → Crossing input limit e hops f g others h
    → Stands input g h

-- and the hops are calm again
abbrev pub CrossingLeavesCalm : Type 0
CrossingLeavesCalm =
    (input : ℕ → List ℕ) (limit : ℕ) (e f g h : EndState) (hops others : List Hop)
    → 32739 ≤ limit
    → IsModest (lengths input)
    → Stands input e f
    → AreCalm e.peer e.sending hops
    → Crossing input limit e hops f g others h
    → AreCalm g.peer g.sending others

-- a run over hops has fewer Sends than the bound
abbrev pub CrossingsAreBounded : Type 0
CrossingsAreBounded =
    (role : Role) (keys : DerivedKeys) (own peer : List ℕ) (config its_config : Config) (input : ℕ → List ℕ)
    (money : ℕ → ℕ) (count limit m : ℕ) (hops others : List Hop) (g h : EndState)
    → 32739 ≤ limit
    → MaySend config
    → IsModest (lengths input)
    → IsModest money
    → (let e = begin_each input money count (new_end role keys own peer config) in
    let f = allow_each money 0 65 (new_end (other role) keys peer own its_config) in
    AreCalm peer e.sending hops
    → Crossings input limit m e hops f g others h
    → m + 1 ≤ bound (lengths input) e.sending)

-- and no more than the work that is done
abbrev pub CrossingsAreWorkDone : Type 0
CrossingsAreWorkDone =
    (role : Role) (keys : DerivedKeys) (own peer : List ℕ) (config its_config : Config) (input : ℕ → List ℕ)
    (money : ℕ → ℕ) (count limit m : ℕ) (hops others : List Hop) (g h : EndState)
    → 32739 ≤ limit
    → MaySend config
    → IsModest (lengths input)
    → IsModest money
    → (let e = begin_each input money count (new_end role keys own peer config) in
    let f = allow_each money 0 65 (new_end (other role) keys peer own its_config) in
    AreCalm peer e.sending hops
    → Crossings input limit m e hops f g others h
    → m + work_left (lengths input) g.sending ≤ work_left (lengths input) e.sending)

-- and delivered all, if nothing is left
abbrev pub CrossingsDeliver : Type 0
CrossingsDeliver =
    (role : Role) (keys : DerivedKeys) (own peer : List ℕ) (config its_config : Config) (input : ℕ → List ℕ)
    (money : ℕ → ℕ) (count limit m k : ℕ) (hops others : List Hop) (g h : EndState) (x : Outgoing)
    → 32739 ≤ limit
    → MaySend config
    → IsModest (lengths input)
    → IsModest money
    → (let e = begin_each input money count (new_end role keys own peer config) in
    let f = allow_each money 0 65 (new_end (other role) keys peer own its_config) in
    AreCalm peer e.sending hops
    → Crossings input limit m e hops f g others h
    → work_left (lengths input) g.sending ≡ 0
    → outgoing_at g.sending k ≡ Some x
    → ((incoming_at h.receiving k).held.read ≡ length (input k)) × ((incoming_at h.receiving k).credited ≡ x.offered))

-- a Send that each hop forwards, with its arrivals, is a crossing of the world
abbrev pub PrepareCrossesWorld : Type 0
PrepareCrossesWorld =
    (w mid v : World) (e f : EndState) (hops : List Hop) (count : ℕ) (iv : List ℕ) (now : ℤ)
    → IsAtRest w e hops f count
    → ((flight : flights.Open) (bytes : List ℕ) (gone : EndState) → Goes e iv now flight bytes gone → AllForward hops bytes now)
    → Step w (Send Client iv now) Sent mid
    → Met mid (passing (length hops) (count + 1) now) v
    → HasCrossed w e hops f count iv now v

-- over each lawful chain with room a run of one round crosses
abbrev pub APrepareMayCross : Type 0
APrepareMayCross =
    (c : Chain) (limit : ℕ)
    → is_chain c ≡ true
    → is_address c.server ≡ true
    → MayPlay c ([] ∷ []) (0 ∷ [])
    → 32739 ≤ limit
    → (v : World)
    × QuietRun c (input_of ([] ∷ [])) (money_of (0 ∷ [])) 1 limit 1 v
    × ((link : ℕ) → link ≤ length v.nodes → HasPassed 1 (direction_at v link Client))
    × (work_left (lengths (input_of ([] ∷ []))) (end_at v Client).sending ≡ 0)

-- a lossless run of a world has fewer Sends than the bound
abbrev pub QuietRunIsBounded : Type 0
QuietRunIsBounded =
    (c : Chain) (input : ℕ → List ℕ) (money : ℕ → ℕ) (count limit m : ℕ) (v : World)
    → MayRun c input money count limit
    → QuietRun c input money count limit m v
    → m + 1 ≤ bound (lengths input) (opening_client c input money count).sending

-- and no more than the work that is done
abbrev pub QuietRunIsWorkDone : Type 0
QuietRunIsWorkDone =
    (c : Chain) (input : ℕ → List ℕ) (money : ℕ → ℕ) (count limit m : ℕ) (v : World)
    → MayRun c input money count limit
    → QuietRun c input money count limit m v
    → m + work_left (lengths input) (end_at v Client).sending ≤ work_left (lengths input) (opening_client c input money count).sending

-- the first link has a Prepare for each
abbrev pub QuietRunSends : Type 0
QuietRunSends =
    (c : Chain) (input : ℕ → List ℕ) (money : ℕ → ℕ) (count limit m : ℕ) (v : World)
    → MayRun c input money count limit
    → QuietRun c input money count limit m v
    → length (direction_at v 0 Client).prepares ≡ m

-- each of its streams is open
abbrev pub QuietRunOpens : Type 0
QuietRunOpens =
    (c : Chain) (input : ℕ → List ℕ) (money : ℕ → ℕ) (count limit m i : ℕ) (v : World)
    → MayRun c input money count limit
    → QuietRun c input money count limit m v
    → i < count
    → (x : Outgoing) × (outgoing_at (end_at v Client).sending (2 * i + 1) ≡ Some x)

-- at its end each stream was read and its money credited
abbrev pub QuietRunDelivers : Type 0
QuietRunDelivers =
    (c : Chain) (input : ℕ → List ℕ) (money : ℕ → ℕ) (count limit m k : ℕ) (v : World) (x : Outgoing)
    → MayRun c input money count limit
    → QuietRun c input money count limit m v
    → GoesNone (end_at v Client)
    → outgoing_at (end_at v Client).sending k ≡ Some x
    → ((incoming_at (end_at v Server).receiving k).held.read ≡ length (input k))
    × ((incoming_at (end_at v Server).receiving k).credited ≡ money k)

-- its whole input was written and read
abbrev pub QuietRunReadsWhole : Type 0
QuietRunReadsWhole =
    (c : Chain) (input : ℕ → List ℕ) (money : ℕ → ℕ) (count limit m k : ℕ) (v : World) (x : Outgoing)
    → MayRun c input money count limit
    → QuietRun c input money count limit m v
    → GoesNone (end_at v Client)
    → outgoing_at (end_at v Client).sending k ≡ Some x
    → ((log_at v Client k).read ≡ input k) × ((log_at v Client k).written ≡ input k)

-- and a read of it gives the end
abbrev pub QuietRunEnds : Type 0
QuietRunEnds =
    (c : Chain) (input : ℕ → List ℕ) (money : ℕ → ℕ) (count limit m k most : ℕ) (v : World) (x : Outgoing)
    → MayRun c input money count limit
    → QuietRun c input money count limit m v
    → GoesNone (end_at v Client)
    → outgoing_at (end_at v Client).sending k ≡ Some x
    → got most (incoming_at (end_at v Server).receiving k).held ≡ End

-- a run with these lists has fewer Sends than they give
abbrev pub PlayedRunIsBounded : Type 0
PlayedRunIsBounded =
    (c : Chain) (xs : List (List ℕ)) (ms : List ℕ) (limit m : ℕ) (v : World)
    → are_lawful xs ms ≡ true
    → MayPlay c xs ms
    → 32739 ≤ limit
    → QuietRun c (input_of xs) (money_of ms) (length xs) limit m v
    → m + 1 ≤ most_sends c.config.packet_limit xs ms

-- and no more than they need
abbrev pub PlayedRunIsNeeded : Type 0
PlayedRunIsNeeded =
    (c : Chain) (xs : List (List ℕ)) (ms : List ℕ) (limit m : ℕ) (v : World)
    → are_lawful xs ms ≡ true
    → MayPlay c xs ms
    → 32739 ≤ limit
    → QuietRun c (input_of xs) (money_of ms) (length xs) limit m v
    → m ≤ sends_needed c.config.packet_limit xs ms

-- after a last read of each stream all was delivered
abbrev pub PlayedRunDelivers : Type 0
PlayedRunDelivers =
    (c : Chain) (xs : List (List ℕ)) (ms : List ℕ) (limit m : ℕ) (v w : World)
    → are_lawful xs ms ≡ true
    → MayPlay c xs ms
    → 32739 ≤ limit
    → QuietRun c (input_of xs) (money_of ms) (length xs) limit m v
    → GoesNone (end_at v Client)
    → Met v (reads limit 0 65) w
    → IsDelivered xs ms w

-- the server has all money
abbrev pub PlayedRunCredits : Type 0
PlayedRunCredits =
    (c : Chain) (xs : List (List ℕ)) (ms : List ℕ) (limit m : ℕ) (v w : World)
    → are_lawful xs ms ≡ true
    → MayPlay c xs ms
    → 32739 ≤ limit
    → QuietRun c (input_of xs) (money_of ms) (length xs) limit m v
    → GoesNone (end_at v Client)
    → Met v (reads limit 0 65) w
    → (end_at w Server).receiving.credit ≡ sum ms

-- the first link has a Prepare for each Send
abbrev pub PlayedRunSends : Type 0
PlayedRunSends =
    (c : Chain) (xs : List (List ℕ)) (ms : List ℕ) (limit m : ℕ) (v w : World)
    → are_lawful xs ms ≡ true
    → MayPlay c xs ms
    → 32739 ≤ limit
    → QuietRun c (input_of xs) (money_of ms) (length xs) limit m v
    → Met v (reads limit 0 65) w
    → length (direction_at w 0 Client).prepares ≡ m

-- and each stream that is left to be opened can be
abbrev pub PlayedRunOpens : Type 0
PlayedRunOpens =
    (c : Chain) (xs : List (List ℕ)) (ms : List ℕ) (opened : ℕ) (allowed begun : World)
    → are_lawful xs ms ≡ true
    → MayPlay c xs ms
    → Met (opening c) (allows (money_of ms) 0 65) allowed
    → BeginsEach (input_of xs) (money_of ms) opened allowed begun
    → opened < length xs
    → is_ok (open_stream (end_at begun Client)).0 ≡ true
