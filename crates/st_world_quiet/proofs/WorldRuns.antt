-- A lossless run of a world from its opening is a run of crossings, so it has the same bound, and delivers the same.
use Rattle.std.proofs.Common.{max, is_some, ◌*◌, ◌++◌, append-nil, length-append, ◌≡◌, ℕ, Bool, zero, suc, ◌+◌, ◌^◌, ◌<◌, ◌≤◌, true, false, List, [], ◌∷◌, length, map, replicate, refl, sym, ap, subst, ◌∙◌, arith, ℤ, Option, None, Some, Result, Ok, inl, inr, take, cond, nat_eq}
use Rattle.std.specs.List.{AllByRecursion}
use Rattle.std.proofs.lemmas.Bool.{cases_lt}
use Rattle.st_hop.specs.Hop.{Hop}
use Rattle.st_keys.specs.Keys.{keys_of, DerivedKeys}
use Rattle.st_sender.specs.Sending.{Config, Outgoing, Sending, new_outgoing, outgoing_at, changed, with_outgoing}
use Rattle.st_receiver.specs.Streams.{incoming_at}
use Rattle.st_receiver.specs.Limits.{limits}
use Rattle.st_streams.specs.declared.end_error.EndError.{EndError}
use Rattle.st_end.specs.declared.role.Role.TheVariants as roles
use Rattle.st_end.specs.State.{EndState, new_end}
use Rattle.st_end.specs.Calls.{offer, open_stream, set_receive_max, connection_refusal, opened_unless, opening_as, own_number, refusal}
use Rattle.st_end.specs.Sending.{Goes, GoesNone}
use Rattle.st_world_parts.specs.Sides.{Client, Server, at, IsPrefixOf}
use Rattle.st_world_parts.specs.State.{World, end_at, direction_at, empty_link, log_at}
use Rattle.st_world_parts.specs.Events.{Opened, Send, Sent, Silent, Told, Offer, OpenStream}
use Rattle.st_world.specs.Steps.{Step}
use Rattle.st_world.specs.Runs.{Chain, Table, new_node, opening}
use Rattle.st_world.proofs.Lanes.{empty_direction}
use Rattle.st_world_quiet.specs.Quiet.{IsQuiet}
use Rattle.st_world_quiet.specs.Left.{all_money_left, bound, money_left, work_left}
use Rattle.st_world_quiet.specs.Rounds.{IsRefilled}
use Rattle.st_world_quiet.specs.Exchanges.{IsModest}
use Rattle.st_world_quiet.specs.Calls.{MaySend, allow_each, begin_each, begun, lengths}
use Rattle.st_world_quiet.specs.Trips.{Turns}
use Rattle.st_world_quiet.proofs.Sums.{sum_below}
use Rattle.st_world_quiet.proofs.Lowering.{none_goes, some_goes, zero_prepares}
use Rattle.st_world_quiet.proofs.Allowing.{calls_allow}
use Rattle.st_world.proofs.DataSent.{OutFine}
use Rattle.st_world_quiet.proofs.Bound.{all_done, within_bound}
use Rattle.st_world_quiet.proofs.Beginning.{IsBegun, calls_begun}
use Rattle.st_world_quiet.proofs.SameEnds.{begin_same}
use Rattle.st_world_quiet.proofs.EndRounds.{offer_of, rounds_lower}
use Rattle.st_world_quiet.proofs.Exchanging.{exchanges_rounds}
use Rattle.st_world_quiet.proofs.Running.{run_delivered}
use Rattle.st_world_quiet.proofs.Trips.{goes_sends, receiving_still, trips_exchanges}
use Rattle.st_world_quiet.proofs.Turns.{turn_spends, turn_trip, turns_trips}
use Rattle.std.specs.Ordering.{nat_cmp}
use Rattle.std.specs.FinMap as fmap
use Rattle.st_world_parts.specs.StreamLogs.{ledger_or}
use Rattle.std.proofs.lemmas.Bool.Decides.{nat_tests}
use Rattle.st_reassembly.specs.Held.{Held}
use Rattle.st_reassembly.specs.Run.{run}
use Rattle.st_receiver.specs.Reading.{End, Nothing, got, got_by, got_bytes, is_read}
use Rattle.st_world_quiet.specs.Mirrored.{IsAbreast}
use Rattle.st_world_quiet.proofs.Reading.{run_is_all}
use Rattle.st_reassembly.proofs.Runs.{is_run}
use Rattle.st_world_quiet.proofs.Ended.{AreEnded, exchange_ended}
use Rattle.st_world_quiet.proofs.Opened.{OpenTo, opens_next, place_of}
use Rattle.st_world_quiet.specs.Calm.{AreCalm, IsCalm}
use Rattle.st_world_quiet.specs.Chains.{Crossing, Crossings, Stands}
use Rattle.st_world_quiet.specs.Worlds.{IsAtRest, Met, state_of}
use Rattle.st_world_quiet.specs.HopRounds.{Begins, BeginsEach, HasRoomFor, MayRun, QuietRun, Rounds, all_of, allows, opening_client, writes}
use Rattle.st_world_quiet.proofs.HopOpening.{new_calm}
use Rattle.st_world_quiet.proofs.Credits.{turns_credit}
use Rattle.st_world_quiet.proofs.HopRuns.{turn_exchange, crossing_calm, crossing_turn, crossings_turns, opening_stands, passage_comes, turn_stands, turns_lower}
use Rattle.st_streams.specs.Slots.{slot}
use Rattle.st_streams.proofs.SlotLemmas.{slot_cases}
use Rattle.st_sender.specs.Accepting.{after_offer}
use Rattle.st_sender.specs.Refusals.{offer_refusal}
use Rattle.st_end.specs.declared.role.Role.{Role}
use Rattle.st_world_quiet.proofs.HopRounds.{Copies, ledger_end, copies_accepted, copies_same, copies_write, IsReachedBy, ledger_prefix, ledgered, acked_from, acked_of, acks_changed, acks_done, acks_written_at, client_calls, reached_first, reached_met, rest_moved, round_crosses, write_rest}

-- ---- rounds

-- what a Send that went says of what was left
sent_leaves : (input : ℕ → List ℕ) (e : EndState) (hops : List Hop) (f : EndState) (n : ℕ) (w v : World) (iv : List ℕ) (now : ℤ) → Stands input e f → IsAtRest w e hops f n → Step w (Send Client iv now) Sent v → 0 < work_left (lengths input) e.sending
sent_leaves input e hops f n w v iv now stands rest (inl none) = absurd (let no : ◌≡◌ {A = Told} Sent Silent = none.1 in cc)
sent_leaves input e hops f n w v iv now stands rest (inr sent) =
    let goes : Goes e iv now sent.0 sent.1 sent.2 = subst (λ z. Goes z iv now sent.0 sent.1 sent.2) rest.client sent.3 in
    elim (cases_lt 0 (work_left (lengths input) e.sending)) [
      | inl some ↦ some
      | inr none ↦ absurd (none_goes (lengths input) e.sending (limits e.receiving) goes.load stands.quiet (zero_is _ none) (goes_sends e sent.2 iv sent.1 now sent.0 goes))
    ]
  where
    zero_is : (m : ℕ) → m ≤ 0 → m ≡ 0
    zero_is m l = omega arith

-- what the rounds leave
pub record AreCrossed (c : Chain) (input : ℕ → List ℕ) (limit m : ℕ) (e : EndState) (hops : List Hop) (f : EndState) (n : ℕ) (v : World) : Type 0 where
  pub client : EndState
  pub others : List Hop
  pub server : EndState
  pub crosses : Crossings input limit m e hops f client others server
  pub rests : IsAtRest v client others server n
  pub unclosed : client.receiving.closed ≡ false
  pub is_reached : IsReachedBy c v
  pub copies : Copies input v
  pub ended : AreEnded client.sending server.receiving
  pub offers : (k : ℕ) → offer_of (outgoing_at client.sending k) ≡ offer_of (outgoing_at e.sending k)

-- the Prepares of the connection suffice for the rest
abbrev HasPackets : (ℕ → List ℕ) → EndState → Type 0
HasPackets input e = e.sending.last + work_left (lengths input) e.sending < e.sending.config.packets

crossing_packets : (input : ℕ → List ℕ) (limit : ℕ) (e : EndState) (hops : List Hop) (f g : EndState) (others : List Hop) (h : EndState) → 32739 ≤ limit → IsModest (lengths input) → Stands input e f → AreCalm e.peer e.sending hops → HasPackets input e → Crossing input limit e hops f g others h
    → HasPackets input g
crossing_packets input limit e hops f g others h room modest s calm packets x =
    let turn = crossing_turn input limit e hops f g others h room s calm x in
    let spends = turn_spends input limit e f g h modest s.quiet s.abreast s.joined s.tellable s.held_back turn in
    let lowers = turns_lower input limit 1 e f g h modest s (g, h, turn, (refl, refl)) in
    let same = ap (λ (c : Config). c.packets) spends.config in
    numbers _ _ _ _ _ _ packets spends.last lowers same
  where
    numbers : (last left packets new_last new_left new_packets : ℕ) → last + left < packets → new_last ≡ last + 1 → 1 + new_left ≤ left → new_packets ≡ packets → new_last + new_left < new_packets
    numbers last left packets new_last new_left new_packets a b c d = omega arith

crossing_unclosed : (input : ℕ → List ℕ) (limit : ℕ) (e : EndState) (hops : List Hop) (f g : EndState) (others : List Hop) (h : EndState) → 32739 ≤ limit → IsModest (lengths input) → Stands input e f → AreCalm e.peer e.sending hops → e.receiving.closed ≡ false → Crossing input limit e hops f g others h
    → g.receiving.closed ≡ false
crossing_unclosed input limit e hops f g others h room modest s calm unclosed x =
    let turn = crossing_turn input limit e hops f g others h room s calm x in
    ap (λ r. r.closed) (receiving_still (lengths input) e f g h s.quiet s.abreast s.joined s.tellable (turn_trip input limit e f g h modest s.quiet s.abreast s.joined s.tellable s.held_back turn).0) ∙ unclosed

pub rounds_cross : (c : Chain) (input : ℕ → List ℕ) (limit m : ℕ) (e : EndState) (hops : List Hop) (f : EndState) (n : ℕ) (w v : World) → 32739 ≤ limit → IsModest (lengths input) → Stands input e f → AreCalm e.peer e.sending hops → length hops ≤ 8 → HasPackets input e → e.receiving.closed ≡ false
    → AreEnded e.sending f.receiving → Copies input w → IsReachedBy c w → IsAtRest w e hops f n → Rounds input limit (length hops) n m w v → AreCrossed c input limit m e hops f (n + m) v
rounds_cross c input limit zero e hops f n w v room modest s calm few packets unclosed ended copies is_reached rest run = record {
  client = e;
  others = hops;
  server = f;
  crosses = (refl, refl, refl);
  rests = subst (λ z. IsAtRest z e hops f (n + 0)) (sym run) (subst (IsAtRest w e hops f) (let same : n ≡ n + 0 = omega arith in same) rest);
  unclosed = unclosed;
  is_reached = subst (IsReachedBy c) (sym run) is_reached;
  copies = subst (Copies input) (sym run) copies;
  ended = ended;
  offers = λ k. refl;
}
rounds_cross c input limit (suc m) e hops f n w v room modest s calm few packets unclosed ended copies is_reached rest run =
    let mid = run.0 in
    let some = sent_leaves input e hops f n w run.1.sent run.1.iv run.1.now s rest run.1.goes in
    let one = round_crosses c input limit e hops f n w mid room modest s calm few (next _ _ _ some packets) is_reached rest run.1 in
    let turn = crossing_turn input limit e hops f one.client one.others one.server room s calm one.crosses in
    let count : length one.others ≡ length hops = ap length one.crosses.passed ∙ (passage_comes input limit e hops f one.client one.others one.server s calm one.crosses).count in
    let all = rounds_cross c input limit m one.client one.others one.server (suc n) mid v room modest (turn_stands input limit e f one.client one.server modest s turn)
    (crossing_calm input limit e hops f one.client one.others one.server room modest s calm one.crosses) (omega (arith, count, few))
    (crossing_packets input limit e hops f one.client one.others one.server room modest s calm packets one.crosses)
    (crossing_unclosed input limit e hops f one.client one.others one.server room modest s calm unclosed one.crosses)
    (exchange_ended (lengths input) e.sending f.receiving one.client.sending one.server.receiving s.quiet s.abreast ended (turn_exchange input limit e f one.client one.server modest s turn)) (one.copies copies) one.is_reached one.rests
    (subst (λ k. Rounds input limit k (suc n) m mid v) (sym count) run.2) in
    record {
      client = all.client;
      others = all.others;
      server = all.server;
      crosses = (one.client, one.others, one.server, one.crosses, all.crosses);
      rests = subst (IsAtRest v all.client all.others all.server) (let same : suc n + m ≡ n + suc m = omega arith in same) all.rests;
      unclosed = all.unclosed;
      is_reached = all.is_reached;
      copies = all.copies;
      ended = all.ended;
      offers = λ k. all.offers k ∙ (turn_spends input limit e f one.client one.server modest s.quiet s.abreast s.joined s.tellable s.held_back turn).offers k;
    }
  where
    next : (last left packets : ℕ) → 0 < left → last + left < packets → last + 1 < packets
    next last left packets some few = omega arith

-- ---- the opening

pub allows_rest : (money : ℕ → ℕ) (first count : ℕ) (w v : World) (e : EndState) (hops : List Hop) (f : EndState) (n : ℕ) → IsAtRest w e hops f n → Met w (allows money first count) v → IsAtRest v e hops (allow_each money first count f) n
unfolding allows allow_each
allows_rest money first zero w v e hops f n rest run = subst (λ z. IsAtRest z e hops f n) (sym run) rest
allows_rest money first (suc m) w v e hops f n rest run =
    let mid = run.0 in
    let is = run.3.1 in
    let one : IsAtRest mid e hops (set_receive_max (end_at w Server) first (money first)).1 n = rest_moved w mid e f e _ hops n rest (record {
      client_is = ap (λ z. end_at z Client) is ∙ rest.client;
      server_is = ap (λ z. end_at z Server) is;
      nodes = ap (λ (z : World). z.nodes) is;
      links = ap (λ (z : World). z.links) is;
    }) in
    allows_rest money (first + 1) m mid v e hops (set_receive_max f first (money first)).1 n (subst (λ z. IsAtRest mid e hops (set_receive_max z first (money first)).1 n) rest.server one) run.4

-- nothing is acknowledged of a stream
abbrev pub NoAcks : EndState → Type 0
NoAcks e = (j : ℕ) → acked_of (outgoing_at e.sending j) ≡ 0

no_slot : (n j : ℕ) → slot {A = Outgoing} (replicate n None) j ≡ None
no_slot zero j = refl
no_slot (suc n) zero = refl
no_slot (suc n) (suc j) = no_slot n j

pub no_acks_first : (role : Role) (keys : DerivedKeys) (own peer : List ℕ) (config : Config) → NoAcks (new_end role keys own peer config)
no_acks_first role keys own peer config j = ap acked_of (no_slot 65 j)

acks_opened : (e : EndState) (o : Option ℕ) → NoAcks e → NoAcks (opening_as e o).1
acks_opened e None none = none
acks_opened e (Some k) none = by (connection_refusal e)
  where
    by : (why : Option EndError) (j : ℕ) → acked_of (outgoing_at (opened_unless e k why).1.sending j) ≡ 0
    by (Some why) j = none j
    by None j = elim (slot_cases e.sending.streams k new_outgoing j) [
      | inl same ↦ subst (λ i. acked_of (outgoing_at (with_outgoing e.sending k new_outgoing) i) ≡ 0) (sym same.0) (ap acked_of same.1)
      | inr apart ↦ ap acked_of apart ∙ none j
    ]

acks_offered : (e : EndState) (k amount : ℕ) → NoAcks e → NoAcks (offer e k amount).1
acks_offered e k amount none j = acks_done e (refusal e k (offer_refusal e.sending k amount)) (changed e.sending k (after_offer amount)) (acks_changed e.sending k (after_offer amount) (outgoing_at e.sending k) (λ x. refl) refl) j ∙ none j

acks_begun : (input : ℕ → List ℕ) (money : ℕ → ℕ) (e : EndState) (o : Option ℕ) → NoAcks e → NoAcks (begun input money (opening_as e o))
acks_begun input money e None none = none
acks_begun input money e (Some k) none = by (connection_refusal e)
  where
    by : (why : Option EndError) (j : ℕ) → acked_of (outgoing_at (begun input money (opened_unless e k why)).sending j) ≡ 0
    by (Some why) j = none j
    by None j =
        let one = (opened_unless e k None).1 in
        let two = (offer one k (money k)).1 in
        acks_written_at (input k) two k (outgoing_at two.sending k) j ∙ acks_offered one k (money k) (opened_acks j) j
      where
        opened_acks : (i : ℕ) → NoAcks (opened_unless e k None).1
        opened_acks i l = elim (slot_cases e.sending.streams k new_outgoing l) [
          | inl same ↦ subst (λ z. acked_of (outgoing_at (with_outgoing e.sending k new_outgoing) z) ≡ 0) (sym same.0) (ap acked_of same.1)
          | inr apart ↦ ap acked_of apart ∙ none l
        ]

pub acks_begun_each : (input : ℕ → List ℕ) (money : ℕ → ℕ) (count : ℕ) (e : EndState) → NoAcks e → NoAcks (begin_each input money count e)
unfolding begin_each
acks_begun_each input money zero e none = none
acks_begun_each input money (suc m) e none = acks_begun_each input money m (begun input money (open_stream e)) (acks_begun input money e (own_number e) none)

-- and nothing of it is read
abbrev pub NoReads : EndState → Type 0
NoReads f = (k : ℕ) → (incoming_at f.receiving k).held.read ≡ 0

begins_rest : (c : Chain) (input : ℕ → List ℕ) (money : ℕ → ℕ) (w v : World) (e : EndState) (hops : List Hop) (f : EndState) (n : ℕ) → IsReachedBy c w → IsAtRest w e hops f n → NoAcks e → NoReads f → (x : Begins input money w v)
    → IsAtRest v (begun input money (open_stream e)) hops f n × IsReachedBy c v × (◌≡◌ {A = Result ℕ EndError} (open_stream e).0 (Ok x.stream))
begins_rest c input money w v e hops f n r rest none unread x =
    let k = x.stream in
    let o = open_stream (end_at w Client) in
    let told : ◌≡◌ {A = Told} (Opened (Ok k)) (Opened o.0) = x.opens.0 in
    let number : ◌≡◌ {A = Result ℕ EndError} (Ok k) o.0 = cc in
    let is = x.opens.1 in
    let open_rest : IsAtRest x.opened o.1 hops f n = rest_moved w x.opened e f o.1 f hops n rest (record {
      client_is = ap (λ z. end_at z Client) is;
      server_is = ap (λ z. end_at z Server) is ∙ rest.server;
      nodes = ap (λ (z : World). z.nodes) is;
      links = ap (λ (z : World). z.links) is;
    }) in
    let none_open : NoAcks o.1 = acks_opened (end_at w Client) (own_number (end_at w Client)) (λ j. ap (λ (z : EndState). acked_of (outgoing_at z.sending j)) rest.client ∙ none j) in
    let offer_rest : IsAtRest x.offered (offer o.1 k (money k)).1 hops f n = client_calls (λ z. offer z k (money k)) x.opened x.offered o.1 hops f n k _ open_rest (x.offers.4 ∙ x.offers.3.1) in
    let opened_reached = reached_met c (OpenStream Client ∷ []) w x.opened r (x.opened, Opened (Ok k), tt, x.opens, refl) in
    let offered_reached = reached_met c (Offer Client k (money k) ∷ []) x.opened x.offered opened_reached x.offers in
    let acked = acks_offered o.1 k (money k) none_open k ∙ sym (unread k) in
    let write_is : IsAtRest v (begun input money (Ok k, o.1)) hops f n = write_rest c (input k) k x.offered v (offer o.1 k (money k)).1 hops f n offered_reached offer_rest acked x.writes_first in (
      subst (λ z. IsAtRest v (begun input money (open_stream z)) hops f n) rest.client (subst (λ z. IsAtRest v (begun input money (z, o.1)) hops f n) number write_is),
      reached_met c (writes (input k) k (log_at x.offered Client k)) x.offered v offered_reached x.writes_first,
      ap (λ z. (open_stream z).0) (sym rest.client) ∙ sym number,
    )

pub begins_all : (c : Chain) (input : ℕ → List ℕ) (money : ℕ → ℕ) (count j : ℕ) (w v : World) (e : EndState) (hops : List Hop) (f : EndState) (n : ℕ) → IsReachedBy c w → IsAtRest w e hops f n → NoAcks e → NoReads f → OpenTo j e → BeginsEach input money count w v
    → IsAtRest v (begin_each input money count e) hops f n × IsReachedBy c v × OpenTo (j + count) (begin_each input money count e)
unfolding begin_each
begins_all c input money zero j w v e hops f n r rest none unread opened run = (subst (λ z. IsAtRest z e hops f n) (sym run) rest, subst (IsReachedBy c) (sym run) r, subst (λ m. OpenTo m e) (let same : j ≡ j + 0 = omega arith in same) opened)
begins_all c input money (suc m) j w v e hops f n r rest none unread opened run =
    let one = begins_rest c input money w run.0 e hops f n r rest none unread run.1 in
    let all = begins_all c input money m (j + 1) run.0 v (begun input money (open_stream e)) hops f n one.1 one.0 (acks_begun input money e (own_number e) none) unread (opens_next input money j run.1.stream e opened one.2) run.2 in
    (all.0, all.1, subst (λ l. OpenTo l (begin_each input money m (begun input money (open_stream e)))) (let same : j + 1 + m ≡ j + suc m = omega arith in same) all.2)

pub copies_allows : (input : ℕ → List ℕ) (money : ℕ → ℕ) (first count : ℕ) (w v : World) → Met w (allows money first count) v → Copies input w → Copies input v
unfolding allows
copies_allows input money first zero w v run copies = subst (Copies input) (sym run) copies
copies_allows input money first (suc m) w v run copies = copies_allows input money (first + 1) m run.0 v run.4 (copies_same input w run.0 (ap (λ (z : World). z.ledgers) run.3.1) copies)

copies_begins : (input : ℕ → List ℕ) (money : ℕ → ℕ) (w v : World) → Begins input money w v → Copies input w → Copies input v
copies_begins input money w v x copies =
    let k = x.stream in
    let first = copies_same input w x.opened (ap (λ (z : World). z.ledgers) x.opens.1) copies in
    let call = offer (end_at x.opened Client) k (money k) in
    copies_write input k x.offered v x.writes_first (copies_accepted input call.0 x.opened x.offered call.1 k _ (x.offers.4 ∙ x.offers.3.1) (first k) first)

pub copies_begins_each : (input : ℕ → List ℕ) (money : ℕ → ℕ) (count : ℕ) (w v : World) → BeginsEach input money count w v → Copies input w → Copies input v
copies_begins_each input money zero w v run copies = subst (Copies input) (sym run) copies
copies_begins_each input money (suc m) w v run copies = copies_begins_each input money m run.0 v run.2 (copies_begins input money w run.0 run.1 copies)

pub copies_first : (c : Chain) (input : ℕ → List ℕ) → Copies input (opening c)
copies_first c input k = subst (λ o. IsPrefixOf (ledger_or o).written (input k)) (sym (fmap.get-empty nat_cmp k)) (input k, refl)

pub nothing_open : (config : Config) (keys : DerivedKeys) (own peer : List ℕ) → OpenTo 0 (new_end roles.Client keys own peer config)
nothing_open config keys own peer = record {
  opened = λ i l. absurd (omega (arith, l));
  left = λ i l m. ap is_some (no_slot 65 (place_of i));
  slots = refl;
  parity = refl;
}

long_replicate : {A : Type 0} (n : ℕ) (x : A) → length (replicate n x) ≡ n
long_replicate zero x = refl
long_replicate (suc n) x = let e = long_replicate n x in omega (arith, e)

long_map : (ts : List Table) → length (map new_node ts) ≡ length ts
long_map [] = refl
long_map (t ∷ ts) = let e = long_map ts in omega (arith, e)

pub opening_rests : (c : Chain) → IsAtRest (opening c) (new_end roles.Client (keys_of c.secret) c.client c.server c.config) (map state_of (map new_node c.hops)) (new_end roles.Server (keys_of c.secret) c.server c.client c.config) 0
opening_rests c = record {
  client = refl;
  server = refl;
  hops_are = refl;
  links = long_replicate (length c.hops + 1) empty_link ∙ ap (λ m. m + 1) (sym (long_map c.hops));
  lanes = λ j l. (let none = empty_direction (length c.hops + 1) j Client in record { prepares = ap length none.0; given = ap length none.1 });
}

-- ---- the money that is offered at the opening

offered_most : (money : ℕ) (n : ℕ) (y : Outgoing) → IsRefilled n (record new_outgoing { offered = 0 + money }) y → money_left (Some y) ≤ money
offered_most money n y x = let is : y.offered ≡ 0 + money = ap (λ (z : Outgoing). z.offered) x.is in omega (arith, is)

one_most : (money : ℕ) (n : ℕ) (o : Option Outgoing) → ((y : Outgoing) → o ≡ Some y → IsRefilled n (record new_outgoing { offered = 0 + money }) y) → money_left o ≤ money
one_most money n None h = omega arith
one_most money n (Some y) h = offered_most money n y (h y refl)

pub money_most : (p : ℕ) (n money : ℕ → ℕ) (config : Config) (e : EndState) → IsBegun p n money config e → all_money_left e.sending ≤ all_of money
money_most p n money config e b = sum_below (λ k. money_left (outgoing_at e.sending k)) money (λ k. one_most (money k) (n k) (outgoing_at e.sending k) (λ y at. b.streams k y at)) 0 65

pub calm_tables : (destination : List ℕ) (sent most left all : ℕ) (ts : List Table) → left ≤ all → all < 2 ^ 63 → AllByRecursion (HasRoomFor destination most all) ts → AllByRecursion (IsCalm destination sent most left) (map state_of (map new_node ts))
calm_tables destination sent most left all [] few modest room = tt
calm_tables destination sent most left all (t ∷ ts) few modest room = (
  new_calm destination sent t.own t.client t.server t.routes most left room.0.leads room.0.max_packet (let l = room.0.limit in omega (arith, l, few)) (omega (arith, few, modest)),
  calm_tables destination sent most left all ts few modest room.1,
)

-- ---- the run

no_reads : (input : ℕ → List ℕ) (e f : EndState) → Stands input e f → NoAcks e → NoReads f
no_reads input e f s none k = sym (acked_from input e f s k) ∙ none k

-- once `count` streams were opened
pub begun_rests : (c : Chain) (input : ℕ → List ℕ) (money : ℕ → ℕ) (count : ℕ) (allowed begun : World) → MaySend c.config → IsModest (lengths input) → IsModest money → Met (opening c) (allows money 0 65) allowed → BeginsEach input money count allowed begun
    → (let e = opening_client c input money count in let f = allow_each money 0 65 (new_end roles.Server (keys_of c.secret) c.server c.client c.config) in
    IsAtRest begun e (map state_of (map new_node c.hops)) f 0 × IsReachedBy c begun × OpenTo (0 + count) e)
begun_rests c input money count allowed begun may modest modest_money allows_each begins_each =
    let new = new_end roles.Client (keys_of c.secret) c.client c.server c.config in
    let hops = map state_of (map new_node c.hops) in
    let f = allow_each money 0 65 (new_end roles.Server (keys_of c.secret) c.server c.client c.config) in
    let stands = (opening_stands roles.Client (keys_of c.secret) c.client c.server c.config c.config input money count may modest modest_money).0 in
    let none = no_acks_first roles.Client (keys_of c.secret) c.client c.server c.config in
    let unread = no_reads input (opening_client c input money count) f stands (acks_begun_each input money count new none) in
    begins_all c input money count 0 allowed begun new hops f 0 (reached_met c (allows money 0 65) (opening c) allowed (reached_first c) allows_each)
    (allows_rest money 0 65 (opening c) allowed new hops _ 0 (opening_rests c) allows_each) none unread (nothing_open c.config (keys_of c.secret) c.client c.server) begins_each

pub run_crosses : (c : Chain) (input : ℕ → List ℕ) (money : ℕ → ℕ) (count limit m : ℕ) (v : World) → MayRun c input money count limit → QuietRun c input money count limit m v
    → (let e = opening_client c input money count in let f = allow_each money 0 65 (new_end roles.Server (keys_of c.secret) c.server c.client c.config) in
    Stands input e f × AreCalm e.peer e.sending (map state_of (map new_node c.hops)) × AreCrossed c input limit m e (map state_of (map new_node c.hops)) f m v × OpenTo count e)
run_crosses c input money count limit m v may run = (stands, calm, subst (λ k. AreCrossed c input limit m e hops f k v) (let same : 0 + m ≡ m = omega arith in same) all, subst (λ l. OpenTo l e) (let same : 0 + count ≡ count = omega arith in same) begun_rest.2)
  where
    n : ℕ → ℕ
    n = lengths input

    hops : List Hop
    hops = map state_of (map new_node c.hops)

    e : EndState
    e = opening_client c input money count

    f : EndState
    f = allow_each money 0 65 (new_end roles.Server (keys_of c.secret) c.server c.client c.config)

    begun_is : IsBegun 1 n money c.config e
    begun_is = calls_begun roles.Client (keys_of c.secret) c.client c.server c.config input money count may.input_fits may.money_fits

    stands : Stands input e f
    stands = (opening_stands roles.Client (keys_of c.secret) c.client c.server c.config c.config input money count may.may_send may.input_fits may.money_fits).0

    peer : e.peer ≡ c.server
    peer = (begin_same input money count (new_end roles.Client (keys_of c.secret) c.client c.server c.config)).peer

    pays : e.sending.packet_limit ≡ c.config.packet_limit
    pays = ap (λ (z : Sending). z.packet_limit) begun_is.rest

    calm : AreCalm e.peer e.sending hops
    calm = subst (λ d. AreCalm d e.sending hops) (sym peer) (subst (λ most. AllByRecursion (IsCalm c.server e.sending.last most (all_money_left e.sending)) hops) (sym pays)
        (calm_tables c.server e.sending.last c.config.packet_limit (all_money_left e.sending) (all_of money) c.hops (money_most 1 n money c.config e begun_is) may.money_fits may.room))

    numbers : (last left packets all : ℕ) → last ≡ 0 → packets ≡ all → left < all → last + left < packets
    numbers last left packets all a b l = omega arith

    packets : HasPackets input e
    packets = let last : e.sending.last ≡ 0 = ap (λ (z : Sending). z.last) begun_is.rest in let same : e.sending.config ≡ c.config = ap (λ (z : Sending). z.config) begun_is.rest in
        let many = ap (λ (z : Config). z.packets) same in numbers _ _ _ _ last many may.packets

    map_long : (ts : List Table) → length (map state_of (map new_node ts)) ≡ length ts
    map_long [] = refl
    map_long (t ∷ ts) = let is = map_long ts in omega (arith, is)

    long : length hops ≡ length c.hops
    long = map_long c.hops

    begun_rest : IsAtRest run.begun e hops f 0 × IsReachedBy c run.begun × OpenTo (0 + count) e
    begun_rest = begun_rests c input money count run.allowed run.begun may.may_send may.input_fits may.money_fits run.allows_each run.begins_each

    begun_ended : AreEnded e.sending f.receiving
    begun_ended k x at settled = absurd (let open_still : x.clean_settled ≡ false = ap (λ (z : Outgoing). z.clean_settled) (begun_is.streams k x at).is in let clash : ◌≡◌ {A = Bool} true false = sym settled ∙ open_still in cc)

    begun_copies : Copies input run.begun
    begun_copies = copies_begins_each input money count run.allowed run.begun run.begins_each (copies_allows input money 0 65 (opening c) run.allowed run.allows_each (copies_first c input))

    all : AreCrossed c input limit m e hops f (0 + m) v
    all = rounds_cross c input limit m e hops f 0 run.begun v may.reads may.input_fits stands calm (let few = may.few_hops in omega (arith, few, long)) packets begun_is.unclosed begun_ended begun_copies begun_rest.1 begun_rest.0
        (subst (λ k. Rounds input limit k 0 m run.begun v) (sym long) run.rounds)

-- ---- what it leaves

turns_quiet : (input : ℕ → List ℕ) (limit m : ℕ) (e f g h : EndState) → IsModest (lengths input) → Stands input e f → Turns input limit m e f g h → IsQuiet (lengths input) g.sending
turns_quiet input limit m e f g h modest s run =
    let n = lengths input in
    let trips = turns_trips input limit m e f g h modest s.quiet s.abreast s.joined s.tellable s.held_back run in
    let exchanges = trips_exchanges n m e f g h modest s.quiet s.abreast s.joined s.tellable trips in
    (rounds_lower n m e.sending g.sending s.quiet (exchanges_rounds n m e.sending f.receiving g.sending h.receiving modest s.quiet s.abreast exchanges).0).1

turns_abreast : (input : ℕ → List ℕ) (limit m : ℕ) (e f g h : EndState) → IsModest (lengths input) → Stands input e f → Turns input limit m e f g h → IsAbreast (lengths input) g.sending h.receiving
turns_abreast input limit m e f g h modest s run =
    let n = lengths input in
    let trips = turns_trips input limit m e f g h modest s.quiet s.abreast s.joined s.tellable s.held_back run in
    let exchanges = trips_exchanges n m e f g h modest s.quiet s.abreast s.joined s.tellable trips in
    (exchanges_rounds n m e.sending f.receiving g.sending h.receiving modest s.quiet s.abreast exchanges).1

-- a read of a direction that was read to its end returns `End`
nothing_long : (xs : List ℕ) → length xs ≡ 0 → xs ≡ []
nothing_long [] e = refl
nothing_long (x ∷ xs) e = absurd (omega (arith, e))

take_nothing : (most : ℕ) → take {A = ℕ} most [] ≡ []
take_nothing zero = refl
take_nothing (suc n) = refl

known_end : (o : Option ℕ) → is_some o ≡ true → (m : ℕ) × (o ≡ Some m)
known_end None e = absurd (cc)
known_end (Some m) e = (m, refl)

abbrev held_row : Held → List ℕ
held_row h = run h

ends_by : (h : Held) (m most : ℕ) → h.aborted ≡ None → run h ≡ [] → h.end ≡ Some m → m ≡ h.read → got most h ≡ End
ends_by h m most alive empty_run end is =
    let here : nat_eq m h.read ≡ true = grind (arith, nat_tests) in
    ap (λ o. got_by o most h) alive
    ∙ ap (λ xs. got_bytes h (take most xs)) empty_run
    ∙ ap (got_bytes h) (take_nothing most)
    ∙ ap (λ o. cond (is_read h.read o) End Nothing) end
    ∙ ap (λ b. cond b End Nothing) here

pub nothing_left : (n : ℕ → ℕ) (g : EndState) → IsQuiet n g.sending → g.receiving.closed ≡ false → GoesNone g → work_left n g.sending ≡ 0
nothing_left n g quiet unclosed (inl closed) = absurd (let clash : ◌≡◌ {A = Bool} false true = sym unclosed ∙ closed in cc)
nothing_left n g quiet unclosed (inr idle) = elim (cases_lt 0 (work_left n g.sending)) [
  | inl some ↦ absurd (some_goes n g.sending (limits g.receiving) quiet some idle)
  | inr none ↦ zero_is _ none
]
  where
    zero_is : (m : ℕ) → m ≤ 0 → m ≡ 0
    zero_is m l = omega arith

module _ (c : Chain) (input : ℕ → List ℕ) (money : ℕ → ℕ) (count limit m : ℕ) (v : World) (may : MayRun c input money count limit) (run : QuietRun c input money count limit m v) where
  abbrev first : EndState
  first = opening_client c input money count

  abbrev far_end : EndState
  far_end = allow_each money 0 65 (new_end roles.Server (keys_of c.secret) c.server c.client c.config)

  stands : Stands input first far_end
  stands = (run_crosses c input money count limit m v may run).0

  crossed : AreCrossed c input limit m first (map state_of (map new_node c.hops)) far_end m v
  crossed = (run_crosses c input money count limit m v may run).2

  turns : Turns input limit m first far_end crossed.client crossed.server
  turns = (crossings_turns input limit m first (map state_of (map new_node c.hops)) far_end crossed.client crossed.others crossed.server may.reads may.input_fits stands (run_crosses c input money count limit m v may run).1 crossed.crosses).0

  pub run_sharper : m + work_left (lengths input) (end_at v Client).sending ≤ work_left (lengths input) (opening_client c input money count).sending
  run_sharper = subst (λ (z : EndState). m + work_left (lengths input) z.sending ≤ work_left (lengths input) first.sending) (sym crossed.rests.client) (turns_lower input limit m first far_end crossed.client crossed.server may.input_fits stands turns)

  pub run_is_bounded : m + 1 ≤ bound (lengths input) (opening_client c input money count).sending
  run_is_bounded = counts _ _ _ _ run_sharper (within_bound (lengths input) (opening_client c input money count).sending)
    where
      counts : (m last first most : ℕ) → m + last ≤ first → first + 1 ≤ most → m + 1 ≤ most
      counts m last first most l b = omega arith

  pub run_puts : length (direction_at v 0 Client).prepares ≡ m
  run_puts = (crossed.rests.lanes 0 (omega arith)).prepares

  -- a stream that is open at the opening, and only that, is open at the end, with its money offered
  pub run_offers : (k : ℕ) → offer_of (outgoing_at (end_at v Client).sending k) ≡ offer_of (outgoing_at (opening_client c input money count).sending k)
  run_offers k = subst (λ (z : EndState). offer_of (outgoing_at z.sending k) ≡ offer_of (outgoing_at first.sending k)) (sym crossed.rests.client) (crossed.offers k)

  open_still : (o p : Option Outgoing) → ◌≡◌ {A = Option ℕ} (offer_of p) (offer_of o) → is_some o ≡ true → (x : Outgoing) × (p ≡ Some x)
  open_still o (Some x) same here = (x, refl)
  open_still None None same here = absurd (cc)
  open_still (Some y) None same here = absurd (cc)

  -- as many streams are open as were opened
  pub run_opens : (i : ℕ) → i < count → (x : Outgoing) × (outgoing_at (end_at v Client).sending (2 * i + 1) ≡ Some x)
  run_opens i l = open_still (outgoing_at first.sending (2 * i + 1)) (outgoing_at (end_at v Client).sending (2 * i + 1)) (run_offers (2 * i + 1)) ((run_crosses c input money count limit m v may run).3.opened i l)

  offered_is : (k : ℕ) (x : Outgoing) (o : Option Outgoing) → outgoing_at first.sending k ≡ o → ◌≡◌ {A = Option ℕ} (Some x.offered) (offer_of o) → x.offered ≡ money k
  offered_is k x None at same = absurd (cc)
  offered_is k x (Some y) at same =
      let is : x.offered ≡ y.offered = cc in
      let begun_is = calls_begun roles.Client (keys_of c.secret) c.client c.server c.config input money count may.input_fits may.money_fits in
      let first_is : y.offered ≡ 0 + money k = ap (λ (z : Outgoing). z.offered) (begun_is.streams k y at).is in
      omega (arith, is, first_is)

  pub run_money : (k : ℕ) (x : Outgoing) → outgoing_at (end_at v Client).sending k ≡ Some x → x.offered ≡ money k
  run_money k x at = offered_is k x (outgoing_at first.sending k) refl (sym (ap offer_of at) ∙ run_offers k)

  pub run_delivers : (k : ℕ) (x : Outgoing) → GoesNone (end_at v Client) → outgoing_at (end_at v Client).sending k ≡ Some x
      → ((incoming_at (end_at v Server).receiving k).held.read ≡ length (input k)) × ((incoming_at (end_at v Server).receiving k).credited ≡ x.offered)
  run_delivers k x none at =
      let quiet = turns_quiet input limit m first far_end crossed.client crossed.server may.input_fits stands turns in
      let done = nothing_left (lengths input) crossed.client quiet crossed.unclosed (subst GoesNone crossed.rests.client none) in
      subst (λ (z : EndState). ((incoming_at z.receiving k).held.read ≡ length (input k)) × ((incoming_at z.receiving k).credited ≡ x.offered)) (sym crossed.rests.server)
      (run_delivered roles.Client (keys_of c.secret) c.client c.server c.config c.config input money count limit m k crossed.client crossed.server x may.may_send may.input_fits may.money_fits turns done (subst (λ (z : EndState). outgoing_at z.sending k ≡ Some x) crossed.rests.client at))

  same_list : (xs ys : List ℕ) → IsPrefixOf xs ys → length xs ≡ length ys → xs ≡ ys
  same_list xs ys (rest, is) long = by rest is
    where
      by : (rest : List ℕ) → xs ++ rest ≡ ys → xs ≡ ys
      by [] is = sym (append-nil xs) ∙ is
      by (b ∷ bs) is = absurd (let all : length (xs ++ b ∷ bs) ≡ length ys = ap length is in let sum = length-append xs (b ∷ bs) in omega (arith, all, sum, long))

  pub run_reads_whole : (k : ℕ) (x : Outgoing) → GoesNone (end_at v Client) → outgoing_at (end_at v Client).sending k ≡ Some x → ((log_at v Client k).read ≡ input k) × ((log_at v Client k).written ≡ input k)
  run_reads_whole k x none at =
      let quiet = turns_quiet input limit m first far_end crossed.client crossed.server may.input_fits stands turns in
      let done = nothing_left (lengths input) crossed.client quiet crossed.unclosed (subst GoesNone crossed.rests.client none) in
      let here : outgoing_at crossed.client.sending k ≡ Some x = subst (λ (z : EndState). outgoing_at z.sending k ≡ Some x) crossed.rests.client at in
      let all = all_done (lengths input) crossed.client.sending k x quiet done here in
      let told = ledgered c v crossed.client crossed.others crossed.server m k crossed.is_reached crossed.rests in
      let written = subst (OutFine (log_at v Client k).written) here told.written in
      let read = (run_delivers k x none at).0 in
      let count : length (log_at v Client k).read ≡ length (input k) = told.read ∙ ap (λ (z : EndState). (incoming_at z.receiving k).held.read) (sym crossed.rests.server) ∙ read in
      let whole = same_list (log_at v Client k).written (input k) (crossed.copies k) (sym written.0 ∙ all.all_bytes) in
      (same_list (log_at v Client k).read (log_at v Client k).written (ledger_prefix c v k crossed.is_reached) (count ∙ sym all.all_bytes ∙ written.0) ∙ whole, whole)

  pub run_ends : (k most : ℕ) (x : Outgoing) → GoesNone (end_at v Client) → outgoing_at (end_at v Client).sending k ≡ Some x → got most (incoming_at (end_at v Server).receiving k).held ≡ End
  run_ends k most x none at =
      let quiet = turns_quiet input limit m first far_end crossed.client crossed.server may.input_fits stands turns in
      let abreast = turns_abreast input limit m first far_end crossed.client crossed.server may.input_fits stands turns in
      let done = nothing_left (lengths input) crossed.client quiet crossed.unclosed (subst GoesNone crossed.rests.client none) in
      let here : outgoing_at crossed.client.sending k ≡ Some x = subst (λ (z : EndState). outgoing_at z.sending k ≡ Some x) crossed.rests.client at in
      let all = all_done (lengths input) crossed.client.sending k x quiet done here in
      let h = (incoming_at crossed.server.receiving k).held in
      let end = known_end h.end (crossed.ended k x here all.close) in
      let server_end : (incoming_at (end_at v Server).receiving k).held.end ≡ Some end.0 = ap (λ (z : EndState). (incoming_at z.receiving k).held.end) crossed.rests.server ∙ end.1 in
      let written = ledger_end c v k end.0 crossed.is_reached server_end in
      let whole = ap length (run_reads_whole k x none at).1 in
      let read : h.read ≡ length (input k) = ap (λ (z : EndState). (incoming_at z.receiving k).held.read) (sym crossed.rests.server) ∙ (run_delivers k x none at).0 in
      let long = run_is_all h (held_row h) h.read (is_run h) (omega arith) (λ q from till. absurd (omega (arith, from, till))) (λ q past. abreast.emptied k q past) in
      let empty_run = nothing_long (held_row h) (omega (arith, long)) in
      subst (λ (z : EndState). got most (incoming_at z.receiving k).held ≡ End) (sym crossed.rests.server)
      (ends_by h end.0 most (abreast.mirrored.alive k) empty_run end.1 (written ∙ whole ∙ sym read))

  -- all that was offered is credited
  pub run_credits : GoesNone (end_at v Client) → (end_at v Server).receiving.credit ≡ all_money_left (opening_client c input money count).sending
  run_credits none =
      let quiet = turns_quiet input limit m first far_end crossed.client crossed.server may.input_fits stands turns in
      let done = nothing_left (lengths input) crossed.client quiet crossed.unclosed (subst GoesNone crossed.rests.client none) in
      let poor = zero_prepares crossed.client.sending.packet_limit (all_money_left crossed.client.sending) quiet.pays (second _ _ _ done) in
      let sums = turns_credit input limit m first far_end crossed.client crossed.server may.input_fits stands turns in
      let nothing : far_end.receiving.credit ≡ 0 = ap (λ r. r.credit) (calls_allow roles.Server (keys_of c.secret) c.server c.client c.config money).is in
      ap (λ (z : EndState). z.receiving.credit) crossed.rests.server ∙ (let is : crossed.server.receiving.credit ≡ all_money_left first.sending = omega (arith, poor, sums, nothing) in is)
    where
      second : (a b c : ℕ) → max a b + c ≡ 0 → b ≡ 0
      second a b c e = omega arith
