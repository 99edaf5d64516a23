-- A run over calm hops is a run of two ends with nothing between them, so it is as short, and delivers as much.
use Rattle.std.proofs.Common.{◌≡◌, ℕ, zero, suc, ◌+◌, ◌≤◌, true, List, refl, sym, ap, subst, ◌∙◌, arith, Some, Ok}
use Rattle.std.specs.List.{AllByRecursion}
use Rattle.st_ilp.specs.Packets.{Fulfilled, PreparePacket}
use Rattle.st_ilp.specs.Reading.{answer_at}
use Rattle.st_frames.specs.Frames.{max_packet}
use Rattle.st_reassembly.specs.Run.{run}
use Rattle.st_hop.specs.Hop.{Hop}
use Rattle.st_hop.specs.Settling.{fits}
use Rattle.st_keys.specs.Keys.{DerivedKeys, condition, fulfillment}
use Rattle.st_sender.specs.Sending.{Config, Load}
use Rattle.st_sender.specs.Loads.{Sends, with_flight}
use Rattle.st_receiver.specs.Limits.{limits}
use Rattle.st_end.specs.declared.role.Role.{Role}
use Rattle.st_end.specs.State.{EndState, new_end, parity}
use Rattle.st_end.specs.Sending.{prepare_for}
use Rattle.st_end.specs.Receiving.{received}
use Rattle.st_end.specs.Answers.{ended}
use Rattle.st_world_quiet.specs.Left.{all_money_left, work_left}
use Rattle.st_world_quiet.specs.Rounds.{IsOpening, once_fulfilled}
use Rattle.st_world_quiet.specs.Exchanges.{Exchange, IsModest}
use Rattle.st_world_quiet.specs.Calls.{MaySend, allow_each, begin_each, lengths, other, take_each, write_each}
use Rattle.st_world_quiet.specs.Trips.{Passage, Turn, Turns}
use Rattle.st_world_quiet.proofs.Money.{money_after}
use Rattle.st_world_quiet.proofs.EndRounds.{round_keeps, rounds_lower}
use Rattle.st_world_quiet.proofs.Bound.{opening_quiet}
use Rattle.st_world_quiet.proofs.Exchanging.{exchange_round, exchanges_rounds}
use Rattle.st_world_quiet.proofs.Abreast.{round_abreast}
use Rattle.st_world_quiet.proofs.Beginning.{begun_opening, calls_begun}
use Rattle.st_world_quiet.proofs.SameEnds.{begin_same}
use Rattle.st_world_quiet.proofs.Allowing.{allowed_tells, begun_abreast, calls_allow}
use Rattle.st_world_quiet.proofs.Running.{calls_joined}
use Rattle.st_world_quiet.proofs.Trips.{bytes_same, comes_the_same, goes_sends, joined_still, passage_answers, peer_still, tells_still, trip_exchange, trips_exchanges}
use Rattle.st_world_quiet.proofs.Short.{passage_short}
use Rattle.st_world_quiet.proofs.Turns.{turn_spends, turn_trip, turns_trips}
use Rattle.st_world_quiet.specs.Crossing.{crossed}
use Rattle.st_world_quiet.specs.Calm.{AreCalm, HasRoom, IsCalm}
use Rattle.st_world_quiet.specs.Chains.{Crossing, Crossings, Stands, over}
use Rattle.st_world_quiet.proofs.Chains.{Comes, crosses}

-- ---- a crossing is a `Turn`

pub own_fits : (keys : DerivedKeys) (payload : List ℕ) → fits (fulfillment keys payload) (condition (fulfillment keys payload)) ≡ true
unfolding fits
own_fits keys payload = bytes_same (condition (fulfillment keys payload))

pub load_has_room : (input : ℕ → List ℕ) (e f : EndState) → Stands input e f → (w : Passage e)
    → HasRoom e.peer e.sending.last e.sending.packet_limit (all_money_left e.sending) (all_money_left (once_fulfilled e.sending w.goes.load)) (prepare_for e w.now w.goes.load.amount w.goes.payload)
load_has_room input e f s w =
    let p = w.goes.load in
    let sends : Sends e.sending (limits e.receiving) max_packet p (with_flight e.sending p) = goes_sends e w.gone w.iv w.bytes w.now w.flight w.goes in
    record {
      there = refl;
      small = sends.fits.amount;
      spends = money_after (lengths input) e.sending (limits e.receiving) max_packet p (with_flight e.sending p) s.quiet sends;
      numbers = (let few = w.goes.spells.sequence in let same : p.sequence ≡ e.sending.last + 1 = ap (λ (z : Load). z.sequence) sends.load in omega (arith, few, same));
    }

pub passage_comes : (input : ℕ → List ℕ) (limit : ℕ) (e : EndState) (hops : List Hop) (f g : EndState) (others : List Hop) (h : EndState) → Stands input e f → AreCalm e.peer e.sending hops → (x : Crossing input limit e hops f g others h)
    → (let w = x.passage in Comes e.peer (e.sending.last + 1) e.sending.packet_limit (all_money_left (once_fulfilled e.sending w.goes.load)) hops (received f w.bytes w.later) (over hops f w))
passage_comes input limit e hops f g others h s calm x =
    subst (λ text. Comes e.peer (e.sending.last + 1) e.sending.packet_limit (all_money_left (once_fulfilled e.sending w.goes.load)) hops (received f w.bytes w.later) (crossed hops f text w.later)) (sym w.goes.bytes_are)
    (crosses e.peer e.sending.last e.sending.packet_limit (all_money_left e.sending) (all_money_left (once_fulfilled e.sending w.goes.load)) hops f q w.later (fulfillment e.keys w.goes.payload) answer.0 (received f w.bytes w.later) calm w.goes.lawful
    (load_has_room input e f s w) x.moment x.in_time (λ expiry is early. comes_the_same (lengths input) e f expiry s.quiet s.abreast s.joined w is early) answer.1 (own_fits e.keys w.goes.payload))
  where
    w : Passage e
    w = x.passage

    q : PreparePacket
    q = prepare_for e w.now w.goes.load.amount w.goes.payload

    answer : (reply : List ℕ) × (answer_at (received f w.bytes w.later).0.bytes ≡ Ok (Fulfilled (fulfillment e.keys w.goes.payload) reply))
    answer = passage_answers (lengths input) e f s.quiet s.abreast s.joined s.tellable w

pub crossing_turn : (input : ℕ → List ℕ) (limit : ℕ) (e : EndState) (hops : List Hop) (f g : EndState) (others : List Hop) (h : EndState) → 32739 ≤ limit → Stands input e f → AreCalm e.peer e.sending hops → Crossing input limit e hops f g others h → Turn input limit e f g h
crossing_turn input limit e hops f g others h room s calm x =
    let c = passage_comes input limit e hops f g others h s calm x in
    record {
      passage = x.passage;
      room = λ k. (let few = passage_short (lengths input) e f s.quiet s.abreast s.joined s.tellable x.passage k in omega (arith, few, room));
      reads = x.reads ∙ ap (take_each limit 0 65) c.end;
      writes = x.writes ∙ ap (λ bytes. write_each input 0 65 (ended x.passage.gone x.passage.flight (Some bytes))) c.answer;
    }

-- ---- a round keeps the invariant

pub turn_exchange : (input : ℕ → List ℕ) (limit : ℕ) (e f g h : EndState) → IsModest (lengths input) → Stands input e f → Turn input limit e f g h → Exchange (lengths input) e.sending f.receiving g.sending h.receiving
turn_exchange input limit e f g h modest s x = trip_exchange (lengths input) e f g h s.quiet s.abreast s.joined s.tellable (turn_trip input limit e f g h modest s.quiet s.abreast s.joined s.tellable s.held_back x).0

pub turn_stands : (input : ℕ → List ℕ) (limit : ℕ) (e f g h : EndState) → IsModest (lengths input) → Stands input e f → Turn input limit e f g h → Stands input g h
turn_stands input limit e f g h modest s x =
    let n = lengths input in
    let turn = turn_trip input limit e f g h modest s.quiet s.abreast s.joined s.tellable s.held_back x in
    let y = turn_exchange input limit e f g h modest s x in
    record {
      quiet = round_keeps n e.sending g.sending s.quiet (exchange_round n e.sending f.receiving g.sending h.receiving modest s.quiet s.abreast y);
      abreast = round_abreast n e.sending g.sending y.limits y.load y.packet f.receiving h.receiving s.quiet y.sends y.fills s.abreast y.carries y.reads y.writes;
      joined = joined_still n e f g h s.quiet s.abreast s.joined s.tellable turn.0;
      tellable = tells_still n e f g h s.quiet s.abreast s.joined s.tellable turn.0;
      held_back = turn.1;
    }

turn_peer : (input : ℕ → List ℕ) (limit : ℕ) (e f g h : EndState) → IsModest (lengths input) → Stands input e f → Turn input limit e f g h → g.peer ≡ e.peer
turn_peer input limit e f g h modest s x = peer_still (lengths input) e f g h s.quiet s.abreast s.joined s.tellable (turn_trip input limit e f g h modest s.quiet s.abreast s.joined s.tellable s.held_back x).0

-- hops stay calm
calm_as : (destination there : List ℕ) (sent last most limit after left amount before : ℕ) (hops others : List Hop) → there ≡ destination → last ≡ sent → limit ≡ most → left + amount ≡ before → after + amount ≡ before → others ≡ hops
    → AllByRecursion (IsCalm destination sent most after) hops → AllByRecursion (IsCalm there last limit left) others
calm_as destination there sent last most limit after left amount before hops others a b c d e same calm =
    let money : after ≡ left = omega (arith, d, e) in
    subst (λ xs. AllByRecursion (IsCalm there last limit left) xs) (sym same)
    (subst (λ x. AllByRecursion (IsCalm x last limit left) hops) (sym a)
    (subst (λ x. AllByRecursion (IsCalm destination x limit left) hops) (sym b)
    (subst (λ x. AllByRecursion (IsCalm destination sent x left) hops) (sym c)
    (subst (λ x. AllByRecursion (IsCalm destination sent most x) hops) money calm))))

pub crossing_calm : (input : ℕ → List ℕ) (limit : ℕ) (e : EndState) (hops : List Hop) (f g : EndState) (others : List Hop) (h : EndState) → 32739 ≤ limit → IsModest (lengths input) → Stands input e f → AreCalm e.peer e.sending hops → Crossing input limit e hops f g others h
    → AreCalm g.peer g.sending others
unfolding crossing_turn
crossing_calm input limit e hops f g others h room modest s calm x =
    let c = passage_comes input limit e hops f g others h s calm x in
    let turn = crossing_turn input limit e hops f g others h room s calm x in
    let spends = turn_spends input limit e f g h modest s.quiet s.abreast s.joined s.tellable s.held_back turn in
    let room = load_has_room input e f s x.passage in
    calm_as e.peer g.peer (e.sending.last + 1) g.sending.last e.sending.packet_limit g.sending.packet_limit _ (all_money_left g.sending) x.passage.goes.load.amount (all_money_left e.sending) (over hops f x.passage).hops others
    (turn_peer input limit e f g h modest s turn) spends.last spends.packet_limit spends.money room.spends x.passed c.calm

-- ---- m crossings

pub crossings_turns : (input : ℕ → List ℕ) (limit m : ℕ) (e : EndState) (hops : List Hop) (f g : EndState) (others : List Hop) (h : EndState) → 32739 ≤ limit → IsModest (lengths input) → Stands input e f → AreCalm e.peer e.sending hops
    → Crossings input limit m e hops f g others h → Turns input limit m e f g h × AreCalm g.peer g.sending others
crossings_turns input limit zero e hops f g others h room modest s calm run = (
  (run.0, run.2),
  subst (λ (z : EndState). AreCalm z.peer z.sending others) (sym run.0) (subst (AreCalm e.peer e.sending) (sym run.1) calm),
)
crossings_turns input limit (suc m) e hops f g others h room modest s calm run =
    let mid = run.0 in
    let between = run.1 in
    let beyond = run.2 in
    let x = run.3 in
    let turn = crossing_turn input limit e hops f mid between beyond room s calm x in
    let rest = crossings_turns input limit m mid between beyond g others h room modest (turn_stands input limit e f mid beyond modest s turn) (crossing_calm input limit e hops f mid between beyond room modest s calm x) run.4 in
    ((mid, beyond, turn, rest.0), rest.1)

-- ---- from the opening on

pub opening_stands : (role : Role) (keys : DerivedKeys) (own peer : List ℕ) (config its_config : Config) (input : ℕ → List ℕ) (money : ℕ → ℕ) (count : ℕ) → MaySend config → IsModest (lengths input) → IsModest money
    → (let e = begin_each input money count (new_end role keys own peer config) in let f = allow_each money 0 65 (new_end (other role) keys peer own its_config) in Stands input e f × IsOpening (lengths input) config e.sending)
opening_stands role keys own peer config its_config input money count may modest modest_money =
    let n = lengths input in
    let e = begin_each input money count (new_end role keys own peer config) in
    let f = allow_each money 0 65 (new_end (other role) keys peer own its_config) in
    let begun = calls_begun role keys own peer config input money count modest modest_money in
    let allows = calls_allow (other role) keys peer own its_config money in
    let opening = begun_opening (parity role) n money config e may begun in (
      record {
        quiet = opening_quiet n config e.sending opening;
        abreast = begun_abreast role n money config e f may modest modest_money begun allows;
        joined = calls_joined role keys own peer config its_config input money count;
        tellable = allowed_tells (parity (other role)) money f modest_money allows;
        held_back = begun.held_back;
      },
      opening,
    )

pub run_turns : (role : Role) (keys : DerivedKeys) (own peer : List ℕ) (config its_config : Config) (input : ℕ → List ℕ) (money : ℕ → ℕ) (count limit m : ℕ) (hops others : List Hop) (g h : EndState) → 32739 ≤ limit → MaySend config → IsModest (lengths input) → IsModest money
    → (let e = begin_each input money count (new_end role keys own peer config) in let f = allow_each money 0 65 (new_end (other role) keys peer own its_config) in
    AreCalm peer e.sending hops → Crossings input limit m e hops f g others h → Turns input limit m e f g h × AreCalm g.peer g.sending others)
run_turns role keys own peer config its_config input money count limit m hops others g h room may modest modest_money calm run =
    let e = begin_each input money count (new_end role keys own peer config) in
    let f = allow_each money 0 65 (new_end (other role) keys peer own its_config) in
    let stands = opening_stands role keys own peer config its_config input money count may modest modest_money in
    let same = (begin_same input money count (new_end role keys own peer config)).peer in
    crossings_turns input limit m e hops f g others h room modest stands.0 (subst (λ x. AreCalm x e.sending hops) (sym same) calm) run

pub turns_lower : (input : ℕ → List ℕ) (limit m : ℕ) (e f g h : EndState) → IsModest (lengths input) → Stands input e f → Turns input limit m e f g h → m + work_left (lengths input) g.sending ≤ work_left (lengths input) e.sending
turns_lower input limit m e f g h modest s run =
    let n = lengths input in
    let trips = turns_trips input limit m e f g h modest s.quiet s.abreast s.joined s.tellable s.held_back run in
    let exchanges = trips_exchanges n m e f g h modest s.quiet s.abreast s.joined s.tellable trips in
    (rounds_lower n m e.sending g.sending s.quiet (exchanges_rounds n m e.sending f.receiving g.sending h.receiving modest s.quiet s.abreast exchanges).0).0
