-- A run over calm hops in which some Sends are lost is such a run of two ends with nothing between them.
use Rattle.std.proofs.Common.{◌≡◌, ℕ, suc, ◌+◌, ◌-◌, ◌*◌, ◌≤◌, false, List, [], ◌∷◌, refl, sym, ap, subst, ◌∙◌, arith, ℤ, Some, Ok}
use Rattle.std.specs.Prelude.{int_le, pos, ◌+ℤ◌, ◌≤ℤ◌}
use Rattle.std.specs.List.{AllByRecursion}
use Rattle.st_ilp.specs.Packets.{Fulfilled}
use Rattle.st_ilp.specs.Reading.{answer_at}
use Rattle.st_frames.specs.Frames.{max_packet}
use Rattle.st_hop.specs.Hop.{Hop}
use Rattle.st_keys.specs.Keys.{fulfillment}
use Rattle.st_sender.specs.Sending.{Config, Load}
use Rattle.st_sender.specs.Loads.{Sends, with_flight}
use Rattle.st_receiver.specs.Streams.{Receiving}
use Rattle.st_receiver.specs.Limits.{limits}
use Rattle.st_end.specs.State.{EndState}
use Rattle.st_end.specs.Sending.{answer_time, prepare_for}
use Rattle.st_end.specs.Sending as goes
use Rattle.st_end.specs.declared.flight.Open as flights
use Rattle.st_end.specs.Receiving.{received}
use Rattle.st_end.specs.Answers.{ended}
use Rattle.st_world_quiet.specs.Quiet.{IsQuiet}
use Rattle.st_world_quiet.specs.Left.{all_money_left}
use Rattle.st_world_quiet.specs.Rounds.{IsWritten, once_fulfilled}
use Rattle.st_world_quiet.specs.Mirrored.{IsAhead, IsReadOut, Tally}
use Rattle.st_world_quiet.specs.Exchanges.{IsModest}
use Rattle.st_world_quiet.specs.Losses.{AnswerLost, Delivered, Fate, PrepareLost, lost_answers, tally_after}
use Rattle.st_world_quiet.specs.Trips.{AreJoined, CanTell, Passage, Trip}
use Rattle.st_world_quiet.specs.LostTrips.{FatedTrip, FatedTrips, LostTrip, UnansweredTrip}
use Rattle.st_world_quiet.proofs.Money.{money_after}
use Rattle.st_world_quiet.proofs.Credited.{amount_left}
use Rattle.st_world_quiet.proofs.Losing.{miss_last, miss_limit, miss_money}
use Rattle.st_world_quiet.proofs.Trips.{comes_the_same, goes_sends, passage_answers, peer_still}
use Rattle.st_world_quiet.proofs.Bound.{opening_quiet}
use Rattle.st_world_quiet.proofs.Trying.{HasSpare, amount_spare, one_try, opening_room, opening_spare, opening_tally}
use Rattle.st_world_quiet.proofs.LostRuns.{Opens}
use Rattle.st_world_quiet.proofs.LostTrips.{lost_miss, lost_peer, spare_after, trip_spends, trip_try, unanswered_miss, unanswered_peer}
use Rattle.st_world_quiet.specs.Crossing.{crossed, less_time}
use Rattle.st_world_quiet.specs.Calm.{HasRoom, IsCalm}
use Rattle.st_world_quiet.specs.Chains.{over}
use Rattle.st_world_quiet.specs.LostCrossings.{AreWide, CrossedTrip, FatedCrossing, FatedCrossings, LostCrossing, UnansweredCrossing, lost_past, unanswered_past}
use Rattle.st_world_quiet.proofs.Chains.{Comes, crosses}
use Rattle.st_world_quiet.proofs.HopRuns.{own_fits}
use Rattle.st_world_quiet.proofs.LostHops.{Strands, all_calm_later, lost_calm, strands}

-- hops between two Sends: they have room for the money that is left, and for what lost answers may still carry
abbrev pub AreRoomy : Tally → EndState → List Hop → Type 0
AreRoomy c e hops = AllByRecursion (IsCalm e.peer e.sending.last e.sending.packet_limit (all_money_left e.sending + c.spare_all)) hops

calm_to : (destination there : List ℕ) (sent last most limit left after : ℕ) (hops others : List Hop) → there ≡ destination → limit ≡ most → sent ≤ last → after ≤ left → others ≡ hops
    → AllByRecursion (IsCalm destination sent most left) hops → AllByRecursion (IsCalm there last limit after) others
calm_to destination there sent last most limit left after hops others a b s l same calm =
    subst (AllByRecursion (IsCalm there last limit after)) (sym same)
    (subst (λ x. AllByRecursion (IsCalm x last limit after) hops) (sym a)
    (subst (λ x. AllByRecursion (IsCalm destination last x after) hops) (sym b)
    (all_calm_later destination sent last most left after hops s l calm)))

-- an outgoing packet leaves `after` of the money that was left
pub load_room : (c : Tally) (n : ℕ → ℕ) (e gone : EndState) (iv bytes : List ℕ) (now : ℤ) (flight : flights.Open) (g : goes.Goes e iv now flight bytes gone) (after : ℕ) → after + g.load.amount ≡ all_money_left e.sending + c.spare_all
    → HasRoom e.peer e.sending.last e.sending.packet_limit (all_money_left e.sending + c.spare_all) after (prepare_for e now g.load.amount g.payload)
load_room c n e gone iv bytes now flight g after spends =
    let sends : Sends e.sending (limits e.receiving) max_packet g.load (with_flight e.sending g.load) = goes_sends e gone iv bytes now flight g in
    record {
      there = refl;
      small = sends.fits.amount;
      spends = spends;
      numbers = (let few = g.spells.sequence in let same : g.load.sequence ≡ e.sending.last + 1 = ap (λ (z : Load). z.sequence) sends.load in omega (arith, few, same));
    }

-- ---- a Prepare that crosses, and its answer

passage_reads : {c : Tally} (n : ℕ → ℕ) (e f : EndState) → IsQuiet n e.sending → IsAhead n c e.sending f.receiving → AreJoined e f → CanTell f.receiving → (w : Passage e)
    → (reply : List ℕ) × (answer_at (received f w.bytes w.later).0.bytes ≡ Ok (Fulfilled (fulfillment e.keys w.goes.payload) reply))
passage_reads n e f quiet ahead joined tellable w = passage_answers n e f quiet ahead joined tellable w

pub crossed_comes : {c : Tally} (n : ℕ → ℕ) (e : EndState) (hops : List Hop) (f : EndState) (after : ℕ) → IsQuiet n e.sending → IsAhead n c e.sending f.receiving → AreJoined e f → CanTell f.receiving → AreRoomy c e hops → (w : Passage e) → pos 0 ≤ℤ w.later → int_le (less_time hops (w.now +ℤ answer_time)) w.later ≡ false
    → after + w.goes.load.amount ≡ all_money_left e.sending + c.spare_all → Comes e.peer (e.sending.last + 1) e.sending.packet_limit after hops (received f w.bytes w.later) (over hops f w)
crossed_comes {c} n e hops f after quiet ahead joined tellable calm w moment in_time spends =
    let answer = passage_reads n e f quiet ahead joined tellable w in
    subst (λ text. Comes e.peer (e.sending.last + 1) e.sending.packet_limit after hops (received f w.bytes w.later) (crossed hops f text w.later)) (sym w.goes.bytes_are)
    (crosses e.peer e.sending.last e.sending.packet_limit (all_money_left e.sending + c.spare_all) after hops f (prepare_for e w.now w.goes.load.amount w.goes.payload) w.later (fulfillment e.keys w.goes.payload) answer.0 (received f w.bytes w.later) calm w.goes.lawful
    (load_room c n e w.gone w.iv w.bytes w.now w.flight w.goes after spends) moment in_time (λ expiry is early. comes_the_same n e f expiry quiet ahead joined w is early) answer.1 (own_fits e.keys w.goes.payload))

crossed_trip : {c : Tally} (n : ℕ → ℕ) (e : EndState) (hops : List Hop) (f g : EndState) (others : List Hop) (h : EndState) (after : ℕ) → IsQuiet n e.sending → IsAhead n c e.sending f.receiving → AreJoined e f → CanTell f.receiving → AreRoomy c e hops → (x : CrossedTrip n e hops f g others h)
    → after + x.passage.goes.load.amount ≡ all_money_left e.sending + c.spare_all → Trip n e f g h
crossed_trip n e hops f g others h after quiet ahead joined tellable calm x spends =
    let w = x.passage in
    let come = crossed_comes n e hops f after quiet ahead joined tellable calm w x.moment x.in_time spends in
    record {
      passage = w;
      reads = subst (λ (z : EndState). IsReadOut z.receiving h.receiving) come.end x.reads;
      read_alone = x.read_alone ∙ ap (λ (z : EndState). record z { receiving = h.receiving }) come.end;
      writes = subst (λ bytes. IsWritten n (ended w.gone w.flight (Some bytes)).sending g.sending) come.answer x.writes;
      written_alone = x.written_alone ∙ ap (λ bytes. record (ended w.gone w.flight (Some bytes)) { sending = g.sending }) come.answer;
    }

-- ---- a Prepare that crosses, and its answer is lost

pub stranded_comes : {c : Tally} (n : ℕ → ℕ) (e : EndState) (hops : List Hop) (f : EndState) (after past : ℕ) → IsQuiet n e.sending → IsAhead n c e.sending f.receiving → AreJoined e f → CanTell f.receiving → AreRoomy c e hops → (w : Passage e) → pos 0 ≤ℤ w.later → int_le (less_time hops (w.now +ℤ answer_time)) w.later ≡ false
    → after + w.goes.load.amount ≡ all_money_left e.sending + c.spare_all → Strands e.peer (e.sending.last + 1) e.sending.packet_limit after (received f w.bytes w.later) (unanswered_past past hops f w.bytes w.later)
stranded_comes {c} n e hops f after past quiet ahead joined tellable calm w moment in_time spends =
    let answer = passage_reads n e f quiet ahead joined tellable w in
    subst (λ text. Strands e.peer (e.sending.last + 1) e.sending.packet_limit after (received f w.bytes w.later) (unanswered_past past hops f text w.later)) (sym w.goes.bytes_are)
    (strands e.peer e.sending.last e.sending.packet_limit (all_money_left e.sending + c.spare_all) after past hops f (prepare_for e w.now w.goes.load.amount w.goes.payload) w.later (fulfillment e.keys w.goes.payload) answer.0 (received f w.bytes w.later) calm w.goes.lawful
    (load_room c n e w.gone w.iv w.bytes w.now w.flight w.goes after spends) moment in_time (λ expiry is early. comes_the_same n e f expiry quiet ahead joined w is early) answer.1 (own_fits e.keys w.goes.payload))

stranded_trip : {c : Tally} (n : ℕ → ℕ) (e : EndState) (hops : List Hop) (f g : EndState) (others : List Hop) (h : EndState) (after : ℕ) → IsQuiet n e.sending → IsAhead n c e.sending f.receiving → AreJoined e f → CanTell f.receiving → AreRoomy c e hops → (x : UnansweredCrossing n e hops f g others h)
    → after + x.passage.goes.load.amount ≡ all_money_left e.sending + c.spare_all → UnansweredTrip n e f g h
stranded_trip n e hops f g others h after quiet ahead joined tellable calm x spends =
    let w = x.passage in
    let come = stranded_comes n e hops f after x.past quiet ahead joined tellable calm w x.moment x.in_time spends in
    record {
      passage = w;
      reads = subst (λ (z : EndState). IsReadOut z.receiving h.receiving) come.end x.reads;
      read_alone = x.read_alone ∙ ap (λ (z : EndState). record z { receiving = h.receiving }) come.end;
      writes = x.writes;
      written_alone = x.written_alone;
    }

lost_trip : (n : ℕ → ℕ) (e : EndState) (hops : List Hop) (f g : EndState) (others : List Hop) (h : EndState) → LostCrossing n e hops f g others h → LostTrip n e f g h
lost_trip n e hops f g others h x = record { departure = x.departure; reads = x.reads; read_alone = x.read_alone; writes = x.writes; written_alone = x.written_alone }

-- ---- one Send

pub record IsTrip (fate : Fate) (n : ℕ → ℕ) (c : Tally) (e f g : EndState) (others : List Hop) (h : EndState) : Type 0 where
  pub trip : FatedTrip fate n e f g h
  pub calm : AllByRecursion (IsCalm g.peer g.sending.last g.sending.packet_limit (all_money_left g.sending + spare_after fate n e f g h trip c)) others

pub crossing_trip : {c : Tally} (fate : Fate) (answers : ℕ) (n : ℕ → ℕ) (e : EndState) (hops : List Hop) (f g : EndState) (others : List Hop) (h : EndState) → IsQuiet n e.sending → IsAhead n c e.sending f.receiving → AreJoined e f → CanTell f.receiving → AreRoomy c e hops
    → (fate ≡ AnswerLost → HasSpare (suc answers) c e.sending) → FatedCrossing fate n e hops f g others h → IsTrip fate n c e f g others h
unfolding crossed_trip stranded_trip
crossing_trip {c} Delivered answers n e hops f g others h quiet ahead joined tellable calm spare x =
    let w = x.passage in
    let p = w.goes.load in
    let sends = goes_sends e w.gone w.iv w.bytes w.now w.flight w.goes in
    let after = all_money_left (once_fulfilled e.sending p) + c.spare_all in
    let money = money_after n e.sending (limits e.receiving) max_packet p (with_flight e.sending p) quiet sends in
    let spends : after + p.amount ≡ all_money_left e.sending + c.spare_all = moved _ _ _ _ money in
    let trip = crossed_trip n e hops f g others h after quiet ahead joined tellable calm x spends in
    let come = crossed_comes n e hops f after quiet ahead joined tellable calm w x.moment x.in_time spends in
    let left = trip_spends n e f g h quiet ahead joined tellable trip in
    let last = left.last in
    record {
      trip = trip;
      calm = calm_to e.peer g.peer (e.sending.last + 1) g.sending.last e.sending.packet_limit g.sending.packet_limit after (all_money_left g.sending + c.spare_all) (over hops f w).hops others
          (peer_still n e f g h quiet ahead joined tellable trip) left.packet_limit (omega (arith, last)) (same _ _ _ _ _ money left.money) x.passed come.calm;
    }
  where
    moved : (now amount before spare : ℕ) → now + amount ≡ before → now + spare + amount ≡ before + spare
    moved now amount before spare e = omega arith

    same : (now amount before left spare : ℕ) → now + amount ≡ before → left + amount ≡ before → left + spare ≤ now + spare
    same now amount before left spare a b = omega arith
crossing_trip {c} PrepareLost answers n e hops f g others h quiet ahead joined tellable calm spare x =
    let w = x.departure in
    let p = w.goes.load in
    let sends = goes_sends e w.gone w.iv w.bytes w.now w.flight w.goes in
    let few = amount_left n e.sending (limits e.receiving) p quiet sends in
    let after = all_money_left e.sending + c.spare_all - p.amount in
    let trip = lost_trip n e hops f g others h x in
    let m = lost_miss n e f g h quiet.alone trip in
    let last = miss_last n e.sending g.sending m in
    let money = miss_money n e.sending g.sending m in
    let left = subst (λ text. AllByRecursion (IsCalm e.peer (e.sending.last + 1) e.sending.packet_limit (all_money_left e.sending + c.spare_all)) (lost_past x.past hops text x.later)) (sym w.goes.bytes_are)
    (lost_calm e.peer e.sending.last e.sending.packet_limit (all_money_left e.sending + c.spare_all) after x.past hops (prepare_for e w.now p.amount w.goes.payload) x.later calm w.goes.lawful
    (load_room c n e w.gone w.iv w.bytes w.now w.flight w.goes after (put_back _ _ _ few)) x.moment x.in_time) in
    record {
      trip = trip;
      calm = calm_to e.peer g.peer (e.sending.last + 1) g.sending.last e.sending.packet_limit g.sending.packet_limit (all_money_left e.sending + c.spare_all) (all_money_left g.sending + c.spare_all) (lost_past x.past hops w.bytes x.later) others
          (lost_peer n e f g h quiet.alone trip) (miss_limit n e.sending g.sending m) (omega (arith, last)) (omega (arith, money)) x.passed left;
    }
  where
    put_back : (amount money spare : ℕ) → amount ≤ money → money + spare - amount + amount ≡ money + spare
    put_back amount money spare l = omega arith
crossing_trip {c} AnswerLost answers n e hops f g others h quiet ahead joined tellable calm spare x =
    let w = x.passage in
    let p = w.goes.load in
    let sends = goes_sends e w.gone w.iv w.bytes w.now w.flight w.goes in
    let few = (amount_spare answers c e.sending (limits e.receiving) p sends (spare refl)).0 in
    let after = all_money_left e.sending + (c.spare_all - p.amount) in
    let spends : after + p.amount ≡ all_money_left e.sending + c.spare_all = put_back _ _ _ few in
    let trip = stranded_trip n e hops f g others h after quiet ahead joined tellable calm x spends in
    let come = stranded_comes n e hops f after x.past quiet ahead joined tellable calm w x.moment x.in_time spends in
    let m = unanswered_miss n e f g h quiet.alone trip in
    let last = miss_last n e.sending g.sending m in
    let money = miss_money n e.sending g.sending m in
    record {
      trip = trip;
      calm = calm_to e.peer g.peer (e.sending.last + 1) g.sending.last e.sending.packet_limit g.sending.packet_limit after (all_money_left g.sending + (c.spare_all - p.amount)) (unanswered_past x.past hops f w.bytes w.later).hops others
          (unanswered_peer n e f g h quiet.alone trip) (miss_limit n e.sending g.sending m) (omega (arith, last)) (same _ _ _ money) x.passed come.calm;
    }
  where
    put_back : (amount money spare : ℕ) → amount ≤ spare → money + (spare - amount) + amount ≡ money + spare
    put_back amount money spare l = omega arith

    same : (left now spare : ℕ) → left ≡ now → left + spare ≤ now + spare
    same left now spare e = omega arith

-- ---- one crossing for each fate

pub fate_spare : (fate : Fate) (fates : List Fate) (c : Tally) (e : EndState) → HasSpare (lost_answers (fate ∷ fates)) c e.sending → fate ≡ AnswerLost → HasSpare (suc (lost_answers fates)) c e.sending
fate_spare Delivered fates c e spare is = absurd (cc)
fate_spare PrepareLost fates c e spare is = absurd (cc)
fate_spare AnswerLost fates c e spare is = spare

crossing_alive : (fate : Fate) (n : ℕ → ℕ) (e : EndState) (hops : List Hop) (f g : EndState) (others : List Hop) (h : EndState) → FatedCrossing fate n e hops f g others h → e.sending.failed ≡ false
crossing_alive Delivered n e hops f g others h x = x.passage.goes.sends.fits.alive
crossing_alive PrepareLost n e hops f g others h x = x.departure.goes.sends.fits.alive
crossing_alive AnswerLost n e hops f g others h x = x.passage.goes.sends.fits.alive

pub crossings_trips : (n : ℕ → ℕ) (fates : List Fate) (c : Tally) (e : EndState) (hops : List Hop) (f g : EndState) (others : List Hop) (h : EndState) → (e.sending.failed ≡ false → IsQuiet n e.sending) → IsAhead n c e.sending f.receiving → HasSpare (lost_answers fates) c e.sending → AreJoined e f → CanTell f.receiving
    → AreRoomy c e hops → FatedCrossings n fates e hops f g others h → FatedTrips n fates e f g h
crossings_trips n [] c e hops f g others h quiet ahead spare joined tellable calm run = (run.0, run.2)
crossings_trips n (fate ∷ fates) c e hops f g others h quiet ahead spare joined tellable calm run =
    let mid = run.0 in
    let between = run.1 in
    let beyond = run.2 in
    let x = run.3 in
    let still = quiet (crossing_alive fate n e hops f mid between beyond x) in
    let one = crossing_trip fate (lost_answers fates) n e hops f mid between beyond still ahead joined tellable calm (fate_spare fate fates c e spare) x in
    let is = trip_try fate n e f mid beyond still ahead joined tellable one.trip in
    let next = one_try fate fates n c e.sending f.receiving mid.sending beyond.receiving is.tried still ahead spare in (
      mid,
      beyond,
      one.trip,
      crossings_trips n fates (tally_after fate n e.sending f.receiving mid.sending beyond.receiving is.tried c) mid between beyond g others h next.quiet next.ahead next.spare is.joined is.tellable
          (subst (λ spare. AllByRecursion (IsCalm mid.peer mid.sending.last mid.sending.packet_limit (all_money_left mid.sending + spare)) between) (sym (is.left c)) one.calm) run.4,
    )

-- ---- from the opening on

pub run_trips : (n money : ℕ → ℕ) (config : Config) (fates : List Fate) (peer : List ℕ) (e : EndState) (hops : List Hop) (f g : EndState) (others : List Hop) (h : EndState) → IsModest n → Opens n money config (lost_answers fates) e f → e.peer ≡ peer
    → AreWide peer (lost_answers fates) config e.sending hops → FatedCrossings n fates e hops f g others h → FatedTrips n fates e f g h
run_trips n money config fates peer e hops f g others h modest o same calm run =
    crossings_trips n fates (opening_tally (lost_answers fates) e.sending) e hops f g others h (λ alive. opening_quiet n config e.sending o.opening)
    (subst (λ (r : Receiving). IsAhead n (opening_tally (lost_answers fates) e.sending) e.sending r) (sym o.is) (opening_room n config (lost_answers fates) e.sending o.parity o.kept modest o.opening o.allows))
    (opening_spare (lost_answers fates) e.sending) o.joined o.tellable
    (subst (λ x. AllByRecursion (IsCalm x e.sending.last e.sending.packet_limit (all_money_left e.sending + lost_answers fates * e.sending.packet_limit)) hops) (sym same)
    (subst (λ l. AllByRecursion (IsCalm peer e.sending.last e.sending.packet_limit (all_money_left e.sending + lost_answers fates * l)) hops) (sym o.limit) calm)) run
