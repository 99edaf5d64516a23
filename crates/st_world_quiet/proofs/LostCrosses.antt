-- A run over calm hops by calls, in which some Sends are lost.
use Rattle.std.proofs.Common.{◌≡◌, ℕ, suc, ◌+◌, ◌-◌, ◌*◌, ◌<◌, ◌≤◌, List, [], ◌∷◌, sym, ap, subst, ◌∙◌, arith, Some}
use Rattle.std.specs.List.{AllByRecursion}
use Rattle.st_hop.specs.Hop.{Hop}
use Rattle.st_frames.specs.Frames.{max_packet}
use Rattle.st_sender.specs.Sending.{Config, Sending}
use Rattle.st_sender.specs.Loads.{with_flight}
use Rattle.st_receiver.specs.Streams.{Receiving}
use Rattle.st_receiver.specs.Limits.{limits}
use Rattle.st_keys.specs.Keys.{DerivedKeys}
use Rattle.st_end.specs.declared.role.Role.{Role}
use Rattle.st_end.specs.State.{EndState, new_end}
use Rattle.st_end.specs.Answers.{ended}
use Rattle.st_world_quiet.specs.Quiet.{IsQuiet}
use Rattle.st_world_quiet.specs.Left.{all_money_left}
use Rattle.st_world_quiet.specs.Rounds.{IsWritten, once_fulfilled}
use Rattle.st_world_quiet.specs.Mirrored.{IsAhead, IsReadOut, Tally}
use Rattle.st_world_quiet.specs.Exchanges.{IsModest}
use Rattle.st_world_quiet.specs.Losses.{AnswerLost, AreFew, Delivered, Fate, MayLose, PrepareLost, lost_answers, tally_after}
use Rattle.st_world_quiet.specs.Calls.{AreHeldBack, MaySend, allow_each, begin_each, lengths, other, take_each, write_each}
use Rattle.st_world_quiet.specs.Trips.{AreJoined, CanTell, Turn}
use Rattle.st_world_quiet.specs.LostTrips.{LostTurn, UnansweredTurn}
use Rattle.st_world_quiet.proofs.Money.{money_after}
use Rattle.st_world_quiet.proofs.Bound.{opening_quiet}
use Rattle.st_world_quiet.proofs.Losing.{attempt_fails}
use Rattle.st_world_quiet.proofs.Trips.{goes_sends}
use Rattle.st_world_quiet.proofs.Short.{passage_short}
use Rattle.st_world_quiet.proofs.Turns.{turn_trip}
use Rattle.st_world_quiet.proofs.Beginning.{calls_begun}
use Rattle.st_world_quiet.proofs.SameEnds.{begin_same}
use Rattle.st_world_quiet.proofs.Trying.{HasSpare, amount_spare, one_try, opening_room, opening_spare, opening_tally}
use Rattle.st_world_quiet.proofs.LostTrips.{trip_try}
use Rattle.st_world_quiet.proofs.LostTurns.{lost_turn, unanswered_turn}
use Rattle.st_world_quiet.proofs.LostRuns.{Opens, calls_lose, modest_money}
use Rattle.st_world_quiet.specs.Calm.{IsCalm}
use Rattle.st_world_quiet.specs.Chains.{Crossing}
use Rattle.st_world_quiet.specs.LostCrossings.{AreWide, CrossedTrip, FatedCross, FatedCrosses, FatedCrossing, FatedCrossings, LostCross, LostCrossing, UnansweredCross, UnansweredCrossing}
use Rattle.st_world_quiet.proofs.HopLostRuns.{AreRoomy, crossed_comes, crossing_trip, fate_spare, stranded_comes}

lost_cross : {c : Tally} (input : ℕ → List ℕ) (limit : ℕ) (e : EndState) (hops : List Hop) (f g : EndState) (others : List Hop) (h : EndState) → IsModest (lengths input) → IsQuiet (lengths input) e.sending → IsAhead (lengths input) c e.sending f.receiving → AreHeldBack (lengths input) e.sending → e.sending.failures + 1 < 200
    → LostCross input limit e hops f g others h → LostCrossing (lengths input) e hops f g others h × AreHeldBack (lengths input) g.sending
unfolding lost_turn
lost_cross input limit e hops f g others h modest quiet ahead held few x =
    let turn : LostTurn input limit e f g h = record { departure = x.departure; reads = x.reads; writes = x.writes } in
    let trip = lost_turn input limit e f g h modest quiet ahead held few turn in
    (record { departure = x.departure; past = x.past; later = x.later; moment = x.moment; in_time = x.in_time; passed = x.passed; reads = trip.0.reads; read_alone = trip.0.read_alone; writes = trip.0.writes; written_alone = trip.0.written_alone }, trip.1)

unanswered_cross : {c : Tally} (answers : ℕ) (input : ℕ → List ℕ) (limit : ℕ) (e : EndState) (hops : List Hop) (f g : EndState) (others : List Hop) (h : EndState) → 32739 ≤ limit → IsModest (lengths input) → IsQuiet (lengths input) e.sending → IsAhead (lengths input) c e.sending f.receiving → AreJoined e f → CanTell f.receiving
    → AreHeldBack (lengths input) e.sending → e.sending.failures + 1 < 200 → AreRoomy c e hops → HasSpare (suc answers) c e.sending → UnansweredCross input limit e hops f g others h → UnansweredCrossing (lengths input) e hops f g others h × AreHeldBack (lengths input) g.sending
unfolding unanswered_turn
unanswered_cross {c} answers input limit e hops f g others h room modest quiet ahead joined tellable held few calm spare x =
    let n = lengths input in
    let w = x.passage in
    let p = w.goes.load in
    let less = (amount_spare answers c e.sending (limits e.receiving) p (goes_sends e w.gone w.iv w.bytes w.now w.flight w.goes) spare).0 in
    let come = stranded_comes n e hops f (all_money_left e.sending + (c.spare_all - p.amount)) x.past quiet ahead joined tellable calm w x.moment x.in_time (put_back _ _ _ less) in
    let turn : UnansweredTurn input limit e f g h = record {
      passage = w;
      room = λ k. (let short = passage_short n e f quiet ahead joined tellable w k in omega (arith, short, room));
      reads = x.reads ∙ ap (take_each limit 0 65) come.end;
      writes = x.writes;
    } in
    let trip = unanswered_turn input limit e f g h modest quiet ahead joined tellable held few turn in (
      record {
        passage = w;
        past = x.past;
        moment = x.moment;
        in_time = x.in_time;
        passed = x.passed;
        reads = subst (λ (z : EndState). IsReadOut z.receiving h.receiving) (sym come.end) trip.0.reads;
        read_alone = trip.0.read_alone ∙ ap (λ (z : EndState). record z { receiving = h.receiving }) (sym come.end);
        writes = trip.0.writes;
        written_alone = trip.0.written_alone;
      },
      trip.1,
    )
  where
    put_back : (amount money spare : ℕ) → amount ≤ spare → money + (spare - amount) + amount ≡ money + spare
    put_back amount money spare l = omega arith

delivered_cross : {c : Tally} (input : ℕ → List ℕ) (limit : ℕ) (e : EndState) (hops : List Hop) (f g : EndState) (others : List Hop) (h : EndState) → 32739 ≤ limit → IsModest (lengths input) → IsQuiet (lengths input) e.sending → IsAhead (lengths input) c e.sending f.receiving → AreJoined e f → CanTell f.receiving
    → AreHeldBack (lengths input) e.sending → AreRoomy c e hops → Crossing input limit e hops f g others h → CrossedTrip (lengths input) e hops f g others h × AreHeldBack (lengths input) g.sending
unfolding turn_trip
delivered_cross {c} input limit e hops f g others h room modest quiet ahead joined tellable held calm x =
    let n = lengths input in
    let w = x.passage in
    let p = w.goes.load in
    let money = money_after n e.sending (limits e.receiving) max_packet p (with_flight e.sending p) quiet (goes_sends e w.gone w.iv w.bytes w.now w.flight w.goes) in
    let come = crossed_comes n e hops f (all_money_left (once_fulfilled e.sending p) + c.spare_all) quiet ahead joined tellable calm w x.moment x.in_time (moved _ _ _ _ money) in
    let turn : Turn input limit e f g h = record {
      passage = w;
      room = λ k. (let short = passage_short n e f quiet ahead joined tellable w k in omega (arith, short, room));
      reads = x.reads ∙ ap (take_each limit 0 65) come.end;
      writes = x.writes ∙ ap (λ bytes. write_each input 0 65 (ended w.gone w.flight (Some bytes))) come.answer;
    } in
    let trip = turn_trip input limit e f g h modest quiet ahead joined tellable held turn in (
      record {
        passage = w;
        moment = x.moment;
        in_time = x.in_time;
        passed = x.passed;
        reads = subst (λ (z : EndState). IsReadOut z.receiving h.receiving) (sym come.end) trip.0.reads;
        read_alone = trip.0.read_alone ∙ ap (λ (z : EndState). record z { receiving = h.receiving }) (sym come.end);
        writes = subst (λ bytes. IsWritten n (ended w.gone w.flight (Some bytes)).sending g.sending) (sym come.answer) trip.0.writes;
        written_alone = trip.0.written_alone ∙ ap (λ bytes. record (ended w.gone w.flight (Some bytes)) { sending = g.sending }) (sym come.answer);
      },
      trip.1,
    )
  where
    moved : (now amount before spare : ℕ) → now + amount ≡ before → now + spare + amount ≡ before + spare
    moved now amount before spare e = omega arith

pub fated_cross : {c : Tally} (fate : Fate) (fates : List Fate) (input : ℕ → List ℕ) (limit in_row : ℕ) (e : EndState) (hops : List Hop) (f g : EndState) (others : List Hop) (h : EndState) → 32739 ≤ limit → IsModest (lengths input) → IsQuiet (lengths input) e.sending → IsAhead (lengths input) c e.sending f.receiving → AreJoined e f → CanTell f.receiving
    → AreHeldBack (lengths input) e.sending → AreRoomy c e hops → HasSpare (lost_answers (fate ∷ fates)) c e.sending → e.sending.failures ≡ in_row → AreFew in_row (fate ∷ fates) → FatedCross fate input limit e hops f g others h → FatedCrossing fate (lengths input) e hops f g others h × AreHeldBack (lengths input) g.sending
fated_cross Delivered fates input limit in_row e hops f g others h room modest quiet ahead joined tellable held calm spare is few x = delivered_cross input limit e hops f g others h room modest quiet ahead joined tellable held calm x
fated_cross PrepareLost fates input limit in_row e hops f g others h room modest quiet ahead joined tellable held calm spare is few x = lost_cross input limit e hops f g others h modest quiet ahead held (let l = few.0 in omega (arith, is, l)) x
fated_cross AnswerLost fates input limit in_row e hops f g others h room modest quiet ahead joined tellable held calm spare is few x = unanswered_cross (lost_answers fates) input limit e hops f g others h room modest quiet ahead joined tellable held (let l = few.0 in omega (arith, is, l)) calm spare x

crosses_crossings : (input : ℕ → List ℕ) (limit : ℕ) (fates : List Fate) (c : Tally) (in_row : ℕ) (e : EndState) (hops : List Hop) (f g : EndState) (others : List Hop) (h : EndState) → 32739 ≤ limit → IsModest (lengths input) → IsQuiet (lengths input) e.sending → IsAhead (lengths input) c e.sending f.receiving → HasSpare (lost_answers fates) c e.sending
    → AreJoined e f → CanTell f.receiving → AreHeldBack (lengths input) e.sending → AreRoomy c e hops → e.sending.failures ≡ in_row → AreFew in_row fates → FatedCrosses input limit fates e hops f g others h → FatedCrossings (lengths input) fates e hops f g others h
crosses_crossings input limit [] c in_row e hops f g others h room modest quiet ahead spare joined tellable held calm is few run = run
crosses_crossings input limit (fate ∷ fates) c in_row e hops f g others h room modest quiet ahead spare joined tellable held calm is few run =
    let n = lengths input in
    let mid = run.0 in
    let between = run.1 in
    let beyond = run.2 in
    let cross = fated_cross fate fates input limit in_row e hops f mid between beyond room modest quiet ahead joined tellable held calm spare is few run.3 in
    let one = crossing_trip fate (lost_answers fates) n e hops f mid between beyond quiet ahead joined tellable calm (fate_spare fate fates c e spare) cross.0 in
    let try = trip_try fate n e f mid beyond quiet ahead joined tellable one.trip in
    let next = one_try fate fates n c e.sending f.receiving mid.sending beyond.receiving try.tried quiet ahead spare in
    let row = attempt_fails fate fates n e.sending mid.sending in_row quiet next.attempt is few in (
      mid,
      between,
      beyond,
      cross.0,
      crosses_crossings input limit fates (tally_after fate n e.sending f.receiving mid.sending beyond.receiving try.tried c) row.1.0 mid between beyond g others h room modest (next.quiet row.0) next.ahead next.spare try.joined try.tellable cross.1
          (subst (λ spare. AllByRecursion (IsCalm mid.peer mid.sending.last mid.sending.packet_limit (all_money_left mid.sending + spare)) between) (sym (try.left c)) one.calm) row.1.1 row.1.2 run.4,
    )

pub run_crossings : (input : ℕ → List ℕ) (money : ℕ → ℕ) (config : Config) (limit : ℕ) (fates : List Fate) (peer : List ℕ) (e : EndState) (hops : List Hop) (f g : EndState) (others : List Hop) (h : EndState) → 32739 ≤ limit → IsModest (lengths input) → Opens (lengths input) money config (lost_answers fates) e f → AreHeldBack (lengths input) e.sending
    → e.peer ≡ peer → AreWide peer (lost_answers fates) config e.sending hops → AreFew 0 fates → FatedCrosses input limit fates e hops f g others h → FatedCrossings (lengths input) fates e hops f g others h
run_crossings input money config limit fates peer e hops f g others h room modest o held same calm few run =
    crosses_crossings input limit fates (opening_tally (lost_answers fates) e.sending) 0 e hops f g others h room modest (opening_quiet (lengths input) config e.sending o.opening)
    (subst (λ (r : Receiving). IsAhead (lengths input) (opening_tally (lost_answers fates) e.sending) e.sending r) (sym o.is) (opening_room (lengths input) config (lost_answers fates) e.sending o.parity o.kept modest o.opening o.allows))
    (opening_spare (lost_answers fates) e.sending) o.joined o.tellable held
    (subst (λ x. AllByRecursion (IsCalm x e.sending.last e.sending.packet_limit (all_money_left e.sending + lost_answers fates * e.sending.packet_limit)) hops) (sym same)
    (subst (λ l. AllByRecursion (IsCalm peer e.sending.last e.sending.packet_limit (all_money_left e.sending + lost_answers fates * l)) hops) (sym o.limit) calm))
    (ap (λ (z : Sending). z.failures) o.opening.rest) few run

pub calls_crossings : (role : Role) (keys : DerivedKeys) (own peer : List ℕ) (config its_config : Config) (input : ℕ → List ℕ) (money most : ℕ → ℕ) (count limit : ℕ) (fates : List Fate) (hops others : List Hop) (g h : EndState) → 32739 ≤ limit → MaySend config → IsModest (lengths input) → IsModest most → MayLose (lost_answers fates) config money most → AreFew 0 fates
    → (let e = begin_each input money count (new_end role keys own peer config) in let f = allow_each most 0 65 (new_end (other role) keys peer own its_config) in
    AreWide peer (lost_answers fates) config e.sending hops → FatedCrosses input limit fates e hops f g others h → FatedCrossings (lengths input) fates e hops f g others h)
calls_crossings role keys own peer config its_config input money most count limit fates hops others g h room may modest modest_most lose few calm run =
    run_crossings input money config limit fates peer (begin_each input money count (new_end role keys own peer config)) hops (allow_each most 0 65 (new_end (other role) keys peer own its_config)) g others h room modest
    (calls_lose role keys own peer config its_config input money most count (lost_answers fates) may modest modest_most lose)
    (calls_begun role keys own peer config input money count modest (modest_money (lost_answers fates) config money most lose)).held_back
    (begin_same input money count (new_end role keys own peer config)).peer calm few run
