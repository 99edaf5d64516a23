-- One Send of a lossy run keeps the invariant.
use Rattle.std.proofs.Common.{◌≡◌, ℕ, zero, suc, ◌+◌, ◌-◌, ◌<◌, ◌≤◌, false, List, [], ◌∷◌, length, max, refl, sym, ap, subst, ◌∙◌, arith, Option, None, Some}
use Rattle.std.specs.List.{AllByRecursion}
use Rattle.st_hop.specs.Hop.{Hop}
use Rattle.st_sender.specs.Sending.{Config, Sending, outgoing_at}
use Rattle.st_receiver.specs.Streams.{Receiving}
use Rattle.st_end.specs.State.{EndState}
use Rattle.st_world_quiet.specs.Quiet.{IsQuiet}
use Rattle.st_world_quiet.specs.Left.{all_money_left, work_left}
use Rattle.st_world_quiet.specs.Mirrored.{IsAhead, Tally}
use Rattle.st_world_quiet.specs.Exchanges.{IsModest}
use Rattle.st_world_quiet.specs.Losses.{AnswerLost, AreFew, Attempt, Delivered, Fate, PrepareLost, Try, lost_answers, losses, tally_after}
use Rattle.st_world_quiet.specs.Calls.{AreHeldBack, lengths}
use Rattle.st_world_quiet.specs.Trips.{AreJoined, CanTell}
use Rattle.st_world_quiet.specs.LostTrips.{FatedTrip}
use Rattle.st_world_quiet.proofs.EndRounds.{offer_of}
use Rattle.st_world_quiet.proofs.Losing.{attempt_fails, attempts_lower, miss_last, miss_money}
use Rattle.st_world_quiet.proofs.Trying.{HasSpare, one_try}
use Rattle.st_world_quiet.proofs.LostTrips.{lost_miss, trip_spends, trip_try, unanswered_miss}
use Rattle.st_world_quiet.specs.Calm.{IsCalm}
use Rattle.st_world_quiet.specs.LostCrossings.{FatedCross}
use Rattle.st_world_quiet.proofs.Credits.{exchange_credits, load_credited}
use Rattle.st_world_quiet.proofs.HopLostRuns.{AreRoomy, crossing_trip, fate_spare}
use Rattle.st_world_quiet.proofs.LostCrosses.{fated_cross}
use Rattle.st_world_quiet.proofs.Whole.{AreWhole}

-- the invariant between two Sends, if the rest of them have these fates
pub record Stays (input : ℕ → List ℕ) (c : Tally) (fates : List Fate) (in_row : ℕ) (e : EndState) (hops : List Hop) (f : EndState) : Type 0 where
  pub quiet : IsQuiet (lengths input) e.sending
  pub ahead : IsAhead (lengths input) c e.sending f.receiving
  pub spare : HasSpare (lost_answers fates) c e.sending
  pub joined : AreJoined e f
  pub tellable : CanTell f.receiving
  pub held_back : AreHeldBack (lengths input) e.sending
  pub calm : AreRoomy c e hops
  pub failures : e.sending.failures ≡ in_row
  pub few : AreFew in_row fates
  pub whole : AreWhole input e.sending
  pub packets : e.sending.last + work_left (lengths input) e.sending + losses fates < e.sending.config.packets
  pub unclosed : e.receiving.closed ≡ false
  pub few_hops : length hops ≤ 8

-- ---- what a Send leaves of the counts

losses_more : (fate : Fate) (fates : List Fate) → losses (fate ∷ fates) ≡ losses (fate ∷ []) + losses fates
losses_more Delivered fates = omega arith
losses_more PrepareLost fates = omega arith
losses_more AnswerLost fates = omega arith

trip_counts : {c : Tally} (fate : Fate) (n : ℕ → ℕ) (e f g h : EndState) → IsQuiet n e.sending → IsAhead n c e.sending f.receiving → AreJoined e f → CanTell f.receiving → FatedTrip fate n e f g h
    → (g.sending.last ≡ e.sending.last + 1) × (g.sending.config ≡ e.sending.config)
trip_counts Delivered n e f g h quiet ahead joined tellable x = let s = trip_spends n e f g h quiet ahead joined tellable x in (s.last, s.config)
trip_counts PrepareLost n e f g h quiet ahead joined tellable x = let m = lost_miss n e f g h quiet.alone x in (miss_last n e.sending g.sending m, ap (λ (z : Sending). z.config) m.writes.rest)
trip_counts AnswerLost n e f g h quiet ahead joined tellable x = let m = unanswered_miss n e f g h quiet.alone x in (miss_last n e.sending g.sending m, ap (λ (z : Sending). z.config) m.writes.rest)

attempt_lowers : (fate : Fate) (n : ℕ → ℕ) (s t : Sending) → IsQuiet n s → Attempt fate n s t → 1 + work_left n t ≤ work_left n s + losses (fate ∷ [])
attempt_lowers fate n s t quiet x = (attempts_lower n (fate ∷ []) s t (λ alive. quiet) (t, x, refl)).0

-- ---- what was credited

-- what a lost answer carried, by the credit before it and after it
abbrev pub carried : Fate → (before after : ℕ) → ℕ
carried Delivered before after = 0
carried PrepareLost before after = 0
carried AnswerLost before after = after - before

try_credits : (fate : Fate) (n : ℕ → ℕ) (s : Sending) (r : Receiving) (t : Sending) (u : Receiving) → IsQuiet n s → Try fate n s r t u → u.credit + all_money_left t ≡ r.credit + all_money_left s + carried fate r.credit u.credit
try_credits Delivered n s r t u quiet x = let e = exchange_credits n s r t u quiet x in omega (arith, e)
try_credits PrepareLost n s r t u quiet x = let e = x.reads.credit in let left = miss_money n s t x.miss in omega (arith, e, left)
try_credits AnswerLost n s r t u quiet x =
    let e = x.reads.credit ∙ load_credited s x.miss.limits x.miss.load x.packet r x.miss.sends x.carries in
    let left = miss_money n s t x.miss in
    by _ _ _ _ _ e left
  where
    by : (now before amount left had : ℕ) → now ≡ before + amount → left ≡ had → now + left ≡ before + had + (now - before)
    by now before amount left had a b = omega arith

-- ---- a Send keeps the invariant

pub record StaysOn (input : ℕ → List ℕ) (c : Tally) (fate : Fate) (fates : List Fate) (e f client : EndState) (others : List Hop) (server : EndState) : Type 0 where
  pub tally : Tally
  pub in_row : ℕ
  pub stays : Stays input tally fates in_row client others server
  pub offers : (k : ℕ) → offer_of (outgoing_at client.sending k) ≡ offer_of (outgoing_at e.sending k)
  pub credits : server.receiving.credit + all_money_left client.sending ≡ f.receiving.credit + all_money_left e.sending + carried fate f.receiving.credit server.receiving.credit

pub send_stays : (input : ℕ → List ℕ) (limit : ℕ) (c : Tally) (fate : Fate) (fates : List Fate) (in_row : ℕ) (e : EndState) (hops : List Hop) (f client : EndState) (others : List Hop) (server : EndState) → 32739 ≤ limit → IsModest (lengths input) → Stays input c (fate ∷ fates) in_row e hops f
    → FatedCross fate input limit e hops f client others server → AreWhole input client.sending → client.receiving ≡ e.receiving → length others ≡ length hops → StaysOn input c fate fates e f client others server
send_stays input limit c fate fates in_row e hops f client others server room modest s x whole still count =
    let n = lengths input in
    let cross = fated_cross fate fates input limit in_row e hops f client others server room modest s.quiet s.ahead s.joined s.tellable s.held_back s.calm s.spare s.failures s.few x in
    let one = crossing_trip fate (lost_answers fates) n e hops f client others server s.quiet s.ahead s.joined s.tellable s.calm (fate_spare fate fates c e s.spare) cross.0 in
    let try = trip_try fate n e f client server s.quiet s.ahead s.joined s.tellable one.trip in
    let next = one_try fate fates n c e.sending f.receiving client.sending server.receiving try.tried s.quiet s.ahead s.spare in
    let row = attempt_fails fate fates n e.sending client.sending in_row s.quiet next.attempt s.failures s.few in
    let counts = trip_counts fate n e f client server s.quiet s.ahead s.joined s.tellable one.trip in
    let lowers = attempt_lowers fate n e.sending client.sending s.quiet next.attempt in
    record {
      tally = tally_after fate n e.sending f.receiving client.sending server.receiving try.tried c;
      in_row = row.1.0;
      stays = record {
        quiet = next.quiet row.0;
        ahead = next.ahead;
        spare = next.spare;
        joined = try.joined;
        tellable = try.tellable;
        held_back = cross.1;
        calm = subst (λ spare. AllByRecursion (IsCalm client.peer client.sending.last client.sending.packet_limit (all_money_left client.sending + spare)) others) (sym (try.left c)) one.calm;
        failures = row.1.1;
        few = row.1.2;
        whole = whole;
        packets = numbers _ _ _ _ _ _ (losses (fate ∷ [])) _ _ s.packets counts.0 lowers (ap (λ (d : Config). d.packets) counts.1) (losses_more fate fates);
        unclosed = ap (λ (r : Receiving). r.closed) still ∙ s.unclosed;
        few_hops = (let few = s.few_hops in omega (arith, few, count));
      };
      offers = next.offers;
      credits = try_credits fate n e.sending f.receiving client.sending server.receiving s.quiet try.tried;
    }
  where
    numbers : (last left packets new_last new_left new_packets one all rest : ℕ) → last + left + all < packets → new_last ≡ last + 1 → 1 + new_left ≤ left + one → new_packets ≡ packets → all ≡ one + rest → new_last + new_left + rest < new_packets
    numbers last left packets new_last new_left new_packets one all rest a b c d e = omega arith
