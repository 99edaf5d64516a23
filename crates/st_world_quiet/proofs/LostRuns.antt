-- A run of two ends by bytes in which some Sends are lost, from their opening on.
use Rattle.std.proofs.Common.{◌≡◌, ℕ, ◌+◌, ◌*◌, ◌^◌, ◌<◌, ◌≤◌, false, true, List, length, min, slice_index, refl, sym, ap, subst, ◌∙◌, arith, Option, None, Some}
use Rattle.st_streams.proofs.SlotLemmas.{slot_within}
use Rattle.st_sender.specs.Sending.{Config, Outgoing, Sending, outgoing_at}
use Rattle.st_receiver.specs.Streams.{Receiving, incoming_at, may_name, new_receiving}
use Rattle.st_receiver.specs.Reading.{End, got}
use Rattle.st_keys.specs.Keys.{DerivedKeys}
use Rattle.st_end.specs.declared.role.Role.{Role}
use Rattle.st_end.specs.State.{EndState, new_end, parity}
use Rattle.st_world_quiet.specs.Left.{all_money_left, bound, money_left, work_left}
use Rattle.st_world_quiet.specs.Rounds.{IsOpening}
use Rattle.st_world_quiet.specs.Mirrored.{IsAhead}
use Rattle.st_world_quiet.specs.Exchanges.{IsModest, opened_receiving}
use Rattle.st_world_quiet.specs.Losses.{AllowsLosses, AreFew, Fate, MayLose, Tries, lost_answers, lost_on, losses}
use Rattle.st_world_quiet.specs.Calls.{AreHeldBack, MaySend, allow_each, begin_each, lengths, other}
use Rattle.st_world_quiet.specs.Trips.{AreJoined, CanTell}
use Rattle.st_world_quiet.specs.LostTrips.{FatedTrips, FatedTurns}
use Rattle.st_world_quiet.proofs.Sums.{sum_below}
use Rattle.st_world_quiet.proofs.Bound.{opening_quiet}
use Rattle.st_world_quiet.proofs.Beginning.{IsBegun, begun_opening, calls_begun}
use Rattle.st_world_quiet.proofs.Allowing.{Allows, allowed_tells, calls_allow, may_peer, money_within}
use Rattle.st_world_quiet.proofs.SameEnds.{allow_same, begin_same}
use Rattle.st_world_quiet.proofs.EndRounds.{offer_of}
use Rattle.st_world_quiet.proofs.Trying.{lossy_alive, lossy_bounded, lossy_carried, lossy_delivered, lossy_ended, lossy_offer, lossy_sharper, opening_room, opening_spare, opening_tally}
use Rattle.st_world_quiet.proofs.LostTrips.{trips_tries}
use Rattle.st_world_quiet.proofs.LostTurns.{fated_turns}

-- the peer of an end that opened streams, if this number of answers may be lost
begun_allows : (role : Role) (n money most : ℕ → ℕ) (config : Config) (answers : ℕ) (e f : EndState) → MayLose answers config money most → IsBegun (parity role) n money config e → (allows : Allows (parity (other role)) most 65 f)
    → AllowsLosses answers e.sending (opened_receiving (parity (other role)) allows.kept)
begun_allows role n money most config answers e f may begun allows = record {
  named = name;
  most = λ k x at. (let is = offer k x at in
      let within = slot_within e.sending.streams k x at in
      let slots = begun.slots in
      let room = may.each k in
      let l = allows.most k (omega (arith, within, slots)) (omega (arith, within, slots)) (name k x at) in
      let all : money k + answers * min config.packet_limit (money k) ≤ slice_index allows.kept k = omega (arith, room, l) in
      subst (λ c. x.offered + answers * min c x.offered ≤ slice_index allows.kept k) (sym limit) (subst (λ m. m + answers * min config.packet_limit m ≤ slice_index allows.kept k) (sym is) all));
  credit = (let l = sum_below (λ k. money_left (outgoing_at e.sending k)) money (λ k. money_within (money k) (outgoing_at e.sending k) (λ x at. (let is = offer k x at in omega (arith, is)))) 0 65 in
      let room = may.all in
      subst (λ c. all_money_left e.sending + answers * c < 2 ^ 63) (sym limit) (summed _ _ (answers * config.packet_limit) l room));
}
  where
    limit : e.sending.packet_limit ≡ config.packet_limit
    limit = ap (λ (z : Sending). z.packet_limit) begun.rest

    offer : (k : ℕ) (x : Outgoing) → outgoing_at e.sending k ≡ Some x → x.offered ≡ money k
    offer k x at = let is : x.offered ≡ 0 + money k = ap (λ (z : Outgoing). z.offered) (begun.streams k x at).is in omega (arith, is)

    name : (k : ℕ) (x : Outgoing) → outgoing_at e.sending k ≡ Some x → may_name (new_receiving (parity (other role))) k ≡ true
    name k x at = let own = begun.own k x at in may_peer role k own.0 own.1 own.2

    summed : (left money spare : ℕ) → left ≤ money → money + spare < 2 ^ 63 → left + spare < 2 ^ 63
    summed left money spare a b = omega arith

-- ---- from the calls of the opening

abbrev Sender : (role : Role) (keys : DerivedKeys) (own peer : List ℕ) (config : Config) (input : ℕ → List ℕ) (money : ℕ → ℕ) (count : ℕ) → EndState
Sender role keys own peer config input money count = begin_each input money count (new_end role keys own peer config)

abbrev Receiver : (role : Role) (keys : DerivedKeys) (own peer : List ℕ) (config : Config) (most : ℕ → ℕ) → EndState
Receiver role keys own peer config most = allow_each most 0 65 (new_end (other role) keys peer own config)

-- the state at the opening
pub record Opens (n money : ℕ → ℕ) (config : Config) (answers : ℕ) (e f : EndState) : Type 0 where
  pub parity : ℕ
  pub kept : List ℕ
  pub is : f.receiving ≡ opened_receiving parity kept
  pub opening : IsOpening n config e.sending
  pub allows : AllowsLosses answers e.sending (opened_receiving parity kept)
  pub joined : AreJoined e f
  pub tellable : CanTell f.receiving
  pub offered : (k : ℕ) (x : Outgoing) → outgoing_at e.sending k ≡ Some x → x.offered ≡ money k
  pub limit : e.sending.packet_limit ≡ config.packet_limit

pub modest_money : (answers : ℕ) (config : Config) (money most : ℕ → ℕ) → MayLose answers config money most → IsModest money
modest_money answers config money most may = let all = may.all in omega (arith, all)

pub calls_lose : (role : Role) (keys : DerivedKeys) (own peer : List ℕ) (config its_config : Config) (input : ℕ → List ℕ) (money most : ℕ → ℕ) (count answers : ℕ) → MaySend config → IsModest (lengths input) → IsModest most → MayLose answers config money most
    → Opens (lengths input) money config answers (Sender role keys own peer config input money count) (Receiver role keys own peer its_config most)
calls_lose role keys own peer config its_config input money most count answers may modest modest_most lose =
    let n = lengths input in
    let e = Sender role keys own peer config input money count in
    let f = Receiver role keys own peer its_config most in
    let begun = calls_begun role keys own peer config input money count modest (modest_money answers config money most lose) in
    let allows = calls_allow (other role) keys peer own its_config most in
    record {
      parity = parity (other role);
      kept = allows.kept;
      is = allows.is;
      opening = begun_opening (parity role) n money config e may begun;
      allows = begun_allows role n money most config answers e f lose begun allows;
      joined = (let s = begin_same input money count (new_end role keys own peer config) in let r = allow_same most 0 65 (new_end (other role) keys peer own its_config) in record { keys = r.keys ∙ sym s.keys; address = s.peer ∙ sym r.own });
      tellable = allowed_tells (parity (other role)) most f modest_most allows;
      offered = λ k x at. (let is : x.offered ≡ 0 + money k = ap (λ (z : Outgoing). z.offered) (begun.streams k x at).is in omega (arith, is));
      limit = ap (λ (z : Sending). z.packet_limit) begun.rest;
    }

-- ---- a run

run_tries : (n money : ℕ → ℕ) (config : Config) (fates : List Fate) (e f g h : EndState) → IsModest n → (o : Opens n money config (lost_answers fates) e f) → FatedTrips n fates e f g h → Tries n fates e.sending (opened_receiving o.parity o.kept) g.sending h.receiving
run_tries n money config fates e f g h modest o run =
    subst (λ (r : Receiving). Tries n fates e.sending r g.sending h.receiving) o.is
    (trips_tries n fates (opening_tally (lost_answers fates) e.sending) e f g h (λ alive. opening_quiet n config e.sending o.opening)
    (subst (λ (r : Receiving). IsAhead n (opening_tally (lost_answers fates) e.sending) e.sending r) (sym o.is) (opening_room n config (lost_answers fates) e.sending o.parity o.kept modest o.opening o.allows))
    (opening_spare (lost_answers fates) e.sending) o.joined o.tellable run)

pub run_bounded_by : (n money : ℕ → ℕ) (config : Config) (fates : List Fate) (e f g h : EndState) → IsModest n → Opens n money config (lost_answers fates) e f → FatedTrips n fates e f g h → length fates + 1 ≤ bound n e.sending + losses fates
run_bounded_by n money config fates e f g h modest o run = lossy_bounded n config fates e.sending g.sending h.receiving o.parity o.kept modest o.opening o.allows (run_tries n money config fates e f g h modest o run)

pub run_sharper_by : (n money : ℕ → ℕ) (config : Config) (fates : List Fate) (e f g h : EndState) → IsModest n → Opens n money config (lost_answers fates) e f → FatedTrips n fates e f g h → length fates + work_left n g.sending ≤ work_left n e.sending + losses fates
run_sharper_by n money config fates e f g h modest o run = lossy_sharper n config fates e.sending g.sending h.receiving o.parity o.kept modest o.opening o.allows (run_tries n money config fates e f g h modest o run)

pub run_alive_by : (n money : ℕ → ℕ) (config : Config) (fates : List Fate) (e f g h : EndState) → IsModest n → Opens n money config (lost_answers fates) e f → FatedTrips n fates e f g h → AreFew 0 fates → g.sending.failed ≡ false
run_alive_by n money config fates e f g h modest o run few = lossy_alive n config fates e.sending g.sending h.receiving o.parity o.kept modest o.opening o.allows (run_tries n money config fates e f g h modest o run) few

-- a stream that is open had its money offered at the opening
offer_from : (money : ℕ) (s : Sending) (k : ℕ) (x : Outgoing) (o : Option Outgoing) → outgoing_at s k ≡ o → offer_of (Some x) ≡ offer_of o → ((y : Outgoing) → outgoing_at s k ≡ Some y → y.offered ≡ money) → (y : Outgoing) × (outgoing_at s k ≡ Some y) × (y.offered ≡ money) × (x.offered ≡ money)
offer_from money s k x None e same h = absurd (cc)
offer_from money s k x (Some y) e same h =
    let is : x.offered ≡ y.offered = cc in
    (y, e, h y e, is ∙ h y e)

pub run_delivered_by : (n money : ℕ → ℕ) (config : Config) (fates : List Fate) (e f g h : EndState) (k : ℕ) (x : Outgoing) → IsModest n → Opens n money config (lost_answers fates) e f → FatedTrips n fates e f g h → g.sending.failed ≡ false → work_left n g.sending ≡ 0 → outgoing_at g.sending k ≡ Some x
    → ((incoming_at h.receiving k).held.read ≡ n k) × (money k ≤ (incoming_at h.receiving k).credited) × ((incoming_at h.receiving k).credited ≤ money k + lost_answers fates * min config.packet_limit (money k))
run_delivered_by n money config fates e f g h k x modest o run alive done at =
    let tries = run_tries n money config fates e f g h modest o run in
    let all = lossy_delivered n config fates e.sending g.sending h.receiving o.parity o.kept k x modest o.opening o.allows tries alive done at in
    let same = lossy_offer n config fates e.sending g.sending h.receiving o.parity o.kept k modest o.opening o.allows tries in
    let from = offer_from (money k) e.sending k x (outgoing_at e.sending k) refl (sym (ap offer_of at) ∙ same) (λ y here. o.offered k y here) in
    let few = lossy_carried n config fates e.sending g.sending h.receiving o.parity o.kept k from.0 modest o.opening o.allows tries from.1 in
    let most = subst (λ l. lost_on n fates e.sending (opened_receiving o.parity o.kept) g.sending h.receiving tries k ≤ lost_answers fates * min l (money k)) o.limit
    (subst (λ m. lost_on n fates e.sending (opened_receiving o.parity o.kept) g.sending h.receiving tries k ≤ lost_answers fates * min e.sending.packet_limit m) from.2 few) in
    let paid = all.1 in
    let is = from.3 in
    let both = between _ _ _ _ _ paid is most in
    (all.0, both.0, both.1)
  where
    between : (credited offered money lost most : ℕ) → credited ≡ offered + lost → offered ≡ money → lost ≤ most → (money ≤ credited) × (credited ≤ money + most)
    between credited offered money lost most a b c = (omega arith, omega arith)

-- a further read of it gives the end
pub run_ended_by : (n money : ℕ → ℕ) (config : Config) (fates : List Fate) (e f g h : EndState) (k bytes : ℕ) (x : Outgoing) → IsModest n → Opens n money config (lost_answers fates) e f → FatedTrips n fates e f g h → g.sending.failed ≡ false → work_left n g.sending ≡ 0 → outgoing_at g.sending k ≡ Some x
    → got bytes (incoming_at h.receiving k).held ≡ End
run_ended_by n money config fates e f g h k bytes x modest o run alive done at =
    lossy_ended n config fates e.sending g.sending h.receiving o.parity o.kept k bytes x modest o.opening o.allows (run_tries n money config fates e f g h modest o run) alive done at

-- ---- by calls

run_trips_by : (input : ℕ → List ℕ) (money : ℕ → ℕ) (config : Config) (limit : ℕ) (fates : List Fate) (e f g h : EndState) → IsModest (lengths input) → Opens (lengths input) money config (lost_answers fates) e f → AreHeldBack (lengths input) e.sending → AreFew 0 fates
    → FatedTurns input limit fates e f g h → FatedTrips (lengths input) fates e f g h
run_trips_by input money config limit fates e f g h modest o held few run =
    fated_turns input limit fates (opening_tally (lost_answers fates) e.sending) 0 e f g h modest (opening_quiet (lengths input) config e.sending o.opening)
    (subst (λ (r : Receiving). IsAhead (lengths input) (opening_tally (lost_answers fates) e.sending) e.sending r) (sym o.is) (opening_room (lengths input) config (lost_answers fates) e.sending o.parity o.kept modest o.opening o.allows))
    (opening_spare (lost_answers fates) e.sending) o.joined o.tellable held (ap (λ (z : Sending). z.failures) o.opening.rest) few run

pub calls_trips : (role : Role) (keys : DerivedKeys) (own peer : List ℕ) (config its_config : Config) (input : ℕ → List ℕ) (money most : ℕ → ℕ) (count limit : ℕ) (fates : List Fate) (g h : EndState) → MaySend config → IsModest (lengths input) → IsModest most → MayLose (lost_answers fates) config money most → AreFew 0 fates
    → FatedTurns input limit fates (Sender role keys own peer config input money count) (Receiver role keys own peer its_config most) g h
    → FatedTrips (lengths input) fates (Sender role keys own peer config input money count) (Receiver role keys own peer its_config most) g h
calls_trips role keys own peer config its_config input money most count limit fates g h may modest modest_most lose few run =
    run_trips_by input money config limit fates (Sender role keys own peer config input money count) (Receiver role keys own peer its_config most) g h modest
    (calls_lose role keys own peer config its_config input money most count (lost_answers fates) may modest modest_most lose)
    (calls_begun role keys own peer config input money count modest (modest_money (lost_answers fates) config money most lose)).held_back few run
