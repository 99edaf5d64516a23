-- What a lossy run of a world says: it has one Send more for each that is lost, and delivers all.
use Rattle.std.proofs.Common.{◌≡◌, ℕ, zero, suc, ◌+◌, ◌-◌, ◌*◌, ◌/◌, ◌%◌, ◌^◌, ◌<◌, ◌≤◌, Bool, true, false, ◌&&◌, cond, List, [], ◌∷◌, ◌++◌, append-nil, length, length-append, map, max, min, is_ok, is_some, sum, slice_index_or, refl, sym, ap, subst, ◌∙◌, arith, Option, None, Some, inl, inr, nat_eq, nat_le}
use Rattle.std.specs.List.{AllByRecursion, range_with_len}
use Rattle.std.proofs.Math.Nat.{mul-le-mul_right}
use Rattle.std.proofs.lemmas.Bool.{and_parts, cases_lt}
use Rattle.std.proofs.lemmas.Bool.Decides.{nat_tests}
use Rattle.st_hop.specs.Hop.{Hop}
use Rattle.st_keys.specs.Keys.{keys_of}
use Rattle.st_sender.specs.Sending.{Config, Outgoing, Sending, outgoing_at}
use Rattle.st_receiver.specs.Streams.{Receiving, incoming_at}
use Rattle.st_receiver.specs.Reading.{End, got}
use Rattle.st_end.specs.declared.role.Role.TheVariants as roles
use Rattle.st_end.specs.State.{EndState, new_end}
use Rattle.st_end.specs.Calls.{open_stream}
use Rattle.st_end.specs.Sending.{GoesNone}
use Rattle.st_world_parts.specs.Sides.{Client, IsPrefixOf, Server}
use Rattle.st_world_parts.specs.State.{World, end_at, direction_at, log_at}
use Rattle.st_world.specs.Runs.{Chain, Table, new_node, opening}
use Rattle.st_world.proofs.DataSent.{OutFine}
use Rattle.st_world_quiet.specs.Left.{all_money_left, bound, work_left}
use Rattle.st_world_quiet.specs.Exchanges.{IsModest}
use Rattle.st_world_quiet.specs.Losses as losses
use Rattle.st_world_quiet.specs.Losses.{AreFew, MayLose, lost_answers}
use Rattle.st_world_quiet.specs.Calls.{allow_each, lengths}
use Rattle.st_world_quiet.specs.LostTrips.{FatedTrips}
use Rattle.st_world_quiet.proofs.EndRounds.{offer_of}
use Rattle.st_world_quiet.proofs.Bound.{all_done}
use Rattle.st_world_quiet.proofs.Lowering.{zero_prepares}
use Rattle.st_world_quiet.proofs.LostRuns.{run_bounded_by, run_delivered_by, run_ended_by, run_sharper_by}
use Rattle.st_world_quiet.specs.Worlds.{Met, state_of}
use Rattle.st_world_quiet.specs.HopRounds.{BeginsEach, HasRoomFor, allows, opening_client, reads}
use Rattle.st_world_quiet.specs.Plays.{MayPlay, are_lawful, input_of, money_of, most_sends, sends_needed}
use Rattle.st_world_quiet.specs.LostWorlds.{AnswerLost, Arrives, Course, FatedRounds, HasAllLossy, IsDeliveredLossy, IsShort, LossyRun, MayPlayLossy, MayRunLossy, PrepareLost, are_lawful_lossy, carried_by, course_at, fate_of, fates_of, gives_by, puts_by, puts_on}
use Rattle.st_world_quiet.proofs.HopRounds.{ledger_prefix, ledgered_by}
use Rattle.st_world_quiet.proofs.HopLostRuns.{run_trips}
use Rattle.st_world_quiet.proofs.LostCrosses.{run_crossings}
use Rattle.st_world_quiet.proofs.WorldRuns.{nothing_left}
use Rattle.st_world_quiet.proofs.LostWorlds.{AreFated, LossyOpening, lossy_begun, lossy_opening, rounds_fates}
use Rattle.st_world_quiet.proofs.Streams.{all_amounts, at_odd}
use Rattle.st_world_quiet.proofs.Begun.{opens_here}
use Rattle.st_world_quiet.proofs.HopTelling.{TellsEnd, reads_leave, reads_leave_links}
use Rattle.st_world_quiet.proofs.Plays.{bound_most, counted, modest, needed_most, offered_is}

-- ---- one fate for each Send

fates_long : (course : ℕ → Course) (count m : ℕ) → length (fates_of course count m) ≡ m
fates_long course count zero = refl
fates_long course count (suc m) = let e = fates_long course (suc count) m in omega (arith, e)

first_put : (c : Course) → puts_on c 0 ≡ 1
first_put Arrives = refl
first_put (PrepareLost at) = let b : nat_le 0 at ≡ true = grind (arith, nat_tests) in rw b refl
first_put (AnswerLost at) = refl

all_first : (course : ℕ → Course) (n : ℕ) → puts_by course n 0 ≡ n
all_first course zero = refl
all_first course (suc n) = let e = all_first course n in let one = first_put (course n) in omega (arith, e, one)

-- ---- a run

module _ (c : Chain) (input : ℕ → List ℕ) (money most : ℕ → ℕ) (streams limit m : ℕ) (course : ℕ → Course) (v : World) (may : MayRunLossy c input money most streams limit (fates_of course 0 m)) (run : LossyRun c input money most streams limit course m v) where
  abbrev fates : List losses.Fate
  fates = fates_of course 0 m

  abbrev first : EndState
  first = opening_client c input money streams

  abbrev far_end : EndState
  far_end = allow_each most 0 65 (new_end roles.Server (keys_of c.secret) c.server c.client c.config)

  abbrev tables : List Hop
  tables = map state_of (map new_node c.hops)

  opens : LossyOpening c input money streams fates first tables far_end run.begun
  opens = lossy_opening c input money most streams limit fates run.allowed run.begun may run.allows_each run.begins_each

  fated : AreFated c input limit (length c.hops) course 0 m first tables far_end run.begun v run.rounds
  fated = rounds_fates c input limit (length c.hops) course m 0 0 _ first tables far_end run.begun v may.reads may.input_fits (sym opens.long) opens.stays opens.copies opens.begun_is.is_reached opens.begun_is.rests run.rounds

  trips : FatedTrips (lengths input) fates first far_end fated.client fated.server
  trips = run_trips (lengths input) money c.config fates c.server first tables far_end fated.client fated.others fated.server may.input_fits opens.begun_is.opens opens.peer opens.wide
      (run_crossings input money c.config limit fates c.server first tables far_end fated.client fated.others fated.server may.reads may.input_fits opens.begun_is.opens opens.begun_is.begins.held_back opens.peer opens.wide may.few fated.crosses)

  pub lossy_bounded : m + 1 ≤ bound (lengths input) first.sending + losses.losses fates
  lossy_bounded = subst (λ n. n + 1 ≤ bound (lengths input) first.sending + losses.losses fates) (fates_long course 0 m) (run_bounded_by (lengths input) money c.config fates first far_end fated.client fated.server may.input_fits opens.begun_is.opens trips)

  pub lossy_sharper : m + work_left (lengths input) (end_at v Client).sending ≤ work_left (lengths input) first.sending + losses.losses fates
  lossy_sharper = subst (λ (z : EndState). m + work_left (lengths input) z.sending ≤ work_left (lengths input) first.sending + losses.losses fates) (sym fated.rests.client)
      (subst (λ n. n + work_left (lengths input) fated.client.sending ≤ work_left (lengths input) first.sending + losses.losses fates) (fates_long course 0 m) (run_sharper_by (lengths input) money c.config fates first far_end fated.client fated.server may.input_fits opens.begun_is.opens trips))

  -- each Send put one Prepare on the first link
  pub lossy_puts : length (direction_at v 0 Client).prepares ≡ m
  lossy_puts = let there = (fated.rests.lanes 0 (omega arith)).prepares in let is = all_first course (0 + m) in there ∙ is ∙ omega arith

  lossy_offers : (k : ℕ) → offer_of (outgoing_at (end_at v Client).sending k) ≡ offer_of (outgoing_at first.sending k)
  lossy_offers k = subst (λ (z : EndState). offer_of (outgoing_at z.sending k) ≡ offer_of (outgoing_at first.sending k)) (sym fated.rests.client) (fated.offers k)

  open_still : (o p : Option Outgoing) → ◌≡◌ {A = Option ℕ} (offer_of p) (offer_of o) → is_some o ≡ true → (x : Outgoing) × (p ≡ Some x)
  open_still o (Some x) same here = (x, refl)
  open_still None None same here = absurd (cc)
  open_still (Some y) None same here = absurd (cc)

  -- as many streams are open as were opened
  pub lossy_opens : (i : ℕ) → i < streams → (x : Outgoing) × (outgoing_at (end_at v Client).sending (2 * i + 1) ≡ Some x)
  lossy_opens i l = open_still (outgoing_at first.sending (2 * i + 1)) (outgoing_at (end_at v Client).sending (2 * i + 1)) (lossy_offers (2 * i + 1)) (opens.begun_is.opened.opened i l)

  done : GoesNone (end_at v Client) → work_left (lengths input) fated.client.sending ≡ 0
  done none = nothing_left (lengths input) fated.client fated.quiet fated.unclosed (subst GoesNone fated.rests.client none)

  here_at : (k : ℕ) (x : Outgoing) → outgoing_at (end_at v Client).sending k ≡ Some x → outgoing_at fated.client.sending k ≡ Some x
  here_at k x at = subst (λ (z : EndState). outgoing_at z.sending k ≡ Some x) fated.rests.client at

  pub lossy_delivers : (k : ℕ) (x : Outgoing) → GoesNone (end_at v Client) → outgoing_at (end_at v Client).sending k ≡ Some x
      → ((incoming_at (end_at v Server).receiving k).held.read ≡ length (input k)) × (money k ≤ (incoming_at (end_at v Server).receiving k).credited)
      × ((incoming_at (end_at v Server).receiving k).credited ≤ money k + lost_answers fates * min c.config.packet_limit (money k))
  lossy_delivers k x none at =
      subst (λ (z : EndState). ((incoming_at z.receiving k).held.read ≡ length (input k)) × (money k ≤ (incoming_at z.receiving k).credited) × ((incoming_at z.receiving k).credited ≤ money k + lost_answers fates * min c.config.packet_limit (money k))) (sym fated.rests.server)
      (run_delivered_by (lengths input) money c.config fates first far_end fated.client fated.server k x may.input_fits opens.begun_is.opens trips fated.quiet.alive (done none) (here_at k x at))

  same_list : (xs ys : List ℕ) → IsPrefixOf xs ys → length xs ≡ length ys → xs ≡ ys
  same_list xs ys (rest, is) long = by rest is
    where
      by : (rest : List ℕ) → xs ++ rest ≡ ys → xs ≡ ys
      by [] is = sym (append-nil xs) ∙ is
      by (b ∷ bs) is = absurd (let all : length (xs ++ b ∷ bs) ≡ length ys = ap length is in let sum = length-append xs (b ∷ bs) in omega (arith, all, sum, long))

  pub lossy_reads_whole : (k : ℕ) (x : Outgoing) → GoesNone (end_at v Client) → outgoing_at (end_at v Client).sending k ≡ Some x → ((log_at v Client k).read ≡ input k) × ((log_at v Client k).written ≡ input k)
  lossy_reads_whole k x none at =
      let here = here_at k x at in
      let all = all_done (lengths input) fated.client.sending k x fated.quiet (done none) here in
      let told = ledgered_by c v fated.client fated.server k fated.is_reached fated.rests.client fated.rests.server in
      let written = subst (OutFine (log_at v Client k).written) here told.written in
      let read = (lossy_delivers k x none at).0 in
      let count : length (log_at v Client k).read ≡ length (input k) = told.read ∙ ap (λ (z : EndState). (incoming_at z.receiving k).held.read) (sym fated.rests.server) ∙ read in
      let whole = same_list (log_at v Client k).written (input k) (fated.copies k) (sym written.0 ∙ all.all_bytes) in
      (same_list (log_at v Client k).read (log_at v Client k).written (ledger_prefix c v k fated.is_reached) (count ∙ sym all.all_bytes ∙ written.0) ∙ whole, whole)

  pub lossy_ends : (k bytes : ℕ) (x : Outgoing) → GoesNone (end_at v Client) → outgoing_at (end_at v Client).sending k ≡ Some x → got bytes (incoming_at (end_at v Server).receiving k).held ≡ End
  lossy_ends k bytes x none at =
      subst (λ (z : EndState). got bytes (incoming_at z.receiving k).held ≡ End) (sym fated.rests.server)
      (run_ended_by (lengths input) money c.config fates first far_end fated.client fated.server k bytes x may.input_fits opens.begun_is.opens trips fated.quiet.alive (done none) (here_at k x at))

  -- all that was offered is credited, and exactly what lost answers carried
  pub lossy_credits : GoesNone (end_at v Client) → (end_at v Server).receiving.credit ≡ all_money_left first.sending + carried_by limit (length c.hops) course 0 m run.begun v run.rounds
  lossy_credits none =
      let poor = zero_prepares fated.client.sending.packet_limit (all_money_left fated.client.sending) fated.quiet.pays (second _ _ _ (done none)) in
      let sums = fated.credits in
      let nothing : far_end.receiving.credit ≡ 0 = ap (λ (r : Receiving). r.credit) opens.begun_is.opens.is in
      ap (λ (z : EndState). z.receiving.credit) fated.rests.server ∙ by _ _ _ _ _ sums poor nothing
    where
      second : (a b c : ℕ) → max a b + c ≡ 0 → b ≡ 0
      second a b c e = omega arith

      by : (credit left had before carried : ℕ) → credit + left ≡ had + before + carried → left ≡ 0 → had ≡ 0 → credit ≡ before + carried
      by credit left had before carried a b c = omega arith

  pub lossy_small : (end_at v Server).receiving.credit < 2 ^ 63
  lossy_small = subst (λ (z : EndState). z.receiving.credit < 2 ^ 63) (sym fated.rests.server) fated.small

-- ---- the fates that a list gives: no more are lost than in the list

shifted : (c : Course) (cs : List Course) (k m : ℕ) → fates_of (course_at (c ∷ cs)) (suc k) m ≡ fates_of (course_at cs) k m
shifted c cs k zero = refl
shifted c cs k (suc m) = ap (λ fs. fate_of (course_at cs k) ∷ fs) (shifted c cs (suc k) m)

few_behind : (k m j : ℕ) → AreFew j (fates_of (course_at []) k m)
few_behind k zero j = tt
few_behind k (suc m) j = few_behind (suc k) m 0

few_step : (c : Course) (fs gs : List losses.Fate) (j : ℕ) → ((i : ℕ) → AreFew i fs → AreFew i gs) → AreFew j (fate_of c ∷ fs) → AreFew j (fate_of c ∷ gs)
few_step Arrives fs gs j rest few = rest 0 few
few_step (PrepareLost at) fs gs j rest few = (few.0, rest (j + 1) few.1)
few_step (AnswerLost at) fs gs j rest few = (few.0, rest (j + 1) few.1)

few_played : (cs : List Course) (m j : ℕ) → AreFew j (map fate_of cs) → AreFew j (fates_of (course_at cs) 0 m)
few_played cs zero j few = tt
few_played [] (suc m) j few = few_behind 1 m 0
few_played (c ∷ cs) (suc m) j few = subst (λ fs. AreFew j (fate_of c ∷ fs)) (sym (shifted c cs 0 m)) (few_step c (map fate_of cs) (fates_of (course_at cs) 0 m) j (λ i h. few_played cs m i h) few)

losses_behind : (k m : ℕ) → losses.losses (fates_of (course_at []) k m) ≡ 0
losses_behind k zero = refl
losses_behind k (suc m) = losses_behind (suc k) m

losses_step : (c : Course) (fs gs : List losses.Fate) → losses.losses gs ≤ losses.losses fs → losses.losses (fate_of c ∷ gs) ≤ losses.losses (fate_of c ∷ fs)
losses_step Arrives fs gs l = l
losses_step (PrepareLost at) fs gs l = omega (arith, l)
losses_step (AnswerLost at) fs gs l = omega (arith, l)

losses_played : (cs : List Course) (m : ℕ) → losses.losses (fates_of (course_at cs) 0 m) ≤ losses.losses (map fate_of cs)
losses_played cs zero = omega arith
losses_played [] (suc m) = let e = losses_behind 1 m in omega (arith, e)
losses_played (c ∷ cs) (suc m) = subst (λ fs. losses.losses (fate_of c ∷ fs) ≤ losses.losses (map fate_of (c ∷ cs))) (sym (shifted c cs 0 m)) (losses_step c (map fate_of cs) (fates_of (course_at cs) 0 m) (losses_played cs m))

answers_behind : (k m : ℕ) → lost_answers (fates_of (course_at []) k m) ≡ 0
answers_behind k zero = refl
answers_behind k (suc m) = answers_behind (suc k) m

answers_step : (c : Course) (fs gs : List losses.Fate) → lost_answers gs ≤ lost_answers fs → lost_answers (fate_of c ∷ gs) ≤ lost_answers (fate_of c ∷ fs)
answers_step Arrives fs gs l = l
answers_step (PrepareLost at) fs gs l = l
answers_step (AnswerLost at) fs gs l = omega (arith, l)

answers_played : (cs : List Course) (m : ℕ) → lost_answers (fates_of (course_at cs) 0 m) ≤ lost_answers (map fate_of cs)
answers_played cs zero = omega arith
answers_played [] (suc m) = let e = answers_behind 1 m in omega (arith, e)
answers_played (c ∷ cs) (suc m) = subst (λ fs. lost_answers (fate_of c ∷ fs) ≤ lost_answers (map fate_of (c ∷ cs))) (sym (shifted c cs 0 m)) (answers_step c (map fate_of cs) (fates_of (course_at cs) 0 m) (answers_played cs m))

-- ---- premises by lists

room_less : (destination : List ℕ) (most few many : ℕ) (ts : List Table) → few ≤ many → AllByRecursion (HasRoomFor destination most many) ts → AllByRecursion (HasRoomFor destination most few) ts
room_less destination most few many [] l room = tt
room_less destination most few many (t ∷ ts) l room = (record { leads = room.0.leads; max_packet = room.0.max_packet; limit = (let all = room.0.limit in omega (arith, all, l)) }, room_less destination most few many ts l room.1)

short_at : (xs : List (List ℕ)) (i : ℕ) → AllByRecursion IsShort xs → length (slice_index_or xs i []) ≤ 262144
short_at [] i short = omega arith
short_at (x ∷ xs) zero short = short.0
short_at (x ∷ xs) (suc i) short = short_at xs i short.1

short_if : (b : Bool) (xs : List (List ℕ)) (i : ℕ) → AllByRecursion IsShort xs → length (cond b (slice_index_or xs i []) []) ≤ 262144
short_if true xs i short = short_at xs i short
short_if false xs i short = omega arith

behind_all : (ms : List ℕ) (i : ℕ) → length ms ≤ i → slice_index_or ms i 0 ≡ 0
behind_all [] i l = refl
behind_all (x ∷ xs) zero l = absurd (omega (arith, l))
behind_all (x ∷ xs) (suc i) l = behind_all xs i (omega (arith, l))

-- without money nothing is paid
none_paid : (few limit money most : ℕ) → money ≡ 0 → money + few * min limit money ≤ most
none_paid few limit money most e =
    let none : min limit money ≡ 0 = omega (arith, e) in
    let product : few * min limit money ≡ few * 0 = ap (λ z. few * z) none in
    omega (arith, product, e)

less_paid : (few many part money most : ℕ) → few ≤ many → money + many * part ≤ most → money + few * part ≤ most
less_paid few many part money most l h = let m : few * part ≤ many * part = mul-le-mul_right part l in omega (arith, m, h)

one_paid : (limit few many count : ℕ) (ms rs : List ℕ) (i : ℕ) → few ≤ many → length ms ≡ count → ((j : ℕ) → j < count → slice_index_or ms j 0 + many * min limit (slice_index_or ms j 0) ≤ slice_index_or rs j 0) → slice_index_or ms i 0 + few * min limit (slice_index_or ms i 0) ≤ slice_index_or rs i 0
one_paid limit few many count ms rs i l long each = elim (cases_lt i count) [
  | inl low ↦ less_paid few many (min limit (slice_index_or ms i 0)) (slice_index_or ms i 0) (slice_index_or rs i 0) l (each i low)
  | inr past ↦ none_paid few limit (slice_index_or ms i 0) (slice_index_or rs i 0) (behind_all ms i (omega (arith, long, past)))
]

if_paid : (b : Bool) (limit few many count : ℕ) (ms rs : List ℕ) (i : ℕ) → few ≤ many → length ms ≡ count → ((j : ℕ) → j < count → slice_index_or ms j 0 + many * min limit (slice_index_or ms j 0) ≤ slice_index_or rs j 0) → cond b (slice_index_or ms i 0) 0 + few * min limit (cond b (slice_index_or ms i 0) 0) ≤ cond b (slice_index_or rs i 0) 0
if_paid true limit few many count ms rs i l long each = one_paid limit few many count ms rs i l long each
if_paid false limit few many count ms rs i l long each = none_paid few limit 0 0 refl

pub lawful_parts : (xs : List (List ℕ)) (ms rs : List ℕ) → are_lawful_lossy xs ms rs ≡ true → (are_lawful xs ms ≡ true) × (length rs ≡ length xs)
lawful_parts xs ms rs e =
    let both = and_parts (are_lawful xs ms) (nat_eq (length rs) (length xs)) e in
    (both.0, same _ _ both.1)
  where
    same : (n k : ℕ) → nat_eq n k ≡ true → n ≡ k
    same n k b = grind (arith, nat_tests)

-- ---- a run by lists

module _ (c : Chain) (xs : List (List ℕ)) (ms rs : List ℕ) (lawful : are_lawful xs ms ≡ true) (maxes : length rs ≡ length xs) (fates : List losses.Fate) (may : MayPlayLossy c xs ms rs fates) where
  may_play : MayPlay c xs ms
  may_play = record {
    may_send = may.may_send;
    input_fits = may.input_fits;
    money_fits = (let all = may.all in omega (arith, all));
    few_hops = may.few_hops;
    room = room_less c.server c.config.packet_limit (sum ms) (sum ms + lost_answers fates * c.config.packet_limit) c.hops (omega arith) may.room;
    packets = (let all = may.packets in omega (arith, all));
  }

  few_streams : length xs ≤ 32
  few_streams = (counted xs ms lawful).few

  as_many : length ms ≡ length xs
  as_many = (counted xs ms lawful).as_many

  modest_input : IsModest (lengths (input_of xs))
  modest_input = modest c xs ms lawful may_play

  modest_most : IsModest (money_of rs)
  modest_most = let fits = may.most_fits in subst (λ n. n < 2 ^ 63) (sym (all_amounts rs (omega (arith, maxes, few_streams)))) fits

  money_is : sum (map (money_of ms) (range_with_len 0 65)) ≡ sum ms
  money_is = all_amounts ms (omega (arith, as_many, few_streams))

  -- fewer answers are lost than in the list
  may_lose : (answers : ℕ) → answers ≤ lost_answers fates → MayLose answers c.config (money_of ms) (money_of rs)
  may_lose answers l = record {
    each = λ k. if_paid (nat_eq (k % 2) 1) c.config.packet_limit answers (lost_answers fates) (length xs) ms rs (k / 2) l as_many may.each;
    all = (let m : answers * c.config.packet_limit ≤ lost_answers fates * c.config.packet_limit = mul-le-mul_right c.config.packet_limit l in let all = may.all in omega (arith, m, all, money_is));
  }

  -- a stream opens if fewer than these are open
  pub lossy_stream_opens : (opened : ℕ) (allowed begun : World) → Met (opening c) (allows (money_of rs) 0 65) allowed → BeginsEach (input_of xs) (money_of ms) opened allowed begun → opened < length xs → is_ok (open_stream (end_at begun Client)).0 ≡ true
  lossy_stream_opens opened allowed begun allows_each begins_each fewer =
      let b = lossy_begun c (input_of xs) (money_of ms) (money_of rs) opened (lost_answers fates) allowed begun may.may_send modest_input modest_most (may_lose (lost_answers fates) (omega arith)) allows_each begins_each in
      let low : opened < 32 = (let few = few_streams in omega (arith, few, fewer)) in
      ap (λ z. is_ok (open_stream z).0) b.rests.client ∙ ap is_ok (opens_here c.config (input_of xs) (money_of ms) opened (opening_client c (input_of xs) (money_of ms) opened) low b.begins b.opened)

module _ (c : Chain) (xs : List (List ℕ)) (ms rs : List ℕ) (courses : List Course) (limit m : ℕ) (v : World) (lawful : are_lawful xs ms ≡ true) (maxes : length rs ≡ length xs) (may : MayPlayLossy c xs ms rs (map fate_of courses)) (room : 32739 ≤ limit)
    (run : LossyRun c (input_of xs) (money_of ms) (money_of rs) (length xs) limit (course_at courses) m v) where
  abbrev given : List losses.Fate
  given = map fate_of courses

  abbrev played : List losses.Fate
  played = fates_of (course_at courses) 0 m

  may_go : MayRunLossy c (input_of xs) (money_of ms) (money_of rs) (length xs) limit played
  may_go = record {
    may_send = may.may_send;
    input_fits = modest_input c xs ms rs lawful maxes given may;
    most_fits = modest_most c xs ms rs lawful maxes given may;
    short = λ k. short_if (nat_eq (k % 2) 1) xs (k / 2) may.short;
    lose = may_lose c xs ms rs lawful maxes given may (lost_answers played) (answers_played courses m);
    few = few_played courses m 0 may.few;
    few_hops = may.few_hops;
    room = room_less c.server c.config.packet_limit _ (sum ms + lost_answers given * c.config.packet_limit) c.hops
        (let l : lost_answers played * c.config.packet_limit ≤ lost_answers given * c.config.packet_limit = mul-le-mul_right c.config.packet_limit (answers_played courses m) in let is = money_is c xs ms rs lawful maxes given may in omega (arith, l, is)) may.room;
    packets = (let needed = needed_most c xs ms lawful (may_play c xs ms rs lawful maxes given may) in let lost = losses_played courses m in let all = may.packets in below _ _ _ _ _ needed lost all);
    reads = room;
  }
    where
      below : (work needed lost given packets : ℕ) → work ≤ needed → lost ≤ given → needed + given < packets → work + lost < packets
      below work needed lost given packets a b d = omega arith

  pub played_lossy_bounded : m + 1 ≤ most_sends c.config.packet_limit xs ms + losses.losses given
  played_lossy_bounded = within _ _ _ _ _ (lossy_bounded c (input_of xs) (money_of ms) (money_of rs) (length xs) limit m (course_at courses) v may_go run) (bound_most c xs ms lawful (may_play c xs ms rs lawful maxes given may)) (losses_played courses m)
    where
      within : (a b d l g : ℕ) → a ≤ b + l → b ≤ d → l ≤ g → a ≤ d + g
      within a b d l g x y z = omega arith

  pub played_lossy_sharper : m ≤ sends_needed c.config.packet_limit xs ms + losses.losses given
  played_lossy_sharper = within _ _ _ _ _ _ (lossy_sharper c (input_of xs) (money_of ms) (money_of rs) (length xs) limit m (course_at courses) v may_go run) (needed_most c xs ms lawful (may_play c xs ms rs lawful maxes given may)) (losses_played courses m)
    where
      within : (a left b d l g : ℕ) → a + left ≤ b + l → b ≤ d → l ≤ g → a ≤ d + g
      within a left b d l g x y z = omega arith

  -- reads put nothing on a link
  pub played_lossy_sends : (w : World) → Met v (reads limit 0 65) w → length (direction_at w 0 Client).prepares ≡ m
  played_lossy_sends w each = ap (λ links. length (direction_at (record v { links = links }) 0 Client).prepares) (reads_leave_links limit 0 65 v w each) ∙ lossy_puts c (input_of xs) (money_of ms) (money_of rs) (length xs) limit m (course_at courses) v may_go run

  ends_at : GoesNone (end_at v Client) → (i : ℕ) → i < length xs → TellsEnd (2 * i + 1) v
  ends_at none i low bytes = let x = lossy_opens c (input_of xs) (money_of ms) (money_of rs) (length xs) limit m (course_at courses) v may_go run i low in lossy_ends c (input_of xs) (money_of ms) (money_of rs) (length xs) limit m (course_at courses) v may_go run (2 * i + 1) bytes x.0 none x.1

  pub played_lossy_delivers : (w : World) → GoesNone (end_at v Client) → Met v (reads limit 0 65) w → IsDeliveredLossy c.config.packet_limit (lost_answers given) xs ms w
  played_lossy_delivers w none each i low =
      let k = 2 * i + 1 in
      let x = lossy_opens c (input_of xs) (money_of ms) (money_of rs) (length xs) limit m (course_at courses) v may_go run i low in
      let whole = lossy_reads_whole c (input_of xs) (money_of ms) (money_of rs) (length xs) limit m (course_at courses) v may_go run k x.0 none x.1 in
      let paid = lossy_delivers c (input_of xs) (money_of ms) (money_of rs) (length xs) limit m (course_at courses) v may_go run k x.0 none x.1 in
      let few = few_streams c xs ms rs lawful maxes given may in
      let left = reads_leave limit 0 65 v w k (omega (arith, room)) (ends_at none i low) each in
      let same = ap (λ y. y.credited) left.0.incoming in
      let is : money_of ms k ≡ slice_index_or ms i 0 = at_odd ms 0 i in
      let limit_is = c.config.packet_limit in
      let product : lost_answers played * min limit_is (money_of ms k) ≤ lost_answers given * min limit_is (money_of ms k) = mul-le-mul_right (min limit_is (money_of ms k)) (answers_played courses m) in
      let both : (money_of ms k ≤ (incoming_at (end_at w Server).receiving k).credited) × ((incoming_at (end_at w Server).receiving k).credited ≤ money_of ms k + lost_answers given * min limit_is (money_of ms k)) = between _ _ _ _ _ same paid.1 paid.2 product in
      let paid_is = subst (λ n. (n ≤ (incoming_at (end_at w Server).receiving k).credited) × ((incoming_at (end_at w Server).receiving k).credited ≤ n + lost_answers given * min limit_is n)) is both in
      record {
        written = left.0.written ∙ whole.1 ∙ at_odd xs [] i;
        read = left.0.read ∙ whole.0 ∙ at_odd xs [] i;
        saw_end = left.1 (omega arith) (omega (arith, few, low));
        credited = paid_is.0;
        within = paid_is.1;
      }
    where
      between : (now credited money few many : ℕ) → now ≡ credited → money ≤ credited → credited ≤ money + few → few ≤ many → (money ≤ now) × (now ≤ money + many)
      between now credited money few many a b d l = (omega (arith, a, b), omega (arith, a, d, l))

  pub played_lossy_credits : (w : World) → GoesNone (end_at v Client) → Met v (reads limit 0 65) w → (end_at w Server).receiving.credit ≡ sum ms + carried_by limit (length c.hops) (course_at courses) 0 m run.begun v run.rounds
  played_lossy_credits w none each =
      let some = (counted xs ms lawful).some in
      let left = reads_leave limit 0 65 v w 1 (omega (arith, room)) (ends_at none 0 (omega (arith, some))) each in
      let all = lossy_credits c (input_of xs) (money_of ms) (money_of rs) (length xs) limit m (course_at courses) v may_go run none in
      let offered = offered_is c xs ms lawful (may_play c xs ms rs lawful maxes given may) in
      left.0.credit ∙ all ∙ ap (λ n. n + carried_by limit (length c.hops) (course_at courses) 0 m run.begun v run.rounds) offered

  pub played_lossy_small : (w : World) → GoesNone (end_at v Client) → Met v (reads limit 0 65) w → (end_at w Server).receiving.credit < 2 ^ 63
  played_lossy_small w none each =
      let some = (counted xs ms lawful).some in
      let left = reads_leave limit 0 65 v w 1 (omega (arith, room)) (ends_at none 0 (omega (arith, some))) each in
      let small = lossy_small c (input_of xs) (money_of ms) (money_of rs) (length xs) limit m (course_at courses) v may_go run in
      let same = left.0.credit in
      omega (arith, small, same)
