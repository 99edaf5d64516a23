-- A run of both sides in which some Sends are lost has the sender's bound. Once nothing is left, all was delivered.
use Rattle.std.proofs.Common.{◌≡◌, ℕ, suc, ◌+◌, ◌-◌, ◌*◌, ◌<◌, ◌≤◌, Bool, true, false, inl, is_some, List, [], ◌∷◌, length, min, slice_index, refl, sym, ap, subst, ◌∙◌, arith, Option, None, Some}
use Rattle.std.proofs.Math.Nat.{suc-mul}
use Rattle.st_frames.specs.Frames.{Known, frames_of, max_packet}
use Rattle.st_frames.specs.Told.{money_in, shares}
use Rattle.st_sender.specs.Sending.{Config, Load, Outgoing, Sending, outgoing_at}
use Rattle.st_sender.specs.Loads.{Sends, with_flight}
use Rattle.st_sender.specs.Refusals.{offered_of}
use Rattle.st_receiver.specs.Streams.{Receiving, incoming_at}
use Rattle.st_receiver.specs.Reading.{End, got}
use Rattle.st_receiver.specs.Judged.{after_all, effect}
use Rattle.st_receiver.specs.Limits.{reply_frames}
use Rattle.st_receiver.proofs.Splits.{at_most_sum, share_at}
use Rattle.st_streams.proofs.SlotLemmas.{slot_within}
use Rattle.st_world_quiet.specs.Quiet.{IsQuiet}
use Rattle.st_world_quiet.specs.Left.{bound, work_left}
use Rattle.st_world_quiet.specs.Rounds.{IsOpening, IsWritten}
use Rattle.st_world_quiet.specs.Mirrored.{IsAhead, Tally}
use Rattle.st_world_quiet.specs.Exchanges.{Exchange, IsModest, opened_receiving}
use Rattle.st_world_quiet.specs.Losses.{AllowsLosses, AnswerLost, AreFew, Attempt, Attempts, Delivered, Fate, Lost, PrepareLost, Tries, Try, Unanswered, lost_answers, lost_by, lost_on, losses, once_lost, tally_after, with_lost}
use Rattle.st_world_quiet.proofs.Money.{due_is_left, none_in}
use Rattle.st_world_quiet.proofs.EndRounds.{offer_of, round_keeps, round_spends}
use Rattle.st_world_quiet.proofs.Bound.{all_done, opening_quiet}
use Rattle.st_world_quiet.proofs.Ended.{AreEnded, exchange_ended, load_ended}
use Rattle.st_world_quiet.proofs.Credited.{shares_amount}
use Rattle.st_world_quiet.proofs.Abreast.{packet_comes, round_abreast}
use Rattle.st_world_quiet.proofs.Exchanging.{all_had, exchange_round}
use Rattle.st_world_quiet.proofs.EndOpening.{opening_ahead}
use Rattle.st_world_quiet.proofs.Losing.{attempts_alive, attempts_bounded, kept_at, attempts_lower, miss_keeps, miss_limit, miss_offers}
use Rattle.st_world_quiet.proofs.Stopping.{gives_end}
use Rattle.st_world_quiet.proofs.Missing.{nothing_held, never_answered, never_came, written_ahead}

-- ---- what an outgoing packet carries of a stream

part_of_amount : (s : Sending) (limits : List Known) (p : Load) (k : ℕ) → length s.streams ≡ 65 → Sends s limits max_packet p (with_flight s p) → k < 65 → money_in k p.frames ≤ p.amount
part_of_amount s limits p k slots sends l =
    let is = shares_amount s limits p slots sends in
    let few = at_most_sum (shares p.frames) k in
    let share = share_at p.frames k l in
    omega (arith, is, few, share)

part_small : (n : ℕ → ℕ) (s : Sending) (limits : List Known) (p : Load) (k : ℕ) (x : Outgoing) → IsQuiet n s → Sends s limits max_packet p (with_flight s p) → outgoing_at s k ≡ Some x → money_in k p.frames ≤ min s.packet_limit x.offered
part_small n s limits p k x quiet sends e =
    let within = slot_within s.streams k x e in
    let slots = quiet.slots in
    let part = part_of_amount s limits p k slots sends (omega (arith, within, slots)) in
    let amount = sends.fits.amount in
    let due = due_is_left s k x quiet.alone (quiet.streams k x e).alive in
    let few = sends.money k x e in
    omega (arith, part, amount, due, few)

-- ---- room for what may be lost yet

pub record HasSpare (answers : ℕ) (c : Tally) (s : Sending) : Type 0 where
  pub each : (k offered : ℕ) → offer_of (outgoing_at s k) ≡ Some offered → answers * min s.packet_limit offered ≤ c.spare k
  pub all : answers * s.packet_limit ≤ c.spare_all

spare_kept : (answers : ℕ) (c : Tally) (s t : Sending) → ((k : ℕ) → offer_of (outgoing_at t k) ≡ offer_of (outgoing_at s k)) → t.packet_limit ≡ s.packet_limit → HasSpare answers c s → HasSpare answers c t
spare_kept answers c s t offers limit spare = record {
  each = λ k offered e. subst (λ l. answers * min l offered ≤ c.spare k) (sym limit) (spare.each k offered (sym (offers k) ∙ e));
  all = subst (λ l. answers * l ≤ c.spare_all) (sym limit) spare.all;
}

takes : (whole rest each part spare : ℕ) → whole ≡ rest + each → whole ≤ spare → part ≤ each → (part ≤ spare) × (rest ≤ spare - part)
takes whole rest each part spare e l m = (omega arith, omega arith)

part_spare : (n : ℕ → ℕ) (answers : ℕ) (c : Tally) (s : Sending) (limits : List Known) (p : Load) (k : ℕ) (o : Option Outgoing) → IsQuiet n s → Sends s limits max_packet p (with_flight s p) → HasSpare (suc answers) c s → outgoing_at s k ≡ o → money_in k p.frames ≤ c.spare k
part_spare n answers c s limits p k None quiet sends spare e = let none = none_in s limits k p.frames sends.due e in omega (arith, none)
part_spare n answers c s limits p k (Some x) quiet sends spare e =
    (takes _ _ (min s.packet_limit x.offered) _ (c.spare k) (suc-mul answers (min s.packet_limit x.offered)) (spare.each k x.offered (ap offer_of e)) (part_small n s limits p k x quiet sends e)).0

less_spare : (n : ℕ → ℕ) (answers : ℕ) (c : Tally) (s : Sending) (limits : List Known) (p : Load) (k offered : ℕ) (o : Option Outgoing) → IsQuiet n s → Sends s limits max_packet p (with_flight s p) → HasSpare (suc answers) c s → outgoing_at s k ≡ o → offer_of o ≡ Some offered
    → answers * min s.packet_limit offered ≤ c.spare k - money_in k p.frames
less_spare n answers c s limits p k offered None quiet sends spare e is = absurd (cc)
less_spare n answers c s limits p k offered (Some x) quiet sends spare e is =
    let same : x.offered ≡ offered = cc in
    subst (λ m. answers * min s.packet_limit m ≤ c.spare k - money_in k p.frames) same
    (takes _ _ (min s.packet_limit x.offered) _ (c.spare k) (suc-mul answers (min s.packet_limit x.offered)) (spare.each k x.offered (ap offer_of e)) (part_small n s limits p k x quiet sends e)).1

pub amount_spare : (answers : ℕ) (c : Tally) (s : Sending) (limits : List Known) (p : Load) → Sends s limits max_packet p (with_flight s p) → HasSpare (suc answers) c s → (p.amount ≤ c.spare_all) × (answers * s.packet_limit ≤ c.spare_all - p.amount)
amount_spare answers c s limits p sends spare = takes _ _ s.packet_limit _ c.spare_all (suc-mul answers s.packet_limit) spare.all sends.fits.amount

-- ---- one Send

pub record Tried (f : Fate) (n : ℕ → ℕ) (c : Tally) (answers : ℕ) (s : Sending) (r : Receiving) (t : Sending) (u : Receiving) (x : Try f n s r t u) : Type 0 where
  pub attempt : Attempt f n s t
  pub quiet : t.failed ≡ false → IsQuiet n t
  pub ahead : IsAhead n (tally_after f n s r t u x c) t u
  pub offers : (k : ℕ) → offer_of (outgoing_at t k) ≡ offer_of (outgoing_at s k)
  pub spare : HasSpare answers (tally_after f n s r t u x c) t
  pub lost : (k : ℕ) → (tally_after f n s r t u x c).lost k ≡ c.lost k + lost_by f n s r t u x k
  pub whole : (k : ℕ) → (tally_after f n s r t u x c).lost k + (tally_after f n s r t u x c).spare k ≡ c.lost k + c.spare k
  pub ended : AreEnded s r → AreEnded t u

-- the receiver still knows the end of each stream whose clean close was fulfilled
kept_ended : (n : ℕ → ℕ) (s t : Sending) (p : Load) (r u : Receiving) → IsWritten n (once_lost s p) t → ((k : ℕ) (x : Outgoing) → outgoing_at s k ≡ Some x → is_some (incoming_at r k).held.end ≡ true → is_some (incoming_at u k).held.end ≡ true) → AreEnded s r → AreEnded t u
kept_ended n s t p r u writes stays ended k y here settled =
    let kept = kept_at n (once_lost s p) t writes k y here in
    let same : y.clean_settled ≡ kept.old.clean_settled = ap (λ (z : Outgoing). z.clean_settled) kept.more.is in
    stays k kept.old kept.is_open (ended k kept.old kept.is_open (sym same ∙ settled))

try_alive : (f : Fate) (n : ℕ → ℕ) (s : Sending) (r : Receiving) (t : Sending) (u : Receiving) → Try f n s r t u → s.failed ≡ false
try_alive Delivered n s r t u x = x.sends.fits.alive
try_alive PrepareLost n s r t u x = x.miss.sends.fits.alive
try_alive AnswerLost n s r t u x = x.miss.sends.fits.alive

one_delivered : (answers : ℕ) (n : ℕ → ℕ) (c : Tally) (s : Sending) (r : Receiving) (t : Sending) (u : Receiving) (x : Exchange n s r t u) → IsQuiet n s → IsAhead n c s r → HasSpare answers c s → Tried Delivered n c answers s r t u x
one_delivered answers n c s r t u x quiet ahead spare =
    let round = exchange_round n s r t u ahead.modest quiet ahead x in
    let spends = round_spends n s t x.limits x.load (reply_frames (effect r x.packet x.load.amount) (frames_of x.packet)) quiet x.sends x.writes in
    record {
      attempt = round;
      quiet = λ alive. round_keeps n s t quiet round;
      ahead = round_abreast n s t x.limits x.load x.packet r u quiet x.sends x.fills ahead x.carries x.reads x.writes;
      offers = spends.offers;
      spare = spare_kept answers c s t spends.offers spends.packet_limit spare;
      lost = λ k. omega arith;
      whole = λ k. refl;
      ended = λ ended. exchange_ended n s r t u quiet ahead ended x;
    }

one_never_came : (answers : ℕ) (n : ℕ → ℕ) (c : Tally) (s : Sending) (r : Receiving) (t : Sending) (u : Receiving) (x : Lost n s r t u) → IsQuiet n s → IsAhead n c s r → HasSpare answers c s → Tried PrepareLost n c answers s r t u x
one_never_came answers n c s r t u x quiet ahead spare =
    let m = x.miss in
    record {
      attempt = m;
      quiet = λ alive. miss_keeps n s t quiet m alive;
      ahead = written_ahead n (once_lost s m.load) t u m.writes (never_came n s m.limits m.load r u quiet m.sends ahead x.reads);
      offers = miss_offers n s t m;
      spare = spare_kept answers c s t (miss_offers n s t m) (miss_limit n s t m) spare;
      lost = λ k. omega arith;
      whole = λ k. refl;
      ended = kept_ended n s t m.load r u m.writes (λ k y e known. ap is_some (x.reads.end k) ∙ known);
    }

one_never_answered : (answers : ℕ) (n : ℕ → ℕ) (c : Tally) (s : Sending) (r : Receiving) (t : Sending) (u : Receiving) (x : Unanswered n s r t u) → IsQuiet n s → IsAhead n c s r → HasSpare (suc answers) c s → Tried AnswerLost n c answers s r t u x
one_never_answered answers n c s r t u x quiet ahead spare =
    let m = x.miss in
    let p = m.load in
    let comes = packet_comes n s m.limits p x.packet r u quiet m.sends x.fills ahead x.carries x.reads in
    let all = amount_spare answers c s m.limits p m.sends spare in
    record {
      attempt = m;
      quiet = λ alive. miss_keeps n s t quiet m alive;
      ahead = written_ahead n (once_lost s p) t u m.writes (never_answered n s m.limits p r u x.packet.sequence comes few all.0);
      offers = miss_offers n s t m;
      spare = spare_kept answers (with_lost p c) s t (miss_offers n s t m) (miss_limit n s t m) (record {
        each = λ k offered e. less_spare n answers c s m.limits p k offered (outgoing_at s k) quiet m.sends spare refl e;
        all = all.1;
      });
      lost = λ k. refl;
      whole = λ k. same (c.lost k) (c.spare k) (money_in k p.frames) (few k);
      ended = kept_ended n s t p r u m.writes (λ k y e known. ap is_some (x.reads.end k)
          ∙ subst (λ fs. is_some (incoming_at (after_all r p.amount fs) k).held.end ≡ true) (sym x.carries.frames) (load_ended n s m.limits p r k y quiet m.sends ahead e (inl known)));
    }
  where
    few : (k : ℕ) → money_in k x.miss.load.frames ≤ c.spare k
    few k = part_spare n answers c s x.miss.limits x.miss.load k (outgoing_at s k) quiet x.miss.sends spare refl

    same : (lost spare part : ℕ) → part ≤ spare → lost + part + (spare - part) ≡ lost + spare
    same lost spare part l = omega arith

pub one_try : (f : Fate) (fs : List Fate) (n : ℕ → ℕ) (c : Tally) (s : Sending) (r : Receiving) (t : Sending) (u : Receiving) (x : Try f n s r t u) → IsQuiet n s → IsAhead n c s r → HasSpare (lost_answers (f ∷ fs)) c s → Tried f n c (lost_answers fs) s r t u x
one_try Delivered fs n c s r t u x quiet ahead spare = one_delivered (lost_answers fs) n c s r t u x quiet ahead spare
one_try PrepareLost fs n c s r t u x quiet ahead spare = one_never_came (lost_answers fs) n c s r t u x quiet ahead spare
one_try AnswerLost fs n c s r t u x quiet ahead spare = one_never_answered (lost_answers fs) n c s r t u x quiet ahead spare

-- ---- a run

pub record Ran (n : ℕ → ℕ) (c : Tally) (fs : List Fate) (s : Sending) (r : Receiving) (t : Sending) (u : Receiving) (run : Tries n fs s r t u) : Type 0 where
  pub attempts : Attempts n fs s t
  pub quiet : t.failed ≡ false → IsQuiet n t
  pub tally : Tally
  pub ahead : IsAhead n tally t u
  pub offers : (k : ℕ) → offer_of (outgoing_at t k) ≡ offer_of (outgoing_at s k)
  pub lost : (k : ℕ) → tally.lost k ≡ c.lost k + lost_on n fs s r t u run k
  pub whole : (k : ℕ) → tally.lost k + tally.spare k ≡ c.lost k + c.spare k
  pub ended : AreEnded s r → AreEnded t u

pub tries_run : (n : ℕ → ℕ) (fs : List Fate) (c : Tally) (s : Sending) (r : Receiving) (t : Sending) (u : Receiving) (run : Tries n fs s r t u) → (s.failed ≡ false → IsQuiet n s) → IsAhead n c s r → HasSpare (lost_answers fs) c s → Ran n c fs s r t u run
tries_run n [] c s r t u run quiet ahead spare = record {
  attempts = run.0;
  quiet = (let P : Sending → Type 0 = λ z. z.failed ≡ false → IsQuiet n z in subst P (sym run.0) quiet);
  tally = c;
  ahead = both t u run.0 run.1;
  offers = λ k. ap (λ (z : Sending). offer_of (outgoing_at z k)) run.0;
  lost = λ k. omega arith;
  whole = λ k. refl;
  ended = λ ended. subst (λ z. AreEnded z u) (sym run.0) (subst (AreEnded s) (sym run.1) ended);
}
  where
    both : (t : Sending) (u : Receiving) → t ≡ s → u ≡ r → IsAhead n c t u
    both t u e f = subst (λ z. IsAhead n c z u) (sym e) (subst (λ z. IsAhead n c s z) (sym f) ahead)
tries_run n (f ∷ fs) c s r t u run quiet ahead spare =
    let mid = run.0 in
    let between = run.1 in
    let x = run.2 in
    let one = one_try f fs n c s r mid between x (quiet (try_alive f n s r mid between x)) ahead spare in
    let rest = tries_run n fs (tally_after f n s r mid between x c) mid between t u run.3 one.quiet one.ahead one.spare in
    record {
      attempts = (mid, one.attempt, rest.attempts);
      quiet = rest.quiet;
      tally = rest.tally;
      ahead = rest.ahead;
      offers = λ k. rest.offers k ∙ one.offers k;
      lost = λ k. (let a = rest.lost k in let b = one.lost k in added _ _ _ _ _ a b);
      whole = λ k. rest.whole k ∙ one.whole k;
      ended = λ ended. rest.ended (one.ended ended);
    }
  where
    added : (last middle first part rest : ℕ) → last ≡ middle + rest → middle ≡ first + part → last ≡ first + (part + rest)
    added last middle first part rest a b = omega arith

-- ---- from the opening on

abbrev pub opening_tally : (answers : ℕ) → Sending → Tally
opening_tally answers s = record {
  missed = 0;
  lost = λ k. 0;
  spare = λ k. answers * min s.packet_limit (offered_of (outgoing_at s k));
  spare_all = answers * s.packet_limit;
}

pub opening_spare : (answers : ℕ) (s : Sending) → HasSpare answers (opening_tally answers s) s
opening_spare answers s = record { each = λ k offered e. by k offered (outgoing_at s k) e; all = omega arith }
  where
    by : (k offered : ℕ) (o : Option Outgoing) → offer_of o ≡ Some offered → answers * min s.packet_limit offered ≤ answers * min s.packet_limit (offered_of o)
    by k offered None e = absurd (cc)
    by k offered (Some x) e = let same : x.offered ≡ offered = cc in subst (λ m. answers * min s.packet_limit m ≤ answers * min s.packet_limit x.offered) same (omega arith)

pub opening_room : (n : ℕ → ℕ) (config : Config) (answers : ℕ) (s : Sending) (parity : ℕ) (kept : List ℕ) → IsModest n → IsOpening n config s → AllowsLosses answers s (opened_receiving parity kept) → IsAhead n (opening_tally answers s) s (opened_receiving parity kept)
opening_room n config answers s parity kept modest opening allows =
    opening_ahead n config s parity kept (λ k. answers * min s.packet_limit (offered_of (outgoing_at s k))) (answers * s.packet_limit) modest opening allows.named
    (λ k x e. subst (λ (o : Option Outgoing). x.offered + answers * min s.packet_limit (offered_of o) ≤ slice_index kept k) (sym e) (allows.most k x e))
    allows.credit

opening_ran : (n : ℕ → ℕ) (config : Config) (fs : List Fate) (s t : Sending) (u : Receiving) (parity : ℕ) (kept : List ℕ) → IsModest n → IsOpening n config s → AllowsLosses (lost_answers fs) s (opened_receiving parity kept)
    → (run : Tries n fs s (opened_receiving parity kept) t u) → Ran n (opening_tally (lost_answers fs) s) fs s (opened_receiving parity kept) t u run
opening_ran n config fs s t u parity kept modest opening allows run =
    tries_run n fs (opening_tally (lost_answers fs) s) s (opened_receiving parity kept) t u run (λ alive. opening_quiet n config s opening) (opening_room n config (lost_answers fs) s parity kept modest opening allows) (opening_spare (lost_answers fs) s)

pub lossy_sharper : (n : ℕ → ℕ) (config : Config) (fs : List Fate) (s t : Sending) (u : Receiving) (parity : ℕ) (kept : List ℕ) → IsModest n → IsOpening n config s → AllowsLosses (lost_answers fs) s (opened_receiving parity kept)
    → Tries n fs s (opened_receiving parity kept) t u → length fs + work_left n t ≤ work_left n s + losses fs
lossy_sharper n config fs s t u parity kept modest opening allows run =
    (attempts_lower n fs s t (λ alive. opening_quiet n config s opening) (opening_ran n config fs s t u parity kept modest opening allows run).attempts).0

pub lossy_bounded : (n : ℕ → ℕ) (config : Config) (fs : List Fate) (s t : Sending) (u : Receiving) (parity : ℕ) (kept : List ℕ) → IsModest n → IsOpening n config s → AllowsLosses (lost_answers fs) s (opened_receiving parity kept)
    → Tries n fs s (opened_receiving parity kept) t u → length fs + 1 ≤ bound n s + losses fs
lossy_bounded n config fs s t u parity kept modest opening allows run =
    attempts_bounded n config fs s t opening (opening_ran n config fs s t u parity kept modest opening allows run).attempts

pub lossy_quiet : (n : ℕ → ℕ) (config : Config) (fs : List Fate) (s t : Sending) (u : Receiving) (parity : ℕ) (kept : List ℕ) → IsModest n → IsOpening n config s → AllowsLosses (lost_answers fs) s (opened_receiving parity kept)
    → Tries n fs s (opened_receiving parity kept) t u → t.failed ≡ false → IsQuiet n t
lossy_quiet n config fs s t u parity kept modest opening allows run alive = (opening_ran n config fs s t u parity kept modest opening allows run).quiet alive

pub lossy_alive : (n : ℕ → ℕ) (config : Config) (fs : List Fate) (s t : Sending) (u : Receiving) (parity : ℕ) (kept : List ℕ) → IsModest n → IsOpening n config s → AllowsLosses (lost_answers fs) s (opened_receiving parity kept)
    → Tries n fs s (opened_receiving parity kept) t u → AreFew 0 fs → t.failed ≡ false
lossy_alive n config fs s t u parity kept modest opening allows run few =
    attempts_alive n fs s t 0 (opening_quiet n config s opening) (opening_ran n config fs s t u parity kept modest opening allows run).attempts (ap (λ (z : Sending). z.failures) opening.rest) few

pub lossy_delivered : (n : ℕ → ℕ) (config : Config) (fs : List Fate) (s t : Sending) (u : Receiving) (parity : ℕ) (kept : List ℕ) (k : ℕ) (x : Outgoing) → IsModest n → IsOpening n config s → AllowsLosses (lost_answers fs) s (opened_receiving parity kept)
    → (run : Tries n fs s (opened_receiving parity kept) t u) → t.failed ≡ false → work_left n t ≡ 0 → outgoing_at t k ≡ Some x
    → ((incoming_at u k).held.read ≡ n k) × ((incoming_at u k).credited ≡ x.offered + lost_on n fs s (opened_receiving parity kept) t u run k)
lossy_delivered n config fs s t u parity kept k x modest opening allows run alive done e =
    let ran = opening_ran n config fs s t u parity kept modest opening allows run in
    let all = all_had n t u k x (ran.quiet alive) ran.ahead done e in
    let paid = all.1 in
    let lost = ran.lost k in
    (all.0, summed _ _ _ _ paid lost)
  where
    summed : (credited offered lost carried : ℕ) → credited ≡ offered + lost → lost ≡ 0 + carried → credited ≡ offered + carried
    summed credited offered lost carried a b = omega arith

pub lossy_carried : (n : ℕ → ℕ) (config : Config) (fs : List Fate) (s t : Sending) (u : Receiving) (parity : ℕ) (kept : List ℕ) (k : ℕ) (x : Outgoing) → IsModest n → IsOpening n config s → AllowsLosses (lost_answers fs) s (opened_receiving parity kept)
    → (run : Tries n fs s (opened_receiving parity kept) t u) → outgoing_at s k ≡ Some x → lost_on n fs s (opened_receiving parity kept) t u run k ≤ lost_answers fs * min s.packet_limit x.offered
lossy_carried n config fs s t u parity kept k x modest opening allows run e =
    let ran = opening_ran n config fs s t u parity kept modest opening allows run in
    let lost = ran.lost k in
    let whole = ran.whole k in
    subst (λ (o : Option Outgoing). lost_on n fs s (opened_receiving parity kept) t u run k ≤ lost_answers fs * min s.packet_limit (offered_of o)) e
    (within _ _ _ _ lost whole)
  where
    within : (lost carried spare first : ℕ) → lost ≡ 0 + carried → lost + spare ≡ 0 + first → carried ≤ first
    within lost carried spare first a b = omega arith

offered_by : (o p : Option Outgoing) → offer_of o ≡ offer_of p → offered_of o ≡ offered_of p
offered_by None None e = refl
offered_by None (Some y) e = absurd (cc)
offered_by (Some x) None e = absurd (cc)
offered_by (Some x) (Some y) e = let same : x.offered ≡ y.offered = cc in same

pub lossy_offer : (n : ℕ → ℕ) (config : Config) (fs : List Fate) (s t : Sending) (u : Receiving) (parity : ℕ) (kept : List ℕ) (k : ℕ) → IsModest n → IsOpening n config s → AllowsLosses (lost_answers fs) s (opened_receiving parity kept)
    → Tries n fs s (opened_receiving parity kept) t u → offer_of (outgoing_at t k) ≡ offer_of (outgoing_at s k)
lossy_offer n config fs s t u parity kept k modest opening allows run = (opening_ran n config fs s t u parity kept modest opening allows run).offers k

pub lossy_offers : (n : ℕ → ℕ) (config : Config) (fs : List Fate) (s t : Sending) (u : Receiving) (parity : ℕ) (kept : List ℕ) (k : ℕ) → IsModest n → IsOpening n config s → AllowsLosses (lost_answers fs) s (opened_receiving parity kept)
    → Tries n fs s (opened_receiving parity kept) t u → offered_of (outgoing_at t k) ≡ offered_of (outgoing_at s k)
lossy_offers n config fs s t u parity kept k modest opening allows run = offered_by (outgoing_at t k) (outgoing_at s k) (lossy_offer n config fs s t u parity kept k modest opening allows run)

-- a stream whose close was fulfilled ends at the receiver too
opening_ended : (n : ℕ → ℕ) (config : Config) (s : Sending) (r : Receiving) → IsOpening n config s → AreEnded s r
opening_ended n config s r opening k x e settled =
    let none : x.clean_settled ≡ false = ap (λ (z : Outgoing). z.clean_settled) (opening.streams k x e).1.is in
    absurd (let clash : ◌≡◌ {A = Bool} false true = sym none ∙ settled in cc)

known_end : (o : Option ℕ) → is_some o ≡ true → (m : ℕ) × (o ≡ Some m)
known_end None e = absurd (cc)
known_end (Some m) e = (m, refl)

pub lossy_ended : (n : ℕ → ℕ) (config : Config) (fs : List Fate) (s t : Sending) (u : Receiving) (parity : ℕ) (kept : List ℕ) (k most : ℕ) (x : Outgoing) → IsModest n → IsOpening n config s → AllowsLosses (lost_answers fs) s (opened_receiving parity kept)
    → Tries n fs s (opened_receiving parity kept) t u → t.failed ≡ false → work_left n t ≡ 0 → outgoing_at t k ≡ Some x → got most (incoming_at u k).held ≡ End
lossy_ended n config fs s t u parity kept k most x modest opening allows run alive done e =
    let ran = opening_ran n config fs s t u parity kept modest opening allows run in
    let known = known_end (incoming_at u k).held.end (ran.ended (opening_ended n config s (opened_receiving parity kept) opening) k x e (all_done n t k x (ran.quiet alive) done e).close) in
    gives_end (incoming_at u k).held known.0 most (ran.ahead.mirrored.alive k) (nothing_held n t u k ran.ahead) known.1 (ran.ahead.stops k known.0 known.1)
