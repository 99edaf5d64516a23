-- A receiver that is level with the sender, or ahead of it, once a Send was lost.
use Rattle.std.proofs.Common.{◌≡◌, ℕ, ◌+◌, ◌-◌, ◌^◌, ◌<◌, ◌≤◌, List, [], length, max, refl, sym, ap, ◌∙◌, arith, Option, None, Some}
use Rattle.st_streams.proofs.SlotLemmas.{slot_within}
use Rattle.st_frames.specs.Frames.{Known, max_packet}
use Rattle.st_frames.specs.Told.{money_in}
use Rattle.st_reassembly.specs.Run.{run}
use Rattle.st_reassembly.proofs.Runs.{is_run}
use Rattle.st_sender.specs.Sending.{Load, Outgoing, Sending, outgoing_at}
use Rattle.st_sender.specs.Flights.{flying_end, sent_end}
use Rattle.st_sender.specs.Loads.{Sends, with_flight}
use Rattle.st_receiver.specs.Streams.{Receiving, incoming_at}
use Rattle.std.specs.FinSet.{contains}
use Rattle.st_world_quiet.specs.Quiet.{IsQuiet}
use Rattle.st_world_quiet.specs.Left.{all_money_left, money_left}
use Rattle.st_world_quiet.specs.Rounds.{IsWritten, Refilled}
use Rattle.st_world_quiet.specs.Mirrored.{IsAhead, IsReadOut, Tally}
use Rattle.st_world_quiet.specs.Losses.{once_lost, with_lost}
use Rattle.st_world_quiet.proofs.Sums.{sum_same}
use Rattle.st_world_quiet.proofs.Reading.{run_is_all}
use Rattle.st_world_quiet.proofs.EndRounds.{alike, none_flies, same_money}
use Rattle.st_world_quiet.proofs.Losing.{Kept, kept_at}
use Rattle.st_world_quiet.proofs.Abreast.{Comes, alive_at, below_at, credit_at, credit_sum, emptied_at, going_at, input_at, later_at, most_at, names_at, read_at, slots_kept, stops_at, unclosed_at, within_at}

-- ---- the input is written on

written_end : (n : ℕ → ℕ) (s t : Sending) (k : ℕ) (o : Option Outgoing) → t.flights ≡ s.flights → outgoing_at s k ≡ o → Refilled (n k) o (outgoing_at t k) → sent_end t k (outgoing_at t k) ≡ sent_end s k (outgoing_at s k)
written_end n s t k None flights e r =
    let now : sent_end t k (outgoing_at t k) ≡ 0 = ap (sent_end t k) r in
    let was : sent_end s k (outgoing_at s k) ≡ 0 = ap (sent_end s k) e in
    omega (arith, now, was)
written_end n s t k (Some x) flights e r =
    let now : sent_end t k (outgoing_at t k) ≡ max r.0.acked_end (flying_end k t.flights) = ap (sent_end t k) r.1 in
    let was : sent_end s k (outgoing_at s k) ≡ max x.acked_end (flying_end k s.flights) = ap (sent_end s k) e in
    let end : r.0.acked_end ≡ x.acked_end = ap (λ (z : Outgoing). z.acked_end) r.2.is in
    let flying : flying_end k t.flights ≡ flying_end k s.flights = ap (flying_end k) flights in
    omega (arith, now, was, end, flying)

-- which changes nothing that the receiver's relation to the sender depends on
pub written_ahead : {c : Tally} (n : ℕ → ℕ) (s t : Sending) (r : Receiving) → IsWritten n s t → IsAhead n c s r → IsAhead n c t r
written_ahead n s t r writes ahead = record {
  mirrored = record {
    slots = ahead.mirrored.slots;
    alive = ahead.mirrored.alive;
    below = ahead.mirrored.below;
    named = λ k y here. (let b = before k y here in ahead.mirrored.named k b.old b.is_open);
    windows = λ k y here. (let b = before k y here in
        let had = ahead.mirrored.windows k b.old b.is_open in
        let same : y.told ≡ b.old.told = ap (λ (z : Outgoing). z.told) b.more.is in
        omega (arith, had, same));
  };
  modest = ahead.modest;
  unclosed = ahead.unclosed;
  later = λ j l. ahead.later j (let last : t.last ≡ s.last = ap (λ (z : Sending). z.last) writes.rest in omega (arith, l, last));
  read = λ k. (let same = ends k in let l = ahead.read k in omega (arith, same, l));
  input = ahead.input;
  level = λ none k. ahead.level none k ∙ sym (ends k);
  credited = λ k y here. (let b = before k y here in
      let had = ahead.credited k b.old b.is_open in
      let same : y.fulfilled ≡ b.old.fulfilled = ap (λ (z : Outgoing). z.fulfilled) b.more.is in
      omega (arith, had, same));
  most = λ k y here. (let b = before k y here in
      let had = ahead.most k b.old b.is_open in
      let same : y.offered ≡ b.old.offered = ap (λ (z : Outgoing). z.offered) b.more.is in
      omega (arith, had, same));
  within = ahead.within;
  credit = (let had = ahead.credit in omega (arith, had, money));
  stops = ahead.stops;
  emptied = ahead.emptied;
  going = λ k y here left. (let b = before k y here in
      let same : y.acked_end ≡ b.old.acked_end = ap (λ (z : Outgoing). z.acked_end) b.more.is in
      ahead.going k b.old b.is_open (omega (arith, left, same)));
}
  where
    before : (k : ℕ) (y : Outgoing) → outgoing_at t k ≡ Some y → Kept n s k y
    before k y here = kept_at n s t writes k y here

    ends : (k : ℕ) → sent_end t k (outgoing_at t k) ≡ sent_end s k (outgoing_at s k)
    ends k = written_end n s t k (outgoing_at s k) (ap (λ (z : Sending). z.flights) writes.rest) refl (writes.streams k)

    money : all_money_left t ≡ all_money_left s
    money = sum_same (λ k. money_left (outgoing_at t k)) (λ k. money_left (outgoing_at s k)) (λ k. same_money (outgoing_at s k) (outgoing_at t k) (alike n s t [] writes k (outgoing_at s k) refl)) 0 65

-- ---- a Send that was lost

lost_end : (s : Sending) (p : Load) (k : ℕ) → s.flights ≡ [] → sent_end (once_lost s p) k (outgoing_at (once_lost s p) k) ≡ sent_end s k (outgoing_at s k)
lost_end s p k alone = by (outgoing_at s k) (none_flies s p alone ∙ sym alone)
  where
    by : (o : Option Outgoing) → (once_lost s p).flights ≡ s.flights → sent_end (once_lost s p) k o ≡ sent_end s k o
    by None same = refl
    by (Some x) same = ap (λ fl. max x.acked_end (flying_end k fl)) same

lost_last : (n : ℕ → ℕ) (s : Sending) (limits : List Known) (p : Load) → Sends s limits max_packet p (with_flight s p) → (once_lost s p).last ≡ s.last + 1
lost_last n s limits p sends = ap (λ (z : Load). z.sequence) sends.load

-- ---- a Prepare that never came

pub nothing_held : {c : Tally} (n : ℕ → ℕ) (s : Sending) (r : Receiving) (k : ℕ) → IsAhead n c s r → length (run (incoming_at r k).held) ≡ 0
nothing_held n s r k ahead =
    let h = (incoming_at r k).held in
    let all = run_is_all h (run h) h.read (is_run h) (omega arith) (λ q from till. absurd (omega (arith, from, till))) (λ q past. ahead.emptied k q past) in
    omega (arith, all)

nothing_read : {c : Tally} (n : ℕ → ℕ) (s : Sending) (r u : Receiving) (k : ℕ) → IsAhead n c s r → IsReadOut r u → (incoming_at u k).held.read ≡ (incoming_at r k).held.read
nothing_read n s r u k ahead out =
    let none = nothing_held n s r k ahead in
    let read = out.read k in
    omega (arith, none, read)

pub never_came : {c : Tally} (n : ℕ → ℕ) (s : Sending) (limits : List Known) (p : Load) (r u : Receiving) → IsQuiet n s → Sends s limits max_packet p (with_flight s p) → IsAhead n c s r → IsReadOut r u → IsAhead n c (once_lost s p) u
never_came n s limits p r u quiet sends ahead out = record {
  mirrored = record {
    slots = out.slots ∙ ahead.mirrored.slots;
    alive = λ k. out.aborted k ∙ ahead.mirrored.alive k;
    below = λ k. (let a = out.highest k in let b = ahead.mirrored.below k in let now = same k in omega (arith, a, b, now));
    named = λ k x e. out.names k ∙ ahead.mirrored.named k x e;
    windows = λ k x e. (let had = ahead.mirrored.windows k x e in let now = same k in omega (arith, had, now));
  };
  modest = ahead.modest;
  unclosed = out.closed ∙ ahead.unclosed;
  later = λ j l. ap (λ f. contains f j) out.fulfilled ∙ ahead.later j (let last = lost_last n s limits p sends in omega (arith, l, last));
  read = λ k. (let l = ahead.read k in let end = lost_end s p k quiet.alone in let now = same k in omega (arith, l, end, now));
  input = λ k. (let l = ahead.input k in let now = same k in omega (arith, l, now));
  level = λ none k. same k ∙ ahead.level none k ∙ sym (lost_end s p k quiet.alone);
  credited = λ k x e. out.credited k ∙ ahead.credited k x e;
  most = λ k x e. (let had = ahead.most k x e in let max_is = out.receive_max k in omega (arith, had, max_is));
  within = λ k l. (let had = ahead.within k l in let a = out.credited k in let b = out.receive_max k in omega (arith, had, a, b));
  credit = (let had = ahead.credit in let now = out.credit in omega (arith, had, now));
  stops = λ k e is. ahead.stops k e (sym (out.end k) ∙ is) ∙ sym (same k);
  emptied = λ k q l. out.bytes k q l ∙ ahead.emptied k q (let now = same k in omega (arith, l, now));
  going = λ k x e left. out.end k ∙ ahead.going k x e left;
}
  where
    same : (k : ℕ) → (incoming_at u k).held.read ≡ (incoming_at r k).held.read
    same k = nothing_read n s r u k ahead out

-- ---- a Prepare that was accepted, and whose answer was lost

pub never_answered : {c : Tally} (n : ℕ → ℕ) (s : Sending) (limits : List Known) (p : Load) (r u : Receiving) (m : ℕ) → Comes n c s limits p r u m → ((k : ℕ) → money_in k p.frames ≤ c.spare k) → p.amount ≤ c.spare_all → IsAhead n (with_lost p c) (once_lost s p) u
never_answered {c} n s limits p r u m g few few_all = record {
  mirrored = record {
    slots = slots_kept n s limits p r u m g;
    alive = alive_at n s limits p r u m g;
    below = below_at n s limits p r u m g;
    named = λ k x e. names_at n s limits p r u m g k ∙ g.abreast.mirrored.named k x e;
    windows = λ k x e. (let had = g.abreast.mirrored.windows k x e in let now = read_at n s limits p r u m g k in omega (arith, had, now));
  };
  modest = g.abreast.modest;
  unclosed = unclosed_at n s limits p r u m g;
  later = λ j l. later_at n s limits p r u m g j (let last = lost_last n s limits p g.sends in let next = g.next in omega (arith, l, last, next));
  read = λ k. (let l = g.abreast.read k in let end = lost_end s p k g.quiet.alone in let now = read_at n s limits p r u m g k in omega (arith, l, end, now));
  input = input_at n s limits p r u m g;
  level = λ none. absurd (omega (arith, none));
  credited = λ k x e. (let within = slot_within s.streams k x e in
      let slots = g.quiet.slots in
      let now = credit_at n s limits p r u m g k (omega (arith, within, slots)) in
      let was = g.abreast.credited k x e in
      omega (arith, now, was));
  most = λ k x e. (let had = g.abreast.most k x e in let same = most_at n s limits p r u m g k in let l = few k in moved _ _ _ _ _ _ had same l);
  within = within_at n s limits p r u m g;
  credit = (let had = g.abreast.credit in let now = credit_sum n s limits p r u m g in summed _ _ _ _ _ had now few_all);
  stops = stops_at n s limits p r u m g;
  emptied = emptied_at n s limits p r u m g;
  going = λ k x e left. going_at n s limits p r u m g k x e left;
}
  where
    moved : (offered lost spare most now part : ℕ) → offered + lost + spare ≤ most → now ≡ most → part ≤ spare → offered + (lost + part) + (spare - part) ≤ now
    moved offered lost spare most now part a b d = omega arith

    summed : (credit left spare now amount : ℕ) → credit + left + spare < 2 ^ 63 → now ≡ credit + amount → amount ≤ spare → now + left + (spare - amount) < 2 ^ 63
    summed credit left spare now amount a b d = omega arith
