-- A receiver that was abreast of the sender, or ahead, is so again after a round and its reads.
use Rattle.std.proofs.Common.{◌≡◌, ℕ, zero, suc, ◌+◌, ◌^◌, ◌<◌, ◌≤◌, Bool, true, false, cond, List, [], ◌∷◌, length, map, max, refl, sym, ap, subst, ◌∙◌, arith, Option, None, Some, inl, inr, nat_eq}
use Rattle.std.specs.Prelude.{Contains}
use Rattle.std.specs.FinMap as fmap
use Rattle.std.specs.FinSet as fset
use Rattle.std.specs.Ordering.{nat_cmp, eq_by_cmp}
use Rattle.std.specs.Cmp.{nat_cmp_total}
use Rattle.std.specs.List.{list_any, AllByRecursion}
use Rattle.std.proofs.lemmas.Bool.{cases_eq, cases_lt}
use Rattle.std.proofs.lemmas.Bool.Decides.{nat_tests}
use Rattle.st_frames.specs.Frames.{Known, Packet, LimitFrame, StreamMaxData, StreamMaxMoney, frames_of, max_packet}
use Rattle.st_frames.specs.Told.{money_in, names}
use Rattle.st_sender.specs.Sending.{Load, Outgoing, Sending, outgoing_at}
use Rattle.st_sender.specs.Flights.{flown, highest_end, sent_end}
use Rattle.st_sender.specs.Due.{IsDue}
use Rattle.st_sender.specs.Loads.{Sends, with_flight}
use Rattle.st_sender.specs.Filling.{Fills}
use Rattle.st_sender.specs.Answering.{after_all_told, landed, told_data, advertised_receive_max}
use Rattle.st_receiver.specs.Streams.{Incoming, Receiving, incoming_at, may_name, received_of}
use Rattle.st_receiver.specs.Limits.{capped, named_limits, reply_frames, told_by}
use Rattle.st_receiver.specs.Judged.{after_all, effect, with_sequence}
use Rattle.st_receiver.proofs.Leaving.{Leaves, effect_names, effect_told}
use Rattle.st_streams.specs.Slots.{slot}
use Rattle.st_streams.proofs.SlotLemmas.{slot_within}
use Rattle.st_world_quiet.specs.Quiet.{IsQuiet}
use Rattle.st_world_quiet.specs.Left.{all_money_left, money_left}
use Rattle.st_world_quiet.specs.Rounds.{IsWritten, Refilled, once_fulfilled}
use Rattle.st_world_quiet.specs.Mirrored.{IsAhead, IsMirrored, IsPacketOf, IsReadOut, Tally}
use Rattle.st_world_quiet.proofs.Sums.{sum_same}
use Rattle.st_world_quiet.proofs.Acknowledging.{all_acked_at, all_acked_end, all_kept, all_own_acked, is_other, none_stays}
use Rattle.st_world_quiet.proofs.Money.{all_acked_paid, money_after}
use Rattle.st_world_quiet.proofs.Telling.{all_own_told, all_told_at, all_told_only, none_stays_told, own_told, rest_all_acked, rest_all_told}
use Rattle.st_world_quiet.proofs.EndRounds.{alike, none_flies, same_money}
use Rattle.st_world_quiet.proofs.Counting.{none_ends}
use Rattle.st_world_quiet.proofs.Taken.{end_within, load_taken, reach_within, reaches}
use Rattle.st_world_quiet.proofs.Stopping.{load_stops}
use Rattle.st_world_quiet.proofs.Leaving.{effect_alive, effect_reads, effect_slots}
use Rattle.st_world_quiet.proofs.Credited.{part_within}
use Rattle.st_world_quiet.proofs.Replies.{acked_is_sent, credited_after, from_flat_map}
use Rattle.st_world_quiet.proofs.Holding.{any_read, load_past}
use Rattle.st_world_quiet.proofs.Staying.{effect_credit, effect_end, effect_received, effect_rest}

-- ---- a limit at the sender is at most what was advertised

data_most : (b : Bool) (v : ℕ) (x : Outgoing) (m : ℕ) → x.told ≤ m → (b ≡ true → v ≤ m) → (cond b (told_data v x) x).told ≤ m
data_most true v x m l h = let g = h refl in omega (arith, l, g)
data_most false v x m l h = l

money_most : (b : Bool) (a t : ℕ) (x : Outgoing) (m : ℕ) → x.told ≤ m → (cond b (advertised_receive_max a t x) x).told ≤ m
money_most true a t x m l = l
money_most false a t x m l = l

own_most : (k : ℕ) (f : Known) (x : Outgoing) (m : ℕ) → x.told ≤ m → ((v : ℕ) → f ≡ LimitFrame (StreamMaxData k v) → v ≤ m) → (own_told k f x).told ≤ m
own_most k (LimitFrame (StreamMaxData j v)) x m l h = elim (cases_eq j k) [
  | inl same ↦ data_most (nat_eq j k) v x m l (λ b. h v (ap (λ i. LimitFrame (StreamMaxData i v)) same))
  | inr apart ↦ data_most (nat_eq j k) v x m l (λ b. absurd (let no = is_other j k apart in cc))
]
own_most k (LimitFrame (StreamMaxMoney j a t)) x m l h = money_most (nat_eq j k) a t x m l
own_most k f x m l h = l

window_most : (k : ℕ) (fs : List Known) (x : Outgoing) (m : ℕ) → x.told ≤ m → ((v : ℕ) → Contains fs (LimitFrame (StreamMaxData k v)) → v ≤ m) → (all_own_told k fs x).told ≤ m
window_most k [] x m l h = l
window_most k (f ∷ fs) x m l h =
    window_most k fs (own_told k f x) m (own_most k f x m l (λ v e. h v (zero, omega arith, e))) (λ v c. h v (suc c.0, (let i = c.1 in omega (arith, i)), c.2))

-- ---- and a reply advertises no window but the stream's own

told_window : (b c : Bool) (j k v : ℕ) (x : Incoming) → Contains (cond b (cond c (told_by j x) []) []) (LimitFrame (StreamMaxData k v)) → (j ≡ k) × (capped (x.held.read + 65536) ≡ v)
told_window true true j k v x (zero, l, e) = (let a : j ≡ k = cc in a, let b : capped (x.held.read + 65536) ≡ v = cc in b)
told_window true true j k v x (suc zero, l, e) = absurd (cc)
told_window true true j k v x (suc (suc i), l, e) = absurd (omega (arith, l))
told_window true false j k v x h = absurd (let l = h.1 in omega (arith, l))
told_window false c j k v x h = absurd (let l = h.1 in omega (arith, l))

window_is : (r : Receiving) (fs : List Known) (k v : ℕ) → Contains (reply_frames r fs) (LimitFrame (StreamMaxData k v)) → v ≡ capped ((incoming_at r k).held.read + 65536)
unfolding reply_frames
window_is r fs k v (zero, l, e) = absurd (cc)
window_is r fs k v (suc i, l, e) =
    let at = from_flat_map (named_limits r fs) 1 64 (LimitFrame (StreamMaxData k v)) (i, omega (arith, l), e) in
    let is = told_window (list_any (names at.0) fs) (may_name r at.0) at.0 k v (incoming_at r at.0) at.1 in
    sym (subst (λ j. capped ((incoming_at r j).held.read + 65536) ≡ v) is.0 is.1)

-- ---- a stream of the sender after the round

record StreamAfter (told : List Known) (p : Load) (k : ℕ) (x y : Outgoing) : Type 0 where
  acked_end : y.acked_end ≡ max x.acked_end (highest_end k (map flown p.frames))
  offered : y.offered ≡ x.offered
  fulfilled : y.fulfilled ≡ x.fulfilled + money_in k p.frames
  told_is : y.told ≡ (all_own_told k told (all_own_acked k p.frames x)).told

abbrev After : List Known → Load → ℕ → Option Outgoing → Option Outgoing → Type 0
After told p k None o = o ≡ None
After told p k (Some x) o = (y : Outgoing) × (o ≡ Some y) × StreamAfter told p k x y

stream_after : (n : ℕ → ℕ) (s t : Sending) (p : Load) (told : List Known) → IsWritten n (after_all_told (once_fulfilled s p) told) t → (k : ℕ) (o : Option Outgoing) → outgoing_at s k ≡ o → After told p k o (outgoing_at t k)
stream_after n s t p told writes k None e =
    let P : Option Outgoing → Type 0 = λ o. Refilled (n k) o (outgoing_at t k) in
    subst P (none_stays_told (once_fulfilled s p) k told (none_stays (landed (with_flight s p) p.sequence) k p.frames e)) (writes.streams k)
stream_after n s t p told writes k (Some x) e =
    let one = all_own_acked k p.frames x in
    let at_one : outgoing_at (once_fulfilled s p) k ≡ Some one = all_acked_at (landed (with_flight s p) p.sequence) k p.frames x e in
    let P : Option Outgoing → Type 0 = λ o. Refilled (n k) o (outgoing_at t k) in
    let r = subst P (all_told_at (once_fulfilled s p) k told one at_one) (writes.streams k) in
    let only = all_told_only k told one in
    let is = r.2.is in (
      r.0,
      r.1,
      record {
        acked_end = ap (λ (z : Outgoing). z.acked_end) is ∙ only.acked_end ∙ all_acked_end k p.frames x;
        offered = ap (λ (z : Outgoing). z.offered) is ∙ only.offered ∙ (all_kept k p.frames x).offered;
        fulfilled = ap (λ (z : Outgoing). z.fulfilled) is ∙ only.fulfilled ∙ all_acked_paid k p.frames x;
        told_is = ap (λ (z : Outgoing). z.told) is;
      },
    )

record StreamBefore (s : Sending) (told : List Known) (p : Load) (k : ℕ) (y : Outgoing) : Type 0 where
  old : Outgoing
  is_open : outgoing_at s k ≡ Some old
  after : StreamAfter told p k old y

stream_before : (s t : Sending) (p : Load) (told : List Known) (k : ℕ) (y : Outgoing) (o : Option Outgoing) → outgoing_at s k ≡ o → After told p k o (outgoing_at t k) → outgoing_at t k ≡ Some y → StreamBefore s told p k y
stream_before s t p told k y None e a here = absurd (let clash : ◌≡◌ {A = Option Outgoing} None (Some y) = sym a ∙ here in cc)
stream_before s t p told k y (Some x) e a here =
    let both : ◌≡◌ {A = Option Outgoing} (Some a.0) (Some y) = sym a.1 ∙ here in
    let same : a.0 ≡ y = cc in
    record { old = x; is_open = e; after = subst (λ z. StreamAfter told p k x z) same a.2 }

-- ---- an outgoing packet arrives

-- an outgoing packet arrives at a receiver that is abreast, or ahead, which reads all of it
pub record Comes (n : ℕ → ℕ) (c : Tally) (s : Sending) (limits : List Known) (p : Load) (r u : Receiving) (m : ℕ) : Type 0 where
  pub quiet : IsQuiet n s
  pub sends : Sends s limits max_packet p (with_flight s p)
  pub fills : Fills s limits max_packet p
  pub abreast : IsAhead n c s r
  pub next : m ≡ s.last + 1
  pub out : IsReadOut (with_sequence m (after_all r p.amount p.frames)) u

pub read_at : {c : Tally} (n : ℕ → ℕ) (s : Sending) (limits : List Known) (p : Load) (r u : Receiving) (m : ℕ) → Comes n c s limits p r u m → (k : ℕ) → (incoming_at u k).held.read ≡ reaches r p.frames k
read_at n s limits p r u m g k = g.out.read k ∙ any_read n s limits p r k (outgoing_at s k) g.quiet g.sends g.fills g.abreast refl

pub input_at : {c : Tally} (n : ℕ → ℕ) (s : Sending) (limits : List Known) (p : Load) (r u : Receiving) (m : ℕ) → Comes n c s limits p r u m → (k : ℕ) → (incoming_at u k).held.read ≤ n k
input_at n s limits p r u m g k = let now = read_at n s limits p r u m g k in let l = reach_within n s limits p r k g.quiet g.sends g.abreast in omega (arith, now, l)

pub alive_at : {c : Tally} (n : ℕ → ℕ) (s : Sending) (limits : List Known) (p : Load) (r u : Receiving) (m : ℕ) → Comes n c s limits p r u m → (k : ℕ) → (incoming_at u k).held.aborted ≡ None
alive_at n s limits p r u m g k = g.out.aborted k ∙ effect_alive n s limits r p.amount p.frames k g.quiet g.sends.due ∙ g.abreast.mirrored.alive k

pub slots_kept : {c : Tally} (n : ℕ → ℕ) (s : Sending) (limits : List Known) (p : Load) (r u : Receiving) (m : ℕ) → Comes n c s limits p r u m → length u.streams ≡ 65
slots_kept n s limits p r u m g = g.out.slots ∙ effect_slots s limits r p.amount p.frames g.sends.due ∙ g.abreast.mirrored.slots

leaves_at : {c : Tally} (n : ℕ → ℕ) (s : Sending) (limits : List Known) (p : Load) (r u : Receiving) (m : ℕ) → Comes n c s limits p r u m → (k : ℕ) → Leaves r p.amount p.frames k
leaves_at n s limits p r u m g k = effect_told r p.amount p.frames k g.abreast.mirrored.slots (load_taken n s limits p r g.quiet g.sends g.fills g.abreast)

pub below_at : {c : Tally} (n : ℕ → ℕ) (s : Sending) (limits : List Known) (p : Load) (r u : Receiving) (m : ℕ) → Comes n c s limits p r u m → (k : ℕ) → received_of (slot u.streams k) ≤ (incoming_at u k).held.read
below_at n s limits p r u m g k =
    let h = g.out.highest k in
    let l = effect_received n s limits p r k g.quiet g.sends g.fills g.abreast in
    let now = read_at n s limits p r u m g k in
    omega (arith, h, l, now)

pub names_at : {c : Tally} (n : ℕ → ℕ) (s : Sending) (limits : List Known) (p : Load) (r u : Receiving) (m : ℕ) → Comes n c s limits p r u m → (k : ℕ) → may_name u k ≡ may_name r k
names_at n s limits p r u m g k = g.out.names k ∙ effect_names r p.amount p.frames k g.abreast.mirrored.slots (load_taken n s limits p r g.quiet g.sends g.fills g.abreast)

not_same : (q k : ℕ) → k < q → eq_by_cmp nat_cmp q k ≡ false
not_same q k l = grind (arith, nat_tests)

pub later_at : {c : Tally} (n : ℕ → ℕ) (s : Sending) (limits : List Known) (p : Load) (r u : Receiving) (m : ℕ) → Comes n c s limits p r u m → (j : ℕ) → m < j → fset.contains u.fulfilled j ≡ false
later_at n s limits p r u m g j l =
    let e = after_all r p.amount p.frames in
    let next = g.next in
    let apart = not_same j m l in
    let rest : fset.contains e.fulfilled j ≡ false = ap (λ f. fset.contains f j) (effect_rest s limits r p.amount p.frames g.sends.due).fulfilled ∙ g.abreast.later j (omega (arith, l, next)) in
    ap (λ f. fset.contains f j) g.out.fulfilled ∙ fset.contains-insert nat_cmp_total e.fulfilled m j ∙ (rw (apart, rest) refl)

pub unclosed_at : {c : Tally} (n : ℕ → ℕ) (s : Sending) (limits : List Known) (p : Load) (r u : Receiving) (m : ℕ) → Comes n c s limits p r u m → u.closed ≡ false
unclosed_at n s limits p r u m g = g.out.closed ∙ (effect_rest s limits r p.amount p.frames g.sends.due).closed ∙ g.abreast.unclosed

pub credit_at : {c : Tally} (n : ℕ → ℕ) (s : Sending) (limits : List Known) (p : Load) (r u : Receiving) (m : ℕ) → Comes n c s limits p r u m → (k : ℕ) → k < 65 → (incoming_at u k).credited ≡ (incoming_at r k).credited + money_in k p.frames
credit_at n s limits p r u m g k l = g.out.credited k ∙ (leaves_at n s limits p r u m g k).credited ∙ credited_after s limits p r k g.quiet.slots g.abreast.mirrored.slots g.sends l

pub most_at : {c : Tally} (n : ℕ → ℕ) (s : Sending) (limits : List Known) (p : Load) (r u : Receiving) (m : ℕ) → Comes n c s limits p r u m → (k : ℕ) → (incoming_at u k).receive_max ≡ (incoming_at r k).receive_max
most_at n s limits p r u m g k = g.out.receive_max k ∙ (leaves_at n s limits p r u m g k).receive_max

pub within_at : {c : Tally} (n : ℕ → ℕ) (s : Sending) (limits : List Known) (p : Load) (r u : Receiving) (m : ℕ) → Comes n c s limits p r u m → (k : ℕ) → k < 65 → (incoming_at u k).credited ≤ (incoming_at u k).receive_max
within_at n s limits p r u m g k l =
    let now = credit_at n s limits p r u m g k l in
    let few = part_within n s limits p r k (outgoing_at s k) g.quiet g.sends g.abreast l refl in
    let same = most_at n s limits p r u m g k in
    omega (arith, now, few, same)

pub credit_sum : {c : Tally} (n : ℕ → ℕ) (s : Sending) (limits : List Known) (p : Load) (r u : Receiving) (m : ℕ) → Comes n c s limits p r u m → u.credit ≡ r.credit + p.amount
credit_sum n s limits p r u m g = g.out.credit ∙ effect_credit s limits r p.amount p.frames g.sends.due

pub going_at : {c : Tally} (n : ℕ → ℕ) (s : Sending) (limits : List Known) (p : Load) (r u : Receiving) (m : ℕ) → Comes n c s limits p r u m → (k : ℕ) (x : Outgoing) → outgoing_at s k ≡ Some x → x.acked_end < n k → (incoming_at u k).held.end ≡ None
going_at n s limits p r u m g k x e some = g.out.end k ∙ effect_end n s limits r p.amount p.frames k x g.quiet g.sends.due e some ∙ g.abreast.going k x e some

pub emptied_at : {c : Tally} (n : ℕ → ℕ) (s : Sending) (limits : List Known) (p : Load) (r u : Receiving) (m : ℕ) → Comes n c s limits p r u m → (k q : ℕ) → (incoming_at u k).held.read ≤ q → fmap.get (incoming_at u k).held.bytes q ≡ None
emptied_at n s limits p r u m g k q l =
    let now = read_at n s limits p r u m g k in
    g.out.bytes k q l ∙ load_past n s limits p r k q g.quiet g.sends g.abreast (omega (arith, l, now)) (omega (arith, l, now))

by_stream : {c : Tally} (n : ℕ → ℕ) (s : Sending) (limits : List Known) (p : Load) (r u : Receiving) (m k e : ℕ) (o : Option Outgoing) → Comes n c s limits p r u m → (incoming_at u k).held.end ≡ Some e → outgoing_at s k ≡ o → highest_end k (map flown p.frames) ≤ (incoming_at r k).held.read
by_stream n s limits p r u m k e None g is at = let none = none_ends s limits k p.frames g.sends.due at in omega (arith, none)
by_stream n s limits p r u m k e (Some x) g is at = elim (cases_lt x.acked_end (n k)) [
  | inl some ↦ absurd (let going = going_at n s limits p r u m g k x at some in let clash : ◌≡◌ {A = Option ℕ} None (Some e) = sym going ∙ is in cc)
  | inr all ↦ (let end = end_within n s limits p k (Some x) g.quiet g.sends at in
      let sent = acked_is_sent s k x g.quiet.alone at in
      let low = g.abreast.read k in
      omega (arith, all, end, sent, low))
]

pub stops_at : {c : Tally} (n : ℕ → ℕ) (s : Sending) (limits : List Known) (p : Load) (r u : Receiving) (m : ℕ) → Comes n c s limits p r u m → (k e : ℕ) → (incoming_at u k).held.end ≡ Some e → e ≡ (incoming_at u k).held.read
stops_at n s limits p r u m g k e is =
    let low = by_stream n s limits p r u m k e (outgoing_at s k) g is refl in
    let stop = load_stops n s limits p r k g.quiet g.sends g.abreast low e (sym (g.out.end k) ∙ is) in
    let same = effect_reads s limits r p.amount p.frames k g.sends.due in
    let now = read_at n s limits p r u m g k in
    omega (arith, stop, same, now, low)

-- ---- a round

-- it is fulfilled, while the sender's input is written on
record Goes (n : ℕ → ℕ) (c : Tally) (s t : Sending) (limits : List Known) (p : Load) (r u : Receiving) (m : ℕ) : Type 0 where
  comes : Comes n c s limits p r u m
  writes : IsWritten n (after_all_told (once_fulfilled s p) (reply_frames (with_sequence m (after_all r p.amount p.frames)) p.frames)) t

abbrev reply : Load → Receiving → ℕ → List Known
reply p r m = reply_frames (with_sequence m (after_all r p.amount p.frames)) p.frames

none_left : {c : Tally} (n : ℕ → ℕ) (s t : Sending) (limits : List Known) (p : Load) (r u : Receiving) (m : ℕ) → Goes n c s t limits p r u m → t.flights ≡ []
none_left n s t limits p r u m g =
    ap (λ (z : Sending). z.flights) g.writes.rest ∙ (rest_all_told (once_fulfilled s p) (reply p r m)).flights
    ∙ (rest_all_acked n s (landed (with_flight s p) p.sequence) limits p.frames g.comes.quiet g.comes.sends.due).flights ∙ none_flies s p g.comes.quiet.alone

next_last : {c : Tally} (n : ℕ → ℕ) (s t : Sending) (limits : List Known) (p : Load) (r u : Receiving) (m : ℕ) → Goes n c s t limits p r u m → t.last ≡ s.last + 1
next_last n s t limits p r u m g =
    ap (λ (z : Sending). z.last) g.writes.rest ∙ (rest_all_told (once_fulfilled s p) (reply p r m)).last
    ∙ (rest_all_acked n s (landed (with_flight s p) p.sequence) limits p.frames g.comes.quiet g.comes.sends.due).last ∙ ap (λ (z : Load). z.sequence) g.comes.sends.load

after_at : {c : Tally} (n : ℕ → ℕ) (s t : Sending) (limits : List Known) (p : Load) (r u : Receiving) (m : ℕ) → Goes n c s t limits p r u m → (k : ℕ) → After (reply p r m) p k (outgoing_at s k) (outgoing_at t k)
after_at n s t limits p r u m g k = stream_after n s t p (reply p r m) g.writes k (outgoing_at s k) refl

before_at : {c : Tally} (n : ℕ → ℕ) (s t : Sending) (limits : List Known) (p : Load) (r u : Receiving) (m : ℕ) → Goes n c s t limits p r u m → (k : ℕ) (y : Outgoing) → outgoing_at t k ≡ Some y → StreamBefore s (reply p r m) p k y
before_at n s t limits p r u m g k y here = stream_before s t p (reply p r m) k y (outgoing_at s k) refl (after_at n s t limits p r u m g k) here

ends_by : (s t : Sending) (limits : List Known) (p : Load) (told : List Known) (k : ℕ) (o : Option Outgoing) → s.flights ≡ [] → t.flights ≡ [] → AllByRecursion (IsDue s limits) p.frames → outgoing_at s k ≡ o → After told p k o (outgoing_at t k)
    → sent_end t k (outgoing_at t k) ≡ max (sent_end s k (outgoing_at s k)) (highest_end k (map flown p.frames))
ends_by s t limits p told k None alone none due e a =
    let now : sent_end t k (outgoing_at t k) ≡ 0 = ap (sent_end t k) a in
    let was : sent_end s k (outgoing_at s k) ≡ 0 = ap (sent_end s k) e in
    let ends = none_ends s limits k p.frames due e in
    omega (arith, now, was, ends)
ends_by s t limits p told k (Some x) alone none due e a =
    let now = acked_is_sent t k a.0 none a.1 in
    let was = acked_is_sent s k x alone e in
    let end = a.2.acked_end in
    omega (arith, now, was, end)

ends_at : {c : Tally} (n : ℕ → ℕ) (s t : Sending) (limits : List Known) (p : Load) (r u : Receiving) (m : ℕ) → Goes n c s t limits p r u m → (k : ℕ) → sent_end t k (outgoing_at t k) ≡ max (sent_end s k (outgoing_at s k)) (highest_end k (map flown p.frames))
ends_at n s t limits p r u m g k = ends_by s t limits p (reply p r m) k (outgoing_at s k) g.comes.quiet.alone (none_left n s t limits p r u m g) g.comes.sends.due refl (after_at n s t limits p r u m g k)

window_kept : {c : Tally} (n : ℕ → ℕ) (s t : Sending) (limits : List Known) (p : Load) (r u : Receiving) (m : ℕ) → Goes n c s t limits p r u m → (k : ℕ) (y : Outgoing) → outgoing_at t k ≡ Some y → y.told ≤ capped ((incoming_at u k).held.read + 65536)
window_kept n s t limits p r u m g k y here =
    let b = before_at n s t limits p r u m g k y here in
    let one = all_own_acked k p.frames b.old in
    let had = g.comes.abreast.mirrored.windows k b.old b.is_open in
    let same = (all_kept k p.frames b.old).told in
    let now = read_at n s limits p r u m g.comes k in
    let left = (leaves_at n s limits p r u m g.comes k).read in
    let most = window_most k (reply p r m) one (capped ((incoming_at u k).held.read + 65536)) (omega (arith, had, same, now))
    (λ v said. let is = window_is (with_sequence m (after_all r p.amount p.frames)) p.frames k v said in omega (arith, is, left, now)) in
    let told = b.after.told_is in
    omega (arith, told, most)

mirror_kept : {c : Tally} (n : ℕ → ℕ) (s t : Sending) (limits : List Known) (p : Load) (r u : Receiving) (m : ℕ) → Goes n c s t limits p r u m → IsMirrored t u
mirror_kept n s t limits p r u m g = record {
  slots = slots_kept n s limits p r u m g.comes;
  alive = alive_at n s limits p r u m g.comes;
  below = below_at n s limits p r u m g.comes;
  named = λ k y here. (let b = before_at n s t limits p r u m g k y here in names_at n s limits p r u m g.comes k ∙ g.comes.abreast.mirrored.named k b.old b.is_open);
  windows = window_kept n s t limits p r u m g;
}

credit_kept : {c : Tally} (n : ℕ → ℕ) (s t : Sending) (limits : List Known) (p : Load) (r u : Receiving) (m : ℕ) → Goes n c s t limits p r u m → u.credit + all_money_left t + c.spare_all < 2 ^ 63
credit_kept {c} n s t limits p r u m g =
    let v = once_fulfilled s p in
    let now = credit_sum n s limits p r u m g.comes in
    let same : all_money_left t ≡ all_money_left v =
    sum_same (λ k. money_left (outgoing_at t k)) (λ k. money_left (outgoing_at v k)) (λ k. same_money (outgoing_at v k) (outgoing_at t k) (alike n v t (reply p r m) g.writes k (outgoing_at v k) refl)) 0 65 in
    let spent = money_after n s limits max_packet p (with_flight s p) g.comes.quiet g.comes.sends in
    let had = g.comes.abreast.credit in
    sums _ _ _ _ _ _ _ now same spent had
  where
    sums : (now had amount left middle before spare : ℕ) → now ≡ had + amount → left ≡ middle → middle + amount ≡ before → had + before + spare < 2 ^ 63 → now + left + spare < 2 ^ 63
    sums now had amount left middle before spare a b d e = omega arith

ahead_kept : {c : Tally} (n : ℕ → ℕ) (s t : Sending) (limits : List Known) (p : Load) (r u : Receiving) (m : ℕ) → Goes n c s t limits p r u m → IsAhead n c t u
ahead_kept n s t limits p r u m g = record {
  mirrored = mirror_kept n s t limits p r u m g;
  modest = g.comes.abreast.modest;
  unclosed = unclosed_at n s limits p r u m g.comes;
  later = λ j l. (let last = next_last n s t limits p r u m g in let next = g.comes.next in later_at n s limits p r u m g.comes j (omega (arith, l, last, next)));
  read = λ k. (let now = read_at n s limits p r u m g.comes k in
      let ends = ends_at n s t limits p r u m g k in
      let was = g.comes.abreast.read k in
      omega (arith, now, ends, was));
  input = input_at n s limits p r u m g.comes;
  level = λ none k. (let now = read_at n s limits p r u m g.comes k in
      let ends = ends_at n s t limits p r u m g k in
      let was = g.comes.abreast.level none k in
      omega (arith, now, ends, was));
  credited = λ k y here. (let b = before_at n s t limits p r u m g k y here in
      let within = slot_within s.streams k b.old b.is_open in
      let slots = g.comes.quiet.slots in
      let now = credit_at n s limits p r u m g.comes k (omega (arith, within, slots)) in
      let was = g.comes.abreast.credited k b.old b.is_open in
      let paid = b.after.fulfilled in
      omega (arith, now, was, paid));
  most = λ k y here. (let b = before_at n s t limits p r u m g k y here in
      let had = g.comes.abreast.most k b.old b.is_open in
      let same = most_at n s limits p r u m g.comes k in
      let offered = b.after.offered in
      omega (arith, had, same, offered));
  within = within_at n s limits p r u m g.comes;
  credit = credit_kept n s t limits p r u m g;
  stops = stops_at n s limits p r u m g.comes;
  emptied = emptied_at n s limits p r u m g.comes;
  going = λ k y here left. (let b = before_at n s t limits p r u m g k y here in
      let end = b.after.acked_end in
      going_at n s limits p r u m g.comes k b.old b.is_open (omega (arith, left, end)));
}

-- what the packet of a `Load` leaves
pub packet_comes : {c : Tally} (n : ℕ → ℕ) (s : Sending) (limits : List Known) (p : Load) (q : Packet) (r u : Receiving) → IsQuiet n s → Sends s limits max_packet p (with_flight s p) → Fills s limits max_packet p → IsAhead n c s r → IsPacketOf p q
    → IsReadOut (effect r q p.amount) u → Comes n c s limits p r u q.sequence
packet_comes {c} n s limits p q r u quiet sends fills abreast is out = record {
  quiet = quiet;
  sends = sends;
  fills = fills;
  abreast = abreast;
  next = is.sequence ∙ ap (λ (z : Load). z.sequence) sends.load;
  out = subst (λ fs. IsReadOut (with_sequence q.sequence (after_all r p.amount fs)) u) is.frames out;
}

pub round_abreast : {c : Tally} (n : ℕ → ℕ) (s t : Sending) (limits : List Known) (p : Load) (q : Packet) (r u : Receiving) → IsQuiet n s → Sends s limits max_packet p (with_flight s p) → Fills s limits max_packet p → IsAhead n c s r → IsPacketOf p q
    → IsReadOut (effect r q p.amount) u → IsWritten n (after_all_told (once_fulfilled s p) (reply_frames (effect r q p.amount) (frames_of q))) t → IsAhead n c t u
round_abreast n s t limits p q r u quiet sends fills abreast is out writes = ahead_kept n s t limits p r u q.sequence (record {
  comes = packet_comes n s limits p q r u quiet sends fills abreast is out;
  writes = subst (λ fs. IsWritten n (after_all_told (once_fulfilled s p) (reply_frames (with_sequence q.sequence (after_all r p.amount fs)) fs)) t) is.frames writes;
})

-- what an outgoing packet leaves of receive maxes and credits
pub effect_max : {c : Tally} (n : ℕ → ℕ) (s : Sending) (limits : List Known) (p : Load) (q : Packet) (r : Receiving) (k : ℕ) → IsQuiet n s → Sends s limits max_packet p (with_flight s p) → Fills s limits max_packet p → IsAhead n c s r → IsPacketOf p q
    → (incoming_at (effect r q p.amount) k).receive_max ≡ (incoming_at r k).receive_max
effect_max n s limits p q r k quiet sends fills abreast is =
    subst (λ fs. (incoming_at (after_all r p.amount fs) k).receive_max ≡ (incoming_at r k).receive_max) (sym is.frames) (effect_told r p.amount p.frames k abreast.mirrored.slots (load_taken n s limits p r quiet sends fills abreast)).receive_max

pub effect_within : {c : Tally} (n : ℕ → ℕ) (s : Sending) (limits : List Known) (p : Load) (q : Packet) (r : Receiving) (k : ℕ) → IsQuiet n s → Sends s limits max_packet p (with_flight s p) → Fills s limits max_packet p → IsAhead n c s r → IsPacketOf p q → k < 65
    → (incoming_at (effect r q p.amount) k).credited ≤ (incoming_at r k).receive_max
effect_within n s limits p q r k quiet sends fills abreast is l =
    subst (λ fs. (incoming_at (after_all r p.amount fs) k).credited ≤ (incoming_at r k).receive_max) (sym is.frames)
    (let now = (effect_told r p.amount p.frames k abreast.mirrored.slots (load_taken n s limits p r quiet sends fills abreast)).credited in
    let paid = credited_after s limits p r k quiet.slots abreast.mirrored.slots sends l in
    let few = part_within n s limits p r k (outgoing_at s k) quiet sends abreast l refl in
    omega (arith, now, paid, few))

-- so that what it holds can be read
pub effect_slots_long : {c : Tally} (n : ℕ → ℕ) (s : Sending) (limits : List Known) (p : Load) (q : Packet) (r : Receiving) → IsQuiet n s → Sends s limits max_packet p (with_flight s p) → IsAhead n c s r → IsPacketOf p q → length (effect r q p.amount).streams ≡ 65
effect_slots_long n s limits p q r quiet sends abreast is =
    subst (λ fs. length (after_all r p.amount fs).streams ≡ 65) (sym is.frames) (effect_slots s limits r p.amount p.frames sends.due ∙ abreast.mirrored.slots)

pub effect_stays_alive : {c : Tally} (n : ℕ → ℕ) (s : Sending) (limits : List Known) (p : Load) (q : Packet) (r : Receiving) (k : ℕ) → IsQuiet n s → Sends s limits max_packet p (with_flight s p) → IsAhead n c s r → IsPacketOf p q
    → (incoming_at (effect r q p.amount) k).held.aborted ≡ None
effect_stays_alive n s limits p q r k quiet sends abreast is =
    subst (λ fs. (incoming_at (after_all r p.amount fs) k).held.aborted ≡ None) (sym is.frames) (effect_alive n s limits r p.amount p.frames k quiet sends.due ∙ abreast.mirrored.alive k)
