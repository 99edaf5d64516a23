-- The limits in a reply.
use Rattle.std.proofs.Common.{◌≡◌, ℕ, zero, suc, ◌+◌, ◌<◌, ◌≤◌, Bool, true, false, ◌&&◌, ◌||◌, cond, List, [], ◌∷◌, length, map, max, get_or, replicate, slice_index, refl, sym, ap, subst, ◌∙◌, arith, None, Some, inl, inr, nat_eq, nat_le}
use Rattle.std.specs.Prelude.{Contains}
use Rattle.std.specs.List.{flat_map, range_with_len, list_any}
use Rattle.std.proofs.lemmas.Bool.{cases_eq, cases_lt}
use Rattle.std.proofs.lemmas.Bool.Decides.{nat_tests}
use Rattle.std.proofs.lemmas.List.{get_or-replicate}
use Rattle.std.proofs.lemmas.List.Concat.{flat_map-cons}
use Rattle.std.proofs.lemmas.List.Elements.{Contains-append_cases, Contains-append_left, Contains-append_right}
use Rattle.st_streams.specs.Slots.{slot}
use Rattle.st_frames.specs.Frames.{LimitFrame, ConnectionMaxData, Known, Packet, StreamData, StreamMaxData, StreamMaxMoney, frames_of, max_packet}
use Rattle.st_frames.specs.Told.{money_in, names, shares}
use Rattle.st_sender.specs.Sending.{Load, Outgoing, Sending, outgoing_at}
use Rattle.st_sender.specs.Flights.{all_ends, end_of, flown, flying_end, highest_end, sent_end}
use Rattle.st_sender.specs.Loads.{Sends, with_flight}
use Rattle.st_sender.specs.Filling.{Fills}
use Rattle.st_receiver.specs.Streams.{Incoming, Receiving, all_read, credited_of, incoming_at, may_name}
use Rattle.st_receiver.specs.Data.{after_frames, frames_fault}
use Rattle.st_receiver.specs.Money.{after_money}
use Rattle.st_receiver.specs.Judged.{after_all, effect, with_sequence}
use Rattle.st_receiver.specs.Limits.{capped, connection_limit, named_limits, reply_frames, told_by}
use Rattle.st_receiver.proofs.Tracking.{get_or-map}
use Rattle.st_receiver.proofs.Splits.{at_most_sum, share_at}
use Rattle.st_receiver.proofs.Crediting.{credited_or, paid_credit, unpaid_credit}
use Rattle.st_receiver.proofs.Leaving.{Leaves, effect_names, effect_told}
use Rattle.st_streams.proofs.SlotLemmas.{slot_within}
use Rattle.st_world_quiet.specs.Quiet.{IsQuiet}
use Rattle.st_world_quiet.specs.Rounds.{PeerTells}
use Rattle.st_world_quiet.specs.Mirrored.{IsAhead, IsPacketOf, Tally}
use Rattle.st_world_quiet.proofs.Sums.{sum_below}
use Rattle.st_world_quiet.proofs.Leaving.{effect_alive, effect_slots}
use Rattle.st_world_quiet.proofs.Credited.{part_is_share, shares_amount}
use Rattle.st_world_quiet.proofs.Taken.{all_read_sum, load_taken, reads_of}

in_flat_map : (f : ℕ → List Known) (k a m : ℕ) (y : Known) → a ≤ k → k < a + m → Contains (f k) y → Contains (flat_map f (range_with_len a m)) y
in_flat_map f k a zero y from till h = absurd (omega arith)
in_flat_map f k a (suc m) y from till h =
    let P : List Known → Type 0 = λ l. Contains l y in
    subst P (sym (flat_map-cons f a (range_with_len (a + 1) m))) (elim (cases_eq k a) [
      | inl same ↦ Contains-append_left (f a) (flat_map f (range_with_len (a + 1) m)) y (subst (λ i. Contains (f i) y) same h)
      | inr apart ↦ Contains-append_right (f a) (flat_map f (range_with_len (a + 1) m)) y (in_flat_map f k (a + 1) m y (omega (arith, apart)) (omega arith) h)
    ])

in_tail : (x y : Known) (xs : List Known) → Contains xs y → Contains (x ∷ xs) y
in_tail x y xs (i, l, e) = (suc i, omega arith, e)

pub connection_in_reply : (r : Receiving) (fs : List Known) → Contains (reply_frames r fs) (LimitFrame (ConnectionMaxData (connection_limit r)))
unfolding reply_frames
connection_in_reply r fs = (zero, omega arith, refl)

pub window_in_reply : (r : Receiving) (fs : List Known) (k : ℕ) → 1 ≤ k → k ≤ 64 → may_name r k ≡ true → list_any (names k) fs ≡ true → Contains (reply_frames r fs) (LimitFrame (StreamMaxData k (capped ((incoming_at r k).held.read + 65536))))
unfolding reply_frames
window_in_reply r fs k low high may named =
    in_tail (LimitFrame (ConnectionMaxData (connection_limit r))) (LimitFrame (StreamMaxData k (capped ((incoming_at r k).held.read + 65536)))) _
    (in_flat_map (named_limits r fs) k 1 64 (LimitFrame (StreamMaxData k (capped ((incoming_at r k).held.read + 65536)))) low (omega (arith, high))
    (let P : List Known → Type 0 = λ l. Contains l (LimitFrame (StreamMaxData k (capped ((incoming_at r k).held.read + 65536)))) in
    let is : named_limits r fs k ≡ told_by k (incoming_at r k) = rw (named, may) refl in
    subst P (sym is) (zero, omega arith, refl)))

-- ---- what a receiver that is abreast, or ahead, advertises once an outgoing packet took effect

ends_read : (s : Sending) (t : Receiving) → length t.streams ≡ 65 → ((k : ℕ) → (incoming_at t k).held.aborted ≡ None) → ((k : ℕ) → sent_end s k (outgoing_at s k) ≤ (incoming_at t k).held.read) → all_ends s [] ≤ all_read t
unfolding all_ends
ends_read s t slots alive reads =
    let below = sum_below (λ k. max (sent_end s k (outgoing_at s k)) (highest_end k [])) (reads_of t) (λ k. let l = reads k in omega (arith, l)) 0 65 in
    let all = all_read_sum t slots alive in
    omega (arith, below, all)

pub from_flat_map : (f : ℕ → List Known) (a m : ℕ) (y : Known) → Contains (flat_map f (range_with_len a m)) y → (k : ℕ) × Contains (f k) y
from_flat_map f a zero y h = absurd (let l = h.1 in omega (arith, l))
from_flat_map f a (suc m) y h =
    let P : List Known → Type 0 = λ l. Contains l y in
    elim (Contains-append_cases (f a) (flat_map f (range_with_len (a + 1) m)) y (subst P (flat_map-cons f a (range_with_len (a + 1) m)) h)) [
      | inl here ↦ (a, here)
      | inr later ↦ from_flat_map f (a + 1) m y later
    ]

advertised_money : (b c : Bool) (j k m t : ℕ) (x : Incoming) → Contains (cond b (cond c (told_by j x) []) []) (LimitFrame (StreamMaxMoney k m t)) → (j ≡ k) × (x.receive_max ≡ m) × (x.credited ≡ t)
advertised_money true true j k m t x (zero, l, e) = absurd (cc)
advertised_money true true j k m t x (suc zero, l, e) = (let a : j ≡ k = cc in a, let b : x.receive_max ≡ m = cc in b, let c : x.credited ≡ t = cc in c)
advertised_money true true j k m t x (suc (suc i), l, e) = absurd (omega (arith, l))
advertised_money true false j k m t x h = absurd (let l = h.1 in omega (arith, l))
advertised_money false c j k m t x h = absurd (let l = h.1 in omega (arith, l))

-- a receive max in a reply is that of its stream
money_in_reply : (r : Receiving) (fs : List Known) (k m t : ℕ) → Contains (reply_frames r fs) (LimitFrame (StreamMaxMoney k m t)) → ((incoming_at r k).receive_max ≡ m) × ((incoming_at r k).credited ≡ t)
unfolding reply_frames
money_in_reply r fs k m t (zero, l, e) = absurd (cc)
money_in_reply r fs k m t (suc i, l, e) =
    let at = from_flat_map (named_limits r fs) 1 64 (LimitFrame (StreamMaxMoney k m t)) (i, omega (arith, l), e) in
    let is = advertised_money (list_any (names at.0) fs) (may_name r at.0) at.0 k m t (incoming_at r at.0) at.1 in
    (subst (λ j. (incoming_at r j).receive_max ≡ m) is.0 is.1, subst (λ j. (incoming_at r j).credited ≡ t) is.0 is.2)

-- a stream is credited its shares
pub credited_after : (s : Sending) (limits : List Known) (p : Load) (r : Receiving) (k : ℕ) → length s.streams ≡ 65 → length r.streams ≡ 65 → Sends s limits max_packet p (with_flight s p) → k < 65
    → (incoming_at (after_money (after_frames r p.frames) p.amount p.frames) k).credited ≡ (incoming_at r k).credited + money_in k p.frames
credited_after s limits p r k slots len sends l =
    let fs = p.frames in
    let is = shares_amount s limits p slots sends in
    elim (cases_lt 0 p.amount) [
      | inl some ↦ (let v = (incoming_at r k).credited + money_in k fs in
          let part = part_is_share p.amount fs k is some l in
          let at : get_or (replicate 65 v) k 0 ≡ v = get_or-replicate 65 k v 0 l in
          let paid = paid_credit r p.amount fs k (replicate 65 v) len some l (at ∙ ap (λ n. (incoming_at r k).credited + n) (sym part)) in
          sym paid ∙ at)
      | inr none ↦ (let z : p.amount ≡ 0 = omega (arith, none) in
          let unpaid = unpaid_credit r p.amount fs k (map credited_of r.streams) z refl in
          let was : get_or (map credited_of r.streams) k 0 ≡ (incoming_at r k).credited = get_or-map credited_of r.streams k refl ∙ credited_or (slice_index r.kept k) (slot r.streams k) in
          let few = at_most_sum (shares fs) k in
          let share = share_at fs k l in
          let nothing : money_in k fs ≡ 0 = omega (arith, few, share, is, z) in
          sym unpaid ∙ was ∙ omega (arith, nothing))
    ]

may_between : (k : ℕ) (b : Bool) → (nat_le 1 k && nat_le k 64 && b) ≡ true → (1 ≤ k) × (k ≤ 64)
may_between k b h = elim (cases_lt k 1) [
  | inl low ↦ absurd (let no : nat_le 1 k ≡ false = grind (arith, nat_tests) in let is : (nat_le 1 k && nat_le k 64 && b) ≡ false = rw no refl in cc)
  | inr some ↦ elim (cases_lt 64 k) [
    | inl high ↦ absurd (let yes : nat_le 1 k ≡ true = grind (arith, nat_tests) in let no : nat_le k 64 ≡ false = grind (arith, nat_tests) in let is : (nat_le 1 k && nat_le k 64 && b) ≡ false = rw (yes, no) refl in cc)
    | inr most ↦ (some, most)
  ]
]

-- data name their stream
named_end : (b : Bool) (n : ℕ) → 0 < cond b n 0 → b ≡ true
named_end true n l = refl
named_end false n l = absurd (omega arith)

data_names : (k : ℕ) (f : Known) → 0 < end_of k (flown f) → names k f ≡ true
data_names k (StreamData j o xs) l = named_end (nat_eq j k) (o + length xs) l
data_names k f l = absurd (omega arith)

all_data_name : (k : ℕ) (fs : List Known) → 0 < highest_end k (map flown fs) → list_any (names k) fs ≡ true
all_data_name k [] l = absurd (omega arith)
all_data_name k (f ∷ fs) l = elim (cases_lt 0 (end_of k (flown f))) [
  | inl here ↦ (let b = data_names k f here in rw b refl)
  | inr none ↦ (let rest = all_data_name k fs (omega (arith, none, l)) in rw rest (or_true (names k f)))
]
  where
    or_true : (b : Bool) → (b || true) ≡ true
    or_true true = refl
    or_true false = refl

pub acked_is_sent : (s : Sending) (k : ℕ) (x : Outgoing) → s.flights ≡ [] → outgoing_at s k ≡ Some x → sent_end s k (outgoing_at s k) ≡ x.acked_end
acked_is_sent s k x none e =
    let is : sent_end s k (outgoing_at s k) ≡ max x.acked_end (flying_end k s.flights) = ap (sent_end s k) e in
    let z : flying_end k s.flights ≡ 0 = ap (flying_end k) none in
    omega (arith, is, z)

tells_by : {c : Tally} (n : ℕ → ℕ) (s : Sending) (limits : List Known) (p : Load) (r t : Receiving) → IsQuiet n s → Sends s limits max_packet p (with_flight s p) → IsAhead n c s r → frames_fault r p.frames ≡ None
    → all_ends s [] ≤ all_read t → ((k : ℕ) → incoming_at t k ≡ incoming_at (after_all r p.amount p.frames) k) → ((k : ℕ) → may_name t k ≡ may_name r k) → PeerTells s p (reply_frames t p.frames)
tells_by n s limits p r t quiet sends abreast fine all at names_are = record {
  connection = (connection_limit t, connection_in_reply t p.frames, wider _ _ 1048576 all);
  windows = λ k x e some. (let may = names_are k ∙ abreast.mirrored.named k x e in
      let between = may_between k _ may in
      let read : (incoming_at t k).held.read ≡ (incoming_at r k).held.read = ap (λ (y : Incoming). y.held.read) (at k) ∙ (leaves k).read in
      let low = abreast.read k in
      let acked = acked_is_sent s k x quiet.alone e in
      (capped ((incoming_at t k).held.read + 65536), window_in_reply t p.frames k between.0 between.1 may (all_data_name k p.frames some), wider _ _ 65536 (omega (arith, read, low, acked))));
  money = λ k m total x e c. (let told = money_in_reply t p.frames k m total c in
      let within = slot_within s.streams k x e in
      let slots = quiet.slots in
      let most : m ≡ (incoming_at r k).receive_max = sym told.0 ∙ ap (λ (y : Incoming). y.receive_max) (at k) ∙ (leaves k).receive_max in
      let credited : total ≡ (incoming_at r k).credited + money_in k p.frames =
      sym told.1 ∙ ap (λ (y : Incoming). y.credited) (at k) ∙ (leaves k).credited ∙ credited_after s limits p r k quiet.slots abreast.mirrored.slots sends (omega (arith, within, slots)) in
      let room = abreast.most k x e in
      let paid = abreast.credited k x e in
      omega (arith, most, room, credited, paid));
}
  where
    leaves : (k : ℕ) → Leaves r p.amount p.frames k
    leaves k = effect_told r p.amount p.frames k abreast.mirrored.slots fine

    wider : (low high window : ℕ) → low ≤ high → capped (low + window) ≤ capped (high + window)
    wider low high window l = omega arith

reply_tells_load : {c : Tally} (n : ℕ → ℕ) (s : Sending) (limits : List Known) (p : Load) (m : ℕ) (r : Receiving) → IsQuiet n s → Sends s limits max_packet p (with_flight s p) → Fills s limits max_packet p → IsAhead n c s r
    → PeerTells s p (reply_frames (with_sequence m (after_all r p.amount p.frames)) p.frames)
reply_tells_load n s limits p m r quiet sends fills abreast =
    let fine = load_taken n s limits p r quiet sends fills abreast in
    let t = after_all r p.amount p.frames in
    let slots = effect_slots s limits r p.amount p.frames sends.due ∙ abreast.mirrored.slots in
    let alive : (k : ℕ) → (incoming_at t k).held.aborted ≡ None = λ k. effect_alive n s limits r p.amount p.frames k quiet sends.due ∙ abreast.mirrored.alive k in
    let reads : (k : ℕ) → sent_end s k (outgoing_at s k) ≤ (incoming_at t k).held.read = λ k. (let same = (effect_told r p.amount p.frames k abreast.mirrored.slots fine).read in let low = abreast.read k in omega (arith, same, low)) in
    tells_by n s limits p r (with_sequence m t) quiet sends abreast fine (ends_read s t slots alive reads) (λ k. refl) (λ k. effect_names r p.amount p.frames k abreast.mirrored.slots fine)

-- a receiver that was abreast advertises all of it in its reply
pub reply_tells : {c : Tally} (n : ℕ → ℕ) (s : Sending) (limits : List Known) (p : Load) (q : Packet) (r : Receiving) → IsQuiet n s → Sends s limits max_packet p (with_flight s p) → Fills s limits max_packet p → IsAhead n c s r → IsPacketOf p q
    → PeerTells s p (reply_frames (effect r q p.amount) (frames_of q))
reply_tells n s limits p q r quiet sends fills abreast is =
    subst (λ fs. PeerTells s p (reply_frames (with_sequence q.sequence (after_all r p.amount fs)) fs)) (sym is.frames) (reply_tells_load n s limits p q.sequence r quiet sends fills abreast)
