-- A round of a lossless run ends in a state of such a run. Each Send lowers what is left, so their number is bounded.
use Rattle.std.proofs.Common.{◌≡◌, ◌≢◌, ℕ, zero, suc, ◌+◌, ◌-◌, ◌/◌, ◌<◌, ◌≤◌, Bool, true, cond, List, [], ◌∷◌, length, max, refl, sym, ap, subst, ◌∙◌, arith, Option, None, Some, ◌⊎◌, inl, inr}
use Rattle.std.specs.Prelude.{Contains}
use Rattle.std.specs.FinMap as fmap
use Rattle.std.specs.Ordering.{nat_cmp}
use Rattle.std.proofs.lemmas.Bool.{cases_eq, cases_lt}
use Rattle.std.proofs.lemmas.Grind.{common_steps}
use Rattle.st_streams.specs.Table.{put_bytes}
use Rattle.st_frames.specs.Frames.{Known, LimitFrame, StreamMaxMoney, max_packet}
use Rattle.st_sender.specs.Sending.{Config, Load, Outgoing, Sending, outgoing_at}
use Rattle.st_sender.specs.Accepting.{after_write}
use Rattle.st_sender.specs.Flights.{all_ends, flight_of, highest_end, sent_end}
use Rattle.st_sender.specs.Loads.{Sends, with_flight}
use Rattle.st_sender.specs.Filling.{Fills}
use Rattle.st_sender.specs.Answering.{after_all_told, after_fulfilled, landed}
use Rattle.st_world_quiet.specs.Quiet.{IsQuiet, IsWaiting}
use Rattle.st_world_quiet.specs.Left.{all_closes_left, all_frames_left, all_money_left, closes_left, frames_left, money_left, work_left}
use Rattle.st_world_quiet.specs.Rounds.{IsRefilled, IsWritten, Refilled, Round, Rounds, TellsEnough}
use Rattle.st_world_quiet.proofs.Sums.{sum_same}
use Rattle.st_world_quiet.proofs.Acknowledging.{all_acked_at, all_kept, all_own_acked, is_same, none_stays}
use Rattle.st_world_quiet.proofs.Lowering.{work_lowers}
use Rattle.st_world_quiet.proofs.Money.{money_after}
use Rattle.st_world_quiet.proofs.Keeping.{IsLeft, left_kept}
use Rattle.st_world_quiet.proofs.Telling.{all_own_told, all_room, all_told_at, all_told_only, connection_advertised, none_stays_told, rest_all_acked, rest_all_told, window_told}

-- ---- bytes put into a map

put_apart : (m : fmap.FinMap nat_cmp ℕ) (k x q : ℕ) → q ≢ k → fmap.get (fmap.insert m k x) q ≡ fmap.get m q
put_apart m k x q n = grind (arith, common_steps, fmap.gets)

put_here : (m : fmap.FinMap nat_cmp ℕ) (k x : ℕ) → fmap.get (fmap.insert m k x) k ≡ Some x
put_here m k x = grind (arith, common_steps, fmap.gets)

put_other : (xs : List ℕ) (m : fmap.FinMap nat_cmp ℕ) (o q : ℕ) → (q < o) ⊎ (o + length xs ≤ q) → fmap.get (put_bytes m o xs) q ≡ fmap.get m q
unfolding put_bytes
put_other [] m o q h = refl
put_other (x ∷ xs) m o q h = put_other xs (fmap.insert m o x) (o + 1) q (further h) ∙ put_apart m o x q (apart h)
  where
    further : (q < o) ⊎ (o + length (x ∷ xs) ≤ q) → (q < o + 1) ⊎ (o + 1 + length xs ≤ q)
    further (inl l) = inl (omega arith)
    further (inr l) = inr (omega arith)

    apart : (q < o) ⊎ (o + length (x ∷ xs) ≤ q) → q ≢ o
    apart h = omega arith

put_has : (xs : List ℕ) (m : fmap.FinMap nat_cmp ℕ) (o q : ℕ) → o ≤ q → q < o + length xs → (b : ℕ) × (fmap.get (put_bytes m o xs) q ≡ Some b)
unfolding put_bytes
put_has [] m o q from till = absurd (omega arith)
put_has (x ∷ xs) m o q from till = elim (cases_eq q o) [
  | inl same ↦ (x, put_other xs (fmap.insert m o x) (o + 1) q (inl (omega (arith, same))) ∙ (rw same (put_here m o x)))
  | inr apart ↦ put_has xs (fmap.insert m o x) (o + 1) q (omega (arith, apart)) (omega arith)
]

-- ---- the input is written on

abbrev filled : List ℕ → Bool → Outgoing → Outgoing
filled more c x = record (after_write more x) { clean = c }

filled_waits : (n : ℕ) (x : Outgoing) (more : List ℕ) (c : Bool) → IsLeft n x → x.acked_end + 16000 ≤ x.told → x.accepted + length more ≤ n
    → (x.accepted + length more ≡ n) ⊎ (x.acked_end + 262144 ≤ x.accepted + length more) → (x.accepted + length more ≡ n → c ≡ true) → IsWaiting n (filled more c x)
filled_waits n x more c left window total full closed =
    let within = left.within in
    record {
      front = λ q l. put_other more x.unacked x.accepted q (inl (omega arith)) ∙ left.front q l;
      row = row;
      past = λ q l. put_other more x.unacked x.accepted q (inr l) ∙ left.past q (omega arith);
      within = omega arith;
      total = total;
      written = elim full [ inl all ↦ inl all | inr most ↦ inr (omega arith) ];
      alive = left.alive;
      window = window;
      closed = closed;
      paid = left.paid;
      may_pay = left.may_pay;
    }
  where
    row : (q : ℕ) → x.acked_end ≤ q → q < x.accepted + length more → (b : ℕ) × (fmap.get (put_bytes x.unacked x.accepted more) q ≡ Some b)
    row q from till = elim (cases_lt q x.accepted) [
      | inl old ↦ (let got = left.row q from old in (got.0, put_other more x.unacked x.accepted q (inl old) ∙ got.1))
      | inr new ↦ put_has more x.unacked x.accepted q new till
    ]

pub refilled_waits : (n : ℕ) (x y : Outgoing) → IsLeft n x → x.acked_end + 16000 ≤ x.told → IsRefilled n x y → IsWaiting n y
refilled_waits n x y left window refilled =
    let accepted : y.accepted ≡ x.accepted + length refilled.more = ap (λ (z : Outgoing). z.accepted) refilled.is in
    let total = refilled.total in
    let P : Outgoing → Type 0 = λ z. IsWaiting n z in
    subst P (sym refilled.is)
    (filled_waits n x refilled.more refilled.clean left window (omega (arith, accepted, total))
    (elim refilled.full [ inl all ↦ inl (omega (arith, accepted, all)) | inr most ↦ inr (omega (arith, accepted, most)) ])
    (λ e. refilled.closed (omega (arith, accepted, e))))

-- ---- a stream after limits were advertised

told_left : (n k : ℕ) (fs : List Known) (x : Outgoing) → IsLeft n x → ((m t : ℕ) → Contains fs (LimitFrame (StreamMaxMoney k m t)) → t + x.offered ≤ m + x.fulfilled) → IsLeft n (all_own_told k fs x)
told_left n k fs x left fits =
    let only = all_told_only k fs x in
    let end = only.acked_end in
    let accepted = only.accepted in
    let gets : (q : ℕ) → fmap.get (all_own_told k fs x).unacked q ≡ fmap.get x.unacked q = (λ q. ap (λ m. fmap.get m q) only.unacked) in
    let room = all_room k x.offered x.fulfilled fs x (λ f c m t e. fits m t (subst (λ (g : Known). Contains fs g) e c)) left.may_pay in
    record {
      front = λ q l. gets q ∙ left.front q (omega (arith, l, end));
      row = λ q from till. (let got = left.row q (omega (arith, from, end)) (omega (arith, till, accepted)) in (got.0, gets q ∙ got.1));
      past = λ q l. gets q ∙ left.past q (omega (arith, l, accepted));
      within = (let w = left.within in omega (arith, w, end, accepted));
      total = (let t = left.total in omega (arith, t, accepted));
      alive = only.abort ∙ left.alive;
      paid = (let p = left.paid in let a = only.offered in let b = only.fulfilled in omega (arith, p, a, b));
      may_pay = λ told is. (let h = room told is in let c = only.offered in let d = only.fulfilled in omega (arith, h, c, d));
    }

-- ---- a round, stream by stream

pub record SameCounts (x y : Outgoing) : Type 0 where
  pub acked_end : y.acked_end ≡ x.acked_end
  pub offered : y.offered ≡ x.offered
  pub fulfilled : y.fulfilled ≡ x.fulfilled
  pub clean_settled : y.clean_settled ≡ x.clean_settled

abbrev pub Alike : Option Outgoing → Option Outgoing → Type 0
Alike None o = o ≡ None
Alike (Some x) o = (y : Outgoing) × (o ≡ Some y) × SameCounts x y

pub alike : (n : ℕ → ℕ) (s t : Sending) (told : List Known) → IsWritten n (after_all_told s told) t → (k : ℕ) (o : Option Outgoing) → outgoing_at s k ≡ o → Alike o (outgoing_at t k)
alike n s t told writes k None e =
    let P : Option Outgoing → Type 0 = λ o. Refilled (n k) o (outgoing_at t k) in
    subst P (none_stays_told s k told e) (writes.streams k)
alike n s t told writes k (Some x) e =
    let P : Option Outgoing → Type 0 = λ o. Refilled (n k) o (outgoing_at t k) in
    let r = subst P (all_told_at s k told x e) (writes.streams k) in
    let only = all_told_only k told x in
    let is = r.2.is in (
      r.0,
      r.1,
      record {
        acked_end = ap (λ (z : Outgoing). z.acked_end) is ∙ only.acked_end;
        offered = ap (λ (z : Outgoing). z.offered) is ∙ only.offered;
        fulfilled = ap (λ (z : Outgoing). z.fulfilled) is ∙ only.fulfilled;
        clean_settled = ap (λ (z : Outgoing). z.clean_settled) is ∙ only.clean_settled;
      },
    )

same_frames : (n : ℕ) (o p : Option Outgoing) → Alike o p → frames_left n p ≡ frames_left n o
same_frames n None p h = ap (frames_left n) h
same_frames n (Some x) p h = let is = ap (frames_left n) h.1 in let e = h.2.acked_end in is ∙ ap (λ a. (n - a + 15999) / 16000) e

pub same_money : (o p : Option Outgoing) → Alike o p → money_left p ≡ money_left o
same_money None p h = ap money_left h
same_money (Some x) p h = let is = ap money_left h.1 in let a = h.2.offered in let b = h.2.fulfilled in omega (arith, is, a, b)

same_closes : (o p : Option Outgoing) → Alike o p → closes_left p ≡ closes_left o
same_closes None p h = ap closes_left h
same_closes (Some x) p h = ap closes_left h.1 ∙ ap {B = ℕ} (λ b. cond b 0 1) h.2.clean_settled

pub work_same : (n : ℕ → ℕ) (s t : Sending) (told : List Known) → IsWritten n (after_all_told s told) t → work_left n t ≡ work_left n s
work_same n s t told writes =
    let frames : all_frames_left n t ≡ all_frames_left n s = sum_same (λ k. frames_left (n k) (outgoing_at t k)) (λ k. frames_left (n k) (outgoing_at s k)) (λ k. same_frames (n k) (outgoing_at s k) (outgoing_at t k) (alike n s t told writes k (outgoing_at s k) refl)) 0 65 in
    let money : all_money_left t ≡ all_money_left s = sum_same (λ k. money_left (outgoing_at t k)) (λ k. money_left (outgoing_at s k)) (λ k. same_money (outgoing_at s k) (outgoing_at t k) (alike n s t told writes k (outgoing_at s k) refl)) 0 65 in
    let closes : all_closes_left t ≡ all_closes_left s = sum_same (λ k. closes_left (outgoing_at t k)) (λ k. closes_left (outgoing_at s k)) (λ k. same_closes (outgoing_at s k) (outgoing_at t k) (alike n s t told writes k (outgoing_at s k) refl)) 0 65 in
    let limit : t.packet_limit ≡ s.packet_limit = ap (λ (z : Sending). z.packet_limit) writes.rest ∙ (rest_all_told s told).packet_limit in
    same _ _ _ _ _ _ _ _ frames money closes limit
  where
    same : (f g m l c d p q : ℕ) → f ≡ g → m ≡ l → c ≡ d → p ≡ q → max f ((m + p - 1) / p) + c ≡ max g ((l + q - 1) / q) + d
    same f g m l c d p q a b e h = rw (a, b, e, h) refl

pub same_ends : (s t : Sending) (k : ℕ) (o p : Option Outgoing) → s.flights ≡ [] → t.flights ≡ [] → Alike o p → sent_end t k p ≡ sent_end s k o
same_ends s t k None p a b h = ap (sent_end t k) h
same_ends s t k (Some x) p a b h = let is = ap (sent_end t k) h.1 in let e = h.2.acked_end in is ∙ (rw (a, b) (ap (λ z. max z 0) e))

ends_same : (n : ℕ → ℕ) (s t : Sending) (told : List Known) → s.flights ≡ [] → t.flights ≡ [] → IsWritten n (after_all_told s told) t → all_ends t [] ≡ all_ends s []
unfolding all_ends
ends_same n s t told a b writes =
    sum_same
    (λ k. max (sent_end t k (outgoing_at t k)) (highest_end k []))
    (λ k. max (sent_end s k (outgoing_at s k)) (highest_end k []))
    (λ k. ap (λ z. max z 0) (same_ends s t k (outgoing_at s k) (outgoing_at t k) a b (alike n s t told writes k (outgoing_at s k) refl)))
    0 65

-- ---- a round leaves a quiet state

pub none_flies : (s : Sending) (p : Load) → s.flights ≡ [] → (landed (with_flight s p) p.sequence).flights ≡ []
none_flies s p e = let b = is_same p.sequence p.sequence refl in rw (e, b) refl

stream_waits : (n : ℕ → ℕ) (s t : Sending) (limits : List Known) (p : Load) (told : List Known) (k : ℕ) (y : Outgoing) → IsQuiet n s → Sends s limits max_packet p (with_flight s p) → Fills s limits max_packet p
    → TellsEnough (after_fulfilled (with_flight s p) (flight_of p)) told → IsWritten n (after_all_told (after_fulfilled (with_flight s p) (flight_of p)) told) t → (o : Option Outgoing) → outgoing_at s k ≡ o → outgoing_at t k ≡ Some y → IsWaiting (n k) y
stream_waits n s t limits p told k y quiet sends fills tells writes None e here =
    let u = landed (with_flight s p) p.sequence in
    let P : Option Outgoing → Type 0 = λ o. Refilled (n k) o (outgoing_at t k) in
    let r = subst P (none_stays_told (after_fulfilled (with_flight s p) (flight_of p)) k told (none_stays u k p.frames e)) (writes.streams k) in
    absurd (let clash : ◌≡◌ {A = Option Outgoing} None (Some y) = sym r ∙ here in cc)
stream_waits n s t limits p told k y quiet sends fills tells writes (Some x) e here =
    let u = landed (with_flight s p) p.sequence in
    let v = after_fulfilled (with_flight s p) (flight_of p) in
    let one = all_own_acked k p.frames x in
    let at_one : outgoing_at v k ≡ Some one = all_acked_at u k p.frames x e in
    let two = all_own_told k told one in
    let P : Option Outgoing → Type 0 = λ o. Refilled (n k) o (outgoing_at t k) in
    let r = subst P (all_told_at v k told one at_one) (writes.streams k) in
    let both : ◌≡◌ {A = Option Outgoing} (Some r.0) (Some y) = sym r.1 ∙ here in
    let is : r.0 ≡ y = cc in
    let left = told_left (n k) k told one (left_kept n s limits p k x quiet sends fills e) (λ m total c. tells.money k m total one at_one c) in
    let only = all_told_only k told one in
    let end = only.acked_end in
    let rises = only.told in
    let window : two.acked_end + 16000 ≤ two.told = elim (tells.windows k one at_one) [
      | inl had ↦ omega (arith, had, end, rises)
      | inr said ↦ (let w = window_told k said.0 told one said.1 in let l = said.2 in omega (arith, w, l, end))
    ] in
    let Q : Outgoing → Type 0 = λ z. IsWaiting (n k) z in
    subst Q is (refilled_waits (n k) two r.0 left window r.2)

pub round_keeps : (n : ℕ → ℕ) (s t : Sending) → IsQuiet n s → Round n s t → IsQuiet n t
round_keeps n s t quiet round =
    let p = round.load in
    let u = landed (with_flight s p) p.sequence in
    let v = after_fulfilled (with_flight s p) (flight_of p) in
    let w = after_all_told v round.told in
    let acked = rest_all_acked n s u round.limits p.frames quiet round.sends.due in
    let heard = rest_all_told v round.told in
    let none : v.flights ≡ [] = acked.flights ∙ none_flies s p quiet.alone in
    let none_after : t.flights ≡ [] = ap (λ (z : Sending). z.flights) round.writes.rest ∙ heard.flights ∙ none in
    let config : t.config ≡ s.config = ap (λ (z : Sending). z.config) round.writes.rest ∙ heard.config ∙ acked.config in
    let last : t.last ≡ s.last + 1 = ap (λ (z : Sending). z.last) round.writes.rest ∙ heard.last ∙ acked.last ∙ ap (λ (z : Load). z.sequence) round.sends.load in
    let limit : t.packet_limit ≡ s.packet_limit = ap (λ (z : Sending). z.packet_limit) round.writes.rest ∙ heard.packet_limit ∙ acked.packet_limit in
    record {
      alone = none_after;
      whole = ap (λ (c : Config). c.least) config ∙ quiet.whole;
      alive = ap (λ (z : Sending). z.failed) round.writes.rest ∙ heard.failed ∙ acked.failed ∙ quiet.alive;
      in_flight = subst (λ (c : Config). 0 < c.in_flight) (sym config) quiet.in_flight;
      packets = (let l = round.left in let same = ap (λ (c : Config). c.packets) config in omega (arith, l, last, same));
      unmarked = ap (λ (z : Sending). z.marks) round.writes.rest ∙ heard.marks ∙ acked.marks ∙ quiet.unmarked;
      pays = (let h = quiet.pays in omega (arith, h, limit));
      slots = round.writes.slots ∙ heard.slots ∙ acked.slots ∙ quiet.slots;
      connection = (let c = round.tells.connection in let a = connection_advertised c.0 round.told v c.1 in let b = c.2 in let ends = ends_same n v t round.told none none_after round.writes in
          let told : t.told ≡ w.told = ap (λ (z : Sending). z.told) round.writes.rest in omega (arith, a, b, ends, told));
      streams = λ k y here. stream_waits n s t round.limits p round.told k y quiet round.sends round.fills round.tells round.writes (outgoing_at s k) refl here;
    }

-- which streams are open, and what was offered on each
abbrev pub offer_of : Option Outgoing → Option ℕ
offer_of None = None
offer_of (Some x) = Some x.offered

same_offer : (n : ℕ → ℕ) (s t : Sending) (p : Load) (told : List Known) (k : ℕ) (o : Option Outgoing) → outgoing_at s k ≡ o → IsWritten n (after_all_told (after_fulfilled (with_flight s p) (flight_of p)) told) t → offer_of (outgoing_at t k) ≡ offer_of o
same_offer n s t p told k None e writes =
    ap offer_of (alike n (after_fulfilled (with_flight s p) (flight_of p)) t told writes k None (none_stays (landed (with_flight s p) p.sequence) k p.frames e))
same_offer n s t p told k (Some x) e writes =
    let r = alike n (after_fulfilled (with_flight s p) (flight_of p)) t told writes k (Some (all_own_acked k p.frames x)) (all_acked_at (landed (with_flight s p) p.sequence) k p.frames x e) in
    ap offer_of r.1 ∙ ap {B = Option ℕ} Some (r.2.offered ∙ (all_kept k p.frames x).offered)

-- a round deducts its money from what was left
pub record Spends (s t : Sending) (p : Load) : Type 0 where
  pub money : all_money_left t + p.amount ≡ all_money_left s
  pub last : t.last ≡ s.last + 1
  pub packet_limit : t.packet_limit ≡ s.packet_limit
  pub config : t.config ≡ s.config
  pub offers : (k : ℕ) → offer_of (outgoing_at t k) ≡ offer_of (outgoing_at s k)

pub round_spends : (n : ℕ → ℕ) (s t : Sending) (limits : List Known) (p : Load) (told : List Known) → IsQuiet n s → Sends s limits max_packet p (with_flight s p) → IsWritten n (after_all_told (after_fulfilled (with_flight s p) (flight_of p)) told) t → Spends s t p
round_spends n s t limits p told quiet sends writes =
    let v = after_fulfilled (with_flight s p) (flight_of p) in
    let acked = rest_all_acked n s (landed (with_flight s p) p.sequence) limits p.frames quiet sends.due in
    let heard = rest_all_told v told in
    let spent = money_after n s limits max_packet p (with_flight s p) quiet sends in
    let same : all_money_left t ≡ all_money_left v = sum_same (λ k. money_left (outgoing_at t k)) (λ k. money_left (outgoing_at v k)) (λ k. same_money (outgoing_at v k) (outgoing_at t k) (alike n v t told writes k (outgoing_at v k) refl)) 0 65 in
    record {
      money = sums _ _ _ _ same spent;
      last = ap (λ (z : Sending). z.last) writes.rest ∙ heard.last ∙ acked.last ∙ ap (λ (z : Load). z.sequence) sends.load;
      packet_limit = ap (λ (z : Sending). z.packet_limit) writes.rest ∙ heard.packet_limit ∙ acked.packet_limit;
      config = ap (λ (z : Sending). z.config) writes.rest ∙ heard.config ∙ acked.config;
      offers = λ k. same_offer n s t p told k (outgoing_at s k) refl writes;
    }
  where
    sums : (left middle amount before : ℕ) → left ≡ middle → middle + amount ≡ before → left + amount ≡ before
    sums left middle amount before a b = omega arith

-- each of m Sends lowers what is left
pub rounds_lower : (n : ℕ → ℕ) (m : ℕ) (s t : Sending) → IsQuiet n s → Rounds n m s t → (m + work_left n t ≤ work_left n s) × IsQuiet n t
rounds_lower n zero s t quiet run = ((let same : work_left n t ≡ work_left n s = ap (work_left n) run in omega (arith, same)), (let P : Sending → Type 0 = λ z. IsQuiet n z in subst P (sym run) quiet))
rounds_lower n (suc m) s t quiet run =
    let mid = run.0 in
    let round = run.1 in
    let rest = rounds_lower n m mid t (round_keeps n s mid quiet round) run.2 in
    let first = work_lowers n s round.limits round.load quiet round.sends round.fills in
    let same = work_same n (after_fulfilled (with_flight s round.load) (flight_of round.load)) mid round.told round.writes in
    (counts _ _ _ _ _ rest.0 first same, rest.1)
  where
    counts : (m last middle after first : ℕ) → m + last ≤ middle → after + 1 ≤ first → middle ≡ after → suc m + last ≤ first
    counts m last middle after first a b e = omega arith
