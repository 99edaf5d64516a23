-- Which streams are open, by number, at both sides of an end, and what leaves them as they are.
use Rattle.std.proofs.Common.{◌≡◌, ℕ, zero, suc, ◌+◌, ◌<◌, ◌≤◌, Bool, true, false, not, ◌&&◌, cond, List, [], ◌∷◌, length, map, set, get_or, refl, sym, ap, subst, ◌∙◌, arith, Option, None, Some, inl, inr, nat_le, nat_lt}
use Rattle.std.specs.Prelude.{is_some}
use Rattle.std.specs.List.{fold, range_with_len}
use Rattle.std.proofs.lemmas.Bool.{false≢true, cases_eq}
use Rattle.std.proofs.lemmas.Bool.Decides.{nat_tests}
use Rattle.std.proofs.lemmas.List.{length-map, length-set}
use Rattle.st_streams.specs.Slots.{Slots, slot, with_slot}
use Rattle.st_streams.proofs.SlotLemmas.{set_here, set_there}
use Rattle.st_frames.specs.Frames.{Known, Packet, frames_of, CloseFrame, ConnectionClose, OtherFrame, LimitFrame, BlockedFrame, StreamClose, StreamMoney, StreamData}
use Rattle.st_frames.specs.Told.{shares}
use Rattle.st_sender.specs.Sending.{Outgoing, Sending, new_outgoing, outgoing_at, with_outgoing, changed_at, changed}
use Rattle.st_receiver.specs.Streams.{Incoming, Receiving, incoming_at, with_incoming, is_open, may_name, with_max, with_kept, with_receive_max}
use Rattle.st_receiver.specs.Data.{with_data, frame_fault, after_frame, frames_fault, after_frames}
use Rattle.st_receiver.specs.Money.{parts, with_credits, after_money}
use Rattle.st_receiver.specs.Closes.{with_close, after_close, after_closes, with_abort, after_connection_close, after_connection_closes}
use Rattle.st_receiver.specs.Judged.{fault_of, effect}
use Rattle.st_receiver.proofs.Tracking.{frames_none, may_of, may_alone}
use Rattle.st_receiver.proofs.Crediting.{lawful_of}
use Rattle.st_end.specs.Receiving.{opened_at, opened_too}

-- of each place, whether its stream is open
abbrev ones : {X : Type 0} → Slots X → List Bool
ones xs = map is_some xs

abbrev pub sends : Sending → List Bool
sends s = ones s.streams

abbrev pub receives : Receiving → List Bool
receives r = ones r.streams

pub ones_at : {X : Type 0} (xs : Slots X) (k : ℕ) → is_some (slot xs k) ≡ get_or (ones xs) k false
ones_at [] k = refl
ones_at (x ∷ xs) zero = refl
ones_at (x ∷ xs) (suc k) = ones_at xs k

pub ones_with : {X : Type 0} (xs : Slots X) (k : ℕ) (x : X) → ones (with_slot xs k x) ≡ set (ones xs) k true
ones_with [] k x = refl
ones_with (y ∷ ys) zero x = refl
ones_with (y ∷ ys) (suc k) x = ap (λ bs. is_some y ∷ bs) (ones_with ys k x)

set_same : (bs : List Bool) (k : ℕ) → get_or bs k false ≡ true → set bs k true ≡ bs
set_same [] k e = refl
set_same (b ∷ bs) zero e = ap (λ c. c ∷ bs) (sym e)
set_same (b ∷ bs) (suc k) e = ap (λ cs. b ∷ cs) (set_same bs k e)

-- an open stream that changes stays open
stays_one : {X : Type 0} (xs : Slots X) (k : ℕ) (x : X) → is_some (slot xs k) ≡ true → ones (with_slot xs k x) ≡ ones xs
stays_one xs k x e = ones_with xs k x ∙ set_same (ones xs) k (sym (ones_at xs k) ∙ e)

same_ones : (bs cs : List Bool) → length bs ≡ length cs → ((k : ℕ) → get_or bs k false ≡ get_or cs k false) → bs ≡ cs
same_ones [] [] l h = refl
same_ones [] (c ∷ cs) l h = absurd (omega (arith, l))
same_ones (b ∷ bs) [] l h = absurd (omega (arith, l))
same_ones (b ∷ bs) (c ∷ cs) l h = ap (λ x. x ∷ bs) (h 0) ∙ ap (λ xs. c ∷ xs) (same_ones bs cs (omega (arith, l)) (λ k. h (suc k)))

-- ---- both sides

-- a stream is open at both sides or at none
pub record AreJoined (s : Sending) (r : Receiving) : Type 0 where
  pub both : (k : ℕ) → is_open r k ≡ is_some (outgoing_at s k)
  pub places : length r.streams ≡ length s.streams

pub joined : (s : Sending) (r : Receiving) → receives r ≡ sends s → AreJoined s r
joined s r e = record {
  both = λ k. ones_at r.streams k ∙ ap (λ bs. get_or bs k false) e ∙ sym (ones_at s.streams k);
  places = sym (length-map r.streams is_some) ∙ ap length e ∙ length-map s.streams is_some;
}

pub alike : (s : Sending) (r : Receiving) → length r.streams ≡ length s.streams → ((k : ℕ) → is_open r k ≡ is_some (outgoing_at s k)) → receives r ≡ sends s
alike s r l h = same_ones (receives r) (sends s) (length-map r.streams is_some ∙ l ∙ sym (length-map s.streams is_some)) (λ k. sym (ones_at r.streams k) ∙ h k ∙ ones_at s.streams k)

-- ---- the sending side

changed_if : (s : Sending) (k : ℕ) (f : Outgoing → Outgoing) (o : Option Outgoing) → outgoing_at s k ≡ o → sends (changed_at s k f o) ≡ sends s
changed_if s k f None e = refl
changed_if s k f (Some x) e = stays_one s.streams k (f x) (ap is_some e)

pub sends_stay : (s : Sending) (k : ℕ) (f : Outgoing → Outgoing) → sends (changed s k f) ≡ sends s
sends_stay s k f = changed_if s k f (outgoing_at s k) refl

-- ---- the receiving side

pub open_receives : (r : Receiving) (k : ℕ) (x : Incoming) → is_open r k ≡ true → receives (with_incoming r k x) ≡ receives r
open_receives r k x e = stays_one r.streams k x e

max_if : (b : Bool) (r : Receiving) (k amount : ℕ) → is_open r k ≡ b → receives (cond b (with_incoming r k (with_max amount (incoming_at r k))) (with_kept r k amount)) ≡ receives r
max_if true r k amount e = open_receives r k (with_max amount (incoming_at r k)) e
max_if false r k amount e = refl

pub max_receives : (r : Receiving) (k amount : ℕ) → receives (with_receive_max r k amount) ≡ receives r
max_receives r k amount = max_if (is_open r k) r k amount refl

-- ---- a packet that takes effect

abbrev pub within : ℕ → Bool
within k = nat_le 1 k && nat_le k 64

-- more streams of the numbers from 1 to 64 are open
pub record Widens (bs cs : List Bool) : Type 0 where
  pub places : length cs ≡ length bs
  pub kept : (k : ℕ) → get_or bs k false ≡ true → get_or cs k false ≡ true
  pub outside : (k : ℕ) → within k ≡ false → get_or cs k false ≡ get_or bs k false

widens_same : (bs cs : List Bool) → cs ≡ bs → Widens bs cs
widens_same bs cs e = record { places = ap length e; kept = λ k h. ap (λ ds. get_or ds k false) e ∙ h; outside = λ k o. ap (λ ds. get_or ds k false) e }

widens_then : (bs cs ds : List Bool) → Widens bs cs → Widens cs ds → Widens bs ds
widens_then bs cs ds a b = record { places = b.places ∙ a.places; kept = λ k h. b.kept k (a.kept k h); outside = λ k o. b.outside k o ∙ a.outside k o }

kept_set : (bs : List Bool) (k j : ℕ) → get_or bs j false ≡ true → get_or (set bs k true) j false ≡ true
kept_set [] k j e = e
kept_set (b ∷ bs) zero zero e = refl
kept_set (b ∷ bs) zero (suc j) e = e
kept_set (b ∷ bs) (suc k) zero e = e
kept_set (b ∷ bs) (suc k) (suc j) e = kept_set bs k j e

clash : {A : Type 0} (b : Bool) → b ≡ true → b ≡ false → A
clash b t f = absurd (false≢true (sym f ∙ t))

widens_set : (bs : List Bool) (k : ℕ) → within k ≡ true → Widens bs (set bs k true)
widens_set bs k w = record {
  places = length-set bs k true;
  kept = kept_set bs k;
  outside = λ j o. set_there bs k true false j (λ same. clash (within k) w (sym (ap within same) ∙ o));
}

widens_with : (r : Receiving) (k : ℕ) (x : Incoming) → within k ≡ true → Widens (receives r) (receives (with_incoming r k x))
widens_with r k x w = subst (Widens (receives r)) (sym (ones_with r.streams k x)) (widens_set (receives r) k w)

first_true : (a b : Bool) → (a && b) ≡ true → a ≡ true
first_true true b e = refl
first_true false b e = e

named_within : (r : Receiving) (k : ℕ) → may_name r k ≡ true → within k ≡ true
named_within r k e = first_true (within k) _ e

-- the streams that closes name
abbrev ClosesOne : Known → Type 0
ClosesOne (CloseFrame (StreamClose k code message)) = within k ≡ true
ClosesOne f = Unit {0}

abbrev ClosesAll : List Known → Type 0
ClosesAll [] = Unit {0}
ClosesAll (f ∷ fs) = ClosesOne f × ClosesAll fs

-- a frame that breaks no rule
abbrev Opens : Receiving → Known → Type 0
Opens r f = ClosesOne f × Widens (receives r) (receives (after_frame r f))

itself : (r : Receiving) → Widens (receives r) (receives r)
itself r = widens_same (receives r) (receives r) refl

frame_opens : (r : Receiving) (f : Known) → frame_fault r f ≡ None → Opens r f
frame_opens r (StreamData k o xs) e = (tt, widens_with r k (with_data o xs (incoming_at r k)) (named_within r k (may_of (may_name r k) _ e)))
frame_opens r (StreamMoney k n) e = (tt, widens_with r k (incoming_at r k) (named_within r k (may_alone (may_name r k) e)))
frame_opens r (CloseFrame (StreamClose k code message)) e = let w = named_within r k (may_alone (may_name r k) e) in (w, widens_with r k (incoming_at r k) w)
frame_opens r (CloseFrame (ConnectionClose code message)) e = (tt, itself r)
frame_opens r (OtherFrame o) e = (tt, itself r)
frame_opens r (LimitFrame l) e = (tt, itself r)
frame_opens r (BlockedFrame b) e = (tt, itself r)

frames_open : (fs : List Known) (r : Receiving) → frames_fault r fs ≡ None → ClosesAll fs × Widens (receives r) (receives (after_frames r fs))
unfolding after_frames
frames_open [] r e = (tt, itself r)
frames_open (f ∷ fs) r e =
    let n = frames_none r f fs e in
    let x = frame_opens r f n.0 in
    let y = frames_open fs (after_frame r f) n.1 in
    ((x.0, y.0), widens_then (receives r) (receives (after_frame r f)) (receives (after_frames (after_frame r f) fs)) x.1 y.1)

close_opens : (r : Receiving) (f : Known) → ClosesOne f → Widens (receives r) (receives (after_close r f))
close_opens r (CloseFrame (StreamClose k code message)) w = widens_with r k (with_close code (incoming_at r k)) w
close_opens r (StreamData k o xs) w = itself r
close_opens r (StreamMoney k n) w = itself r
close_opens r (CloseFrame (ConnectionClose code message)) w = itself r
close_opens r (OtherFrame o) w = itself r
close_opens r (LimitFrame l) w = itself r
close_opens r (BlockedFrame b) w = itself r

closes_open : (fs : List Known) (r : Receiving) → ClosesAll fs → Widens (receives r) (receives (after_closes r fs))
unfolding after_closes
closes_open [] r w = itself r
closes_open (f ∷ fs) r w =
    widens_then (receives r) (receives (after_close r f)) (receives (after_closes (after_close r f) fs)) (close_opens r f w.0) (closes_open fs (after_close r f) w.1)

aborted_ones : (code : ℕ) (xs : Slots Incoming) → ones (map (with_abort code) xs) ≡ ones xs
aborted_ones code [] = refl
aborted_ones code (None ∷ xs) = ap (λ bs. false ∷ bs) (aborted_ones code xs)
aborted_ones code (Some x ∷ xs) = ap (λ bs. true ∷ bs) (aborted_ones code xs)

connection_receives : (r : Receiving) (f : Known) → receives (after_connection_close r f) ≡ receives r
connection_receives r (CloseFrame (ConnectionClose code message)) = aborted_ones code r.streams
connection_receives r (CloseFrame (StreamClose k code message)) = refl
connection_receives r (StreamData k o xs) = refl
connection_receives r (StreamMoney k n) = refl
connection_receives r (OtherFrame o) = refl
connection_receives r (LimitFrame l) = refl
connection_receives r (BlockedFrame b) = refl

connections_receive : (fs : List Known) (r : Receiving) → receives (after_connection_closes r fs) ≡ receives r
unfolding after_connection_closes
connections_receive [] r = refl
connections_receive (f ∷ fs) r = connections_receive fs (after_connection_close r f) ∙ connection_receives r f

credited_ones : (xs : Slots Incoming) (ps : List ℕ) → ones (with_credits xs ps) ≡ ones xs
credited_ones [] ps = refl
credited_ones (x ∷ xs) [] = refl
credited_ones (None ∷ xs) (p ∷ ps) = ap (λ bs. false ∷ bs) (credited_ones xs ps)
credited_ones (Some x ∷ xs) (p ∷ ps) = ap (λ bs. true ∷ bs) (credited_ones xs ps)

paid_ones : (b : Bool) (xs : Slots Incoming) (ps : List ℕ) → ones (cond b (with_credits xs ps) xs) ≡ ones xs
paid_ones true xs ps = credited_ones xs ps
paid_ones false xs ps = refl

pub effect_opens : (r : Receiving) (p : Packet) (amount : ℕ) → fault_of r p amount ≡ None → Widens (receives r) (receives (effect r p amount))
effect_opens r p amount none =
    let fs = frames_of p in
    let s = after_frames r fs in
    let t = after_money s amount fs in
    let c = after_closes t fs in
    let x = frames_open fs r (lawful_of r p amount none).0 in
    let paid = widens_same (receives s) (receives t) (paid_ones (nat_lt 0 amount) s.streams (parts amount (shares fs))) in
    let closed = closes_open fs t x.0 in
    let last = widens_same (receives c) (receives (after_connection_closes c fs)) (connections_receive fs c) in
    widens_then (receives r) (receives s) (receives (after_connection_closes c fs)) x.1
    (widens_then (receives s) (receives t) (receives (after_connection_closes c fs)) paid
    (widens_then (receives t) (receives c) (receives (after_connection_closes c fs)) closed last))

-- ---- streams that open for sending, too

opened_if : (b c : Bool) (s : Sending) (k : ℕ) → is_some (outgoing_at s k) ≡ c → sends (cond (b && not c) (with_outgoing s k new_outgoing) s) ≡ cond b (set (sends s) k true) (sends s)
opened_if false c s k e = refl
opened_if true false s k e = ones_with s.streams k new_outgoing
opened_if true true s k e = sym (set_same (sends s) k (sym (ones_at s.streams k) ∙ e))

opens_one : (r : Receiving) (s : Sending) (k : ℕ) → sends (opened_at r s k) ≡ cond (get_or (receives r) k false) (set (sends s) k true) (sends s)
opens_one r s k = opened_if (is_open r k) (is_some (outgoing_at s k)) s k refl ∙ ap (λ b. cond b (set (sends s) k true) (sends s)) (ones_at r.streams k)

-- no more are open than these, and the same but for n places from one on
record Nears (bs cs : List Bool) (a n : ℕ) : Type 0 where
  places : length cs ≡ length bs
  fewer : (k : ℕ) → get_or cs k false ≡ true → get_or bs k false ≡ true
  beside : (k : ℕ) → (a ≤ k → k < a + n → ⊥) → get_or cs k false ≡ get_or bs k false

inside : (bs : List Bool) (k : ℕ) → get_or bs k false ≡ true → k < length bs
inside [] k e = absurd (false≢true e)
inside (b ∷ bs) zero e = omega arith
inside (b ∷ bs) (suc k) e = let l = inside bs k e in omega (arith, l)

none_more : (b c : Bool) → b ≡ false → (c ≡ true → b ≡ true) → c ≡ b
none_more b true e h = sym (h refl)
none_more b false e h = sym e

next_near : (bs cs : List Bool) (a n : ℕ) (b : Bool) → get_or bs a false ≡ b → Nears bs cs a (suc n) → Nears bs (cond b (set cs a true) cs) (a + 1) n
next_near bs cs a n true e h = record {
  places = length-set cs a true ∙ h.places;
  fewer = λ k on. elim (cases_eq k a) [
    | inl same ↦ subst (λ i. get_or bs i false ≡ true) (sym same) e
    | inr apart ↦ h.fewer k (sym (set_there cs a true false k apart) ∙ on)
  ];
  beside = λ k off. elim (cases_eq k a) [
    | inl same ↦ subst (λ i. get_or (set cs a true) i false ≡ get_or bs i false) (sym same) (set_here cs a true false (subst (λ m. a < m) (sym h.places) (inside bs a e)) ∙ sym e)
    | inr apart ↦ set_there cs a true false k apart ∙ h.beside k (λ l m. off (omega (arith, l, apart)) (omega (arith, m)))
  ];
}
next_near bs cs a n false e h = record {
  places = h.places;
  fewer = h.fewer;
  beside = λ k off. elim (cases_eq k a) [
    | inl same ↦ subst (λ i. get_or cs i false ≡ get_or bs i false) (sym same) (none_more (get_or bs a false) (get_or cs a false) e (h.fewer a))
    | inr apart ↦ h.beside k (λ l m. off (omega (arith, l, apart)) (omega (arith, m)))
  ];
}

opens_each : (r : Receiving) (n a : ℕ) (s : Sending) → Nears (receives r) (sends s) a n → sends (fold (opened_at r) s (range_with_len a n)) ≡ receives r
opens_each r zero a s h = same_ones (sends s) (receives r) h.places (λ k. h.beside k (λ l m. absurd (omega (arith, l, m))))
opens_each r (suc n) a s h =
    opens_each r n (a + 1) (opened_at r s a)
    (subst (λ cs. Nears (receives r) cs (a + 1) n) (sym (opens_one r s a)) (next_near (receives r) (sends s) a n (get_or (receives r) a false) refl h))

not_within : (k : ℕ) → (1 ≤ k → k < 1 + 64 → ⊥) → within k ≡ false
not_within k h = by (within k) refl
  where
    low : within k ≡ true → 1 ≤ k
    low e = grind (arith, nat_tests)

    high : within k ≡ true → k < 1 + 64
    high e = grind (arith, nat_tests)

    by : (b : Bool) → within k ≡ b → within k ≡ false
    by true e = absurd (h (low e) (high e))
    by false e = e

widened_near : (bs cs : List Bool) → Widens bs cs → Nears cs bs 1 64
widened_near bs cs w = record { places = sym w.places; fewer = w.kept; beside = λ k off. sym (w.outside k (not_within k off)) }

-- after a packet that takes effect the same streams are open at both sides
pub taken_joined : (r : Receiving) (s : Sending) (p : Packet) (amount : ℕ) → fault_of r p amount ≡ None → receives r ≡ sends s → sends (opened_too (effect r p amount) s) ≡ receives (effect r p amount)
unfolding opened_too
taken_joined r s p amount none e =
    let u = effect r p amount in
    opens_each u 64 1 s (subst (λ bs. Nears (receives u) bs 1 64) e (widened_near (receives r) (receives u) (effect_opens r p amount none)))
