-- How a packet takes effect, stream by stream and frame by frame.
use Rattle.std.proofs.Common.{◌≡◌, ◌≢◌, ℕ, zero, suc, ◌%◌, ◌<◌, Bool, true, false, not, nat_eq, nat_le, ◌&&◌, ◌||◌, List, [], ◌∷◌, length, map, set, Option, Some, None, refl, sym, ap, ◌∙◌, subst, arith, ◌⊎◌, inl, inr}
use Rattle.std.specs.Prelude.{is_some, slice_index}
use Rattle.std.specs.List.{list_any}
use Rattle.std.specs.Ordering.{nat_cmp}
use Rattle.std.specs.FinSet.{FinSet}
use Rattle.std.proofs.lemmas.List.{length-set, get_or-set_same, get_or-set_other}
use Rattle.std.proofs.lemmas.Bool.{cases_eq}
use Rattle.st_streams.specs.Slots.{Slots, slot}
use Rattle.st_streams.proofs.SlotLemmas.{slot_within}
use Rattle.std.proofs.lemmas.Bool.Decides.{nat_tests}
use Rattle.st_frames.specs.Frames.{Known, frame_of, CloseFrame, ConnectionClose, OtherFrame, LimitFrame, BlockedFrame, StreamClose, StreamMoney, StreamData}
use Rattle.st_reassembly.specs.Held.{Held}
use Rattle.st_receiver.specs.Streams.{Incoming, Receiving, fresh_incoming, incoming_or, incoming_at, with_incoming, is_open, may_name}
use Rattle.st_receiver.specs.Data.{data_fault, frame_fault, after_frame, frames_fault, after_frames}
use Rattle.st_receiver.specs.Closes.{after_close, after_closes, after_connection_close, after_connection_closes}
use Rattle.st_receiver.specs.Standing.{Standing, is_ready, opens, AllReady, StaysReady, Keeps}
use Rattle.st_receiver.proofs.Tracking.{frames_none, may_of, may_alone}

set-twice : (ps : Slots Incoming) (k : ℕ) (a b : Option Incoming) → set (set ps k a) k b ≡ set ps k b
set-twice [] k a b = refl
set-twice (p ∷ ps) zero a b = refl
set-twice (p ∷ ps) (suc k) a b = ap (λ r. p ∷ r) (set-twice ps k a b)

-- a place is emptied, and the others stay
pub drawn_length : {X : Type 0} (ss left : Slots X) (k : ℕ) → left ≡ set ss k None → length ss ≡ 65 → length left ≡ 65
drawn_length ss left k drawn whole = ap length drawn ∙ length-set ss k None ∙ whole

-- what the code keeps, as it is seen
abbrev pub shown : (parity : ℕ) → Slots Incoming → List ℕ → FinSet nat_cmp → ℕ → Bool → Receiving
shown parity ss kept fulfilled credit closed = record { parity = parity; streams = ss; kept = kept; fulfilled = fulfilled; credit = credit; closed = closed }

abbrev pub standing : Receiving → ℕ → Slots Held → Standing
standing r room windows = record { state = r; room = room; windows = windows }

-- the stream that was drawn is the current one, or the one that opens
pub drawn_is : (s : Standing) (parity : ℕ) (ss : Slots Incoming) (kept : List ℕ) (fulfilled : FinSet nat_cmp) (credit : ℕ) (closed : Bool) (room : ℕ) (windows : Slots Held) (k : ℕ) (x : Incoming)
    → standing (shown parity ss kept fulfilled credit closed) room windows ≡ s → x ≡ incoming_or (fresh_incoming (slice_index kept k)) (slot ss k) → x ≡ incoming_at s.state k
drawn_is s parity ss kept fulfilled credit closed room windows k x e is = is ∙ ap (λ (t : Standing). incoming_at t.state k) e

-- one stream is changed
pub changed : (s : Standing) (parity : ℕ) (ss left : Slots Incoming) (kept : List ℕ) (fulfilled : FinSet nat_cmp) (credit : ℕ) (closed : Bool) (room : ℕ) (windows : Slots Held) (k : ℕ) (f : Incoming → Incoming) (x y : Incoming)
    → standing (shown parity ss kept fulfilled credit closed) room windows ≡ s → left ≡ set ss k None → x ≡ incoming_or (fresh_incoming (slice_index kept k)) (slot ss k) → y ≡ f x
    → shown parity (set left k (Some y)) kept fulfilled credit closed ≡ with_incoming s.state k (f (incoming_at s.state k))
changed s parity ss left kept fulfilled credit closed room windows k f x y e out is to =
    ap (λ qs. shown parity qs kept fulfilled credit closed) (ap (λ ps. set ps k (Some y)) out ∙ set-twice ss k None (Some y) ∙ ap (λ z. set ss k (Some z)) (to ∙ ap f is))
    ∙ ap (λ (t : Standing). with_incoming t.state k (f (incoming_at t.state k))) e

or_true : (b : Bool) → (b || true) ≡ true
or_true true = refl
or_true false = refl

-- and nothing that another stream may need is used up
pub changed_keeps : (s : Standing) (parity : ℕ) (ss left : Slots Incoming) (kept : List ℕ) (fulfilled : FinSet nat_cmp) (credit : ℕ) (closed : Bool) (room : ℕ) (windows after : Slots Held) (k : ℕ) (y : Incoming)
    → standing (shown parity ss kept fulfilled credit closed) room windows ≡ s → left ≡ set ss k None → k < length ss → ((j : ℕ) → j ≢ k → slot after j ≡ slot windows j)
    → Keeps s (standing (shown parity (set left k (Some y)) kept fulfilled credit closed) room after)
changed_keeps s parity ss left kept fulfilled credit closed room windows after k y e out l others = record {
  room = ap (λ (t : Standing). t.room) e;
  ready = λ j h. elim (cases_eq j k) [
    | inl same ↦ subst (λ i. (is_some (slot (set left k (Some y)) i) || is_some (slot after i)) ≡ true) (sym same)
        (ap (λ o. is_some o || is_some (slot after k)) (ap (λ ps. slot (set ps k (Some y)) k) out ∙ ap (λ ps. slot ps k) (set-twice ss k None (Some y)) ∙ get_or-set_same ss k (Some y) None l))
    | inr n ↦
        let there : slot (set left k (Some y)) j ≡ slot ss j = ap (λ ps. slot (set ps k (Some y)) j) out ∙ ap (λ ps. slot ps j) (set-twice ss k None (Some y)) ∙ get_or-set_other ss k j (Some y) None n in
        (λ i. is_some (there i) || is_some (others j n i)) ∙ ap (λ (t : Standing). is_ready t j) e ∙ h
  ];
}

some_within : {X : Type 0} (xs : Slots X) (k : ℕ) (o : Option X) → slot xs k ≡ o → is_some o ≡ true → k < length xs
some_within xs k (Some x) e is = slot_within xs k x e
some_within xs k None e is = absurd cc

pub either : (a b : Bool) → (a || b) ≡ true → (a ≡ true) ⊎ (b ≡ true)
either true b e = inl refl
either false b e = inr e

-- a number that is ready is one of the table's
pub open_within : (ss : Slots Incoming) (k : ℕ) → length ss ≡ 65 → is_some (slot ss k) ≡ true → k < 65
open_within ss k whole some = subst (λ n. k < n) whole (some_within ss k (slot ss k) refl some)

pub ready_within : (ss : Slots Incoming) (ws : Slots Held) (k : ℕ) → length ss ≡ 65 → length ws ≡ 65 → (is_some (slot ss k) || is_some (slot ws k)) ≡ true → k < 65
ready_within ss ws k a b e = elim (either (is_some (slot ss k)) (is_some (slot ws k)) e) [
  | inl h ↦ subst (λ n. k < n) a (some_within ss k (slot ss k) refl h)
  | inr h ↦ subst (λ n. k < n) b (some_within ws k (slot ws k) refl h)
]

-- ---- step by step

pub keeps_itself : (s : Standing) → Keeps s s
keeps_itself s = record { room = refl; ready = λ k h. h }

pub keeps_join : (s t u : Standing) → Keeps s t → Keeps t u → Keeps s u
keeps_join s t u a b = record { room = b.room ∙ a.room; ready = λ k h. b.ready k (a.ready k h) }

pub first_ready : (s : Standing) (fs rest : List (ℕ × Known)) (x : ℕ × Known) → fs ≡ x ∷ rest → AllReady s (map frame_of fs) → (k : ℕ) → opens k x.1 ≡ true → is_ready s k ≡ true
first_ready s fs rest x e ready k h = ready k (ap (λ zs. list_any (opens k) (map frame_of zs)) e ∙ ap (λ b. b || list_any (opens k) (map frame_of rest)) h)

pub rest_ready : (s t : Standing) (fs rest : List (ℕ × Known)) (x : ℕ × Known) → fs ≡ x ∷ rest → StaysReady s t → AllReady s (map frame_of fs) → AllReady t (map frame_of rest)
rest_ready s t fs rest x e stays ready k h = stays k (ready k (ap (λ zs. list_any (opens k) (map frame_of zs)) e ∙ ap (λ b. opens k x.1 || b) h ∙ or_true (opens k x.1)))

pub first_lawful : (r : Receiving) (fs rest : List (ℕ × Known)) (x : ℕ × Known) → fs ≡ x ∷ rest → frames_fault r (map frame_of fs) ≡ None → frame_fault r x.1 ≡ None
first_lawful r fs rest x e h = (frames_none r x.1 (map frame_of rest) (sym (ap (λ zs. frames_fault r (map frame_of zs)) e) ∙ h)).0

pub rest_lawful : (r t : Receiving) (fs rest : List (ℕ × Known)) (x : ℕ × Known) → fs ≡ x ∷ rest → t ≡ after_frame r x.1 → frames_fault r (map frame_of fs) ≡ None → frames_fault t (map frame_of rest) ≡ None
rest_lawful r t fs rest x e to h = ap (λ q. frames_fault q (map frame_of rest)) to ∙ (frames_none r x.1 (map frame_of rest) (sym (ap (λ zs. frames_fault r (map frame_of zs)) e) ∙ h)).1

pub rest_after : (r t : Receiving) (fs rest : List (ℕ × Known)) (x : ℕ × Known) → fs ≡ x ∷ rest → t ≡ after_frame r x.1 → after_frames t (map frame_of rest) ≡ after_frames r (map frame_of fs)
unfolding after_frames
rest_after r t fs rest x e to = ap (λ q. after_frames q (map frame_of rest)) to ∙ sym (ap (λ zs. after_frames r (map frame_of zs)) e)

pub none_after : (r : Receiving) (fs : List (ℕ × Known)) → fs ≡ [] → after_frames r (map frame_of fs) ≡ r
unfolding after_frames
none_after r fs e = ap (λ zs. after_frames r (map frame_of zs)) e

pub rest_closes : (r t : Receiving) (fs rest : List (ℕ × Known)) (x : ℕ × Known) → fs ≡ x ∷ rest → t ≡ after_close r x.1 → after_closes t (map frame_of rest) ≡ after_closes r (map frame_of fs)
unfolding after_closes
rest_closes r t fs rest x e to = ap (λ q. after_closes q (map frame_of rest)) to ∙ sym (ap (λ zs. after_closes r (map frame_of zs)) e)

pub none_closes : (r : Receiving) (fs : List (ℕ × Known)) → fs ≡ [] → after_closes r (map frame_of fs) ≡ r
unfolding after_closes
none_closes r fs e = ap (λ zs. after_closes r (map frame_of zs)) e

pub rest_connection : (r t : Receiving) (fs rest : List (ℕ × Known)) (x : ℕ × Known) → fs ≡ x ∷ rest → t ≡ after_connection_close r x.1 → after_connection_closes t (map frame_of rest) ≡ after_connection_closes r (map frame_of fs)
unfolding after_connection_closes
rest_connection r t fs rest x e to = ap (λ q. after_connection_closes q (map frame_of rest)) to ∙ sym (ap (λ zs. after_connection_closes r (map frame_of zs)) e)

pub none_connection : (r : Receiving) (fs : List (ℕ × Known)) → fs ≡ [] → after_connection_closes r (map frame_of fs) ≡ r
unfolding after_connection_closes
none_connection r fs e = ap (λ zs. after_connection_closes r (map frame_of zs)) e

-- ---- windows that wait

pub window_made : (parity : ℕ) (ss : Slots Incoming) (kept : List ℕ) (fulfilled : FinSet nat_cmp) (credit : ℕ) (closed : Bool) (room : ℕ) (windows : Slots Held) (k : ℕ) (w : Held)
    → k < length windows → is_ready (standing (shown parity ss kept fulfilled credit closed) room (set windows k (Some w))) k ≡ true
window_made parity ss kept fulfilled credit closed room windows k w l = ap (λ o. is_some (slot ss k) || is_some o) (get_or-set_same windows k (Some w) None l) ∙ or_true (is_some (slot ss k))

pub window_stays : (s : Standing) (parity : ℕ) (ss : Slots Incoming) (kept : List ℕ) (fulfilled : FinSet nat_cmp) (credit : ℕ) (closed : Bool) (room : ℕ) (windows : Slots Held) (k : ℕ) (w : Held)
    → standing (shown parity ss kept fulfilled credit closed) room windows ≡ s → k < length windows → StaysReady s (standing (shown parity ss kept fulfilled credit closed) room (set windows k (Some w)))
window_stays s parity ss kept fulfilled credit closed room windows k w e l j h = elim (cases_eq j k) [
  | inl same ↦ subst (λ i. (is_some (slot ss i) || is_some (slot (set windows k (Some w)) i)) ≡ true) (sym same) (window_made parity ss kept fulfilled credit closed room windows k w l)
  | inr n ↦ ap (λ o. is_some (slot ss j) || is_some o) (get_or-set_other windows k j (Some w) None n) ∙ ap (λ (t : Standing). is_ready t j) e ∙ h
]

step_by : (a b c d : Bool) → (a ≡ true → d ≡ true) → (b ≡ true → d ≡ true) → (a || (b || c)) ≡ true → (d || c) ≡ true
step_by true b c d f g e = ap (λ x. x || c) (f refl)
step_by false true c d f g e = ap (λ x. x || c) (g refl)
step_by false false c d f g e = ap (λ x. d || x) e ∙ or_true d

-- one frame more has its window
pub ready_step : (s t : Standing) (fs rest : List (ℕ × Known)) (x : ℕ × Known) (k : ℕ) → fs ≡ x ∷ rest → StaysReady s t → (opens k x.1 ≡ true → is_ready t k ≡ true)
    → (is_ready s k || list_any (opens k) (map frame_of fs)) ≡ true → (is_ready t k || list_any (opens k) (map frame_of rest)) ≡ true
ready_step s t fs rest x k e stays made h =
    step_by (is_ready s k) (opens k x.1) (list_any (opens k) (map frame_of rest)) (is_ready t k) (stays k) made (sym (ap (λ zs. is_ready s k || list_any (opens k) (map frame_of zs)) e) ∙ h)

pub opens_first : (fs rest : List (ℕ × Known)) (x : ℕ × Known) (k : ℕ) → fs ≡ x ∷ rest → opens k x.1 ≡ true → list_any (opens k) (map frame_of fs) ≡ true
opens_first fs rest x k e h = ap (λ zs. list_any (opens k) (map frame_of zs)) e ∙ ap (λ b. b || list_any (opens k) (map frame_of rest)) h

pub opens_rest : (fs rest : List (ℕ × Known)) (x : ℕ × Known) (k : ℕ) → fs ≡ x ∷ rest → list_any (opens k) (map frame_of rest) ≡ true → list_any (opens k) (map frame_of fs) ≡ true
opens_rest fs rest x k e h = ap (λ zs. list_any (opens k) (map frame_of zs)) e ∙ ap (λ b. opens k x.1 || b) h ∙ or_true (opens k x.1)

-- a frame that breaks no rule opens a stream of the table
same_number : (stream k : ℕ) (b : Bool) → nat_eq stream k ≡ true → (nat_le 1 stream && nat_le stream 64 && b) ≡ true → k < 65
same_number stream k true e h = grind (arith, nat_tests)
same_number stream k false e h = grind (arith, nat_tests)

frame_below : (r : Receiving) (f : Known) (k : ℕ) → frame_fault r f ≡ None → opens k f ≡ true → k < 65
frame_below r (StreamData stream o xs) k e h = same_number stream k (is_open r stream || not (nat_eq (stream % 2) r.parity)) h (may_of (may_name r stream) (data_fault r stream o xs) e)
frame_below r (StreamMoney stream n) k e h = same_number stream k (is_open r stream || not (nat_eq (stream % 2) r.parity)) h (may_alone (may_name r stream) e)
frame_below r (CloseFrame (StreamClose stream code message)) k e h = same_number stream k (is_open r stream || not (nat_eq (stream % 2) r.parity)) h (may_alone (may_name r stream) e)
frame_below r (CloseFrame (ConnectionClose code message)) k e h = absurd cc
frame_below r (OtherFrame o) k e h = absurd cc
frame_below r (LimitFrame l) k e h = absurd cc
frame_below r (BlockedFrame b) k e h = absurd cc

pub opens_below : (r : Receiving) (fs : List Known) (k : ℕ) → frames_fault r fs ≡ None → list_any (opens k) fs ≡ true → k < 65
opens_below r [] k e h = absurd cc
opens_below r (f ∷ fs) k e h =
    let n = frames_none r f fs e in
    elim (either (opens k f) (list_any (opens k) fs) h) [
      | inl a ↦ frame_below r f k n.0 a
      | inr b ↦ opens_below (after_frame r f) fs k n.1 b
    ]

pub or_right : (a b : Bool) → b ≡ true → (a || b) ≡ true
or_right a b e = ap (λ x. a || x) e ∙ or_true a
