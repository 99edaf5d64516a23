-- What a packet's effect leaves of all that the limits depend on: read counts, receive maxima, credits and which streams may be named.
use Rattle.std.proofs.Common.{◌≡◌, ℕ, zero, suc, ◌%◌, Bool, true, false, not, ◌&&◌, ◌||◌, cond, List, [], ◌∷◌, length, map, Option, Some, None, refl, sym, ap, ◌∙◌, subst, arith, nat_eq, nat_lt, nat_le, inl, inr}
use Rattle.std.specs.Prelude.{is_some, slice_index}
use Rattle.std.specs.List.{list_any}
use Rattle.std.specs.FinMap.{empty}
use Rattle.std.proofs.lemmas.Bool.Decides.{nat_tests}
use Rattle.std.proofs.lemmas.List.{length-set}
use Rattle.st_streams.specs.Slots.{Slots, slot}
use Rattle.st_streams.proofs.SlotLemmas.{slot_cases, slot_map}
use Rattle.st_frames.specs.Frames.{Known, CloseFrame, ConnectionClose, OtherFrame, LimitFrame, BlockedFrame, StreamClose, StreamMoney, StreamData}
use Rattle.st_reassembly.specs.Held.{Held, is_over}
use Rattle.st_reassembly.specs.Closing.{past_all, after_finish, after_abort}
use Rattle.st_receiver.specs.Streams.{Incoming, Receiving, fresh_incoming, incoming_or, incoming_at, with_incoming, may_name, received_of}
use Rattle.st_receiver.specs.Data.{frame_fault, after_frame, frames_fault, after_frames}
use Rattle.st_receiver.specs.Money.{with_credit, with_credits, after_money}
use Rattle.st_receiver.specs.Closes.{with_close, after_close, after_closes, with_abort, after_connection_close, after_connection_closes}
use Rattle.st_receiver.specs.Judged.{after_all}
use Rattle.st_receiver.specs.Limits.{connection_limit}
use Rattle.st_receiver.specs.Standing.{opens}
use Rattle.st_receiver.specs.Inside.{ends_after, Tracks}
use Rattle.st_receiver.proofs.Tracking.{held_is, names_with, tracks-itself, tracks-next, tracks-fault, frames_none, may_of, may_alone}
use Rattle.st_receiver.proofs.Applying.{either, or_right}
use Rattle.st_receiver.proofs.Crediting.{frames_money, credits_open}
use Rattle.st_receiver.proofs.Mixing.{length-credits}

-- ---- data

-- frames that break no rule are tracked to their end
pub frames_track : (r cur : Receiving) (ends : List ℕ) (fs : List Known) → frames_fault cur fs ≡ None → Tracks r cur ends → (es : List ℕ) × Tracks r (after_frames cur fs) es
unfolding after_frames
frames_track r cur ends [] e t = (ends, t)
frames_track r cur ends (f ∷ fs) e t =
    let n = frames_none cur f fs e in
    frames_track r (after_frame cur f) (ends_after r ends f) fs n.1 (tracks-next r cur ends (connection_limit r) f (tracks-fault r cur ends (connection_limit r) f refl t ∙ n.0) t)

pub all_track : (r : Receiving) (fs : List Known) → length r.streams ≡ 65 → frames_fault r fs ≡ None → (es : List ℕ) × Tracks r (after_frames r fs) es
all_track r fs len e = frames_track r r (map received_of r.streams) fs e (tracks-itself r len)

-- ---- which streams may be named

same : (s k : ℕ) → nat_eq s k ≡ true → s ≡ k
same s k e = grind (arith, nat_tests)

frame_named : (r : Receiving) (f : Known) (k : ℕ) → frame_fault r f ≡ None → opens k f ≡ true → may_name r k ≡ true
frame_named r (StreamData s o xs) k e h = subst (λ j. may_name r j ≡ true) (same s k h) (may_of (may_name r s) _ e)
frame_named r (StreamMoney s n) k e h = subst (λ j. may_name r j ≡ true) (same s k h) (may_alone (may_name r s) e)
frame_named r (CloseFrame (StreamClose s code message)) k e h = subst (λ j. may_name r j ≡ true) (same s k h) (may_alone (may_name r s) e)
frame_named r (CloseFrame (ConnectionClose code message)) k e h = absurd cc
frame_named r (OtherFrame o) k e h = absurd cc
frame_named r (LimitFrame l) k e h = absurd cc
frame_named r (BlockedFrame b) k e h = absurd cc

-- what frames that break no rule open, may be named
tracked_named : (r cur : Receiving) (ends : List ℕ) (fs : List Known) (k : ℕ) → frames_fault cur fs ≡ None → Tracks r cur ends → list_any (opens k) fs ≡ true → may_name r k ≡ true
tracked_named r cur ends [] k e t h = absurd cc
tracked_named r cur ends (f ∷ fs) k e t h =
    let n = frames_none cur f fs e in
    elim (either (opens k f) (list_any (opens k) fs) h) [
      | inl a ↦ sym (t.names k) ∙ frame_named cur f k n.0 a
      | inr b ↦ tracked_named r (after_frame cur f) (ends_after r ends f) fs k n.1 (tracks-next r cur ends (connection_limit r) f (tracks-fault r cur ends (connection_limit r) f refl t ∙ n.0) t) b
    ]

same_true : (k : ℕ) → nat_eq k k ≡ true
same_true k = grind (arith, nat_tests)

close_length : (r : Receiving) (f : Known) → length (after_close r f).streams ≡ length r.streams
close_length r (CloseFrame (StreamClose s code message)) = length-set r.streams s (Some (with_close code (incoming_at r s)))
close_length r (StreamData s o xs) = refl
close_length r (StreamMoney s n) = refl
close_length r (CloseFrame (ConnectionClose code message)) = refl
close_length r (OtherFrame o) = refl
close_length r (LimitFrame l) = refl
close_length r (BlockedFrame b) = refl

close_names : (r : Receiving) (f : Known) (j : ℕ) → length r.streams ≡ 65 → ((k : ℕ) → opens k f ≡ true → may_name r k ≡ true) → may_name (after_close r f) j ≡ may_name r j
close_names r (CloseFrame (StreamClose s code message)) j len h = names_with r s (with_close code (incoming_at r s)) len (h s (same_true s)) j
close_names r (StreamData s o xs) j len h = refl
close_names r (StreamMoney s n) j len h = refl
close_names r (CloseFrame (ConnectionClose code message)) j len h = refl
close_names r (OtherFrame o) j len h = refl
close_names r (LimitFrame l) j len h = refl
close_names r (BlockedFrame b) j len h = refl

closes_names : (r : Receiving) (fs : List Known) (j : ℕ) → length r.streams ≡ 65 → ((k : ℕ) → list_any (opens k) fs ≡ true → may_name r k ≡ true) → may_name (after_closes r fs) j ≡ may_name r j
unfolding after_closes
closes_names r [] j len h = refl
closes_names r (f ∷ fs) j len h =
    let first : (k : ℕ) → may_name (after_close r f) k ≡ may_name r k = λ k. close_names r f k len (λ i o. h i (ap (λ b. b || list_any (opens i) fs) o)) in
    closes_names (after_close r f) fs j (close_length r f ∙ len) (λ k o. first k ∙ h k (or_right (opens k f) (list_any (opens k) fs) o)) ∙ first j

with_abort-open : (code : ℕ) (o : Option Incoming) → is_some (with_abort code o) ≡ is_some o
with_abort-open code None = refl
with_abort-open code (Some x) = refl

abbrev named_by : ℕ → ℕ → Bool → Bool
named_by k parity o = nat_le 1 k && nat_le k 64 && (o || not (nat_eq (k % 2) parity))

connection_names : (r : Receiving) (f : Known) (j : ℕ) → may_name (after_connection_close r f) j ≡ may_name r j
connection_names r (CloseFrame (ConnectionClose code message)) j = ap (named_by j r.parity) (ap is_some (slot_map (with_abort code) refl r.streams j) ∙ with_abort-open code (slot r.streams j))
connection_names r (CloseFrame (StreamClose s code message)) j = refl
connection_names r (StreamData s o xs) j = refl
connection_names r (StreamMoney s n) j = refl
connection_names r (OtherFrame o) j = refl
connection_names r (LimitFrame l) j = refl
connection_names r (BlockedFrame b) j = refl

connections_names : (r : Receiving) (fs : List Known) (j : ℕ) → may_name (after_connection_closes r fs) j ≡ may_name r j
unfolding after_connection_closes
connections_names r [] j = refl
connections_names r (f ∷ fs) j = connections_names (after_connection_close r f) fs j ∙ connection_names r f j

money_open : (b : Bool) (ss : Slots Incoming) (ps : List ℕ) (j : ℕ) → is_some (slot (cond b (with_credits ss ps) ss) j) ≡ is_some (slot ss j)
money_open true ss ps j = credits_open ss ps j
money_open false ss ps j = refl

money_length : (b : Bool) (ss : Slots Incoming) (ps : List ℕ) → length (cond b (with_credits ss ps) ss) ≡ length ss
money_length true ss ps = length-credits ss ps
money_length false ss ps = refl

-- a packet that breaks no rule leaves which streams may be named
pub effect_names : (r : Receiving) (amount : ℕ) (fs : List Known) (j : ℕ) → length r.streams ≡ 65 → frames_fault r fs ≡ None → may_name (after_all r amount fs) j ≡ may_name r j
effect_names r amount fs j len e =
    let t = (all_track r fs len e).1 in
    let m = after_money (after_frames r fs) amount fs in
    let pays : (k : ℕ) → may_name m k ≡ may_name (after_frames r fs) k = λ k. ap (named_by k (after_frames r fs).parity) (money_open (nat_lt 0 amount) (after_frames r fs).streams _ k) in
    connections_names (after_closes m fs) fs j
    ∙ closes_names m fs j (money_length (nat_lt 0 amount) (after_frames r fs).streams _ ∙ t.len) (λ k o. pays k ∙ t.names k ∙ tracked_named r r (map received_of r.streams) fs k e (tracks-itself r len) o)
    ∙ pays j ∙ t.names j

-- ---- what of a stream its limits depend on

pub record SameTold (x y : Incoming) : Type 0 where
  pub read : y.held.read ≡ x.held.read
  pub receive_max : y.receive_max ≡ x.receive_max
  pub credited : y.credited ≡ x.credited

told_itself : (x : Incoming) → SameTold x x
told_itself x = record { read = refl; receive_max = refl; credited = refl }

told_join : (x y z : Incoming) → SameTold x y → SameTold y z → SameTold x z
told_join x y z a b = record { read = b.read ∙ a.read; receive_max = b.receive_max ∙ a.receive_max; credited = b.credited ∙ a.credited }

told_with : (r : Receiving) (k : ℕ) (y : Incoming) (j : ℕ) → SameTold (incoming_at r k) y → SameTold (incoming_at r j) (incoming_at (with_incoming r k y) j)
told_with r k y j h = elim (slot_cases r.streams k y j) [
  | inl e ↦ subst (λ i. SameTold (incoming_at r i) (incoming_at (with_incoming r k y) i)) (sym e.0) (subst (λ o. SameTold (incoming_at r k) (incoming_or (fresh_incoming (slice_index r.kept k)) o)) (sym e.1) h)
  | inr e ↦ subst (λ o. SameTold (incoming_at r j) (incoming_or (fresh_incoming (slice_index r.kept j)) o)) (sym e) (told_itself (incoming_at r j))
]

finish_read : (b : Bool) (h : Held) (e : Option ℕ) → (cond b h (record h { end = e })).read ≡ h.read
finish_read true h e = refl
finish_read false h e = refl

abort_read : (b : Bool) (h : Held) (e : Option ℕ) → (cond b h (record h { bytes = empty; aborted = e })).read ≡ h.read
abort_read true h e = refl
abort_read false h e = refl

close_read : (b : Bool) (code : ℕ) (h : Held) → (cond b (after_finish h) (after_abort code h)).read ≡ h.read
close_read true code h = finish_read (is_over h) h (Some (past_all h))
close_read false code h = abort_read (is_over h) h (Some code)

close_told : (r : Receiving) (f : Known) (j : ℕ) → SameTold (incoming_at r j) (incoming_at (after_close r f) j)
close_told r (CloseFrame (StreamClose k code message)) j =
    let x = incoming_at r k in
    told_with r k (with_close code x) j (record { read = close_read (nat_eq code 1) code x.held; receive_max = refl; credited = refl })
close_told r (StreamData k o xs) j = told_itself (incoming_at r j)
close_told r (StreamMoney k n) j = told_itself (incoming_at r j)
close_told r (CloseFrame (ConnectionClose code message)) j = told_itself (incoming_at r j)
close_told r (OtherFrame o) j = told_itself (incoming_at r j)
close_told r (LimitFrame l) j = told_itself (incoming_at r j)
close_told r (BlockedFrame b) j = told_itself (incoming_at r j)

closes_told : (r : Receiving) (fs : List Known) (j : ℕ) → SameTold (incoming_at r j) (incoming_at (after_closes r fs) j)
unfolding after_closes
closes_told r [] j = told_itself (incoming_at r j)
closes_told r (f ∷ fs) j = told_join (incoming_at r j) (incoming_at (after_close r f) j) (incoming_at (after_closes (after_close r f) fs) j) (close_told r f j) (closes_told (after_close r f) fs j)

aborted_told : (code m : ℕ) (o : Option Incoming) → SameTold (incoming_or (fresh_incoming m) o) (incoming_or (fresh_incoming m) (with_abort code o))
aborted_told code m None = told_itself (fresh_incoming m)
aborted_told code m (Some x) = record { read = abort_read (is_over x.held) x.held (Some code); receive_max = refl; credited = refl }

connection_advertised : (r : Receiving) (f : Known) (j : ℕ) → SameTold (incoming_at r j) (incoming_at (after_connection_close r f) j)
connection_advertised r (CloseFrame (ConnectionClose code message)) j =
    let m = slice_index r.kept j in
    subst (λ o. SameTold (incoming_at r j) (incoming_or (fresh_incoming m) o)) (sym (slot_map (with_abort code) refl r.streams j)) (aborted_told code m (slot r.streams j))
connection_advertised r (CloseFrame (StreamClose k code message)) j = told_itself (incoming_at r j)
connection_advertised r (StreamData k o xs) j = told_itself (incoming_at r j)
connection_advertised r (StreamMoney k n) j = told_itself (incoming_at r j)
connection_advertised r (OtherFrame o) j = told_itself (incoming_at r j)
connection_advertised r (LimitFrame l) j = told_itself (incoming_at r j)
connection_advertised r (BlockedFrame b) j = told_itself (incoming_at r j)

connections_told : (r : Receiving) (fs : List Known) (j : ℕ) → SameTold (incoming_at r j) (incoming_at (after_connection_closes r fs) j)
unfolding after_connection_closes
connections_told r [] j = told_itself (incoming_at r j)
connections_told r (f ∷ fs) j =
    told_join (incoming_at r j) (incoming_at (after_connection_close r f) j) (incoming_at (after_connection_closes (after_connection_close r f) fs) j) (connection_advertised r f j) (connections_told (after_connection_close r f) fs j)

-- what money leaves of a stream
pub record SameLimits (x y : Incoming) : Type 0 where
  pub read : y.held.read ≡ x.held.read
  pub receive_max : y.receive_max ≡ x.receive_max

credit_limits : (m p : ℕ) (o : Option Incoming) → SameLimits (incoming_or (fresh_incoming m) o) (incoming_or (fresh_incoming m) (with_credit o p))
credit_limits m p None = record { read = refl; receive_max = refl }
credit_limits m p (Some x) = record { read = refl; receive_max = refl }

credits_limits : (m : ℕ) (ss : Slots Incoming) (ps : List ℕ) (j : ℕ) → SameLimits (incoming_or (fresh_incoming m) (slot ss j)) (incoming_or (fresh_incoming m) (slot (with_credits ss ps) j))
credits_limits m [] ps j = record { read = refl; receive_max = refl }
credits_limits m (s ∷ ss) [] j = record { read = refl; receive_max = refl }
credits_limits m (s ∷ ss) (p ∷ ps) zero = credit_limits m p s
credits_limits m (s ∷ ss) (p ∷ ps) (suc j) = credits_limits m ss ps j

money_limits : (b : Bool) (m : ℕ) (ss : Slots Incoming) (ps : List ℕ) (j : ℕ) → SameLimits (incoming_or (fresh_incoming m) (slot ss j)) (incoming_or (fresh_incoming m) (slot (cond b (with_credits ss ps) ss) j))
money_limits true m ss ps j = credits_limits m ss ps j
money_limits false m ss ps j = record { read = refl; receive_max = refl }

-- a packet that breaks no rule moves no read count and no receive max, and its money alone moves a credit
pub record Leaves (r : Receiving) (amount : ℕ) (fs : List Known) (k : ℕ) : Type 0 where
  pub read : (incoming_at (after_all r amount fs) k).held.read ≡ (incoming_at r k).held.read
  pub receive_max : (incoming_at (after_all r amount fs) k).receive_max ≡ (incoming_at r k).receive_max
  pub credited : (incoming_at (after_all r amount fs) k).credited ≡ (incoming_at (after_money (after_frames r fs) amount fs) k).credited

pub effect_told : (r : Receiving) (amount : ℕ) (fs : List Known) (k : ℕ) → length r.streams ≡ 65 → frames_fault r fs ≡ None → Leaves r amount fs k
effect_told r amount fs k len e =
    let t = after_frames r fs in
    let span = ((all_track r fs len e).1.spans k).read in
    let came : (incoming_at t k).held.read ≡ (incoming_at r k).held.read = ap (λ (h : Held). h.read) (held_is (slice_index t.kept k) (slot t.streams k)) ∙ span ∙ sym (ap (λ (h : Held). h.read) (held_is (slice_index r.kept k) (slot r.streams k))) in
    let paid = money_limits (nat_lt 0 amount) (slice_index t.kept k) t.streams _ k in
    let m = after_money t amount fs in
    let rest = told_join (incoming_at m k) (incoming_at (after_closes m fs) k) (incoming_at (after_connection_closes (after_closes m fs) fs) k) (closes_told m fs k) (connections_told (after_closes m fs) fs k) in
    record { read = rest.read ∙ paid.read ∙ came; receive_max = rest.receive_max ∙ paid.receive_max ∙ (frames_money r fs k).receive_max; credited = rest.credited }
