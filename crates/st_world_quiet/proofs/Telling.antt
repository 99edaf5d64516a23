-- What advertised limits leave.
use Rattle.std.proofs.Common.{◌≡◌, ℕ, zero, suc, ◌+◌, ◌≤◌, Bool, true, false, cond, List, [], ◌∷◌, length, max, refl, sym, ap, subst, ◌∙◌, arith, Option, None, Some, inl, inr, nat_eq, map}
use Rattle.std.specs.Prelude.{Contains}
use Rattle.std.specs.List.{AllByRecursion}
use Rattle.std.proofs.lemmas.Bool.{cases_eq}
use Rattle.std.proofs.lemmas.Bool.Decides.{nat_tests}
use Rattle.std.proofs.lemmas.List.{length-set}
use Rattle.st_streams.specs.Slots.{slot}
use Rattle.st_frames.specs.Frames.{CloseFrame, ConnectionClose, BlockedFrame, ConnectionDataBlocked, LimitFrame, ConnectionMaxData, OtherFrame, Known, StreamClose, StreamData, StreamDataBlocked, StreamMaxData, StreamMaxMoney, StreamMoney, StreamMoneyBlocked}
use Rattle.st_sender.specs.Sending.{PeerBlocked, Outgoing, Sending, changed_at, outgoing_at}
use Rattle.st_sender.specs.Flights.{flown}
use Rattle.st_sender.specs.Due.{IsDue}
use Rattle.st_sender.specs.Answering.{after_acked, after_all_acked, after_all_told, after_told, raised_money, told_data, advertised_receive_max}
use Rattle.st_world_quiet.specs.Quiet.{IsQuiet}
use Rattle.st_world_quiet.proofs.Acknowledging.{is_same, none_changed, own_change}
use Rattle.st_world_quiet.proofs.Lowering.{no_limit_due, no_slot}

-- ---- a stream after limits were advertised

abbrev pub own_told : ℕ → Known → Outgoing → Outgoing
own_told k (LimitFrame (StreamMaxData j m)) x = cond (nat_eq j k) (told_data m x) x
own_told k (LimitFrame (StreamMaxMoney j m t)) x = cond (nat_eq j k) (advertised_receive_max m t x) x
own_told k f x = x

abbrev pub all_own_told : ℕ → List Known → Outgoing → Outgoing
all_own_told k [] x = x
all_own_told k (f ∷ fs) x = all_own_told k fs (own_told k f x)

told_at : (s : Sending) (k : ℕ) (f : Known) (x : Outgoing) → outgoing_at s k ≡ Some x → outgoing_at (after_told s f) k ≡ Some (own_told k f x)
told_at s k (LimitFrame (StreamMaxData j m)) x e = own_change s j k (told_data m) x e
told_at s k (LimitFrame (StreamMaxMoney j m t)) x e = own_change s j k (advertised_receive_max m t) x e
told_at s k (LimitFrame (ConnectionMaxData v)) x e = e
told_at s k (StreamData j o xs) x e = e
told_at s k (StreamMoney j n) x e = e
told_at s k (CloseFrame c) x e = e
told_at s k (BlockedFrame b) x e = e
told_at s k (OtherFrame o) x e = e

pub all_told_at : (s : Sending) (k : ℕ) (fs : List Known) (x : Outgoing) → outgoing_at s k ≡ Some x → outgoing_at (after_all_told s fs) k ≡ Some (all_own_told k fs x)
all_told_at s k [] x e = e
all_told_at s k (f ∷ fs) x e = all_told_at (after_told s f) k fs (own_told k f x) (told_at s k f x e)

none_told : (s : Sending) (k : ℕ) (f : Known) → outgoing_at s k ≡ None → outgoing_at (after_told s f) k ≡ None
none_told s k (LimitFrame (StreamMaxData j m)) e = none_changed s j k (told_data m) e
none_told s k (LimitFrame (StreamMaxMoney j m t)) e = none_changed s j k (advertised_receive_max m t) e
none_told s k (LimitFrame (ConnectionMaxData v)) e = e
none_told s k (StreamData j o xs) e = e
none_told s k (StreamMoney j n) e = e
none_told s k (CloseFrame c) e = e
none_told s k (BlockedFrame b) e = e
none_told s k (OtherFrame o) e = e

pub none_stays_told : (s : Sending) (k : ℕ) (fs : List Known) → outgoing_at s k ≡ None → outgoing_at (after_all_told s fs) k ≡ None
none_stays_told s k [] e = e
none_stays_told s k (f ∷ fs) e = none_stays_told (after_told s f) k fs (none_told s k f e)

-- all but the limits stays, and the window only rises
pub record IsToldOnly (x y : Outgoing) : Type 0 where
  pub accepted : y.accepted ≡ x.accepted
  pub unacked : y.unacked ≡ x.unacked
  pub acked_end : y.acked_end ≡ x.acked_end
  pub offered : y.offered ≡ x.offered
  pub fulfilled : y.fulfilled ≡ x.fulfilled
  pub clean : y.clean ≡ x.clean
  pub abort : y.abort ≡ x.abort
  pub clean_settled : y.clean_settled ≡ x.clean_settled
  pub told : x.told ≤ y.told

only_same : (x : Outgoing) → IsToldOnly x x
only_same x = record { accepted = refl; unacked = refl; acked_end = refl; offered = refl; fulfilled = refl; clean = refl; abort = refl; clean_settled = refl; told = omega arith }

only_then : (x y z : Outgoing) → IsToldOnly x y → IsToldOnly y z → IsToldOnly x z
only_then x y z a b = record {
  accepted = b.accepted ∙ a.accepted;
  unacked = b.unacked ∙ a.unacked;
  acked_end = b.acked_end ∙ a.acked_end;
  offered = b.offered ∙ a.offered;
  fulfilled = b.fulfilled ∙ a.fulfilled;
  clean = b.clean ∙ a.clean;
  abort = b.abort ∙ a.abort;
  clean_settled = b.clean_settled ∙ a.clean_settled;
  told = (let c = a.told in let d = b.told in omega (arith, c, d));
}

only_data : (b : Bool) (m : ℕ) (x : Outgoing) → IsToldOnly x (cond b (told_data m x) x)
only_data true m x = record { accepted = refl; unacked = refl; acked_end = refl; offered = refl; fulfilled = refl; clean = refl; abort = refl; clean_settled = refl; told = omega arith }
only_data false m x = only_same x

only_money : (b : Bool) (m t : ℕ) (x : Outgoing) → IsToldOnly x (cond b (advertised_receive_max m t x) x)
only_money true m t x = record { accepted = refl; unacked = refl; acked_end = refl; offered = refl; fulfilled = refl; clean = refl; abort = refl; clean_settled = refl; told = omega arith }
only_money false m t x = only_same x

told_only : (k : ℕ) (f : Known) (x : Outgoing) → IsToldOnly x (own_told k f x)
told_only k (LimitFrame (StreamMaxData j m)) x = only_data (nat_eq j k) m x
told_only k (LimitFrame (StreamMaxMoney j m t)) x = only_money (nat_eq j k) m t x
told_only k f x = only_same x

pub all_told_only : (k : ℕ) (fs : List Known) (x : Outgoing) → IsToldOnly x (all_own_told k fs x)
all_told_only k [] x = only_same x
all_told_only k (f ∷ fs) x = only_then x (own_told k f x) (all_own_told k fs (own_told k f x)) (told_only k f x) (all_told_only k fs (own_told k f x))

-- a stream's window is at least each that is advertised
pub window_told : (k v : ℕ) (fs : List Known) (x : Outgoing) → Contains fs (LimitFrame (StreamMaxData k v)) → v ≤ (all_own_told k fs x).told
window_told k v [] x h = absurd (let l = h.1 in omega (arith, l))
window_told k v (f ∷ fs) x (zero, l, e) =
    let first : v ≤ (own_told k f x).told = subst (λ g. v ≤ (own_told k g x).told) (sym e) (let b = is_same k k refl in rw b (omega arith)) in
    let rest = (all_told_only k fs (own_told k f x)).told in
    omega (arith, first, rest)
window_told k v (f ∷ fs) x (suc i, l, e) = window_told k v fs (own_told k f x) (i, omega arith, e)

-- advertised money leaves room for what was offered
abbrev pub LeavesRoom : (offered fulfilled : ℕ) → Option (ℕ × ℕ) → Type 0
LeavesRoom offered fulfilled o = (told : ℕ × ℕ) → o ≡ Some told → told.1 + offered ≤ told.0 + fulfilled

abbrev pub FrameLeavesRoom : (k offered fulfilled : ℕ) → Known → Type 0
FrameLeavesRoom k offered fulfilled f = (m t : ℕ) → f ≡ LimitFrame (StreamMaxMoney k m t) → t + offered ≤ m + fulfilled

room_raised : (offered fulfilled : ℕ) (o : Option (ℕ × ℕ)) (m t : ℕ) → t + offered ≤ m + fulfilled → LeavesRoom offered fulfilled o → LeavesRoom offered fulfilled (raised_money o m t)
room_raised offered fulfilled None m t a h told e = let is : (m, t) ≡ told = cc in subst (λ (z : ℕ × ℕ). z.1 + offered ≤ z.0 + fulfilled) is a
room_raised offered fulfilled (Some old) m t a h told e =
    let before = h old refl in
    let is : (max old.0 m, max old.1 t) ≡ told = cc in
    subst (λ (z : ℕ × ℕ). z.1 + offered ≤ z.0 + fulfilled) is (higher old.0 old.1 m t before a)
  where
    higher : (a b m t : ℕ) → b + offered ≤ a + fulfilled → t + offered ≤ m + fulfilled → max b t + offered ≤ max a m + fulfilled
    higher a b m t c d = omega arith

money_if : (b : Bool) (offered fulfilled m t : ℕ) (x : Outgoing) → (b ≡ true → t + offered ≤ m + fulfilled) → LeavesRoom offered fulfilled x.advertised_money → LeavesRoom offered fulfilled (cond b (advertised_receive_max m t x) x).advertised_money
money_if true offered fulfilled m t x h room = room_raised offered fulfilled x.advertised_money m t (h refl) room
money_if false offered fulfilled m t x h room = room

data_if : (b : Bool) (offered fulfilled m : ℕ) (x : Outgoing) → LeavesRoom offered fulfilled x.advertised_money → LeavesRoom offered fulfilled (cond b (told_data m x) x).advertised_money
data_if true offered fulfilled m x room = room
data_if false offered fulfilled m x room = room

own_room : (k offered fulfilled : ℕ) (f : Known) (x : Outgoing) → FrameLeavesRoom k offered fulfilled f → LeavesRoom offered fulfilled x.advertised_money → LeavesRoom offered fulfilled (own_told k f x).advertised_money
own_room k offered fulfilled (LimitFrame (StreamMaxData j m)) x h room = data_if (nat_eq j k) offered fulfilled m x room
own_room k offered fulfilled (LimitFrame (StreamMaxMoney j m t)) x h room = elim (cases_eq j k) [
  | inl same ↦ money_if (nat_eq j k) offered fulfilled m t x (λ b. h m t (ap (λ i. LimitFrame (StreamMaxMoney i m t)) same)) room
  | inr apart ↦ money_if (nat_eq j k) offered fulfilled m t x (λ b. absurd (apart (eq_true j k b))) room
]
  where
    eq_true : (j k : ℕ) → nat_eq j k ≡ true → j ≡ k
    eq_true j k b = grind (arith, nat_tests)
own_room k offered fulfilled f x h room = room

pub all_room : (k offered fulfilled : ℕ) (fs : List Known) (x : Outgoing) → ((f : Known) → Contains fs f → FrameLeavesRoom k offered fulfilled f) → LeavesRoom offered fulfilled x.advertised_money
    → LeavesRoom offered fulfilled (all_own_told k fs x).advertised_money
all_room k offered fulfilled [] x h room = room
all_room k offered fulfilled (f ∷ fs) x h room =
    all_room k offered fulfilled fs (own_told k f x) (λ g c. h g (suc c.0, (let l = c.1 in omega (arith, l)), c.2)) (own_room k offered fulfilled f x (h f (zero, omega arith, refl)) room)

-- ---- the rest of the sender

pub record IsSameRest (s t : Sending) : Type 0 where
  pub config : t.config ≡ s.config
  pub flights : t.flights ≡ s.flights
  pub last : t.last ≡ s.last
  pub marks : t.marks ≡ s.marks
  pub packet_limit : t.packet_limit ≡ s.packet_limit
  pub failed : t.failed ≡ s.failed
  pub slots : length t.streams ≡ length s.streams
  pub told : s.told ≤ t.told

rest_same : (s : Sending) → IsSameRest s s
rest_same s = record { config = refl; flights = refl; last = refl; marks = refl; packet_limit = refl; failed = refl; slots = refl; told = omega arith }

pub rest_then : (s t u : Sending) → IsSameRest s t → IsSameRest t u → IsSameRest s u
rest_then s t u a b = record {
  config = b.config ∙ a.config;
  flights = b.flights ∙ a.flights;
  last = b.last ∙ a.last;
  marks = b.marks ∙ a.marks;
  packet_limit = b.packet_limit ∙ a.packet_limit;
  failed = b.failed ∙ a.failed;
  slots = b.slots ∙ a.slots;
  told = (let c = a.told in let d = b.told in omega (arith, c, d));
}

rest_changed : (s : Sending) (j : ℕ) (f : Outgoing → Outgoing) (y : Option Outgoing) → IsSameRest s (changed_at s j f y)
rest_changed s j f None = rest_same s
rest_changed s j f (Some x) = record { config = refl; flights = refl; last = refl; marks = refl; packet_limit = refl; failed = refl; slots = length-set s.streams j (Some (f x)); told = omega arith }

rest_told : (s : Sending) (f : Known) → IsSameRest s (after_told s f)
rest_told s (LimitFrame (StreamMaxData j m)) = rest_changed s j (told_data m) (outgoing_at s j)
rest_told s (LimitFrame (StreamMaxMoney j m t)) = rest_changed s j (advertised_receive_max m t) (outgoing_at s j)
rest_told s (LimitFrame (ConnectionMaxData v)) = record { config = refl; flights = refl; last = refl; marks = refl; packet_limit = refl; failed = refl; slots = refl; told = omega arith }
rest_told s (StreamData j o xs) = rest_same s
rest_told s (StreamMoney j n) = rest_same s
rest_told s (CloseFrame c) = rest_same s
rest_told s (BlockedFrame b) = rest_same s
rest_told s (OtherFrame o) = rest_same s

pub rest_all_told : (s : Sending) (fs : List Known) → IsSameRest s (after_all_told s fs)
rest_all_told s [] = rest_same s
rest_all_told s (f ∷ fs) = rest_then s (after_told s f) (after_all_told (after_told s f) fs) (rest_told s f) (rest_all_told (after_told s f) fs)

pub connection_advertised : (v : ℕ) (fs : List Known) (s : Sending) → Contains fs (LimitFrame (ConnectionMaxData v)) → v ≤ (after_all_told s fs).told
connection_advertised v [] s h = absurd (let l = h.1 in omega (arith, l))
connection_advertised v (f ∷ fs) s (zero, l, e) =
    let first : v ≤ (after_told s f).told = subst (λ g. v ≤ (after_told s g).told) (sym e) (omega arith) in
    let rest = (rest_all_told (after_told s f) fs).told in
    omega (arith, first, rest)
connection_advertised v (f ∷ fs) s (suc i, l, e) = connection_advertised v fs (after_told s f) (i, omega arith, e)

-- a Fulfill changes no more, since no raised limit is ever due in a lossless run
rest_acked : (n : ℕ → ℕ) (q s : Sending) (limits : List Known) (f : Known) → IsQuiet n q → IsDue q limits f → IsSameRest s (after_acked s (flown f))
rest_acked n q s limits (StreamData j o xs) quiet due = rest_changed s j _ (outgoing_at s j)
rest_acked n q s limits (StreamMoney j m) quiet due = rest_changed s j _ (outgoing_at s j)
rest_acked n q s limits (CloseFrame (StreamClose j code message)) quiet due = rest_changed s j _ (outgoing_at s j)
rest_acked n q s limits (BlockedFrame (StreamDataBlocked j m)) quiet due = rest_changed s j _ (outgoing_at s j)
rest_acked n q s limits (BlockedFrame (StreamMoneyBlocked j m t)) quiet due = rest_changed s j _ (outgoing_at s j)
rest_acked n q s limits (BlockedFrame (ConnectionDataBlocked m)) quiet due = record { config = refl; flights = refl; last = refl; marks = refl; packet_limit = refl; failed = refl; slots = refl; told = omega arith }
rest_acked n q s limits (LimitFrame (ConnectionMaxData v)) quiet due = absurd (no_limit_due q limits v q.marks.connection (LimitFrame (ConnectionMaxData v)) (ap (λ (m : PeerBlocked). m.connection) quiet.unmarked) due)
rest_acked n q s limits (LimitFrame (StreamMaxData k v)) quiet due = absurd (no_limit_due q limits v (slot q.marks.offsets k) (LimitFrame (StreamMaxData k v)) (ap (λ (m : PeerBlocked). slot m.offsets k) quiet.unmarked ∙ no_slot k) due)
rest_acked n q s limits (LimitFrame (StreamMaxMoney k v t)) quiet due = absurd (no_limit_due q limits v (slot q.marks.money k) (LimitFrame (StreamMaxMoney k v t)) (ap (λ (m : PeerBlocked). slot m.money k) quiet.unmarked ∙ no_slot k) due)
rest_acked n q s limits (CloseFrame (ConnectionClose code message)) quiet due = absurd due
rest_acked n q s limits (OtherFrame o) quiet due = absurd due

pub rest_all_acked : (n : ℕ → ℕ) (q s : Sending) (limits : List Known) (fs : List Known) → IsQuiet n q → AllByRecursion (IsDue q limits) fs → IsSameRest s (after_all_acked s (map flown fs))
rest_all_acked n q s limits [] quiet due = rest_same s
rest_all_acked n q s limits (f ∷ fs) quiet due =
    rest_then s (after_acked s (flown f)) (after_all_acked (after_acked s (flown f)) (map flown fs)) (rest_acked n q s limits f quiet due.0) (rest_all_acked n q (after_acked s (flown f)) limits fs quiet due.1)
