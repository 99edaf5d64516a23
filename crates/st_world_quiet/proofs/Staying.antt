-- What an outgoing packet leaves of the receiver as a whole, and of the highest end and the fixed end of each stream.
use Rattle.std.proofs.Common.{◌≡◌, ℕ, zero, suc, ◌+◌, ◌<◌, ◌≤◌, Bool, true, false, cond, List, [], ◌∷◌, refl, sym, ap, subst, ◌∙◌, arith, Option, None, Some, ◌⊎◌, inl, inr, nat_lt, slice_index}
use Rattle.std.specs.FinMap as fmap
use Rattle.std.specs.Ordering.{nat_cmp}
use Rattle.std.specs.List.{AllByRecursion}
use Rattle.st_streams.specs.Slots.{Slots, slot}
use Rattle.st_frames.specs.Frames.{Known, CloseFrame, StreamClose, StreamData, StreamMoney, max_packet}
use Rattle.st_frames.specs.Told.{shares}
use Rattle.st_reassembly.specs.Held.{Held}
use Rattle.st_reassembly.proofs.Pointwise.{joins_after}
use Rattle.st_sender.specs.Sending.{Load, Outgoing, Sending, outgoing_at}
use Rattle.st_sender.specs.Due.{IsAbort, IsCleanClose, IsDue}
use Rattle.st_sender.specs.Loads.{Sends, with_flight}
use Rattle.st_sender.specs.Filling.{Fills}
use Rattle.st_receiver.specs.Streams.{Incoming, Receiving, fresh_incoming, incoming_at, incoming_or, received_of}
use Rattle.st_receiver.specs.Data.{after_frame, after_frames}
use Rattle.st_receiver.specs.Money.{after_money, parts, with_credits}
use Rattle.st_receiver.specs.Closes.{after_close, after_closes, with_close}
use Rattle.st_receiver.specs.Judged.{after_all}
use Rattle.st_receiver.proofs.Crediting.{frames_credit}
use Rattle.st_receiver.proofs.Tracking.{highest_is}
use Rattle.st_world_quiet.specs.Quiet.{IsQuiet, IsWaiting}
use Rattle.st_world_quiet.specs.Mirrored.{IsAhead, Tally}
use Rattle.st_world_quiet.proofs.Receiving.{frames_calm, replaced_at, replaced_here}
use Rattle.st_world_quiet.proofs.Leaving.{money_held, no_connection_closes}
use Rattle.st_world_quiet.proofs.Holding.{frame_at}
use Rattle.st_world_quiet.proofs.Taken.{ahead_calm, all_fit, reaches}

-- ---- the receiver without its streams

pub record SameRest (r t : Receiving) : Type 0 where
  pub closed : t.closed ≡ r.closed
  pub fulfilled : t.fulfilled ≡ r.fulfilled

rest_then : (r t u : Receiving) → SameRest r t → SameRest t u → SameRest r u
rest_then r t u a b = record { closed = b.closed ∙ a.closed; fulfilled = b.fulfilled ∙ a.fulfilled }

frame_rest : (r : Receiving) (f : Known) → SameRest r (after_frame r f)
frame_rest r (StreamData j o xs) = record { closed = refl; fulfilled = refl }
frame_rest r (StreamMoney j m) = record { closed = refl; fulfilled = refl }
frame_rest r (CloseFrame (StreamClose j code message)) = record { closed = refl; fulfilled = refl }
frame_rest r f = record { closed = refl; fulfilled = refl }

frames_rest : (r : Receiving) (fs : List Known) → SameRest r (after_frames r fs)
unfolding after_frames
frames_rest r [] = record { closed = refl; fulfilled = refl }
frames_rest r (f ∷ fs) = rest_then r (after_frame r f) (after_frames (after_frame r f) fs) (frame_rest r f) (frames_rest (after_frame r f) fs)

one_close_rest : (r : Receiving) (f : Known) → SameRest r (after_close r f)
one_close_rest r (CloseFrame (StreamClose j code message)) = record { closed = refl; fulfilled = refl }
one_close_rest r f = record { closed = refl; fulfilled = refl }

closes_rest : (r : Receiving) (fs : List Known) → SameRest r (after_closes r fs)
unfolding after_closes
closes_rest r [] = record { closed = refl; fulfilled = refl }
closes_rest r (f ∷ fs) = rest_then r (after_close r f) (after_closes (after_close r f) fs) (one_close_rest r f) (closes_rest (after_close r f) fs)

pub effect_rest : (s : Sending) (limits : List Known) (r : Receiving) (amount : ℕ) (fs : List Known) → AllByRecursion (IsDue s limits) fs → SameRest r (after_all r amount fs)
effect_rest s limits r amount fs due =
    let t = after_frames r fs in
    let m = after_money t amount fs in
    let before = rest_then r m (after_closes m fs) (rest_then r t m (frames_rest r fs) (record { closed = refl; fulfilled = refl })) (closes_rest m fs) in
    subst (λ (u : Receiving). SameRest r u) (sym (no_connection_closes s limits (after_closes m fs) fs due)) before

closes_credit : (r : Receiving) (fs : List Known) → (after_closes r fs).credit ≡ r.credit
unfolding after_closes
closes_credit r [] = refl
closes_credit r (f ∷ fs) = closes_credit (after_close r f) fs ∙ one r f
  where
    one : (r : Receiving) (f : Known) → (after_close r f).credit ≡ r.credit
    one r (CloseFrame (StreamClose j code message)) = refl
    one r f = refl

pub effect_credit : (s : Sending) (limits : List Known) (r : Receiving) (amount : ℕ) (fs : List Known) → AllByRecursion (IsDue s limits) fs → (after_all r amount fs).credit ≡ r.credit + amount
effect_credit s limits r amount fs due =
    ap (λ (u : Receiving). u.credit) (no_connection_closes s limits (after_closes (after_money (after_frames r fs) amount fs) fs) fs due)
    ∙ closes_credit (after_money (after_frames r fs) amount fs) fs
    ∙ ap (λ n. n + amount) (frames_credit r fs)

-- ---- the highest end

credits_highest : (m : ℕ) (xs : Slots Incoming) (ps : List ℕ) (k : ℕ) → (incoming_or (fresh_incoming m) (slot (with_credits xs ps) k)).highest ≡ (incoming_or (fresh_incoming m) (slot xs k)).highest
credits_highest m [] ps k = refl
credits_highest m (x ∷ xs) [] k = refl
credits_highest m (None ∷ xs) (p ∷ ps) zero = refl
credits_highest m (Some x ∷ xs) (p ∷ ps) zero = refl
credits_highest m (x ∷ xs) (p ∷ ps) (suc k) = credits_highest m xs ps k

money_highest_if : (b : Bool) (m : ℕ) (xs : Slots Incoming) (ps : List ℕ) (k : ℕ) → (incoming_or (fresh_incoming m) (slot (cond b (with_credits xs ps) xs) k)).highest ≡ (incoming_or (fresh_incoming m) (slot xs k)).highest
money_highest_if true m xs ps k = credits_highest m xs ps k
money_highest_if false m xs ps k = refl

closes_highest : (r : Receiving) (fs : List Known) (k : ℕ) → (incoming_at (after_closes r fs) k).highest ≡ (incoming_at r k).highest
unfolding after_closes
closes_highest r [] k = refl
closes_highest r (f ∷ fs) k = closes_highest (after_close r f) fs k ∙ one r f
  where
    one : (r : Receiving) (f : Known) → (incoming_at (after_close r f) k).highest ≡ (incoming_at r k).highest
    one r (CloseFrame (StreamClose j code message)) = replaced_at (λ x. x.highest) r j (with_close code (incoming_at r j)) k refl
    one r f = refl

pub received_is : (r : Receiving) (k : ℕ) → received_of (slot r.streams k) ≡ (incoming_at r k).highest
received_is r k = sym (highest_is (slice_index r.kept k) (slot r.streams k))

-- no stream has received past what was read and what arrived
pub effect_received : {c : Tally} (n : ℕ → ℕ) (s : Sending) (limits : List Known) (p : Load) (r : Receiving) (k : ℕ) → IsQuiet n s → Sends s limits max_packet p (with_flight s p) → Fills s limits max_packet p → IsAhead n c s r
    → received_of (slot (after_all r p.amount p.frames).streams k) ≤ reaches r p.frames k
effect_received n s limits p r k quiet sends fills abreast =
    let fs = p.frames in
    let t = after_frames r fs in
    let calm = ahead_calm n s limits p r quiet sends fills abreast in
    let after = frames_calm (reaches r fs) r fs calm (all_fit n s limits p r fs quiet sends abreast.mirrored sends.due (λ k. omega arith)) in
    let is : received_of (slot (after_all r p.amount fs).streams k) ≡ received_of (slot t.streams k) =
    received_is (after_all r p.amount fs) k
    ∙ ap (λ (u : Receiving). (incoming_at u k).highest) (no_connection_closes s limits (after_closes (after_money t p.amount fs) fs) fs sends.due)
    ∙ closes_highest (after_money t p.amount fs) fs k
    ∙ money_highest_if (nat_lt 0 p.amount) (slice_index t.kept k) t.streams (parts p.amount (shares fs)) k
    ∙ sym (received_is t k) in
    let below = after.below k in
    omega (arith, is, below)

-- ---- a stream with bytes left is not closed

no_close_due : (n : ℕ) (s : Sending) (k code : ℕ) (x : Outgoing) → IsWaiting n x → x.acked_end < n → IsAbort x code ⊎ IsCleanClose x code → ⊥
no_close_due n s k code x w left (inl a) = absurd (let none = w.alive in let some = a.asked in let clash : ◌≡◌ {A = Option ℕ} None (Some code) = sym none ∙ some in cc)
no_close_due n s k code x w left (inr c) =
    let waits = row_left n x.acked_end x.accepted left w.written in
    let got = w.row x.acked_end (omega arith) waits in
    let gone : fmap.get x.unacked x.acked_end ≡ None = ap (λ m. fmap.get m x.acked_end) c.acknowledged ∙ fmap.get-empty nat_cmp x.acked_end in
    let some = got.1 in
    let clash : ◌≡◌ {A = Option ℕ} None (Some got.0) = sym gone ∙ some in absurd (cc)
  where
    row_left : (n low accepted : ℕ) → low < n → (accepted ≡ n) ⊎ (low + 16000 ≤ accepted) → low < accepted
    row_left n low accepted l h = omega arith

closes_end : (n : ℕ → ℕ) (s : Sending) (limits : List Known) (r : Receiving) (fs : List Known) (k : ℕ) (x : Outgoing) → IsQuiet n s → AllByRecursion (IsDue s limits) fs → outgoing_at s k ≡ Some x → x.acked_end < n k
    → (incoming_at (after_closes r fs) k).held.end ≡ (incoming_at r k).held.end
unfolding after_closes
closes_end n s limits r [] k x quiet due e left = refl
closes_end n s limits r (f ∷ fs) k x quiet due e left = closes_end n s limits (after_close r f) fs k x quiet due.1 e left ∙ one f due.0
  where
    one : (f : Known) → IsDue s limits f → (incoming_at (after_close r f) k).held.end ≡ (incoming_at r k).held.end
    one (CloseFrame (StreamClose j code message)) due = elim (replaced_here r j (with_close code (incoming_at r j)) k) [
      | inl is ↦ (let d = due.0 in
          let here : outgoing_at s k ≡ Some d.stream = subst (λ i. outgoing_at s i ≡ Some d.stream) (sym is.0) d.is_open in
          let both : ◌≡◌ {A = Option Outgoing} (Some x) (Some d.stream) = sym e ∙ here in
          let same : x ≡ d.stream = cc in
          absurd (no_close_due (n k) s k code d.stream (quiet.streams k d.stream here) (subst (λ (z : Outgoing). z.acked_end < n k) same left) d.asked))
      | inr is ↦ ap (λ (y : Incoming). y.held.end) is
    ]
    one f due = refl

pub frames_end : (r : Receiving) (fs : List Known) (k : ℕ) → (incoming_at (after_frames r fs) k).held.end ≡ (incoming_at r k).held.end
unfolding after_frames
frames_end r [] k = refl
frames_end r (f ∷ fs) k = frames_end (after_frame r f) fs k ∙ frame_at (λ h. h.end) (λ o xs h. (joins_after o xs h).end) r f k

pub effect_end : (n : ℕ → ℕ) (s : Sending) (limits : List Known) (r : Receiving) (amount : ℕ) (fs : List Known) (k : ℕ) (x : Outgoing) → IsQuiet n s → AllByRecursion (IsDue s limits) fs → outgoing_at s k ≡ Some x → x.acked_end < n k
    → (incoming_at (after_all r amount fs) k).held.end ≡ (incoming_at r k).held.end
effect_end n s limits r amount fs k x quiet due e left =
    ap (λ (u : Receiving). (incoming_at u k).held.end) (no_connection_closes s limits (after_closes (after_money (after_frames r fs) amount fs) fs) fs due)
    ∙ closes_end n s limits (after_money (after_frames r fs) amount fs) fs k x quiet due e left
    ∙ ap (λ (h : Held). h.end) (money_held (after_frames r fs) amount fs k)
    ∙ frames_end r fs k
