-- If a clean close was fulfilled, the receiver knows the end of that stream.
use Rattle.std.proofs.Common.{◌≡◌, ℕ, ◌<◌, Bool, true, false, ◌||◌, ◌&&◌, cond, List, [], ◌∷◌, length, is_some, refl, sym, ap, subst, ◌∙◌, arith, Option, None, Some, ◌⊎◌, inl, inr, nat_eq}
use Rattle.std.specs.List.{AllByRecursion, list_any}
use Rattle.std.proofs.lemmas.Bool.{cases_Bool}
use Rattle.std.proofs.lemmas.Bool.Decides.{nat_tests}
use Rattle.st_streams.proofs.SlotLemmas.{slot_here, slot_within}
use Rattle.st_frames.specs.Frames.{Known, CloseFrame, StreamClose, frames_of, max_packet}
use Rattle.st_reassembly.specs.Held.{Held, is_over}
use Rattle.st_reassembly.specs.Closing.{after_abort, after_finish, past_all}
use Rattle.st_reassembly.proofs.Pointwise.{joins_after}
use Rattle.st_sender.specs.Sending.{Load, Outgoing, Sending, outgoing_at}
use Rattle.st_sender.specs.Flights.{is_close}
use Rattle.st_sender.specs.Due.{IsDue}
use Rattle.st_sender.specs.Loads.{Sends, with_flight}
use Rattle.st_sender.specs.Answering.{landed}
use Rattle.st_receiver.specs.Streams.{Incoming, Receiving, fresh_incoming, incoming_at, incoming_or, with_incoming}
use Rattle.st_receiver.specs.Data.{after_frame, after_frames}
use Rattle.st_receiver.specs.Money.{after_money}
use Rattle.st_receiver.specs.Closes.{after_close, after_closes, with_close}
use Rattle.st_receiver.specs.Limits.{reply_frames}
use Rattle.st_receiver.specs.Judged.{after_all, effect}
use Rattle.std.specs.Prelude.{slice_index}
use Rattle.st_world_quiet.specs.Quiet.{IsQuiet}
use Rattle.st_world_quiet.specs.Rounds.{once_fulfilled}
use Rattle.st_world_quiet.specs.Mirrored.{IsAhead, Tally}
use Rattle.st_world_quiet.specs.Exchanges.{Exchange}
use Rattle.st_world_quiet.proofs.Acknowledging.{all_acked_at, all_own_acked, none_stays}
use Rattle.st_world_quiet.proofs.Closes.{all_acked_closes}
use Rattle.st_world_quiet.proofs.EndRounds.{alike}
use Rattle.st_world_quiet.proofs.Receiving.{replaced_here}
use Rattle.st_world_quiet.proofs.Leaving.{closes_slots, effect_slots, money_held, no_connection_closes, one_close_keeps, one_close_slots}
use Rattle.st_world_quiet.proofs.Holding.{frame_at}
use Rattle.st_world_quiet.proofs.Staying.{frames_end}

both_parts : (a b : Bool) → (a && b) ≡ true → (a ≡ true) × (b ≡ true)
both_parts true b e = (refl, e)
both_parts false b e = absurd (cc)

finish_by : (b : Bool) (h : Held) (n : ℕ) → (b ≡ true → is_some h.end ≡ true) → is_some (cond b h (record h { end = Some n })).end ≡ true
finish_by true h n over = over refl
finish_by false h n over = refl

finish_ends : (h : Held) → h.aborted ≡ None → is_some (after_finish h).end ≡ true
finish_ends h alive = finish_by (is_over h) h (past_all h) (λ e. or_left (is_some h.end) (is_some h.aborted) e (ap is_some alive))
  where
    or_left : (a b : Bool) → (a || b) ≡ true → b ≡ false → a ≡ true
    or_left true b e n = refl
    or_left false b e n = absurd (let clash : ◌≡◌ {A = Bool} false true = sym n ∙ e in cc)

abort_keeps : (b : Bool) (h t : Held) → t.end ≡ h.end → is_some h.end ≡ true → is_some (cond b h t).end ≡ true
abort_keeps true h t same e = e
abort_keeps false h t same e = ap is_some same ∙ e

close_keeps : (b : Bool) (code : ℕ) (h : Held) → is_some h.end ≡ true → is_some (cond b (after_finish h) (after_abort code h)).end ≡ true
close_keeps true code h e = finish_by (is_over h) h (past_all h) (λ over. e)
close_keeps false code h e = abort_keeps (is_over h) h _ refl e

one_keeps : (r : Receiving) (f : Known) (k : ℕ) → is_some (incoming_at r k).held.end ≡ true → is_some (incoming_at (after_close r f) k).held.end ≡ true
one_keeps r (CloseFrame (StreamClose j code message)) k e = elim (replaced_here r j (with_close code (incoming_at r j)) k) [
  | inl is ↦ ap (λ (y : Incoming). is_some y.held.end) is.1 ∙ close_keeps (nat_eq code 1) code (incoming_at r j).held (subst (λ i. is_some (incoming_at r i).held.end ≡ true) is.0 e)
  | inr is ↦ ap (λ (y : Incoming). is_some y.held.end) is ∙ e
]
one_keeps r f k e = e

close_sets : (b : Bool) (code : ℕ) (h : Held) → b ≡ true → h.aborted ≡ None → is_some (cond b (after_finish h) (after_abort code h)).end ≡ true
close_sets true code h e alive = finish_ends h alive
close_sets false code h e alive = absurd (cc)

one_sets : (r : Receiving) (f : Known) (k : ℕ) → k < length r.streams → (incoming_at r k).held.aborted ≡ None → is_close k 1 f ≡ true → is_some (incoming_at (after_close r f) k).held.end ≡ true
one_sets r (CloseFrame (StreamClose j code message)) k low alive e =
    let parts = both_parts (nat_eq j k) (nat_eq code 1) e in
    let first = parts.0 in
    let same : j ≡ k = grind (arith, nat_tests) in
    subst (λ i. is_some (incoming_at (with_incoming r i (with_close code (incoming_at r i))) k).held.end ≡ true) (sym same)
    (ap (λ o. is_some (incoming_or (fresh_incoming (slice_index r.kept k)) o).held.end) (slot_here r.streams k (with_close code (incoming_at r k)) low) ∙ close_sets (nat_eq code 1) code (incoming_at r k).held parts.1 alive)
one_sets r f k low alive e = absurd (cc)

finish_alive : (h : Held) → (after_finish h).aborted ≡ h.aborted
finish_alive h = by (is_over h)
  where
    by : (b : Bool) → (cond b h (record h { end = Some (past_all h) })).aborted ≡ h.aborted
    by true = refl
    by false = refl

closes_ended : (n : ℕ → ℕ) (s : Sending) (limits : List Known) (r : Receiving) (fs : List Known) (k : ℕ) → IsQuiet n s → AllByRecursion (IsDue s limits) fs → k < length r.streams → (incoming_at r k).held.aborted ≡ None
    → (is_some (incoming_at r k).held.end ≡ true) ⊎ (list_any (is_close k 1) fs ≡ true) → is_some (incoming_at (after_closes r fs) k).held.end ≡ true
unfolding after_closes
closes_ended n s limits r [] k quiet due low alive (inl e) = e
closes_ended n s limits r [] k quiet due low alive (inr e) = absurd (cc)
closes_ended n s limits r (f ∷ fs) k quiet due low alive h =
    let more : k < length (after_close r f).streams = (let same = one_close_slots r f in omega (arith, low, same)) in
    let still = one_close_keeps (λ x. x.aborted) finish_alive n s limits r f k quiet due.0 ∙ alive in
    closes_ended n s limits (after_close r f) fs k quiet due.1 more still (next h)
  where
    next : (is_some (incoming_at r k).held.end ≡ true) ⊎ (list_any (is_close k 1) (f ∷ fs) ≡ true) → (is_some (incoming_at (after_close r f) k).held.end ≡ true) ⊎ (list_any (is_close k 1) fs ≡ true)
    next (inl e) = inl (one_keeps r f k e)
    next (inr e) = elim (cases_Bool (is_close k 1 f)) [
      | inl here ↦ inl (one_sets r f k low alive here)
      | inr other ↦ inr (sym (ap (λ b. b || list_any (is_close k 1) fs) other) ∙ e)
    ]

frames_alive : (r : Receiving) (fs : List Known) (k : ℕ) → (incoming_at (after_frames r fs) k).held.aborted ≡ (incoming_at r k).held.aborted
unfolding after_frames
frames_alive r [] k = refl
frames_alive r (f ∷ fs) k = frames_alive (after_frame r f) fs k ∙ frame_at (λ h. h.aborted) (λ o xs h. (joins_after o xs h).aborted) r f k

pub load_ended : {c : Tally} (n : ℕ → ℕ) (s : Sending) (limits : List Known) (p : Load) (r : Receiving) (k : ℕ) (x : Outgoing) → IsQuiet n s → Sends s limits max_packet p (with_flight s p) → IsAhead n c s r → outgoing_at s k ≡ Some x
    → (is_some (incoming_at r k).held.end ≡ true) ⊎ (list_any (is_close k 1) p.frames ≡ true) → is_some (incoming_at (after_all r p.amount p.frames) k).held.end ≡ true
load_ended n s limits p r k x quiet sends abreast at h =
    let fs = p.frames in
    let t = after_money (after_frames r fs) p.amount fs in
    let same : (incoming_at t k).held ≡ (incoming_at (after_frames r fs) k).held = money_held (after_frames r fs) p.amount fs k in
    let end : (incoming_at t k).held.end ≡ (incoming_at r k).held.end = ap (λ (z : Held). z.end) same ∙ frames_end r fs k in
    let alive : (incoming_at t k).held.aborted ≡ None = ap (λ (z : Held). z.aborted) same ∙ frames_alive r fs k ∙ abreast.mirrored.alive k in
    let none = no_connection_closes s limits (after_closes t fs) fs sends.due in
    let long : length t.streams ≡ 65 = sym (closes_slots t fs) ∙ sym (ap (λ (z : Receiving). length z.streams) none) ∙ effect_slots s limits r p.amount fs sends.due ∙ abreast.mirrored.slots in
    let low : k < length t.streams = (let within = slot_within s.streams k x at in let slots = quiet.slots in omega (arith, within, slots, long)) in
    ap (λ (z : Receiving). is_some (incoming_at z k).held.end) none
    ∙ closes_ended n s limits t fs k quiet sends.due low alive (first end h)
  where
    first : {a b : Option ℕ} → a ≡ b → (is_some b ≡ true) ⊎ (list_any (is_close k 1) p.frames ≡ true) → (is_some a ≡ true) ⊎ (list_any (is_close k 1) p.frames ≡ true)
    first same (inl e) = inl (ap is_some same ∙ e)
    first same (inr e) = inr e

-- each stream whose clean close was fulfilled has its end
abbrev pub AreEnded : Sending → Receiving → Type 0
AreEnded s r = (k : ℕ) (x : Outgoing) → outgoing_at s k ≡ Some x → x.clean_settled ≡ true → is_some (incoming_at r k).held.end ≡ true

either : (a b : Bool) → (a || b) ≡ true → (a ≡ true) ⊎ (b ≡ true)
either true b e = inl refl
either false b e = inr e

stream_ended : {c : Tally} (n : ℕ → ℕ) (s : Sending) (r : Receiving) (t : Sending) (u : Receiving) → IsQuiet n s → IsAhead n c s r → AreEnded s r → (x : Exchange n s r t u) → (k : ℕ) (y : Outgoing) (o : Option Outgoing) → outgoing_at s k ≡ o → outgoing_at t k ≡ Some y → y.clean_settled ≡ true
    → is_some (incoming_at u k).held.end ≡ true
stream_ended n s r t u quiet abreast ended x k y None at here settled =
    let gone = alike n (once_fulfilled s x.load) t (reply_frames (effect r x.packet x.load.amount) (frames_of x.packet)) x.writes k None (none_stays (landed (with_flight s x.load) x.load.sequence) k x.load.frames at) in
    absurd (let clash : ◌≡◌ {A = Option Outgoing} None (Some y) = sym gone ∙ here in cc)
stream_ended n s r t u quiet abreast ended x k y (Some z) at here settled =
    let one = all_own_acked k x.load.frames z in
    let after = alike n (once_fulfilled s x.load) t (reply_frames (effect r x.packet x.load.amount) (frames_of x.packet)) x.writes k (Some one) (all_acked_at (landed (with_flight s x.load) x.load.sequence) k x.load.frames z at) in
    let both : ◌≡◌ {A = Option Outgoing} (Some after.0) (Some y) = sym after.1 ∙ here in
    let same : after.0 ≡ y = cc in
    let closed : (z.clean_settled || list_any (is_close k 1) x.load.frames) ≡ true =
    sym (all_acked_closes k x.load.frames z) ∙ sym after.2.clean_settled ∙ ap (λ (v : Outgoing). v.clean_settled) same ∙ settled in
    ap is_some (x.reads.end k)
    ∙ subst (λ fs. is_some (incoming_at (after_all r x.load.amount fs) k).held.end ≡ true) (sym x.carries.frames)
    (load_ended n s x.limits x.load r k z quiet x.sends abreast at (by (either z.clean_settled (list_any (is_close k 1) x.load.frames) closed)))
  where
    by : (z.clean_settled ≡ true) ⊎ (list_any (is_close k 1) x.load.frames ≡ true) → (is_some (incoming_at r k).held.end ≡ true) ⊎ (list_any (is_close k 1) x.load.frames ≡ true)
    by (inl e) = inl (ended k z at e)
    by (inr e) = inr e

pub exchange_ended : {c : Tally} (n : ℕ → ℕ) (s : Sending) (r : Receiving) (t : Sending) (u : Receiving) → IsQuiet n s → IsAhead n c s r → AreEnded s r → Exchange n s r t u → AreEnded t u
exchange_ended n s r t u quiet abreast ended x k y here settled = stream_ended n s r t u quiet abreast ended x k y (outgoing_at s k) refl here settled
