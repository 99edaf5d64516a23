-- If the end of a stream is known, everything before it was read. Then a read returns the end.
use Rattle.std.proofs.Common.{◌≡◌, ℕ, ◌≤◌, Bool, true, false, cond, List, [], ◌∷◌, length, take, map, refl, sym, ap, subst, ◌∙◌, arith, Option, None, Some, IsSome, inl, inr, nat_eq, zero, suc}
use Rattle.std.specs.FinMap as fmap
use Rattle.std.specs.List.{AllByRecursion}
use Rattle.std.proofs.lemmas.Bool.{cases_lt}
use Rattle.std.proofs.lemmas.Bool.Decides.{nat_tests}
use Rattle.st_frames.specs.Frames.{Known, CloseFrame, StreamClose, max_packet}
use Rattle.st_reassembly.specs.Held.{Held, is_over}
use Rattle.st_reassembly.specs.Closing.{after_finish, past_all}
use Rattle.st_reassembly.specs.Run.{past, run}
use Rattle.st_reassembly.proofs.Runs.{past-within}
use Rattle.st_sender.specs.Sending.{Load, Sending}
use Rattle.st_sender.specs.Flights.{flown, highest_end}
use Rattle.st_sender.specs.Due.{IsDue}
use Rattle.st_sender.specs.Loads.{Sends, with_flight}
use Rattle.st_receiver.specs.Streams.{Incoming, Receiving, incoming_at}
use Rattle.st_receiver.specs.Data.{after_frames}
use Rattle.st_receiver.specs.Money.{after_money}
use Rattle.st_receiver.specs.Closes.{after_close, after_closes, with_close}
use Rattle.st_receiver.specs.Judged.{after_all}
use Rattle.st_receiver.specs.Reading.{End, Nothing, got, got_by, got_bytes, is_read}
use Rattle.st_world_quiet.specs.Quiet.{IsQuiet}
use Rattle.st_world_quiet.specs.Mirrored.{IsAhead, Tally}
use Rattle.st_world_quiet.proofs.Lowering.{clean_asked}
use Rattle.st_world_quiet.proofs.Keeping.{none_carried}
use Rattle.st_world_quiet.proofs.Receiving.{frames_opened, replaced_here}
use Rattle.st_world_quiet.proofs.Leaving.{kept_if, money_held, no_connection_closes, one_close_keeps}
use Rattle.st_world_quiet.proofs.Holding.{bytes_kept, frames_lack}
use Rattle.st_world_quiet.proofs.Staying.{frames_end}

abbrev pub Stops : Held → Type 0
Stops h = (m : ℕ) → h.end ≡ Some m → m ≡ h.read

-- nothing past the read count is buffered
abbrev pub IsEmptied : Held → Type 0
IsEmptied h = (q : ℕ) → h.read ≤ q → fmap.get h.bytes q ≡ None

gone : (g : Option ℕ) → g ≡ None → IsSome g → ⊥
gone None e some = absurd (cc)
gone (Some x) e some = absurd (cc)

past_read : (h : Held) → IsEmptied h → past_all h ≡ h.read
past_read h none =
    let few : past (fmap.keys h.bytes) ≤ h.read = past-within h h.read (λ q some. elim (cases_lt q h.read) [ inl low ↦ low | inr high ↦ absurd (gone (fmap.get h.bytes q) (none q high) some) ]) in
    omega (arith, few)

finish_stops : (h : Held) → Stops h → IsEmptied h → Stops (after_finish h)
finish_stops h stops none = by (is_over h)
  where
    by : (b : Bool) → Stops (cond b h (record h { end = Some (past_all h) }))
    by true = stops
    by false = λ m e. let is : past_all h ≡ m = cc in sym is ∙ past_read h none

one_stops : (n : ℕ → ℕ) (s : Sending) (limits : List Known) (r : Receiving) (f : Known) (k : ℕ) → IsQuiet n s → IsDue s limits f → Stops (incoming_at r k).held → IsEmptied (incoming_at r k).held → Stops (incoming_at (after_close r f) k).held
one_stops n s limits r (CloseFrame (StreamClose j code message)) k quiet due stops none = elim (replaced_here r j (with_close code (incoming_at r j)) k) [
  | inl is ↦ (let d = due.0 in
      let clean = (clean_asked n s j code d.stream quiet d.is_open d.asked).0 in
      let one = finish_stops (incoming_at r j).held (subst (λ i. Stops (incoming_at r i).held) is.0 stops) (subst (λ i. IsEmptied (incoming_at r i).held) is.0 none) in
      let closed : Stops (with_close code (incoming_at r j)).held = subst (λ c. Stops (with_close c (incoming_at r j)).held) (sym clean) one in
      subst (λ (y : Incoming). Stops y.held) (sym is.1) closed)
  | inr is ↦ subst (λ (y : Incoming). Stops y.held) (sym is) stops
]
one_stops n s limits r f k quiet due stops none = stops

read_kept : (h : Held) → (after_finish h).read ≡ h.read
read_kept h = kept_if (λ (z : Held). z.read) (is_over h) h _ refl

closes_stop : (n : ℕ → ℕ) (s : Sending) (limits : List Known) (r : Receiving) (fs : List Known) (k : ℕ) → IsQuiet n s → AllByRecursion (IsDue s limits) fs → Stops (incoming_at r k).held → IsEmptied (incoming_at r k).held → Stops (incoming_at (after_closes r fs) k).held
unfolding after_closes
closes_stop n s limits r [] k quiet due stops none = stops
closes_stop n s limits r (f ∷ fs) k quiet due stops none =
    closes_stop n s limits (after_close r f) fs k quiet due.1 (one_stops n s limits r f k quiet due.0 stops none)
    (λ q l. let read = one_close_keeps (λ h. h.read) read_kept n s limits r f k quiet due.0 in one_close_keeps (λ h. fmap.get h.bytes q) (bytes_kept q) n s limits r f k quiet due.0 ∙ none q (omega (arith, l, read)))

-- an outgoing packet that brings no byte past the read count
pub load_stops : {c : Tally} (n : ℕ → ℕ) (s : Sending) (limits : List Known) (p : Load) (r : Receiving) (k : ℕ) → IsQuiet n s → Sends s limits max_packet p (with_flight s p) → IsAhead n c s r → highest_end k (map flown p.frames) ≤ (incoming_at r k).held.read
    → Stops (incoming_at (after_all r p.amount p.frames) k).held
load_stops n s limits p r k quiet sends ahead low =
    let fs = p.frames in
    let t = after_money (after_frames r fs) p.amount fs in
    let same : (incoming_at t k).held ≡ (incoming_at (after_frames r fs) k).held = money_held (after_frames r fs) p.amount fs k in
    let read : (incoming_at (after_frames r fs) k).held.read ≡ (incoming_at r k).held.read = (frames_opened r fs).reads k in
    let stops : Stops (incoming_at (after_frames r fs) k).held = (λ m e. ahead.stops k m (sym (frames_end r fs k) ∙ e) ∙ sym read) in
    let none : IsEmptied (incoming_at (after_frames r fs) k).held = (λ q l. frames_lack r fs k q (ahead.emptied k q (omega (arith, l, read))) (none_carried k q fs (omega (arith, l, read, low)))) in
    subst (λ (u : Receiving). Stops (incoming_at u k).held) (sym (no_connection_closes s limits (after_closes t fs) fs sends.due))
    (closes_stop n s limits t fs k quiet sends.due (subst Stops (sym same) stops) (subst IsEmptied (sym same) none))

-- ---- a read gives the end

nothing_long : (xs : List ℕ) → length xs ≡ 0 → xs ≡ []
nothing_long [] e = refl
nothing_long (x ∷ xs) e = absurd (omega (arith, e))

take_nothing : (most : ℕ) → take {A = ℕ} most [] ≡ []
take_nothing zero = refl
take_nothing (suc n) = refl

pub gives_end : (h : Held) (m most : ℕ) → h.aborted ≡ None → length (run h) ≡ 0 → h.end ≡ Some m → m ≡ h.read → got most h ≡ End
gives_end h m most alive short end is =
    let here : nat_eq m h.read ≡ true = grind (arith, nat_tests) in
    ap (λ o. got_by o most h) alive
    ∙ ap (λ xs. got_bytes h (take most xs)) (nothing_long (run h) short)
    ∙ ap (got_bytes h) (take_nothing most)
    ∙ ap (λ o. cond (is_read h.read o) End Nothing) end
    ∙ ap (λ b. cond b End Nothing) here
