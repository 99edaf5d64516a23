-- The bytes of an outgoing packet are buffered without a gap, and one read returns them all.
use Rattle.std.proofs.Common.{◌≡◌, ℕ, ◌+◌, ◌-◌, ◌<◌, ◌≤◌, Bool, true, false, ◌&&◌, ◌||◌, cond, List, [], ◌∷◌, zero, suc, length, map, max, slice_get, slice_index, refl, sym, ap, subst, ◌∙◌, arith, Option, None, Some, inl, inr, nat_eq, nat_le, nat_lt}
use Rattle.std.specs.Option.{option_or}
use Rattle.std.specs.FinMap as fmap
use Rattle.std.specs.List.{list_any}
use Rattle.std.proofs.lemmas.Bool.{cases_eq, cases_lt}
use Rattle.std.proofs.lemmas.Bool.Decides.{nat_tests}
use Rattle.std.proofs.lemmas.List.{length-set}
use Rattle.st_streams.proofs.SlotLemmas.{slot_here, slot_within}
use Rattle.st_frames.specs.Frames.{Known, Packet, CloseFrame, StreamClose, StreamData, StreamMoney, max_packet}
use Rattle.st_reassembly.specs.Held.{Held, after_insert, is_wanted, is_over, piece_at}
use Rattle.st_reassembly.specs.Closing.{after_finish}
use Rattle.st_reassembly.specs.Run.{run}
use Rattle.st_reassembly.proofs.Pointwise.{joins_after}
use Rattle.st_reassembly.proofs.Runs.{is_run}
use Rattle.st_sender.specs.Sending.{Load, Outgoing, Sending, outgoing_at}
use Rattle.st_sender.specs.Flights.{carries, flown, highest_end}
use Rattle.st_sender.specs.Loads.{Sends, with_flight}
use Rattle.st_sender.specs.Filling.{Fills}
use Rattle.st_sender.specs.Answering.{landed}
use Rattle.st_receiver.specs.Streams.{Incoming, Receiving, fresh_incoming, incoming_at, incoming_or, with_incoming}
use Rattle.st_receiver.specs.Data.{after_frame, after_frames, with_data}
use Rattle.st_receiver.specs.Judged.{after_all, effect}
use Rattle.st_receiver.proofs.Applying.{either}
use Rattle.st_world_quiet.specs.Quiet.{IsQuiet}
use Rattle.st_world_quiet.specs.Rounds.{once_fulfilled}
use Rattle.st_world_quiet.specs.Mirrored.{IsAbreast, IsAhead, IsOn, IsPacketOf, Tally}
use Rattle.st_world_quiet.proofs.Acknowledging.{all_acked_at, all_acked_end, all_own_acked, is_other, is_same, none_stays}
use Rattle.st_world_quiet.proofs.Data.{due_is}
use Rattle.st_world_quiet.proofs.Keeping.{all_end_accepted, none_carried}
use Rattle.st_world_quiet.proofs.Counting.{none_ends}
use Rattle.st_world_quiet.proofs.Receiving.{replaced_at, replaced_here}
use Rattle.st_world_quiet.proofs.Leaving.{effect_held, effect_reads, kept_if}
use Rattle.st_world_quiet.proofs.Replies.{acked_is_sent}
use Rattle.st_world_quiet.proofs.Reading.{has_byte, run_is_all, wanted_on}

-- ---- a byte that a frame carries is buffered, and no other changes

abbrev pub bytes_at : Receiving → ℕ → ℕ → Option ℕ
bytes_at r k q = fmap.get (incoming_at r k).held.bytes q

piece_is : (o q : ℕ) (xs : List ℕ) → o ≤ q → piece_at o xs q ≡ slice_get xs (q - o)
piece_is o q xs l = let b : nat_le o q ≡ true = grind (arith, nat_tests) in rw b refl

piece_brings : (o q : ℕ) (xs : List ℕ) → (nat_le o q && nat_lt q (o + length xs)) ≡ true → (b : ℕ) × (piece_at o xs q ≡ Some b)
piece_brings o q xs c =
    let from : o ≤ q = first o q (nat_lt q (o + length xs)) c in
    let till : q < o + length xs = second (nat_le o q) q (o + length xs) c in
    let here = has_byte xs (q - o) (omega (arith, from, till)) in
    (here.0, piece_is o q xs from ∙ here.1)
  where
    first : (o q : ℕ) (b : Bool) → (nat_le o q && b) ≡ true → o ≤ q
    first o q b c = elim (cases_lt q o) [
      | inl low ↦ absurd (let no : nat_le o q ≡ false = grind (arith, nat_tests) in let is : (nat_le o q && b) ≡ false = rw no refl in cc)
      | inr high ↦ high
    ]

    second : (b : Bool) (q e : ℕ) → (b && nat_lt q e) ≡ true → q < e
    second true q e c = grind (arith, nat_tests)
    second false q e c = absurd (cc)

piece_brings_none : (o q : ℕ) (xs : List ℕ) → (nat_le o q && nat_lt q (o + length xs)) ≡ false → piece_at o xs q ≡ None
piece_brings_none o q xs c = elim (cases_lt q o) [
  | inl low ↦ (let no : nat_le o q ≡ false = grind (arith, nat_tests) in rw no refl)
  | inr from ↦ (let yes : nat_le o q ≡ true = grind (arith, nat_tests) in rw yes (past xs (q - o) (elim (cases_lt q (o + length xs)) [
    | inl within ↦ absurd (let also : nat_lt q (o + length xs) ≡ true = grind (arith, nat_tests) in let is : (nat_le o q && nat_lt q (o + length xs)) ≡ true = rw (yes, also) refl in cc)
    | inr high ↦ omega (arith, high, from)
  ])))
]
  where
    past : (xs : List ℕ) (i : ℕ) → length xs ≤ i → slice_get xs i ≡ None
    past [] i l = refl
    past (x ∷ xs) zero l = absurd (omega arith)
    past (x ∷ xs) (suc i) l = past xs i (omega arith)

either_some : (g h : Option ℕ) → (b : ℕ) × (h ≡ Some b) → (b : ℕ) × (option_or g h ≡ Some b)
either_some None h one = one
either_some (Some b) h one = (b, refl)

some_stays : (g h : Option ℕ) (b : ℕ) → g ≡ Some b → option_or g h ≡ Some b
some_stays None h b e = absurd (cc)
some_stays (Some c) h b e = e

none_if : (w : Bool) (g p : Option ℕ) → g ≡ None → p ≡ None → option_or g (cond w p None) ≡ None
none_if true g p a b = rw (a, b) refl
none_if false g p a b = rw a refl

-- the stream of the chunk
piece_held : (o q : ℕ) (xs : List ℕ) (s : Held) → IsOn s → s.read ≤ q → (nat_le o q && nat_lt q (o + length xs)) ≡ true → (b : ℕ) × (fmap.get (after_insert o xs s).bytes q ≡ Some b)
piece_held o q xs s on unread c =
    let brings = piece_brings o q xs c in
    let wanted = wanted_on q s on unread in
    let comes : cond (is_wanted s q) (piece_at o xs q) None ≡ Some brings.0 = rw wanted brings.1 in
    let got = either_some (fmap.get s.bytes q) (cond (is_wanted s q) (piece_at o xs q) None) (brings.0, comes) in
    (got.0, (joins_after o xs s).bytes q ∙ got.1)

abbrev HoldsByte : Receiving → (stream q : ℕ) → Type 0
HoldsByte r k q = (b : ℕ) × (bytes_at r k q ≡ Some b)

kept_byte : (r : Receiving) (j : ℕ) (y : Incoming) (k q : ℕ) → ((b : ℕ) → bytes_at r j q ≡ Some b → fmap.get y.held.bytes q ≡ Some b) → HoldsByte r k q → HoldsByte (with_incoming r j y) k q
kept_byte r j y k q keeps h = elim (replaced_here r j y k) [
  | inl is ↦ (h.0, ap (λ (x : Incoming). fmap.get x.held.bytes q) is.1 ∙ keeps h.0 (subst (λ i. bytes_at r i q ≡ Some h.0) is.0 h.1))
  | inr is ↦ (h.0, ap (λ (x : Incoming). fmap.get x.held.bytes q) is ∙ h.1)
]

frame_keeps : (r : Receiving) (f : Known) (k q : ℕ) → HoldsByte r k q → HoldsByte (after_frame r f) k q
frame_keeps r (StreamData j o xs) k q h =
    kept_byte r j (with_data o xs (incoming_at r j)) k q (λ b e. (joins_after o xs (incoming_at r j).held).bytes q ∙ some_stays (bytes_at r j q) _ b e) h
frame_keeps r (StreamMoney j m) k q h = kept_byte r j (incoming_at r j) k q (λ b e. e) h
frame_keeps r (CloseFrame (StreamClose j code message)) k q h = kept_byte r j (incoming_at r j) k q (λ b e. e) h
frame_keeps r f k q h = h

frames_keep : (r : Receiving) (fs : List Known) (k q : ℕ) → HoldsByte r k q → HoldsByte (after_frames r fs) k q
unfolding after_frames
frames_keep r [] k q h = h
frames_keep r (f ∷ fs) k q h = frames_keep (after_frame r f) fs k q (frame_keeps r f k q h)

-- ---- a frame that carries a byte

same_here : (e a b c : Bool) → e ≡ true → (e && a && b) ≡ c → (a && b) ≡ c
same_here true a b c t is = is
same_here false a b c t is = absurd (cc)

not_apart : (e a b : Bool) → e ≡ false → (e && a && b) ≡ true → ⊥
not_apart true a b t is = absurd (cc)
not_apart false a b t is = absurd (cc)

frame_holds : (r : Receiving) (f : Known) (k q : ℕ) → k < length r.streams → IsOn (incoming_at r k).held → (incoming_at r k).held.read ≤ q → carries k q (flown f) ≡ true → HoldsByte (after_frame r f) k q
frame_holds r (StreamData j o xs) k q within on unread c = elim (cases_eq j k) [
  | inl same ↦ (let y = with_data o xs (incoming_at r k) in
      let carried = same_here (nat_eq j k) (nat_le o q) (nat_lt q (o + length xs)) true (is_same j k same) c in
      let held = piece_held o q xs (incoming_at r k).held on unread carried in
      let at : incoming_at (with_incoming r k y) k ≡ y = ap (incoming_or (fresh_incoming (slice_index r.kept k))) (slot_here r.streams k y within) in
      subst (λ i. HoldsByte (with_incoming r i (with_data o xs (incoming_at r i))) k q) (sym same) (held.0, ap (λ (x : Incoming). fmap.get x.held.bytes q) at ∙ held.1))
  | inr apart ↦ absurd (not_apart (nat_eq j k) (nat_le o q) (nat_lt q (o + length xs)) (is_other j k apart) c)
]
frame_holds r f k q within on unread c = absurd (cc)

frame_lacks : (r : Receiving) (f : Known) (k q : ℕ) → bytes_at r k q ≡ None → carries k q (flown f) ≡ false → bytes_at (after_frame r f) k q ≡ None
frame_lacks r (StreamData j o xs) k q e c = elim (replaced_here r j (with_data o xs (incoming_at r j)) k) [
  | inl is ↦ (let mine = same_here (nat_eq j k) (nat_le o q) (nat_lt q (o + length xs)) false (is_same j k (sym is.0)) c in
      ap (λ (x : Incoming). fmap.get x.held.bytes q) is.1 ∙ (joins_after o xs (incoming_at r j).held).bytes q
      ∙ none_if (is_wanted (incoming_at r j).held q) (bytes_at r j q) (piece_at o xs q) (subst (λ i. bytes_at r i q ≡ None) is.0 e) (piece_brings_none o q xs mine))
  | inr is ↦ ap (λ (x : Incoming). fmap.get x.held.bytes q) is ∙ e
]
frame_lacks r (StreamMoney j m) k q e c = replaced_at (λ x. fmap.get x.held.bytes q) r j (incoming_at r j) k refl ∙ e
frame_lacks r (CloseFrame (StreamClose j code message)) k q e c = replaced_at (λ x. fmap.get x.held.bytes q) r j (incoming_at r j) k refl ∙ e
frame_lacks r f k q e c = e

pub frame_at : {A : Type 0} (g : Held → A) → ((o : ℕ) (xs : List ℕ) (h : Held) → g (after_insert o xs h) ≡ g h) → (r : Receiving) (f : Known) (k : ℕ) → g (incoming_at (after_frame r f) k).held ≡ g (incoming_at r k).held
frame_at g keeps r (StreamData j o xs) k = replaced_at (λ x. g x.held) r j (with_data o xs (incoming_at r j)) k (keeps o xs (incoming_at r j).held)
frame_at g keeps r (StreamMoney j m) k = replaced_at (λ x. g x.held) r j (incoming_at r j) k refl
frame_at g keeps r (CloseFrame (StreamClose j code message)) k = replaced_at (λ x. g x.held) r j (incoming_at r j) k refl
frame_at g keeps r f k = refl

frame_on : (r : Receiving) (f : Known) (k : ℕ) → IsOn (incoming_at r k).held → IsOn (incoming_at (after_frame r f) k).held
frame_on r f k on = record {
  end = frame_at (λ h. h.end) (λ o xs h. (joins_after o xs h).end) r f k ∙ on.end;
  aborted = frame_at (λ h. h.aborted) (λ o xs h. (joins_after o xs h).aborted) r f k ∙ on.aborted;
}

frame_slots : (r : Receiving) (f : Known) → length (after_frame r f).streams ≡ length r.streams
frame_slots r (StreamData j o xs) = length-set r.streams j (Some (with_data o xs (incoming_at r j)))
frame_slots r (StreamMoney j m) = length-set r.streams j (Some (incoming_at r j))
frame_slots r (CloseFrame (StreamClose j code message)) = length-set r.streams j (Some (incoming_at r j))
frame_slots r f = refl

frames_hold : (r : Receiving) (fs : List Known) (k q : ℕ) → k < length r.streams → IsOn (incoming_at r k).held → (incoming_at r k).held.read ≤ q → list_any (carries k q) (map flown fs) ≡ true → HoldsByte (after_frames r fs) k q
unfolding after_frames
frames_hold r [] k q within on unread c = absurd (cc)
frames_hold r (f ∷ fs) k q within on unread c = elim (either (carries k q (flown f)) (list_any (carries k q) (map flown fs)) c) [
  | inl here ↦ frames_keep (after_frame r f) fs k q (frame_holds r f k q within on unread here)
  | inr later ↦ (let slots = frame_slots r f in
      let read = frame_at (λ h. h.read) (λ o xs h. (joins_after o xs h).read) r f k in
      frames_hold (after_frame r f) fs k q (omega (arith, within, slots)) (frame_on r f k on) (omega (arith, unread, read)) later)
]

none_first : (a b : Bool) → (a || b) ≡ false → a ≡ false
none_first true b c = absurd (cc)
none_first false b c = refl

none_second : (a b : Bool) → (a || b) ≡ false → b ≡ false
none_second true b c = absurd (cc)
none_second false b c = c

pub frames_lack : (r : Receiving) (fs : List Known) (k q : ℕ) → bytes_at r k q ≡ None → list_any (carries k q) (map flown fs) ≡ false → bytes_at (after_frames r fs) k q ≡ None
unfolding after_frames
frames_lack r [] k q e c = e
frames_lack r (f ∷ fs) k q e c =
    frames_lack (after_frame r f) fs k q (frame_lacks r f k q e (none_first (carries k q (flown f)) (list_any (carries k q) (map flown fs)) c)) (none_second (carries k q (flown f)) (list_any (carries k q) (map flown fs)) c)

-- ---- an outgoing packet, at a receiver that is abreast, or ahead

pub bytes_kept : (q : ℕ) (h : Held) → fmap.get (after_finish h).bytes q ≡ fmap.get h.bytes q
bytes_kept q h = kept_if (λ (z : Held). fmap.get z.bytes q) (is_over h) h _ refl

-- past its read count a stream buffers what the `Load` carries, without a gap
load_row : {c : Tally} (n : ℕ → ℕ) (s : Sending) (limits : List Known) (p : Load) (r : Receiving) (k : ℕ) (x : Outgoing) (q : ℕ) → IsQuiet n s → Sends s limits max_packet p (with_flight s p) → Fills s limits max_packet p → IsAhead n c s r
    → outgoing_at s k ≡ Some x → (incoming_at r k).held.read ≤ q → q < highest_end k (map flown p.frames) → HoldsByte (after_all r p.amount p.frames) k q
load_row n s limits p r k x q quiet sends fills abreast e unread till =
    let w = quiet.streams k x e in
    let most = all_end_accepted n s limits k x p.frames quiet e sends.due in
    let total = w.total in
    let sent = acked_is_sent s k x quiet.alone e in
    let low = abreast.read k in
    let from : x.acked_end ≤ q = omega (arith, unread, low, sent) in
    let got = w.row q from (omega (arith, till, most)) in
    let carried = fills.gapless k q got.0 x e (due_is s k x q quiet.alone ∙ got.1) till in
    let within = slot_within s.streams k x e in
    let slots = quiet.slots in
    let mirrored = abreast.mirrored.slots in
    let on : IsOn (incoming_at r k).held = record { end = abreast.going k x e (omega (arith, from, till, most, total)); aborted = abreast.mirrored.alive k } in
    let holds = frames_hold r p.frames k q (omega (arith, within, slots, mirrored)) on unread carried in
    (holds.0, effect_held (λ h. fmap.get h.bytes q) (bytes_kept q) n s limits r p.amount p.frames k quiet sends.due ∙ holds.1)

pub load_past : {c : Tally} (n : ℕ → ℕ) (s : Sending) (limits : List Known) (p : Load) (r : Receiving) (k q : ℕ) → IsQuiet n s → Sends s limits max_packet p (with_flight s p) → IsAhead n c s r
    → (incoming_at r k).held.read ≤ q → highest_end k (map flown p.frames) ≤ q → bytes_at (after_all r p.amount p.frames) k q ≡ None
load_past n s limits p r k q quiet sends abreast unread past =
    effect_held (λ h. fmap.get h.bytes q) (bytes_kept q) n s limits r p.amount p.frames k quiet sends.due ∙ frames_lack r p.frames k q (abreast.emptied k q unread) (none_carried k q p.frames past)

-- so one read takes all of it
pub load_read : {c : Tally} (n : ℕ → ℕ) (s : Sending) (limits : List Known) (p : Load) (r : Receiving) (k : ℕ) (x : Outgoing) → IsQuiet n s → Sends s limits max_packet p (with_flight s p) → Fills s limits max_packet p → IsAhead n c s r → outgoing_at s k ≡ Some x
    → (incoming_at (after_all r p.amount p.frames) k).held.read + length (run (incoming_at (after_all r p.amount p.frames) k).held) ≡ max (incoming_at r k).held.read (highest_end k (map flown p.frames))
load_read n s limits p r k x quiet sends fills abreast e =
    let h = (incoming_at (after_all r p.amount p.frames) k).held in
    let read : h.read ≡ (incoming_at r k).held.read = effect_reads s limits r p.amount p.frames k sends.due in
    run_is_all h (run h) (max (incoming_at r k).held.read (highest_end k (map flown p.frames))) (is_run h) (omega (arith, read))
    (λ q from till. load_row n s limits p r k x q quiet sends fills abreast e (omega (arith, from, read)) (omega (arith, from, till, read)))
    (λ q past. load_past n s limits p r k q quiet sends abreast (omega (arith, past)) (omega (arith, past)))

-- whether the sender has the stream or not
pub any_read : {c : Tally} (n : ℕ → ℕ) (s : Sending) (limits : List Known) (p : Load) (r : Receiving) (k : ℕ) (o : Option Outgoing) → IsQuiet n s → Sends s limits max_packet p (with_flight s p) → Fills s limits max_packet p → IsAhead n c s r → outgoing_at s k ≡ o
    → (incoming_at (after_all r p.amount p.frames) k).held.read + length (run (incoming_at (after_all r p.amount p.frames) k).held) ≡ max (incoming_at r k).held.read (highest_end k (map flown p.frames))
any_read n s limits p r k (Some x) quiet sends fills abreast e = load_read n s limits p r k x quiet sends fills abreast e
any_read n s limits p r k None quiet sends fills abreast e =
    let h = (incoming_at (after_all r p.amount p.frames) k).held in
    let ends = none_ends s limits k p.frames sends.due e in
    let read : h.read ≡ (incoming_at r k).held.read = effect_reads s limits r p.amount p.frames k sends.due in
    let all = run_is_all h (run h) (incoming_at r k).held.read (is_run h) (omega (arith, read)) (λ q from till. absurd (omega (arith, from, till, read)))
    (λ q past. load_past n s limits p r k q quiet sends abreast past (omega (arith, ends))) in
    omega (arith, all, ends)

-- which is all that the sender then has acknowledged, if no answer was lost
pub packet_read : (n : ℕ → ℕ) (s : Sending) (limits : List Known) (p : Load) (q : Packet) (r : Receiving) (k : ℕ) (y : Outgoing) → IsQuiet n s → Sends s limits max_packet p (with_flight s p) → Fills s limits max_packet p → IsAbreast n s r → IsPacketOf p q
    → outgoing_at (once_fulfilled s p) k ≡ Some y → (incoming_at (effect r q p.amount) k).held.read + length (run (incoming_at (effect r q p.amount) k).held) ≡ y.acked_end
packet_read n s limits p q r k y quiet sends fills abreast is e = by (outgoing_at s k) refl
  where
    by : (o : Option Outgoing) → outgoing_at s k ≡ o → (incoming_at (effect r q p.amount) k).held.read + length (run (incoming_at (effect r q p.amount) k).held) ≡ y.acked_end
    by None was = absurd (let gone = none_stays (landed (with_flight s p) p.sequence) k p.frames was in let clash : ◌≡◌ {A = Option Outgoing} None (Some y) = sym gone ∙ e in cc)
    by (Some x) was =
        let at = all_acked_at (landed (with_flight s p) p.sequence) k p.frames x was in
        let both : ◌≡◌ {A = Option Outgoing} (Some (all_own_acked k p.frames x)) (Some y) = sym at ∙ e in
        let same : all_own_acked k p.frames x ≡ y = cc in
        let end : y.acked_end ≡ max x.acked_end (highest_end k (map flown p.frames)) = sym (ap (λ (z : Outgoing). z.acked_end) same) ∙ all_acked_end k p.frames x in
        subst (λ fs. (incoming_at (after_all r p.amount fs) k).held.read + length (run (incoming_at (after_all r p.amount fs) k).held) ≡ y.acked_end) (sym is.frames)
        (load_read n s limits p r k x quiet sends fills abreast was ∙ ap (λ a. max a (highest_end k (map flown p.frames))) (abreast.level refl k ∙ acked_is_sent s k x quiet.alone was) ∙ sym end)
