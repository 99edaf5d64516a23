-- A Send that is filled and fulfilled lowers what is left.
use Rattle.std.proofs.Common.{◌≡◌, ℕ, ◌+◌, ◌-◌, ◌/◌, ◌<◌, ◌≤◌, cond, List, [], ◌∷◌, length, slice_get, refl, sym, ap, ◌∙◌, arith, Option, None, Some, ◌⊎◌, inl, inr, map}
use Rattle.std.specs.FinMap as fmap
use Rattle.std.proofs.lemmas.Bool.{cases_lt}
use Rattle.st_frames.specs.Frames.{Known, StreamData}
use Rattle.st_sender.specs.Sending.{Load, Outgoing, Sending, outgoing_at}
use Rattle.st_sender.specs.Flights.{any_frame, carries, due_at, flight_of, flown, highest_end}
use Rattle.st_sender.specs.Loads.{with_flight}
use Rattle.st_sender.specs.Filling.{CanFly, Fills, IsFull}
use Rattle.st_sender.specs.Answering.{after_all_acked, after_fulfilled, landed}
use Rattle.st_world_quiet.specs.Quiet.{IsQuiet}
use Rattle.st_world_quiet.specs.Left.{all_frames_left, frames_left}
use Rattle.st_streams.proofs.SlotLemmas.{slot_within}
use Rattle.st_world_quiet.proofs.Sums.{sum_below, sum_less}
use Rattle.st_world_quiet.proofs.Acknowledging.{all_acked_at, all_acked_end, all_own_acked, none_stays}
use Rattle.st_world_quiet.proofs.Ends.{end_here, end_within, ends_more}

-- nothing flies: what is not acknowledged is due
pub due_is : (s : Sending) (k : ℕ) (x : Outgoing) (q : ℕ) → s.flights ≡ [] → due_at s k x q ≡ fmap.get x.unacked q
due_is s k x q e = ap (λ ps. cond (any_frame (carries k q) ps) None (fmap.get x.unacked q)) e

pub can_fly : (n : ℕ → ℕ) (s : Sending) (k : ℕ) (x : Outgoing) (q : ℕ) → IsQuiet n s → outgoing_at s k ≡ Some x
    → x.acked_end ≤ q → q < x.accepted → q < x.acked_end + 16000 → CanFly s k q
can_fly n s k x q quiet e from till near =
    let waits = quiet.streams k x e in
    let got = waits.row q from till in
    record {
      stream = x;
      is_open = e;
      byte = got.0;
      due = due_is s k x q quiet.alone ∙ got.1;
      window = (let w = waits.window in omega (arith, w));
      connection = (let m = ends_more s k q (got.0 ∷ []) x e in let c = quiet.connection in omega (arith, m, c));
    }

-- the full frame of a stream takes it at least 16,000 bytes on, or to its accepted end
reaches : (n : ℕ → ℕ) (s : Sending) (l offset : ℕ) (xs : List ℕ) (x : Outgoing) → IsQuiet n s → outgoing_at s l ≡ Some x → IsFull s l offset xs
    → (x.acked_end < x.accepted) × ((x.acked_end + 16000 ≤ offset + length xs) ⊎ (x.accepted ≤ offset + length xs))
reaches n s l offset xs x quiet e full =
    let waits = quiet.streams l x e in
    let opens : ◌≡◌ {A = Option Outgoing} (Some x) (Some full.due.stream) = sym e ∙ full.due.is_open in
    let same : x ≡ full.due.stream = cc in
    let some = full.due.some in
    let head = first xs some in
    let due : due_at s l x (offset + 0) ≡ Some head.0 = rw same (full.due.bytes 0 head.0 head.1) in
    let place : offset + 0 ≡ offset = omega arith in
    let got : fmap.get x.unacked offset ≡ Some head.0 = sym (due_is s l x offset quiet.alone) ∙ (rw place at due) in
    let from : x.acked_end ≤ offset = elim (cases_lt offset x.acked_end) [
      | inl low ↦ absurd (let none = waits.front offset low in cc)
      | inr high ↦ high
    ] in
    let till : offset < x.accepted = elim (cases_lt offset x.accepted) [
      | inl low ↦ low
      | inr high ↦ absurd (let none = waits.past offset high in cc)
    ] in
    let lowest : offset ≤ x.acked_end = elim (cases_lt x.acked_end offset) [
      | inl low ↦ absurd (let none = full.lowest x x.acked_end e low in let there = waits.row x.acked_end (omega arith) (omega arith) in
          let clash = sym (due_is s l x x.acked_end quiet.alone ∙ there.1) ∙ none in cc)
      | inr high ↦ high
    ] in (
      omega arith,
      elim full.full [
        | inl long ↦ inl (omega arith)
        | inr stops ↦ elim (cases_lt (offset + length xs) x.accepted) [
          | inl more ↦ elim (cases_lt (offset + length xs) (x.acked_end + 16000)) [
            | inl near ↦ absurd (stops (can_fly n s l x (offset + length xs) quiet e (omega arith) more near))
            | inr far ↦ inl far
          ]
          | inr all ↦ inr all
        ]
      ],
    )
  where
    first : (xs : List ℕ) → 0 < length xs → (b : ℕ) × (slice_get xs 0 ≡ Some b)
    first [] l = absurd (omega arith)
    first (b ∷ xs) l = (b, refl)

-- ---- the measure

left_after : (n : ℕ) (s : Sending) (k : ℕ) (fs : List Known) (y : Option Outgoing) → outgoing_at s k ≡ y
    → frames_left n (outgoing_at (after_all_acked s (map flown fs)) k) ≤ frames_left n y
left_after n s k fs None e = let same = none_stays s k fs e in let is : frames_left n (outgoing_at (after_all_acked s (map flown fs)) k) ≡ 0 = ap (frames_left n) same in omega (arith, is)
left_after n s k fs (Some x) e =
    let same = all_acked_at s k fs x e in
    let is : frames_left n (outgoing_at (after_all_acked s (map flown fs)) k) ≡ (n - (all_own_acked k fs x).acked_end + 15999) / 16000 = ap (frames_left n) same in
    let end = all_acked_end k fs x in
    omega (arith, is, end)

pub frames_below : (n : ℕ → ℕ) (s : Sending) (fs : List Known) → all_frames_left n (after_all_acked s (map flown fs)) ≤ all_frames_left n s
frames_below n s fs = sum_below (λ j. frames_left (n j) (outgoing_at (after_all_acked s (map flown fs)) j)) (λ j. frames_left (n j) (outgoing_at s j)) (λ j. left_after (n j) s j fs (outgoing_at s j) refl) 0 65

pub data_lowers : (n : ℕ → ℕ) (s : Sending) (limits : List Known) (room : ℕ) (p : Load) (k : ℕ) (x : Outgoing) → IsQuiet n s → Fills s limits room p
    → outgoing_at s k ≡ Some x → x.acked_end < x.accepted → all_frames_left n (after_fulfilled (with_flight s p) (flight_of p)) + 1 ≤ all_frames_left n s
data_lowers n s limits room p k x quiet fills e waits =
    let flies = can_fly n s k x x.acked_end quiet e (omega arith) waits (omega arith) in
    let full = fills.bytes k x.acked_end flies in
    let y = full.4.due.stream in
    let opens : outgoing_at s full.0 ≡ Some y = full.4.due.is_open in
    let w = quiet.streams full.0 y opens in
    let goes = reaches n s full.0 full.1 full.2 y quiet opens full.4 in
    let t = landed (with_flight s p) p.sequence in
    let same : outgoing_at (after_all_acked t (map flown p.frames)) full.0 ≡ Some (all_own_acked full.0 p.frames y) = all_acked_at t full.0 p.frames y opens in
    let is : frames_left (n full.0) (outgoing_at (after_all_acked t (map flown p.frames)) full.0) ≡ (n full.0 - (all_own_acked full.0 p.frames y).acked_end + 15999) / 16000 = ap (frames_left (n full.0)) same in
    let was : frames_left (n full.0) (outgoing_at s full.0) ≡ (n full.0 - y.acked_end + 15999) / 16000 = ap (frames_left (n full.0)) opens in
    let end = all_acked_end full.0 p.frames y in
    let far : full.1 + length full.2 ≤ highest_end full.0 (map flown p.frames) = let a = end_within full.0 p.frames (StreamData full.0 full.1 full.2) full.3 in let b = end_here full.0 full.1 full.2 in omega (arith, a, b) in
    let less : frames_left (n full.0) (outgoing_at (after_all_acked t (map flown p.frames)) full.0) + 1 ≤ frames_left (n full.0) (outgoing_at s full.0) =
    lowered (n full.0) y.acked_end y.accepted (all_own_acked full.0 p.frames y).acked_end (full.1 + length full.2) _ _ w.total w.written goes.0 goes.1 (omega (arith, end, far)) is was in
    sum_less
    (λ j. frames_left (n j) (outgoing_at (after_all_acked t (map flown p.frames)) j))
    (λ j. frames_left (n j) (outgoing_at s j))
    full.0
    (λ j. left_after (n j) t j p.frames (outgoing_at s j) refl)
    less
    0 65 (omega arith) (let within = slot_within s.streams full.0 y opens in let l = quiet.slots in omega (arith, within, l))
  where
    lowered : (n low accepted high reach new old : ℕ) → accepted ≤ n → (accepted ≡ n) ⊎ (low + 16000 ≤ accepted) → low < accepted → (low + 16000 ≤ reach) ⊎ (accepted ≤ reach) → reach ≤ high
        → new ≡ (n - high + 15999) / 16000 → old ≡ (n - low + 15999) / 16000 → new + 1 ≤ old
    lowered n low accepted high reach new old total written some goes far is was = omega arith
