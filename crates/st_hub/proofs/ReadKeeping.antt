-- What an end keeps of what was read, if nothing is read.
use Rattle.std.proofs.Common.{◌≡◌, ℕ, zero, suc, ◌+◌, Bool, true, false, cond, List, [], ◌∷◌, length, refl, ap, ◌∙◌, arith, Option, None, Some, inl, inr, nat_eq, nat_lt, length-set}
use Rattle.std.proofs.lemmas.List.{length-map}
use Rattle.std.specs.FinMap as fmap
use Rattle.st_frames.specs.Frames.{Known, CloseFrame, ConnectionClose, OtherFrame, LimitFrame, BlockedFrame, StreamClose, StreamMoney, StreamData, Packet, frames_of}
use Rattle.st_frames.specs.Told.{shares}
use Rattle.st_streams.specs.Slots.{Slots, slot}
use Rattle.st_streams.proofs.SlotLemmas.{slot_cases, slot_map}
use Rattle.st_reassembly.specs.Held.{Held, is_over, with_byte, after_insert}
use Rattle.st_reassembly.specs.Closing.{past_all, after_finish, after_abort}
use Rattle.st_receiver.specs.Streams.{Receiving, Incoming, incoming_at, with_incoming, delivered_of, is_open, with_receive_max}
use Rattle.st_receiver.specs.Data.{with_data, after_frame, after_frames}
use Rattle.st_receiver.specs.Money.{parts, with_credit, with_credits, after_money}
use Rattle.st_receiver.specs.Closes.{with_close, after_close, after_closes, with_abort, after_connection_close, after_connection_closes}
use Rattle.st_receiver.specs.Judged.{effect}
use Rattle.st_hub.specs.Keeping.{KeepsRead}

pub read_same : (r : Receiving) → KeepsRead 0 r r
read_same r = record { width = refl; each = λ k. refl; credit = omega arith; parity = refl }

-- what changes nothing of the credit
read_then : (n : ℕ) (r s t : Receiving) → KeepsRead n r s → KeepsRead 0 s t → KeepsRead n r t
read_then n r s t f g = record { width = g.width ∙ f.width; each = λ k. g.each k ∙ f.each k; credit = omega (arith, f.credit, g.credit); parity = g.parity ∙ f.parity }

read_at : (r : Receiving) (k : ℕ) (o : Option Incoming) → slot r.streams k ≡ o → (incoming_at r k).held.read ≡ delivered_of (slot r.streams k)
read_at r k None e = rw e refl
read_at r k (Some x) e = rw e refl

-- a stream replaced
pub read_with : (r : Receiving) (k : ℕ) (x : Incoming) → x.held.read ≡ (incoming_at r k).held.read → KeepsRead 0 r (with_incoming r k x)
read_with r k x same = record {
  width = length-set r.streams k (Some x);
  each = λ j. elim (slot_cases r.streams k x j) [
    | inl h ↦ rw h.0 (ap delivered_of h.1 ∙ same ∙ read_at r k (slot r.streams k) refl)
    | inr h ↦ ap delivered_of h
  ];
  credit = omega arith;
  parity = refl;
}

byte_if : (b : Bool) (h : Held) (m : _) → (cond b (record h { bytes = m }) h).read ≡ h.read
byte_if true h m = refl
byte_if false h m = refl

insert_read : (xs : List ℕ) (o : ℕ) (h : Held) → (after_insert o xs h).read ≡ h.read
unfolding after_insert
insert_read [] o h = refl
insert_read (x ∷ xs) o h = insert_read xs (o + 1) (with_byte o x h) ∙ byte_if _ h (fmap.insert h.bytes o x)

held_if : (b : Bool) (g h : Held) (n : ℕ) → g.read ≡ n → h.read ≡ n → (cond b g h).read ≡ n
held_if true g h n x y = x
held_if false g h n x y = y

finish_read : (h : Held) → (after_finish h).read ≡ h.read
finish_read h = held_if (is_over h) h (record h { end = Some (past_all h) }) h.read refl refl

abort_read : (h : Held) (code : ℕ) → (after_abort code h).read ≡ h.read
abort_read h code = held_if (is_over h) h (record h { bytes = fmap.empty; aborted = Some code }) h.read refl refl

frame_read : (r : Receiving) (f : Known) → KeepsRead 0 r (after_frame r f)
frame_read r (StreamData k o xs) = read_with r k (with_data o xs (incoming_at r k)) (insert_read xs o (incoming_at r k).held)
frame_read r (StreamMoney k n) = read_with r k (incoming_at r k) refl
frame_read r (CloseFrame (StreamClose k code message)) = read_with r k (incoming_at r k) refl
frame_read r (CloseFrame (ConnectionClose code message)) = read_same r
frame_read r (OtherFrame o) = read_same r
frame_read r (LimitFrame l) = read_same r
frame_read r (BlockedFrame b) = read_same r

frames_read : (fs : List Known) (r : Receiving) → KeepsRead 0 r (after_frames r fs)
unfolding after_frames
frames_read [] r = read_same r
frames_read (f ∷ fs) r = read_then 0 r (after_frame r f) (after_frames (after_frame r f) fs) (frame_read r f) (frames_read fs (after_frame r f))

-- ---- money

credit_read : (x : Option Incoming) (p : ℕ) → delivered_of (with_credit x p) ≡ delivered_of x
credit_read None p = refl
credit_read (Some x) p = refl

credits_read : (xs : Slots Incoming) (ps : List ℕ) (k : ℕ) → delivered_of (slot (with_credits xs ps) k) ≡ delivered_of (slot xs k)
credits_read [] ps k = refl
credits_read (x ∷ xs) [] k = refl
credits_read (x ∷ xs) (p ∷ ps) zero = credit_read x p
credits_read (x ∷ xs) (p ∷ ps) (suc k) = credits_read xs ps k

credits_width : (xs : Slots Incoming) (ps : List ℕ) → length (with_credits xs ps) ≡ length xs
credits_width [] ps = refl
credits_width (x ∷ xs) [] = refl
credits_width (x ∷ xs) (p ∷ ps) = ap suc (credits_width xs ps)

width_if : (b : Bool) (xs : Slots Incoming) (ps : List ℕ) → length (cond b (with_credits xs ps) xs) ≡ length xs
width_if true xs ps = credits_width xs ps
width_if false xs ps = refl

read_if : (b : Bool) (xs : Slots Incoming) (ps : List ℕ) (k : ℕ) → delivered_of (slot (cond b (with_credits xs ps) xs) k) ≡ delivered_of (slot xs k)
read_if true xs ps k = credits_read xs ps k
read_if false xs ps k = refl

money_read : (r : Receiving) (amount : ℕ) (fs : List Known) → KeepsRead amount r (after_money r amount fs)
money_read r amount fs = record {
  width = width_if (nat_lt 0 amount) r.streams (parts amount (shares fs));
  each = λ k. read_if (nat_lt 0 amount) r.streams (parts amount (shares fs)) k;
  credit = refl;
  parity = refl;
}

-- ---- closes

close_if : (b : Bool) (h : Held) (code : ℕ) → (cond b (after_finish h) (after_abort code h)).read ≡ h.read
close_if true h code = finish_read h
close_if false h code = abort_read h code

close_read : (r : Receiving) (f : Known) → KeepsRead 0 r (after_close r f)
close_read r (CloseFrame (StreamClose k code message)) = read_with r k (with_close code (incoming_at r k)) (close_if (nat_eq code 1) (incoming_at r k).held code)
close_read r (StreamData k o xs) = read_same r
close_read r (StreamMoney k n) = read_same r
close_read r (CloseFrame (ConnectionClose code message)) = read_same r
close_read r (OtherFrame o) = read_same r
close_read r (LimitFrame l) = read_same r
close_read r (BlockedFrame b) = read_same r

closes_read : (fs : List Known) (r : Receiving) → KeepsRead 0 r (after_closes r fs)
unfolding after_closes
closes_read [] r = read_same r
closes_read (f ∷ fs) r = read_then 0 r (after_close r f) (after_closes (after_close r f) fs) (close_read r f) (closes_read fs (after_close r f))

aborted_read : (code : ℕ) (o : Option Incoming) → delivered_of (with_abort code o) ≡ delivered_of o
aborted_read code None = refl
aborted_read code (Some x) = abort_read x.held code

ended_read : (r : Receiving) (f : Known) → KeepsRead 0 r (after_connection_close r f)
ended_read r (CloseFrame (ConnectionClose code message)) = record {
  width = length-map r.streams (with_abort code);
  each = λ k. ap delivered_of (slot_map (with_abort code) refl r.streams k) ∙ aborted_read code (slot r.streams k);
  credit = omega arith;
  parity = refl;
}
ended_read r (CloseFrame (StreamClose k code message)) = read_same r
ended_read r (StreamData k o xs) = read_same r
ended_read r (StreamMoney k n) = read_same r
ended_read r (OtherFrame o) = read_same r
ended_read r (LimitFrame l) = read_same r
ended_read r (BlockedFrame b) = read_same r

all_ended_read : (fs : List Known) (r : Receiving) → KeepsRead 0 r (after_connection_closes r fs)
unfolding after_connection_closes
all_ended_read [] r = read_same r
all_ended_read (f ∷ fs) r = read_then 0 r (after_connection_close r f) (after_connection_closes (after_connection_close r f) fs) (ended_read r f) (all_ended_read fs (after_connection_close r f))

-- a packet that takes effect
pub effect_read : (r : Receiving) (p : Packet) (amount : ℕ) → KeepsRead amount r (effect r p amount)
effect_read r p amount =
    let fs = frames_of p in
    let s = after_frames r fs in
    let t = after_money s amount fs in
    let u = after_closes t fs in
    let v = after_connection_closes u fs in
    let a = frames_read fs r in
    let b = money_read s amount fs in
    let c = closes_read fs t in
    let d = all_ended_read fs u in
    record {
      width = d.width ∙ c.width ∙ b.width ∙ a.width;
      each = λ k. d.each k ∙ c.each k ∙ b.each k ∙ a.each k;
      credit = omega (arith, a.credit, b.credit, c.credit, d.credit);
      parity = d.parity ∙ c.parity ∙ b.parity ∙ a.parity;
    }

-- a receive max that rises, of a stream that is open or is to open
max_if : (b : Bool) (r s t : Receiving) → KeepsRead 0 r s → KeepsRead 0 r t → KeepsRead 0 r (cond b s t)
max_if true r s t f g = f
max_if false r s t f g = g

pub max_read : (r : Receiving) (k amount : ℕ) → KeepsRead 0 r (with_receive_max r k amount)
max_read r k amount = max_if (is_open r k) r _ _ (read_with r k _ refl) (record { width = refl; each = λ j. refl; credit = omega arith; parity = refl })
