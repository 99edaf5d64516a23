-- What each step of a sender keeps of the bytes that were written.
use Rattle.std.proofs.Common.{◌≡◌, ℕ, zero, suc, ◌+◌, Bool, true, false, cond, List, [], ◌∷◌, ◌++◌, length, take, get_or, slice_get, refl, sym, ap, subst, ◌∙◌, arith, Option, None, Some, inl, inr, nat_eq, length-append}
use Rattle.std.specs.List.{AllByRecursion}
use Rattle.std.specs.Ordering.{nat_cmp}
use Rattle.std.specs.FinMap as fmap
use Rattle.std.proofs.lemmas.Option.{slice_get_within}
use Rattle.st_frames.specs.Frames.{Known, CloseFrame, ConnectionClose, OtherFrame, LimitFrame, ConnectionMaxData, BlockedFrame, ConnectionDataBlocked, StreamClose, StreamMoney, StreamMaxMoney, StreamMoneyBlocked, StreamData, StreamMaxData, StreamDataBlocked}
use Rattle.st_reassembly.specs.Held.{Held, after_read}
use Rattle.st_reassembly.specs.Run.{IsRun}
use Rattle.st_sender.specs.Sending.{Sending, Outgoing, SentFrame, Data, Whole, outgoing_at, with_outgoing, changed_at, changed}
use Rattle.st_streams.specs.Table.{put_bytes}
use Rattle.st_sender.specs.Accepting.{after_write}
use Rattle.st_sender.specs.Flights.{any_frame, carries}
use Rattle.st_sender.specs.Due.{IsDue, IsDueData}
use Rattle.st_sender.specs.Answering.{acked_data, acked_close, after_whole_acked, after_acked, after_all_acked, after_told, after_all_told}
use Rattle.st_world.proofs.Maps.{got_insert, got_retain, Within, got_append, got_after, prefix_append, prefix_more, within_take}
use Rattle.st_streams.proofs.SlotLemmas.{slot_cases}
use Rattle.st_world.proofs.DataReceived.{held-read, read-read, StreamFine, FrameFine, FramesFine}

-- one outgoing stream: what is kept for it was written there, at its offset
abbrev pub OutFine : List ℕ → Option Outgoing → Type 0
OutFine w None = w ≡ []
OutFine w (Some x) = (x.accepted ≡ length w) × ((o b : ℕ) → fmap.get x.unacked o ≡ Some b → slice_get w o ≡ Some b)

abbrev pub SendFine : (ℕ → List ℕ) → Sending → Type 0
SendFine w s = (k : ℕ) → OutFine (w k) (outgoing_at s k)

-- a stream replaced
pub send-with : (w : ℕ → List ℕ) (s : Sending) (k : ℕ) (x : Outgoing) → SendFine w s → OutFine (w k) (Some x) → SendFine w (with_outgoing s k x)
send-with w s k x fine here j =
    elim (slot_cases s.streams k x j) [
      | inl h ↦ rw h.0 (let P : Option Outgoing → Type 0 = λ y. OutFine (w k) y in subst P (sym h.1) here)
      | inr h ↦ let P : Option Outgoing → Type 0 = λ y. OutFine (w j) y in subst P (sym h) (fine j)
    ]

send_changed_at : (w : ℕ → List ℕ) (s : Sending) (k : ℕ) (f : Outgoing → Outgoing) (y : Option Outgoing) → outgoing_at s k ≡ y
    → ((x : Outgoing) → OutFine (w k) (Some x) → OutFine (w k) (Some (f x))) → SendFine w s → SendFine w (changed_at s k f y)
send_changed_at w s k f None e keeps fine = fine
send_changed_at w s k f (Some x) e keeps fine =
    send-with w s k (f x) fine (keeps x (let P : Option Outgoing → Type 0 = λ y. OutFine (w k) y in subst P e (fine k)))

pub send-changed : (w : ℕ → List ℕ) (s : Sending) (k : ℕ) (f : Outgoing → Outgoing) → ((x : Outgoing) → OutFine (w k) (Some x) → OutFine (w k) (Some (f x))) → SendFine w s → SendFine w (changed s k f)
send-changed w s k f keeps fine = send_changed_at w s k f (outgoing_at s k) refl keeps fine

close_kept : (b : Bool) (w : ℕ → List ℕ) (k : ℕ) (x : Outgoing) → OutFine (w k) (Some x) → OutFine (w k) (Some (cond b (record x { clean_settled = true }) (record x { abort_settled = true })))
close_kept true w k x h = h
close_kept false w k x h = h

whole_acked : (w : ℕ → List ℕ) (s : Sending) (f : Known) → SendFine w s → SendFine w (after_whole_acked s f)
whole_acked w s (StreamData k o xs) fine = fine
whole_acked w s (StreamMoney k n) fine = send-changed w s k _ (λ x h. h) fine
whole_acked w s (CloseFrame (StreamClose k code message)) fine = send-changed w s k (acked_close code) (λ x h. close_kept (nat_eq code 1) w k x h) fine
whole_acked w s (BlockedFrame (StreamDataBlocked k n)) fine = send-changed w s k _ (λ x h. h) fine
whole_acked w s (BlockedFrame (StreamMoneyBlocked k n t)) fine = send-changed w s k _ (λ x h. h) fine
whole_acked w s (BlockedFrame (ConnectionDataBlocked n)) fine = fine
whole_acked w s (LimitFrame (ConnectionMaxData n)) fine = fine
whole_acked w s (LimitFrame (StreamMaxData j n)) fine = fine
whole_acked w s (LimitFrame (StreamMaxMoney j n u)) fine = fine
whole_acked w s (CloseFrame (ConnectionClose code message)) fine = fine
whole_acked w s (OtherFrame o) fine = fine

acked : (w : ℕ → List ℕ) (s : Sending) (f : SentFrame) → SendFine w s → SendFine w (after_acked s f)
acked w s (Data k o n) fine = send-changed w s k (acked_data o n) (λ x h. (h.0, λ q b e. h.1 q b (got_retain x.unacked _ q b e))) fine
acked w s (Whole f) fine = whole_acked w s f fine

pub send-acked : (w : ℕ → List ℕ) (fs : List SentFrame) (s : Sending) → SendFine w s → SendFine w (after_all_acked s fs)
send-acked w [] s fine = fine
send-acked w (f ∷ fs) s fine = send-acked w fs (after_acked s f) (acked w s f fine)

told_fine : (w : ℕ → List ℕ) (s : Sending) (f : Known) → SendFine w s → SendFine w (after_told s f)
told_fine w s (LimitFrame (StreamMaxData k n)) fine = send-changed w s k _ (λ x h. h) fine
told_fine w s (LimitFrame (StreamMaxMoney k n t)) fine = send-changed w s k _ (λ x h. h) fine
told_fine w s (LimitFrame (ConnectionMaxData n)) fine = fine
told_fine w s (StreamData k o xs) fine = fine
told_fine w s (StreamMoney k n) fine = fine
told_fine w s (CloseFrame c) fine = fine
told_fine w s (BlockedFrame b) fine = fine
told_fine w s (OtherFrame o) fine = fine

pub send-told : (w : ℕ → List ℕ) (fs : List Known) (s : Sending) → SendFine w s → SendFine w (after_all_told s fs)
send-told w [] s fine = fine
send-told w (f ∷ fs) s fine = send-told w fs (after_told s f) (told_fine w s f fine)

-- each frame that is due carries what was written there
due_held : (b : Bool) (o : Option ℕ) (x : ℕ) → cond b None o ≡ Some x → o ≡ Some x
due_held true o x e = absurd (cc)
due_held false o x e = e

data_due : (w : ℕ → List ℕ) (s : Sending) (k o : ℕ) (xs : List ℕ) → SendFine w s → IsDueData s k o xs → Within (w k) o xs
data_due w s k o xs fine due i b e =
    let P : Option Outgoing → Type 0 = λ y. OutFine (w k) y in
    (subst P due.is_open (fine k)).1 (o + i) b (due_held (any_frame (carries k (o + i)) s.flights) (fmap.get due.stream.unacked (o + i)) b (due.bytes i b e))

frame_due : (w : ℕ → List ℕ) (s : Sending) (limits : List Known) (f : Known) → SendFine w s → IsDue s limits f → FrameFine w f
frame_due w s limits (StreamData k o xs) fine due = data_due w s k o xs fine due
frame_due w s limits (StreamMoney k n) fine due = tt
frame_due w s limits (CloseFrame c) fine due = tt
frame_due w s limits (BlockedFrame b) fine due = tt
frame_due w s limits (LimitFrame l) fine due = tt
frame_due w s limits (OtherFrame o) fine due = tt

pub frames_due : (w : ℕ → List ℕ) (s : Sending) (limits : List Known) (fs : List Known) → SendFine w s → AllByRecursion (IsDue s limits) fs → FramesFine w fs
frames_due w s limits [] fine due = tt
frames_due w s limits (f ∷ fs) fine due = (frame_due w s limits f fine due.0, frames_due w s limits fs fine due.1)

-- a write, after which the written list has these bytes at its end
put_fine : (w : List ℕ) (xs : List ℕ) (m : fmap.FinMap nat_cmp ℕ) (o : ℕ) → ((q b : ℕ) → fmap.get m q ≡ Some b → slice_get w q ≡ Some b) → Within w o xs
    → (q b : ℕ) → fmap.get (put_bytes m o xs) q ≡ Some b → slice_get w q ≡ Some b
unfolding put_bytes
put_fine w [] m o fine within q b e = fine q b e
put_fine w (x ∷ xs) m o fine within q b e =
    put_fine w xs (fmap.insert m o x) (o + 1)
    (λ q b e. elim (got_insert m o x q b e) [
      | inl p ↦ let same : q ≡ o = p.0 in let value : x ≡ b = p.1 in rw (same, ← value) (let z : o + 0 ≡ o = omega arith in rw z at (within zero x refl))
      | inr old ↦ fine q b old
    ])
    (λ i b e. let s : o + 1 + i ≡ o + suc i = omega arith in rw s (within (suc i) b e))
    q b e

pub out-write : (w xs : List ℕ) (x : Outgoing) → OutFine w (Some x) → OutFine (w ++ xs) (Some (after_write xs x))
out-write w xs x fine = (
  ap (λ n. n + length xs) fine.0 ∙ sym (length-append w xs),
  put_fine (w ++ xs) xs x.unacked x.accepted (λ q b e. got_append w xs q b (fine.1 q b e))
      (λ i b e. rw fine.0 (got_after w xs i ∙ e)),
)

-- the receiver of a stream on which more was written
pub stream-write : (w xs r : List ℕ) (h : Held) → StreamFine w r h → StreamFine (w ++ xs) r h
stream-write w xs r h fine = record {
  held = λ o b e. got_append w xs o b (fine.held o b e);
  count = fine.count;
  is_prefix = prefix_append r w xs fine.is_prefix;
}

index_get : (xs : List ℕ) (i b : ℕ) → slice_get xs i ≡ Some b → get_or xs i 0 ≡ b
index_get [] i b e = absurd (cc)
index_get (x ∷ xs) zero b e = cc
index_get (x ∷ xs) (suc i) b e = index_get xs i b e

-- a read of the first n bytes of the run
pub stream-read : (w r run : List ℕ) (h : Held) (n : ℕ) → StreamFine w r h → IsRun h run → StreamFine w (r ++ take n run) (after_read (length (take n run)) h)
stream-read w r run h n fine is_run = record {
  held = held-read w h (length (take n run)) fine.held;
  count = length-append r (take n run) ∙ (let a : length r ≡ h.read = fine.count in let c = read-read h (length (take n run)) in omega arith);
  is_prefix = prefix_more r w (take n run) fine.is_prefix (within_take w (length r) n run (λ i b e. rw fine.count (fine.held (h.read + i) b (is_run.held i (slice_get_within run i b e) ∙ ap (λ z. Some z) (index_get run i b e)))));
}
