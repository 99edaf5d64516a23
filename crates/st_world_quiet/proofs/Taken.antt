-- A receiver that is level with a sender of a lossless run, or ahead of it, accepts the frames of its next packet.
use Rattle.std.proofs.Common.{◌≡◌, ℕ, ◌+◌, ◌^◌, ◌<◌, ◌≤◌, List, [], ◌∷◌, length, map, max, sum, refl, sym, ap, ◌∙◌, arith, Option, None, Some, slice_index}
use Rattle.std.specs.List.{range_with_len, AllByRecursion}
use Rattle.st_streams.specs.Slots.{slot}
use Rattle.st_frames.specs.Frames.{Known, CloseFrame, StreamClose, StreamData, StreamMoney, max_packet}
use Rattle.st_sender.specs.Sending.{Load, Outgoing, Sending, outgoing_at}
use Rattle.st_sender.specs.Flights.{end_of, flown, highest_end}
use Rattle.st_sender.specs.Due.{IsDue}
use Rattle.st_sender.specs.Loads.{Sends, with_flight}
use Rattle.st_sender.specs.Filling.{Fills}
use Rattle.st_receiver.specs.Streams.{Receiving, all_read, incoming_at, read_of}
use Rattle.st_receiver.specs.Limits.{capped, connection_limit}
use Rattle.st_receiver.specs.Data.{frames_fault}
use Rattle.st_receiver.proofs.Tracking.{read_is}
use Rattle.st_world_quiet.specs.Quiet.{IsQuiet}
use Rattle.st_world_quiet.specs.Mirrored.{IsAhead, IsMirrored, Tally}
use Rattle.st_world_quiet.proofs.Sums.{sum_below}
use Rattle.st_world_quiet.proofs.Money.{sum_plus}
use Rattle.st_world_quiet.proofs.Keeping.{all_end_accepted}
use Rattle.st_world_quiet.proofs.Counting.{data_fits, data_in, end_at_most, none_ends}
use Rattle.st_world_quiet.proofs.Ends.{end_here}
use Rattle.st_world_quiet.proofs.Receiving.{FrameFits, IsCalm, frames_fine, read_some, sum_slots_same}

-- ---- all that was read

reads_at : (r : Receiving) (k : ℕ) → (incoming_at r k).held.aborted ≡ None → read_of (slot r.streams k) ≡ (incoming_at r k).held.read
reads_at r k alive = sym (read_is (slice_index r.kept k) (slot r.streams k)) ∙ read_some (incoming_at r k) alive

abbrev pub reads_of : Receiving → ℕ → ℕ
reads_of r k = (incoming_at r k).held.read

pub all_read_sum : (r : Receiving) → length r.streams ≡ 65 → ((k : ℕ) → (incoming_at r k).held.aborted ≡ None) → all_read r ≡ sum (map (reads_of r) (range_with_len 0 65))
all_read_sum r slots alive =
    sum_slots_same read_of (reads_of r) r.streams 0 (λ i. at i)
    ∙ ap (λ m. sum (map (reads_of r) (range_with_len 0 m))) slots
  where
    at : (i : ℕ) → read_of (slot r.streams i) ≡ reads_of r (0 + i)
    at i = let p : 0 + i ≡ i = omega arith in rw p (reads_at r i (alive i))

-- ---- how far a stream reaches once an outgoing packet arrived

abbrev pub reaches : Receiving → List Known → ℕ → ℕ
reaches r fs k = max (incoming_at r k).held.read (highest_end k (map flown fs))

pub end_within : (n : ℕ → ℕ) (s : Sending) (limits : List Known) (p : Load) (k : ℕ) (o : Option Outgoing) → IsQuiet n s → Sends s limits max_packet p (with_flight s p) → outgoing_at s k ≡ o → highest_end k (map flown p.frames) ≤ n k
end_within n s limits p k None quiet sends e = let none = none_ends s limits k p.frames sends.due e in omega (arith, none)
end_within n s limits p k (Some x) quiet sends e =
    let most = all_end_accepted n s limits k x p.frames quiet e sends.due in
    let total = (quiet.streams k x e).total in
    omega (arith, most, total)

pub reach_within : {c : Tally} (n : ℕ → ℕ) (s : Sending) (limits : List Known) (p : Load) (r : Receiving) (k : ℕ) → IsQuiet n s → Sends s limits max_packet p (with_flight s p) → IsAhead n c s r → reaches r p.frames k ≤ n k
reach_within n s limits p r k quiet sends ahead =
    let had = ahead.input k in
    let end = end_within n s limits p k (outgoing_at s k) quiet sends refl in
    omega (arith, had, end)

reach_most : {c : Tally} (n : ℕ → ℕ) (s : Sending) (limits : List Known) (p : Load) (r : Receiving) (k : ℕ) → IsQuiet n s → Sends s limits max_packet p (with_flight s p) → Fills s limits max_packet p → IsAhead n c s r
    → reaches r p.frames k ≤ reads_of r k + data_in k p.frames
reach_most n s limits p r k quiet sends fills ahead =
    let most = end_at_most n s limits p k (outgoing_at s k) quiet sends fills refl in
    let read = ahead.read k in
    omega (arith, most, read)

-- all streams together stay within the connection's limit
reach_enough : {c : Tally} (n : ℕ → ℕ) (s : Sending) (limits : List Known) (p : Load) (r : Receiving) → IsQuiet n s → Sends s limits max_packet p (with_flight s p) → Fills s limits max_packet p → IsAhead n c s r
    → sum (map (reaches r p.frames) (range_with_len 0 65)) ≤ connection_limit r
reach_enough n s limits p r quiet sends fills ahead =
    enough _ _ _ _ _ _
    (sum_below (reaches r p.frames) (λ k. reads_of r k + data_in k p.frames) (λ k. reach_most n s limits p r k quiet sends fills ahead) 0 65)
    (sum_plus (reads_of r) (λ k. data_in k p.frames) 0 65)
    (data_fits s limits p quiet.slots sends)
    (all_read_sum r ahead.mirrored.slots ahead.mirrored.alive)
    (sum_below (reaches r p.frames) n (λ k. reach_within n s limits p r k quiet sends ahead) 0 65)
    ahead.modest
  where
    enough : (ends both reads brought read inputs : ℕ) → ends ≤ both → both ≡ reads + brought → brought ≤ 32739 → read ≡ reads → ends ≤ inputs → inputs < 2 ^ 63 → ends ≤ capped (read + 1048576)
    enough ends both reads brought read inputs a b c d e f = omega arith

pub ahead_calm : {c : Tally} (n : ℕ → ℕ) (s : Sending) (limits : List Known) (p : Load) (r : Receiving) → IsQuiet n s → Sends s limits max_packet p (with_flight s p) → Fills s limits max_packet p → IsAhead n c s r → IsCalm (reaches r p.frames) r
ahead_calm n s limits p r quiet sends fills ahead = record {
  slots = ahead.mirrored.slots;
  below = λ k. let b = ahead.mirrored.below k in omega (arith, b);
  alive = ahead.mirrored.alive;
  enough = reach_enough n s limits p r quiet sends fills ahead;
}

-- ---- its frames

frame_fits : (n : ℕ → ℕ) (s : Sending) (limits : List Known) (p : Load) (r : Receiving) (f : Known) → IsQuiet n s → Sends s limits max_packet p (with_flight s p) → IsMirrored s r
    → IsDue s limits f → ((k : ℕ) → end_of k (flown f) ≤ highest_end k (map flown p.frames)) → FrameFits (reaches r p.frames) r f
frame_fits n s limits p r (StreamData j o xs) quiet sends mirror due low =
    let is = end_here j o xs in
    let end = low j in
    let told = sends.fits.streams j due.stream due.is_open in
    let window = mirror.windows j due.stream due.is_open in
    (mirror.named j due.stream due.is_open, omega (arith, is, end), omega (arith, is, end, told, window), omega (arith, is, end, told, window))
frame_fits n s limits p r (StreamMoney j m) quiet sends mirror due low = mirror.named j due.stream due.is_open
frame_fits n s limits p r (CloseFrame (StreamClose j code message)) quiet sends mirror due low = let d = due.0 in mirror.named j d.stream d.is_open
frame_fits n s limits p r f quiet sends mirror due low = tt

pub all_fit : (n : ℕ → ℕ) (s : Sending) (limits : List Known) (p : Load) (r : Receiving) (fs : List Known) → IsQuiet n s → Sends s limits max_packet p (with_flight s p) → IsMirrored s r
    → AllByRecursion (IsDue s limits) fs → ((k : ℕ) → highest_end k (map flown fs) ≤ highest_end k (map flown p.frames)) → AllByRecursion (FrameFits (reaches r p.frames) r) fs
all_fit n s limits p r [] quiet sends mirror due low = tt
all_fit n s limits p r (f ∷ fs) quiet sends mirror due low = (
  frame_fits n s limits p r f quiet sends mirror due.0 (λ k. let l = low k in omega (arith, l)),
  all_fit n s limits p r fs quiet sends mirror due.1 (λ k. let l = low k in omega (arith, l)),
)

pub load_taken : {c : Tally} (n : ℕ → ℕ) (s : Sending) (limits : List Known) (p : Load) (r : Receiving) → IsQuiet n s → Sends s limits max_packet p (with_flight s p) → Fills s limits max_packet p → IsAhead n c s r → frames_fault r p.frames ≡ None
load_taken n s limits p r quiet sends fills ahead =
    frames_fine (reaches r p.frames) r p.frames (ahead_calm n s limits p r quiet sends fills ahead)
    (all_fit n s limits p r p.frames quiet sends ahead.mirrored sends.due (λ k. omega arith))
