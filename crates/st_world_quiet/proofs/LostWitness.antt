-- Sends may be lost: if only closes are left, there is one whose Prepare is lost, and one whose answer is.
use Rattle.std.proofs.Common.{◌≡◌, ℕ, ◌+◌, ◌<◌, ◌≤◌, false, [], ◌∷◌, refl, ap, arith, Option, None, Some, inl}
use Rattle.st_streams.specs.Table.{put_bytes}
use Rattle.st_frames.specs.Frames.{CloseFrame, StreamClose}
use Rattle.st_sender.specs.Sending.{Load, Outgoing, Sending, outgoing_at}
use Rattle.st_sender.specs.Loads.{load_with}
use Rattle.st_receiver.specs.Streams.{Receiving}
use Rattle.st_receiver.specs.Judged.{effect}
use Rattle.st_world_quiet.specs.Quiet.{IsQuiet, IsWaiting}
use Rattle.st_world_quiet.specs.Left.{all_frames_left, all_money_left}
use Rattle.st_world_quiet.specs.Rounds.{IsRefilled, IsWritten, Refilled}
use Rattle.st_world_quiet.specs.Mirrored.{IsAhead, IsReadOut, Tally}
use Rattle.st_world_quiet.specs.Exchanges.{read_each}
use Rattle.st_world_quiet.specs.Losses.{AnswerLost, Miss, PrepareLost, Tries, once_lost}
use Rattle.st_world_quiet.proofs.Lowering.{no_bytes}
use Rattle.st_world_quiet.proofs.Closing.{close_goes}
use Rattle.st_world_quiet.proofs.Missing.{nothing_held}
use Rattle.st_world_quiet.proofs.ReadingOut.{each_read}
use Rattle.st_world_quiet.proofs.Abreast.{effect_slots_long, effect_stays_alive}
use Rattle.st_world_quiet.proofs.Short.{run_short}
use Rattle.st_world_quiet.proofs.Trips.{is_packet_of, packet_of_load}

-- a stream whose input was written needs no write
same_refilled : (n : ℕ) (x : Outgoing) → IsWaiting n x → n ≤ x.acked_end → IsRefilled n x x
unfolding put_bytes
same_refilled n x w all = record {
  more = [];
  clean = x.clean;
  is = (let z : x.accepted ≡ x.accepted + 0 = omega arith in ap (λ a. record x { accepted = a }) z);
  total = w.total;
  full = inl (let within = w.within in let total = w.total in omega (arith, within, total, all));
  closed = w.closed;
}

same_written : (n : ℕ → ℕ) (v : Sending) → ((k : ℕ) (x : Outgoing) → outgoing_at v k ≡ Some x → IsRefilled (n k) x x) → IsWritten n v v
same_written n v full = record { streams = λ k. by k (outgoing_at v k) refl; slots = refl; rest = refl }
  where
    by : (k : ℕ) (o : Option Outgoing) → outgoing_at v k ≡ o → Refilled (n k) o (outgoing_at v k)
    by k None e = e
    by k (Some x) e = (x, e, full k x e)

-- the close of a stream
abbrev the_close : Sending → (stream : ℕ) → Load
the_close s k = load_with s ((CloseFrame (StreamClose k 1 [])) ∷ [])

close_missed : (n : ℕ → ℕ) (s : Sending) (k : ℕ) (x : Outgoing) → IsQuiet n s → all_frames_left n s ≡ 0 → all_money_left s ≡ 0 → outgoing_at s k ≡ Some x → x.clean_settled ≡ false → s.last + 1 < s.config.packets → Miss n s (once_lost s (the_close s k))
close_missed n s k x quiet none poor e unsettled left = record {
  limits = [];
  load = the_close s k;
  sends = (close_goes n s [] k x quiet none poor e unsettled).0;
  left = left;
  writes = same_written n (once_lost s (the_close s k)) (λ j y at. same_refilled (n j) y (quiet.streams j y at) (let acked = no_bytes n s j y quiet.slots none at in omega (arith, acked)));
}

-- if nothing can be read, nothing changes
nothing_out : {c : Tally} (n : ℕ → ℕ) (s : Sending) (r : Receiving) → IsAhead n c s r → IsReadOut r r
nothing_out n s r ahead = record {
  slots = refl;
  names = λ k. refl;
  read = λ k. (let none = nothing_held n s r k ahead in omega (arith, none));
  bytes = λ k q l. refl;
  end = λ k. refl;
  aborted = λ k. refl;
  highest = λ k. refl;
  receive_max = λ k. refl;
  credited = λ k. refl;
  closed = refl;
  fulfilled = refl;
  credit = refl;
}

pub prepare_may_be_lost : {c : Tally} (n : ℕ → ℕ) (s : Sending) (r : Receiving) (k : ℕ) (x : Outgoing) → IsQuiet n s → IsAhead n c s r → all_frames_left n s ≡ 0 → all_money_left s ≡ 0 → outgoing_at s k ≡ Some x → x.clean_settled ≡ false → s.last + 1 < s.config.packets
    → (t : Sending) × (u : Receiving) × Tries n (PrepareLost ∷ []) s r t u
prepare_may_be_lost n s r k x quiet ahead none poor e unsettled left =
    let miss = close_missed n s k x quiet none poor e unsettled left in
    (once_lost s (the_close s k), r, (once_lost s (the_close s k), r, record { miss = miss; reads = nothing_out n s r ahead }, (refl, refl)))

pub answer_may_be_lost : {c : Tally} (n : ℕ → ℕ) (s : Sending) (r : Receiving) (k : ℕ) (x : Outgoing) → IsQuiet n s → IsAhead n c s r → all_frames_left n s ≡ 0 → all_money_left s ≡ 0 → outgoing_at s k ≡ Some x → x.clean_settled ≡ false → s.last + 1 < s.config.packets
    → (t : Sending) × (u : Receiving) × Tries n (AnswerLost ∷ []) s r t u
unfolding close_missed
answer_may_be_lost n s r k x quiet ahead none poor e unsettled left =
    let miss = close_missed n s k x quiet none poor e unsettled left in
    let goes = close_goes n s [] k x quiet none poor e unsettled in
    let p = the_close s k in
    let q = packet_of_load p in
    let after = effect r q p.amount in
    let out = each_read 32739 after (effect_slots_long n s [] p q r quiet goes.0 ahead (is_packet_of p)) (λ j. effect_stays_alive n s [] p q r j quiet goes.0 ahead (is_packet_of p)) (λ j. run_short n s [] p q r j quiet goes.0 goes.1 ahead (is_packet_of p)) in
    (once_lost s p, read_each 32739 0 65 after, (once_lost s p, read_each 32739 0 65 after, record { miss = miss; packet = q; fills = goes.1; carries = is_packet_of p; reads = out }, (refl, refl)))
