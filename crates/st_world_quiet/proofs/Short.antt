-- What one outgoing packet leaves to be read of one stream is no longer than its packet.
use Rattle.std.proofs.Common.{◌≡◌, ℕ, ◌+◌, ◌≤◌, List, length, map, refl, sym, subst, arith, Option, None, Some}
use Rattle.st_frames.specs.Frames.{Known, Packet, max_packet}
use Rattle.st_reassembly.specs.Run.{run}
use Rattle.st_sender.specs.Sending.{Load, Outgoing, Sending, outgoing_at}
use Rattle.st_sender.specs.Flights.{flown, highest_end, sent_end}
use Rattle.st_sender.specs.Loads.{Sends, with_flight}
use Rattle.st_sender.specs.Filling.{Fills}
use Rattle.st_receiver.specs.Streams.{Receiving, incoming_at}
use Rattle.st_receiver.specs.Judged.{after_all, effect}
use Rattle.st_end.specs.State.{EndState}
use Rattle.st_world_quiet.specs.Quiet.{IsQuiet}
use Rattle.st_world_quiet.specs.Mirrored.{IsAhead, IsPacketOf, Tally}
use Rattle.st_world_quiet.specs.Trips.{AreJoined, CanTell, Passage, once_received}
use Rattle.st_world_quiet.proofs.Counting.{data_within, end_moves, none_ends}
use Rattle.st_world_quiet.proofs.Leaving.{effect_reads}
use Rattle.st_world_quiet.proofs.Replies.{acked_is_sent}
use Rattle.st_world_quiet.proofs.Holding.{any_read}
use Rattle.st_world_quiet.proofs.Trips.{both_came, goes_sends, is_packet_of, packet_of_load}

end_most : (n : ℕ → ℕ) (s : Sending) (limits : List Known) (p : Load) (k : ℕ) (o : Option Outgoing) → IsQuiet n s → Sends s limits max_packet p (with_flight s p) → Fills s limits max_packet p → outgoing_at s k ≡ o
    → highest_end k (map flown p.frames) ≤ sent_end s k (outgoing_at s k) + 32739
end_most n s limits p k None quiet sends fills e = let none = none_ends s limits k p.frames sends.due e in omega (arith, none)
end_most n s limits p k (Some x) quiet sends fills e =
    let moves = end_moves n s limits p k x quiet sends fills e in
    let most = data_within k p.frames in
    let room = sends.fits.room_left in
    let sent = acked_is_sent s k x quiet.alone e in
    omega (arith, moves, most, room, sent)

pub run_short : {c : Tally} (n : ℕ → ℕ) (s : Sending) (limits : List Known) (p : Load) (q : Packet) (r : Receiving) (k : ℕ) → IsQuiet n s → Sends s limits max_packet p (with_flight s p) → Fills s limits max_packet p → IsAhead n c s r → IsPacketOf p q
    → length (run (incoming_at (effect r q p.amount) k).held) ≤ 32739
run_short n s limits p q r k quiet sends fills abreast is =
    subst (λ fs. length (run (incoming_at (after_all r p.amount fs) k).held) ≤ 32739) (sym is.frames)
    (let all = any_read n s limits p r k (outgoing_at s k) quiet sends fills abreast refl in
    let most = end_most n s limits p k (outgoing_at s k) quiet sends fills refl in
    let same = effect_reads s limits r p.amount p.frames k sends.due in
    let read = abreast.read k in
    omega (arith, all, most, same, read))

pub passage_short : {c : Tally} (n : ℕ → ℕ) (e f : EndState) → IsQuiet n e.sending → IsAhead n c e.sending f.receiving → AreJoined e f → CanTell f.receiving → (w : Passage e) → (k : ℕ) → length (run (incoming_at (once_received f w).receiving k).held) ≤ 32739
passage_short n e f quiet abreast joined tellable w k =
    let p = w.goes.load in
    let came = both_came n e f quiet abreast joined tellable w in
    subst (λ (z : EndState). length (run (incoming_at z.receiving k).held) ≤ 32739) (sym came.there)
    (run_short n e.sending _ p (packet_of_load p) f.receiving k quiet (goes_sends e w.gone w.iv w.bytes w.now w.flight w.goes) (w.goes.filled.whole quiet.whole) abreast (is_packet_of p))
