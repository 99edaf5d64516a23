-- A run by calls in which some Sends are lost is a run of trips.
use Rattle.std.proofs.Common.{◌≡◌, ℕ, ◌+◌, ◌<◌, false, List, [], ◌∷◌, length, sym, ap, subst, ◌∙◌, arith}
use Rattle.st_frames.specs.Frames.{max_packet}
use Rattle.st_reassembly.specs.Run.{run}
use Rattle.st_sender.specs.Sending.{Load, Outgoing}
use Rattle.st_sender.specs.Loads.{Sends, with_flight}
use Rattle.st_receiver.specs.Streams.{Receiving, incoming_at}
use Rattle.st_receiver.specs.Judged.{effect}
use Rattle.st_receiver.specs.Limits.{limits}
use Rattle.st_end.specs.State.{EndState}
use Rattle.st_world_quiet.specs.Quiet.{IsQuiet, IsWaiting}
use Rattle.st_world_quiet.specs.Rounds.{IsWritten}
use Rattle.st_world_quiet.specs.Mirrored.{IsAhead, IsReadOut, Tally}
use Rattle.st_world_quiet.specs.Exchanges.{IsModest, read_each}
use Rattle.st_world_quiet.specs.Losses.{AnswerLost, AreFew, Delivered, Fate, PrepareLost, lost_answers, tally_after}
use Rattle.st_world_quiet.specs.Calls.{AreHeldBack, CanWrite, IsFed, IsHeldBack, lengths, write_each}
use Rattle.st_world_quiet.specs.Trips.{AreJoined, CanTell, Passage, once_received}
use Rattle.st_world_quiet.specs.LostTrips.{Departure, FatedTrip, FatedTrips, FatedTurn, FatedTurns, LostTrip, LostTurn, UnansweredTrip, UnansweredTurn, once_gone, once_unanswered}
use Rattle.st_world_quiet.proofs.Losing.{attempt_fails, once_alive}
use Rattle.st_world_quiet.proofs.Missing.{nothing_held}
use Rattle.st_world_quiet.proofs.ReadingOut.{each_read}
use Rattle.st_world_quiet.proofs.Feeding.{each_held_back, each_written}
use Rattle.st_world_quiet.proofs.Abreast.{effect_slots_long, effect_stays_alive}
use Rattle.st_world_quiet.proofs.Trips.{goes_sends, is_packet_of, packet_of_load}
use Rattle.st_world_quiet.proofs.Turns.{taken_each, turn_trip}
use Rattle.st_world_quiet.proofs.Trying.{HasSpare, one_try}
use Rattle.st_world_quiet.proofs.LostTrips.{faulted_end, goes_faulted, there_after, trip_try}

waiting_fed : (n : ℕ) (x : Outgoing) → IsWaiting n x → IsHeldBack n x → IsFed n x
waiting_fed n x w held = record { row = record { front = w.front; row = w.row; past = w.past; within = w.within }; alive = w.alive; total = w.total; held_back = held }

-- nothing refuses a write once a Send met a fault, while the connection has not failed
pub faulted_writes : (n : ℕ → ℕ) (e : EndState) (p : Load) (payload : List ℕ) → IsModest n → IsQuiet n e.sending → e.receiving.closed ≡ false → AreHeldBack n e.sending → e.sending.failures + 1 < 200 → CanWrite n (faulted_end e p payload)
faulted_writes n e p payload modest quiet unclosed held few = record {
  alive = once_alive e.sending p quiet.alive few;
  unclosed = unclosed;
  slots = quiet.slots;
  modest = modest;
  streams = λ k x at. waiting_fed (n k) x (quiet.streams k x at) (held k x at);
}

-- ---- a Prepare that never came

unfoldable pub lost_turn : {c : Tally} (input : ℕ → List ℕ) (limit : ℕ) (e f g h : EndState) → IsModest (lengths input) → IsQuiet (lengths input) e.sending → IsAhead (lengths input) c e.sending f.receiving → AreHeldBack (lengths input) e.sending → e.sending.failures + 1 < 200
    → LostTurn input limit e f g h → LostTrip (lengths input) e f g h × AreHeldBack (lengths input) g.sending
lost_turn input limit e f g h modest quiet ahead held few x = (
  record {
    departure = w;
    reads = subst (IsReadOut f.receiving) (sym (ap (λ (z : EndState). z.receiving) there)) out;
    read_alone = alone there;
    writes = subst (λ (z : EndState). IsWritten (lengths input) (once_gone w).sending z.sending) (sym x.writes) written.0;
    written_alone = x.writes ∙ written.1 ∙ ap (λ (z : EndState). record (once_gone w) { sending = z.sending }) (sym x.writes);
  },
  subst (λ (z : EndState). AreHeldBack (lengths input) z.sending) (sym x.writes) (each_held_back input (once_gone w) can),
)
  where
    w : Departure e
    w = x.departure

    can : CanWrite (lengths input) (once_gone w)
    can = subst (CanWrite (lengths input)) (sym (goes_faulted e w.gone w.iv w.bytes w.now w.flight quiet.alone w.goes)) (faulted_writes (lengths input) e w.goes.load w.goes.payload modest quiet w.goes.unclosed held few)

    written : (let z = write_each input 0 65 (once_gone w) in IsWritten (lengths input) (once_gone w).sending z.sending × (z ≡ record (once_gone w) { sending = z.sending }))
    written = each_written input (once_gone w) can

    there : h ≡ record f { receiving = read_each limit 0 65 f.receiving }
    there = x.reads ∙ taken_each limit 0 65 f

    alone : {r : Receiving} → h ≡ record f { receiving = r } → h ≡ record f { receiving = h.receiving }
    alone is = is ∙ ap (λ z. record f { receiving = z }) (sym (ap (λ (z : EndState). z.receiving) is))

    out : IsReadOut f.receiving (read_each limit 0 65 f.receiving)
    out = each_read limit f.receiving ahead.mirrored.slots ahead.mirrored.alive (λ k. let none = nothing_held (lengths input) e.sending f.receiving k ahead in omega (arith, none))

-- ---- a Prepare whose answer was lost

unfoldable pub unanswered_turn : {c : Tally} (input : ℕ → List ℕ) (limit : ℕ) (e f g h : EndState) → IsModest (lengths input) → IsQuiet (lengths input) e.sending → IsAhead (lengths input) c e.sending f.receiving → AreJoined e f → CanTell f.receiving → AreHeldBack (lengths input) e.sending → e.sending.failures + 1 < 200
    → UnansweredTurn input limit e f g h → UnansweredTrip (lengths input) e f g h × AreHeldBack (lengths input) g.sending
unanswered_turn input limit e f g h modest quiet ahead joined tellable held few x = (
  record {
    passage = w;
    reads = subst (IsReadOut (once_received f w).receiving) (sym (ap (λ (z : EndState). z.receiving) there)) out;
    read_alone = alone there;
    writes = subst (λ (z : EndState). IsWritten (lengths input) (once_unanswered w).sending z.sending) (sym x.writes) written.0;
    written_alone = x.writes ∙ written.1 ∙ ap (λ (z : EndState). record (once_unanswered w) { sending = z.sending }) (sym x.writes);
  },
  subst (λ (z : EndState). AreHeldBack (lengths input) z.sending) (sym x.writes) (each_held_back input (once_unanswered w) can),
)
  where
    w : Passage e
    w = x.passage

    p : Load
    p = w.goes.load

    sends : Sends e.sending (limits e.receiving) max_packet p (with_flight e.sending p)
    sends = goes_sends e w.gone w.iv w.bytes w.now w.flight w.goes

    came : (once_received f w).receiving ≡ effect f.receiving (packet_of_load p) p.amount
    came = there_after (lengths input) e f quiet ahead joined tellable w

    can : CanWrite (lengths input) (once_unanswered w)
    can = subst (CanWrite (lengths input)) (sym (goes_faulted e w.gone w.iv w.bytes w.now w.flight quiet.alone w.goes)) (faulted_writes (lengths input) e w.goes.load w.goes.payload modest quiet w.goes.unclosed held few)

    written : (let z = write_each input 0 65 (once_unanswered w) in IsWritten (lengths input) (once_unanswered w).sending z.sending × (z ≡ record (once_unanswered w) { sending = z.sending }))
    written = each_written input (once_unanswered w) can

    there : h ≡ record (once_received f w) { receiving = read_each limit 0 65 (once_received f w).receiving }
    there = x.reads ∙ taken_each limit 0 65 (once_received f w)

    alone : {r : Receiving} → h ≡ record (once_received f w) { receiving = r } → h ≡ record (once_received f w) { receiving = h.receiving }
    alone is = is ∙ ap (λ z. record (once_received f w) { receiving = z }) (sym (ap (λ (z : EndState). z.receiving) is))

    out : IsReadOut (once_received f w).receiving (read_each limit 0 65 (once_received f w).receiving)
    out = each_read limit (once_received f w).receiving
        (ap (λ (r : Receiving). length r.streams) came ∙ effect_slots_long (lengths input) e.sending (limits e.receiving) p (packet_of_load p) f.receiving quiet sends ahead (is_packet_of p))
        (λ k. ap (λ (r : Receiving). (incoming_at r k).held.aborted) came ∙ effect_stays_alive (lengths input) e.sending (limits e.receiving) p (packet_of_load p) f.receiving k quiet sends ahead (is_packet_of p))
        x.room

-- ---- one Send, and one for each fate

fated_turn : {c : Tally} (fate : Fate) (fates : List Fate) (input : ℕ → List ℕ) (limit in_row : ℕ) (e f g h : EndState) → IsModest (lengths input) → IsQuiet (lengths input) e.sending → IsAhead (lengths input) c e.sending f.receiving → AreJoined e f → CanTell f.receiving → AreHeldBack (lengths input) e.sending
    → e.sending.failures ≡ in_row → AreFew in_row (fate ∷ fates) → FatedTurn fate input limit e f g h → FatedTrip fate (lengths input) e f g h × AreHeldBack (lengths input) g.sending
fated_turn Delivered fates input limit in_row e f g h modest quiet ahead joined tellable held is few x = turn_trip input limit e f g h modest quiet ahead joined tellable held x
fated_turn PrepareLost fates input limit in_row e f g h modest quiet ahead joined tellable held is few x = lost_turn input limit e f g h modest quiet ahead held (let l = few.0 in omega (arith, is, l)) x
fated_turn AnswerLost fates input limit in_row e f g h modest quiet ahead joined tellable held is few x = unanswered_turn input limit e f g h modest quiet ahead joined tellable held (let l = few.0 in omega (arith, is, l)) x

pub fated_turns : (input : ℕ → List ℕ) (limit : ℕ) (fates : List Fate) (c : Tally) (in_row : ℕ) (e f g h : EndState) → IsModest (lengths input) → IsQuiet (lengths input) e.sending → IsAhead (lengths input) c e.sending f.receiving → HasSpare (lost_answers fates) c e.sending
    → AreJoined e f → CanTell f.receiving → AreHeldBack (lengths input) e.sending → e.sending.failures ≡ in_row → AreFew in_row fates → FatedTurns input limit fates e f g h → FatedTrips (lengths input) fates e f g h
fated_turns input limit [] c in_row e f g h modest quiet ahead spare joined tellable held is few run = run
fated_turns input limit (fate ∷ fates) c in_row e f g h modest quiet ahead spare joined tellable held is few run =
    let n = lengths input in
    let mid = run.0 in
    let between = run.1 in
    let turn = fated_turn fate fates input limit in_row e f mid between modest quiet ahead joined tellable held is few run.2 in
    let try = trip_try fate n e f mid between quiet ahead joined tellable turn.0 in
    let one = one_try fate fates n c e.sending f.receiving mid.sending between.receiving try.tried quiet ahead spare in
    let next = attempt_fails fate fates n e.sending mid.sending in_row quiet one.attempt is few in
    (mid, between, turn.0, fated_turns input limit fates (tally_after fate n e.sending f.receiving mid.sending between.receiving try.tried c) next.1.0 mid between g h modest (one.quiet next.0) one.ahead one.spare try.joined try.tellable turn.1 next.1.1 next.1.2 run.3)
