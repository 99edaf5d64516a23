-- A run of both sides is a run of rounds, so it has the same bound. Once nothing is left, all was delivered.
use Rattle.std.proofs.Common.{◌≡◌, ℕ, zero, suc, ◌+◌, ◌≤◌, [], map, max, sum, refl, sym, ap, subst, arith, Option, None, Some}
use Rattle.std.specs.List.{range_with_len}
use Rattle.st_frames.specs.Frames.{frames_of}
use Rattle.st_sender.specs.Sending.{Outgoing, Sending, outgoing_at}
use Rattle.st_sender.specs.Flights.{all_ends, highest_end, sent_end}
use Rattle.st_receiver.specs.Streams.{Receiving, incoming_at}
use Rattle.st_receiver.specs.Judged.{effect}
use Rattle.st_receiver.specs.Limits.{reply_frames}
use Rattle.st_streams.proofs.SlotLemmas.{slot_within}
use Rattle.st_world_quiet.specs.Quiet.{IsQuiet}
use Rattle.st_world_quiet.specs.Left.{work_left}
use Rattle.st_world_quiet.specs.Rounds.{IsSmall, Round, Rounds}
use Rattle.st_world_quiet.specs.Mirrored.{IsAbreast, IsAhead, Tally}
use Rattle.st_world_quiet.specs.Exchanges.{Exchange, Exchanges, IsModest}
use Rattle.st_world_quiet.proofs.Sums.{sum_below}
use Rattle.st_world_quiet.proofs.Lowering.{place_below}
use Rattle.st_world_quiet.proofs.EndRounds.{round_keeps}
use Rattle.st_world_quiet.proofs.Bound.{all_done}
use Rattle.st_world_quiet.proofs.Enough.{tells_enough}
use Rattle.st_world_quiet.proofs.Replies.{acked_is_sent, reply_tells}
use Rattle.st_world_quiet.proofs.Abreast.{round_abreast}

-- ---- if all input is modest, each state of the sender is small

end_within_input : (n : ℕ → ℕ) (s : Sending) (k : ℕ) (o : Option Outgoing) → IsQuiet n s → outgoing_at s k ≡ o → max (sent_end s k (outgoing_at s k)) (highest_end k []) ≤ n k
end_within_input n s k None quiet e = let z : sent_end s k (outgoing_at s k) ≡ 0 = ap (sent_end s k) e in omega (arith, z)
end_within_input n s k (Some x) quiet e =
    let is = acked_is_sent s k x quiet.alone e in
    let within = (quiet.streams k x e).within in
    let total = (quiet.streams k x e).total in
    omega (arith, is, within, total)

ends_within_input : (n : ℕ → ℕ) (s : Sending) → IsQuiet n s → all_ends s [] ≤ sum (map n (range_with_len 0 65))
unfolding all_ends
ends_within_input n s quiet = sum_below (λ k. max (sent_end s k (outgoing_at s k)) (highest_end k [])) n (λ k. end_within_input n s k (outgoing_at s k) quiet refl) 0 65

modest_small : (n : ℕ → ℕ) (s : Sending) → IsModest n → IsQuiet n s → IsSmall s
modest_small n s modest quiet = record {
  ends = (let l = ends_within_input n s quiet in omega (arith, l, modest));
  each = λ k x e. (let within = slot_within s.streams k x e in
      let slots = quiet.slots in
      let below = place_below n k 0 65 (omega arith) (omega (arith, within, slots)) in
      let total = (quiet.streams k x e).total in
      omega (arith, below, total, modest));
}

-- ---- a run of both sides

pub exchange_round : {c : Tally} (n : ℕ → ℕ) (s : Sending) (r : Receiving) (t : Sending) (u : Receiving) → IsModest n → IsQuiet n s → IsAhead n c s r → Exchange n s r t u → Round n s t
exchange_round n s r t u modest quiet abreast x = record {
  limits = x.limits;
  load = x.load;
  told = reply_frames (effect r x.packet x.load.amount) (frames_of x.packet);
  sends = x.sends;
  fills = x.fills;
  tells = tells_enough n s x.limits x.load (reply_frames (effect r x.packet x.load.amount) (frames_of x.packet)) quiet x.sends x.fills (modest_small n s modest quiet) (reply_tells n s x.limits x.load x.packet r quiet x.sends x.fills abreast x.carries);
  left = x.left;
  writes = x.writes;
}

pub exchanges_rounds : {c : Tally} (n : ℕ → ℕ) (m : ℕ) (s : Sending) (r : Receiving) (t : Sending) (u : Receiving) → IsModest n → IsQuiet n s → IsAhead n c s r → Exchanges n m s r t u → Rounds n m s t × IsAhead n c t u
exchanges_rounds {c} n zero s r t u modest quiet abreast run = (run.0, both t u run.0 run.1)
  where
    both : (t : Sending) (u : Receiving) → t ≡ s → u ≡ r → IsAhead n c t u
    both t u e f = subst (λ z. IsAhead n c z u) (sym e) (subst (λ z. IsAhead n c s z) (sym f) abreast)
exchanges_rounds n (suc m) s r t u modest quiet abreast run =
    let mid = run.0 in
    let between = run.1 in
    let x = run.2 in
    let round = exchange_round n s r mid between modest quiet abreast x in
    let kept = round_abreast n s mid x.limits x.load x.packet r between quiet x.sends x.fills abreast x.carries x.reads x.writes in
    let rest = exchanges_rounds n m mid between t u modest (round_keeps n s mid quiet round) kept run.3 in
    ((mid, round, rest.0), rest.1)

-- ---- the end

pub all_had : {c : Tally} (n : ℕ → ℕ) (s : Sending) (r : Receiving) (k : ℕ) (x : Outgoing) → IsQuiet n s → IsAhead n c s r → work_left n s ≡ 0 → outgoing_at s k ≡ Some x
    → ((incoming_at r k).held.read ≡ n k) × ((incoming_at r k).credited ≡ x.offered + c.lost k)
all_had n s r k x quiet ahead done e =
    let is = all_done n s k x quiet done e in
    let bytes = is.bytes in
    let money = is.money in
    let low = ahead.read k in
    let sent = acked_is_sent s k x quiet.alone e in
    let most = ahead.input k in
    let paid = ahead.credited k x e in
    (omega (arith, bytes, low, sent, most), omega (arith, paid, money))

pub all_delivered : (n : ℕ → ℕ) (s : Sending) (r : Receiving) (k : ℕ) (x : Outgoing) → IsQuiet n s → IsAbreast n s r → work_left n s ≡ 0 → outgoing_at s k ≡ Some x
    → ((incoming_at r k).held.read ≡ n k) × ((incoming_at r k).credited ≡ x.offered)
all_delivered n s r k x quiet abreast done e = let all = all_had n s r k x quiet abreast done e in let paid = all.1 in (all.0, omega (arith, paid))
