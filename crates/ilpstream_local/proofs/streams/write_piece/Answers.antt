use Rattle.std.proofs.Common.{◌<◌, ◌≤◌, ◌+◌, ◌-◌, ◌/◌, ◌%◌, ℕ, length, take, drop, refl, sym, subst, arith, div-mul-le_self, le_of_lt, lt_of_lt_of_le, mod-lt}
use Rattle.ilpstream_local.specs.Parts.{part_size, stream_at}
use Rattle.ilpstream_local.specs.Playing.{Sends, Writes}
use Rattle.ilpstream_local.proofs.Cuts.{has_size, place_within, stays_within}
use Rattle.ilpstream_local.proofs.Plays.{sends_none, sends_piece}
use Rattle.ilpstream_local.proofs.Rounds.{denied_next, not_both, writes_one}
use Rattle.ilpstream_local.proofs.streams.write_piece.Goals as goal

pub part_size-size-requires : goal.part_size-size-requires
part_size-size-requires g c = c.requires.some

pub nonzero_div-place : goal.nonzero_div-place
nonzero_div-place g c = subst (λ (n : ℕ). 0 < n) (sym c.part_size-size.ensures) (has_size (length c.args.input.now) c.args.streams c.requires.some (omega (arith, c.requires.left)))

pub nonzero_rem-sent : goal.nonzero_rem-sent
nonzero_rem-sent g c = subst (λ (n : ℕ). 0 < n) (sym c.part_size-size.ensures) (has_size (length c.args.input.now) c.args.streams c.requires.some (omega (arith, c.requires.left)))

pub overflow_sub-size : goal.overflow_sub-size
overflow_sub-size g c =
    let some : 0 < c.part_size-size.result = subst (λ (n : ℕ). 0 < n) (sym c.part_size-size.ensures) (has_size (length c.args.input.now) c.args.streams c.requires.some (omega (arith, c.requires.left))) in
    le_of_lt (mod-lt c.args.sent.now some)

pub overflow_sub-input : goal.overflow_sub-input
overflow_sub-input g c = le_of_lt c.requires.left

pub stream_at-requires : goal.stream_at-requires
stream_at-requires g c =
    subst (λ (n : ℕ). c.args.sent.now / n < 32) (sym c.part_size-size.ensures)
    (lt_of_lt_of_le (place_within (length c.args.input.now) c.args.streams c.args.sent.now c.requires.some c.requires.left) c.requires.few)

pub returns-in_err-taken-clause-writes : goal.returns-in_err-taken-clause-writes
returns-in_err-taken-clause-writes g c = writes_one _ _ c.args.play.now c.write.new.self c.write.ensures.event

pub returns-in_err-taken-clause-sent : goal.returns-in_err-taken-clause-sent
returns-in_err-taken-clause-sent g c = sends_none (part_size (length c.args.input.now) c.args.streams) c.args.input.now c.args.sent.now c.args.play.now c.write.new.self c.in_err-taken.ensures.missed

pub returns-then-taken-clause-writes : goal.returns-then-taken-clause-writes
returns-then-taken-clause-writes g c = writes_one _ _ c.args.play.now c.write.new.self c.write.ensures.event

pub returns-then-taken-clause-some : goal.returns-then-taken-clause-some
returns-then-taken-clause-some g c = λ _.
    let some : 0 < c.part_size-size.result = subst (λ (n : ℕ). 0 < n) (sym c.part_size-size.ensures) (has_size (length c.args.input.now) c.args.streams c.requires.some (omega (arith, c.requires.left))) in
    let rest = mod-lt c.args.sent.now some in
    omega (arith, rest, c.requires.left, c.min.ensures, c.min-count.ensures)

pub returns-then-taken-clause-denied : goal.returns-then-taken-clause-denied
returns-then-taken-clause-denied g c = λ no. absurd (not_both c.in_ok-taken.taken c.if-taken.true no)

pub returns-else-taken-clause-writes : goal.returns-else-taken-clause-writes
returns-else-taken-clause-writes g c = writes_one _ _ c.args.play.now c.write.new.self c.write.ensures.event

pub returns-else-taken-clause-some : goal.returns-else-taken-clause-some
returns-else-taken-clause-some g c = λ yes. absurd (not_both c.in_ok-taken.taken yes c.if-taken.false)

pub returns-else-taken-clause-denied : goal.returns-else-taken-clause-denied
returns-else-taken-clause-denied g c = λ no.
    let to = c.args.sent.now + c.min-count.result in (
      refl,
      denied_next (part_size (length c.args.input.now) c.args.streams) c.part_size-size.result c.stream_at.result (to - c.args.sent.now) c.args.input.now c.args.sent.now c.args.play.now c.write.new.self c.part_size-size.ensures
          c.stream_at.ensures (omega (arith, c.min.ensures, c.min-count.ensures)) (c.in_ok-taken.ensures.denied no),
    )

pub returns-then-taken-clause-sent : goal.returns-then-taken-clause-sent
returns-then-taken-clause-sent g c =
    let size = c.part_size-size.result in
    let input = c.args.input.now in
    let sent = c.args.sent.now in
    let to = c.args.sent.now + c.min-count.result in
    let some : 0 < size = subst (λ (n : ℕ). 0 < n) (sym c.part_size-size.ensures) (has_size (length input) c.args.streams c.requires.some (omega (arith, c.requires.left))) in
    let few : c.min-count.result ≤ size - sent % size = omega (arith, c.min.ensures, c.min-count.ensures) in
    let taken = rw c.if-taken.true at c.in_ok-taken.ensures.taken in
    let wrote : Writes (stream_at (sent / size)) (take (to - sent) (drop sent input)) c.args.play.now c.write.new.self =
    subst (λ (k : ℕ). Writes k (take (to - sent) (drop sent input)) c.args.play.now c.write.new.self) c.stream_at.ensures taken in
    subst (λ (n : ℕ). Sends n input sent to c.args.play.now c.write.new.self) c.part_size-size.ensures
    (sends_piece size input sent to (sent / size) (take (to - sent) (drop sent input)) c.args.play.now c.write.new.self (div-mul-le_self sent size) (omega arith) (stays_within sent size c.min-count.result some few) refl wrote)

pub returns-else-taken-clause-sent : goal.returns-else-taken-clause-sent
returns-else-taken-clause-sent g c =
    sends_none (part_size (length c.args.input.now) c.args.streams) c.args.input.now c.args.sent.now c.args.play.now c.write.new.self (rw c.if-taken.false at c.in_ok-taken.ensures.taken)
