use Rattle.std.proofs.Common.{◌+◌, ◌-◌, subst, arith}
use Rattle.std.specs.Prelude.{IsSome}
use Rattle.st_sender.specs.Lanes.{SendStream, due_in}
use Rattle.st_sender.proofs.Said.{lt_of, byte_beyond}
use Rattle.st_sender.proofs.stream.Stream.is_held.Goals as goal

pub returns-clause-yes : goal.returns-clause-yes
returns-clause-yes g c = λ t.
    let end = c.past_due.result in
    let beyond = lt_of (c.sent_end.result + c.args.spare) c.from.result t in
    let b = byte_beyond c.args.self.now end (c.sent_end.result + c.args.spare) (λ h. subst (λ (l : SendStream). IsSome (due_in l (end - 1))) c.self.view_is (c.past_due.ensures.last h)) (omega (arith, beyond, c.from.ensures)) in
    (b.0, b.1, b.2, omega (arith, b.3, c.sent_end.ensures.end))
