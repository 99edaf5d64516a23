use Rattle.std.proofs.Common.{◌+◌, ◌≤◌, subst, arith}
use Rattle.std.specs.Prelude.{IsSome}
use Rattle.st_sender.specs.Lanes.{SendStream, due_in}
use Rattle.st_sender.proofs.Said.{lt_of, some_byte}
use Rattle.st_sender.proofs.stream.Stream.may_fly.Goals as goal

pub returns-clause-yes : goal.returns-clause-yes
returns-clause-yes g c = λ t.
    let from = c.in-Some.from in
    let below = lt_of c.from.result (c.sent_end.result + c.args.spare) t in
    let found = some_byte (due_in c.args.self.now from) (subst (λ (l : SendStream). IsSome (due_in l from)) c.self.view_is (c.in-Some.ensures.due from (omega arith) c.in-Some.ensures.some)) in
    record {
      offset = from;
      byte = found.0;
      due = found.1;
      stream = subst (λ (l : SendStream). from + 1 ≤ l.out.told) c.self.view_is (omega (arith, c.if-self-from.false));
      connection = omega (arith, below, c.from.ensures, c.sent_end.ensures.end);
    }
