use Rattle.std.proofs.Common.{◌∙◌, sym, true, arith}
use Rattle.st_reassembly.specs.Ring.{cell}
use Rattle.st_reassembly.proofs.Views.{end_shown, finished_held, kept_of, same_shown}
use Rattle.st_reassembly.proofs.inbox.Inbox.finish.Goals as goal

pub returns-then-self : goal.returns-then-self
returns-then-self g c =
    same_shown (cell c.self.inside.ring.bytes.items c.self.inside.ring.marks.items) (cell c.none.result.bytes.items c.none.result.marks.items) c.self.inside.read c.self.inside.top (end_shown true c.self.inside.top) c.self.inside.aborted (kept_of c.self.invariant) (omega (arith, c.if-self.true)) c.none.ensures.empty
    ∙ finished_held c.args.self.now (cell c.self.inside.ring.bytes.items c.self.inside.ring.marks.items) c.self.inside.finished c.self.inside.read c.self.inside.top c.self.inside.aborted c.self.view_is
    (sym c.is_over.ensures ∙ c.if-is_over.false) (kept_of c.self.invariant)

pub returns-else-self : goal.returns-else-self
returns-else-self g c =
    finished_held c.args.self.now (cell c.self.inside.ring.bytes.items c.self.inside.ring.marks.items) c.self.inside.finished c.self.inside.read c.self.inside.top c.self.inside.aborted c.self.view_is
    (sym c.is_over.ensures ∙ c.if-is_over.false) (kept_of c.self.invariant)
