use Rattle.std.proofs.Common.{◌∙◌, sym}
use Rattle.st_reassembly.specs.Ring.{cell}
use Rattle.st_reassembly.proofs.Views.{aborted_held}
use Rattle.st_reassembly.proofs.inbox.Inbox.abort.Goals as goal

pub returns : goal.returns
returns g c =
    aborted_held c.args.self.now (cell c.self.inside.ring.bytes.items c.self.inside.ring.marks.items) (cell c.none.result.bytes.items c.none.result.marks.items) c.self.inside.finished c.self.inside.read c.self.inside.top c.args.code c.self.inside.aborted c.self.view_is
    (sym c.is_over.ensures ∙ c.if-is_over.false) c.none.ensures.empty
