use Rattle.std.proofs.Common.{◌+◌, max, arith, ap}
use Rattle.std.proofs.lemmas.Result.{on_ok_weaker}
use Rattle.sqlite_trees.specs.View.{View, IsClean}
use Rattle.st_hop_books.proofs.Steps.{payment_drawn}
use Rattle.st_hop_books.proofs.Causes.{err_then, name_here, because_unpaid}
use Rattle.st_hop_books.proofs.paying.enter_payment.Goals as goal

pub returns-clause-drawn : goal.returns-clause-drawn
returns-clause-drawn g c =
    let mid = g.S.Store.view c.set_line.new.store in
    let names = c.args.names.now in
    let p = c.args.payment in
    let name = c.index-names-at.result in
    on_ok_weaker c.add_payment.result (λ put clean starts trail count h.
    let early : IsClean mid = omega (arith, c.add_payment.ensures.quiet.clean, clean) in
    payment_drawn mid (g.S.Store.view c.add_payment.new.store) starts names c.set_line.new.draft trail p c.args.text.now c.args.before name c.requires.words count (name_here names p.account name (omega (arith, c.requires.named, c.if-at-draft.false)) c.index-names-at.is) (put clean)
    ((c.in_ok-set_line.ensures.drawn early).books starts trail h)) c.add_payment.ensures.put

pub returns-clause-cause : goal.returns-clause-cause
returns-clause-cause g c clean =
    let was = g.S.Store.view c.args.store.now in
    let mid = g.S.Store.view c.set_line.new.store in
    let names = c.args.names.now in
    let p = c.args.payment in
    let name = c.index-names-at.result in
    let early : IsClean mid = omega (arith, c.add_payment.ensures.quiet.clean, clean) in
    err_then c.add_payment.result _ _ (λ e h.
    because_unpaid was mid _ _ _ names c.args.draft.now p c.args.text.now (c.args.before.lines + 1) (max c.args.before.latest p.moment) name e c.set_line.ensures.quiet.counts (ap (λ (v : View). v.is_broken) (c.in_ok-set_line.ensures.drawn early).frame) c.in_ok-set_line.ensures.keeps.schema.reals
    (name_here names p.account name (omega (arith, c.requires.named, c.if-at-draft.false)) c.index-names-at.is) h) (c.add_payment.ensures.cause clean)
