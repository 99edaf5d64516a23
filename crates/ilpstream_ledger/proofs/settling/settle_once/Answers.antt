use Rattle.std.proofs.Common.{Option, subst}
use Rattle.sqlite_trees.specs.View.{IsClean}
use Rattle.st_hop_books.specs.declared.balance.Entry.{Entry}
use Rattle.st_hop_books.specs.Payments.{Finds, name_at}
use Rattle.st_hop_books.specs.Standing.{trail_in}
use Rattle.ilpstream_ledger.proofs.Repeats.{once_now, why_unpaid}
use Rattle.ilpstream_ledger.proofs.settling.settle_once.Goals as goal

pub returns-in-Err-pay-clause-why : goal.returns-in-Err-pay-clause-why
returns-in-Err-pay-clause-why g c =
    why_unpaid g.S.Store c.args.books.now c.pay.new.self c.args.name.now c.args.side c.args.entry c.args.moment c.args.reference.now c.in-Some.at c.in-Err-pay.error c.entered.new.self
    c.in-Some.ensures.found c.in-Ok-None.ensures.same c.in-Err-pay.ensures.cause

pub returns-in-Ok-clause-once : goal.returns-in-Ok-clause-once
returns-in-Ok-clause-once g c =
    once_now g.S.Store c.args.books.now c.pay.new.self c.args.name.now c.args.side c.args.entry c.args.moment c.args.reference.now c.in-Some.at c.entered.new.self
    c.in-Some.ensures.found
    (λ clean. subst (λ (o : Option Entry). Finds (trail_in (g.S.Store.view c.args.books.now.store)).paid (name_at c.args.books.now.names c.in-Some.at) c.args.side c.args.reference.now o) c.in-Ok-None.field-0-is (c.in-Ok-None.ensures.found clean))
    c.in-Ok-None.ensures.same c.in-Ok.ensures.covered c.in-Ok.ensures.paid
