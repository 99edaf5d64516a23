use Rattle.std.proofs.Common.{arith, ap, subst}
use Rattle.std.proofs.lemmas.Result.{on_ok_weaker, on_err_weaker}
use Rattle.sqlite_trees.specs.View.{View, IsClean, OnlyWrites}
use Rattle.st_hop_books.specs.Payments.{paid_off}
use Rattle.st_hop_books.specs.Trail.{next_tally, with_entry}
use Rattle.st_hop_books.specs.Table.{AreBooks}
use Rattle.st_hop_books.specs.Standing.{trail_in}
use Rattle.st_hop_books.proofs.Steps.{clean_open, held_undone, told_holds, told_open, told_crash, on_ok_both}
use Rattle.st_hop_books.proofs.PaymentLemmas.{one_more}
use Rattle.st_hop_books.proofs.Causes.{because_ended, same_excuses}
use Rattle.st_hop_books.proofs.paying.commit_payment.Goals as goal

pub returns-clause-holds : goal.returns-clause-holds
returns-clause-holds g c =
    let was = g.S.Store.view c.args.store.now in
    let mid = g.S.Store.view c.enter_payment-entered.new.store in
    let new = g.S.Store.view c.conclude.new.store in
    let entered = c.enter_payment-entered in
    let names = c.args.names.now in
    let trail = trail_in was in
    told_holds was mid new c.args._starts c.args._starts names names c.args.draft.now entered.new.draft trail (with_entry trail names c.args.payment c.args.text.now) c.args.before (next_tally c.args.before c.args.payment) c.requires.holds c.conclude.ensures.clean
    (λ now. omega (arith, entered.ensures.quiet.clean, now)) (g.met.S.Store.broken_if_shut c.args.store.now) entered.result entered.ensures.frame
    (on_ok_weaker entered.result (λ d now. d now c.args._starts trail) entered.ensures.drawn) (one_more trail names c.args.payment c.args.text.now c.args.before)
    (clean_open new (g.met.S.Store.shut_if_dirty c.conclude.new.store)) c.conclude.result c.conclude.ensures.entered c.conclude.ensures.committed

pub returns-clause-undone : goal.returns-clause-undone
returns-clause-undone g c =
    let was = g.S.Store.view c.args.store.now in
    let mid = g.S.Store.view c.enter_payment-entered.new.store in
    let new = g.S.Store.view c.conclude.new.store in
    let entered = c.enter_payment-entered in
    on_err_weaker c.conclude.result (λ undone.
    held_undone was mid new c.args._starts c.args.names.now c.args.draft.now (trail_in was) c.args.before c.requires.holds (λ _. entered.ensures.keeps) undone c.conclude.ensures.clean (λ now. omega (arith, entered.ensures.quiet.clean, now))
    (clean_open new (g.met.S.Store.shut_if_dirty c.conclude.new.store))) c.conclude.ensures.undone

pub returns-clause-stays_open : goal.returns-clause-stays_open
returns-clause-stays_open g c =
    let was = g.S.Store.view c.args.store.now in
    let mid = g.S.Store.view c.enter_payment-entered.new.store in
    let new = g.S.Store.view c.conclude.new.store in
    let entered = c.enter_payment-entered in
    let names = c.args.names.now in
    let trail = trail_in was in
    told_open was mid new c.args._starts c.args._starts names names c.args.draft.now entered.new.draft trail (with_entry trail names c.args.payment c.args.text.now) c.args.before (next_tally c.args.before c.args.payment) c.requires.holds c.conclude.ensures.clean
    (λ now. omega (arith, entered.ensures.quiet.clean, now)) (g.met.S.Store.broken_if_shut c.args.store.now) entered.result entered.ensures.frame
    (on_ok_weaker entered.result (λ d now. d now c.args._starts trail) entered.ensures.drawn) (one_more trail names c.args.payment c.args.text.now c.args.before)
    c.conclude.result c.conclude.ensures.entered c.conclude.ensures.committed

pub returns-clause-cause : goal.returns-clause-cause
returns-clause-cause g c now =
    let was = g.S.Store.view c.args.store.now in
    let mid = g.S.Store.view c.enter_payment-entered.new.store in
    let entered = c.enter_payment-entered in
    let late = c.conclude.ensures.clean now in
    because_ended was mid _ _ _ _ _ entered.result c.conclude.result entered.ensures.quiet.counts c.conclude.ensures.counts (same_excuses _)
    (on_ok_weaker entered.result (λ (frame : IsClean mid → OnlyWrites was mid). ap (λ (v : View). v.is_broken) (frame late)) entered.ensures.frame) (entered.ensures.cause late) (c.conclude.ensures.cause now)

pub returns-clause-any_moment : goal.returns-clause-any_moment
returns-clause-any_moment g c now db may =
    let was = g.S.Store.view c.args.store.now in
    let mid = g.S.Store.view c.enter_payment-entered.new.store in
    let new = g.S.Store.view c.conclude.new.store in
    let entered = c.enter_payment-entered in
    let names = c.args.names.now in
    let trail = trail_in was in
    told_crash was mid new c.args._starts c.args._starts names names c.args.draft.now (paid_off c.args.draft.now c.args.payment) trail (with_entry trail names c.args.payment c.args.text.now) c.args.before (next_tally c.args.before c.args.payment) c.requires.holds
    c.conclude.ensures.clean (λ now. omega (arith, entered.ensures.quiet.clean, now)) (g.met.S.Store.broken_if_shut c.args.store.now) entered.result entered.ensures.frame
    (on_ok_both entered.result (λ d is now n h. subst (λ k. AreBooks mid.trees c.args._starts names k (with_entry trail names c.args.payment c.args.text.now)) is (d now c.args._starts trail n h)) entered.ensures.drawn entered.ensures.paid)
    (one_more trail names c.args.payment c.args.text.now c.args.before) entered.ensures.quiet.outcomes db now (c.conclude.ensures.crash now db may)
