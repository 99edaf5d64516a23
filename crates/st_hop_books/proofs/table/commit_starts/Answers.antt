use Rattle.std.proofs.Common.{arith, ap}
use Rattle.std.proofs.lemmas.Result.{on_ok_weaker, on_err_weaker}
use Rattle.sqlite_trees.specs.View.{View, IsClean, OnlyWrites}
use Rattle.st_hop_books.specs.Standing.{trail_in}
use Rattle.st_hop_books.proofs.Steps.{clean_open, held_undone, told_holds, told_open, told_crash, starts_counted, sets_only}
use Rattle.st_hop_books.proofs.Causes.{because_ended, same_excuses}
use Rattle.st_hop_books.proofs.table.commit_starts.Goals as goal

pub returns-clause-holds : goal.returns-clause-holds
returns-clause-holds g c =
    let was = g.S.Store.view c.args.store.now in
    let trail = trail_in was in
    let mid = g.S.Store.view c.set_starts-entered.new.store in
    let new = g.S.Store.view c.conclude.new.store in
    let entered = c.set_starts-entered in
    let names = c.args.names.now in
    let all = c.args.amounts.now in
    told_holds was mid new c.args._before c.args.starts names names all all trail trail c.args._tally c.args._tally c.requires.holds c.conclude.ensures.clean (λ now. omega (arith, entered.ensures.quiet.clean, now))
    (g.met.S.Store.broken_if_shut c.args.store.now) entered.result (on_ok_weaker entered.result (λ set now. sets_only was mid _ _ (set now)) entered.ensures.set)
    (on_ok_weaker entered.result (λ set now _ h. starts_counted was mid c.args._before c.args.starts names all trail (set now) h) entered.ensures.set) (λ counted. counted)
    (clean_open new (g.met.S.Store.shut_if_dirty c.conclude.new.store)) c.conclude.result c.conclude.ensures.entered c.conclude.ensures.committed

pub returns-clause-undone : goal.returns-clause-undone
returns-clause-undone g c =
    let was = g.S.Store.view c.args.store.now in
    let trail = trail_in was in
    let mid = g.S.Store.view c.set_starts-entered.new.store in
    let new = g.S.Store.view c.conclude.new.store in
    let entered = c.set_starts-entered in
    on_err_weaker c.conclude.result (λ undone.
    held_undone was mid new c.args._before c.args.names.now c.args.amounts.now trail c.args._tally c.requires.holds entered.ensures.keeps undone c.conclude.ensures.clean (λ now. omega (arith, entered.ensures.quiet.clean, now))
    (clean_open new (g.met.S.Store.shut_if_dirty c.conclude.new.store))) c.conclude.ensures.undone

pub returns-clause-any_moment : goal.returns-clause-any_moment
returns-clause-any_moment g c now db may =
    let was = g.S.Store.view c.args.store.now in
    let trail = trail_in was in
    let mid = g.S.Store.view c.set_starts-entered.new.store in
    let new = g.S.Store.view c.conclude.new.store in
    let entered = c.set_starts-entered in
    let names = c.args.names.now in
    let all = c.args.amounts.now in
    told_crash was mid new c.args._before c.args.starts names names all all trail trail c.args._tally c.args._tally c.requires.holds c.conclude.ensures.clean (λ now. omega (arith, entered.ensures.quiet.clean, now))
    (g.met.S.Store.broken_if_shut c.args.store.now) entered.result (on_ok_weaker entered.result (λ set now. sets_only was mid _ _ (set now)) entered.ensures.set)
    (on_ok_weaker entered.result (λ set now _ h. starts_counted was mid c.args._before c.args.starts names all trail (set now) h) entered.ensures.set) (λ counted. counted)
    entered.ensures.quiet.outcomes db now (c.conclude.ensures.crash now db may)

pub returns-clause-stays_open : goal.returns-clause-stays_open
returns-clause-stays_open g c =
    let was = g.S.Store.view c.args.store.now in
    let trail = trail_in was in
    let mid = g.S.Store.view c.set_starts-entered.new.store in
    let new = g.S.Store.view c.conclude.new.store in
    let entered = c.set_starts-entered in
    told_open was mid new c.args._before c.args.starts c.args.names.now c.args.names.now c.args.amounts.now c.args.amounts.now trail trail c.args._tally c.args._tally c.requires.holds c.conclude.ensures.clean (λ now. omega (arith, entered.ensures.quiet.clean, now))
    (g.met.S.Store.broken_if_shut c.args.store.now) entered.result (on_ok_weaker entered.result (λ set now. sets_only was mid _ _ (set now)) entered.ensures.set) (on_ok_weaker entered.result (λ set now _ h. starts_counted was mid c.args._before c.args.starts c.args.names.now c.args.amounts.now trail (set now) h) entered.ensures.set) (λ counted. counted)
    c.conclude.result c.conclude.ensures.entered c.conclude.ensures.committed

pub returns-clause-cause : goal.returns-clause-cause
returns-clause-cause g c now =
    let was = g.S.Store.view c.args.store.now in
    let mid = g.S.Store.view c.set_starts-entered.new.store in
    let entered = c.set_starts-entered in
    let late = c.conclude.ensures.clean now in
    because_ended was mid _ _ _ _ _ entered.result c.conclude.result entered.ensures.quiet.counts c.conclude.ensures.counts (same_excuses _)
    (on_ok_weaker entered.result (λ (frame : IsClean mid → OnlyWrites was mid). ap (λ (v : View). v.is_broken) (frame late)) (on_ok_weaker entered.result (λ set now. sets_only was mid _ _ (set now)) entered.ensures.set))
    (entered.ensures.cause late) (c.conclude.ensures.cause now)
