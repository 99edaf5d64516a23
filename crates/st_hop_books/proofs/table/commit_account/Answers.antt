use Rattle.std.proofs.Common.{◌++◌, ◌∷◌, [], arith, ap}
use Rattle.std.proofs.lemmas.Result.{on_ok_weaker, on_err_weaker}
use Rattle.sqlite_trees.specs.View.{View, IsClean, OnlyWrites}
use Rattle.st_hop_books.specs.Sums.{nothing}
use Rattle.st_hop_books.specs.Standing.{trail_in}
use Rattle.st_hop_books.proofs.Steps.{clean_open, held_undone, told_holds, told_open, told_crash, line_added}
use Rattle.st_hop_books.proofs.Causes.{because_ended}
use Rattle.st_hop_books.proofs.table.commit_account.Goals as goal

pub returns-clause-holds : goal.returns-clause-holds
returns-clause-holds g c =
    let was = g.S.Store.view c.args.store.now in
    let trail = trail_in was in
    let mid = g.S.Store.view c.add_line-entered.new.store in
    let new = g.S.Store.view c.conclude.new.store in
    let entered = c.add_line-entered in
    let names = c.args.names.now in
    let all = c.args.amounts.now in
    let name = c.args.name.now in
    told_holds was mid new c.args._starts c.args._starts names (names ++ name ∷ []) all (all ++ nothing ∷ []) trail trail c.args._tally c.args._tally c.requires.holds c.conclude.ensures.clean (λ now. omega (arith, entered.ensures.quiet.clean, now))
    (g.met.S.Store.broken_if_shut c.args.store.now) entered.result entered.ensures.frame
    (on_ok_weaker entered.result (λ put now _ h. line_added was mid c.args._starts names all trail name (put now) h) entered.ensures.put) (λ counted. counted)
    (clean_open new (g.met.S.Store.shut_if_dirty c.conclude.new.store)) c.conclude.result c.conclude.ensures.entered c.conclude.ensures.committed

pub returns-clause-undone : goal.returns-clause-undone
returns-clause-undone g c =
    let was = g.S.Store.view c.args.store.now in
    let trail = trail_in was in
    let mid = g.S.Store.view c.add_line-entered.new.store in
    let new = g.S.Store.view c.conclude.new.store in
    let entered = c.add_line-entered in
    on_err_weaker c.conclude.result (λ undone.
    held_undone was mid new c.args._starts c.args.names.now c.args.amounts.now trail c.args._tally c.requires.holds (λ _. entered.ensures.keeps) undone c.conclude.ensures.clean (λ now. omega (arith, entered.ensures.quiet.clean, now))
    (clean_open new (g.met.S.Store.shut_if_dirty c.conclude.new.store))) c.conclude.ensures.undone

pub returns-clause-any_moment : goal.returns-clause-any_moment
returns-clause-any_moment g c now db may =
    let was = g.S.Store.view c.args.store.now in
    let trail = trail_in was in
    let mid = g.S.Store.view c.add_line-entered.new.store in
    let new = g.S.Store.view c.conclude.new.store in
    let entered = c.add_line-entered in
    let names = c.args.names.now in
    let all = c.args.amounts.now in
    let name = c.args.name.now in
    told_crash was mid new c.args._starts c.args._starts names (names ++ name ∷ []) all (all ++ nothing ∷ []) trail trail c.args._tally c.args._tally c.requires.holds c.conclude.ensures.clean (λ now. omega (arith, entered.ensures.quiet.clean, now))
    (g.met.S.Store.broken_if_shut c.args.store.now) entered.result entered.ensures.frame
    (on_ok_weaker entered.result (λ put now _ h. line_added was mid c.args._starts names all trail name (put now) h) entered.ensures.put) (λ counted. counted)
    entered.ensures.quiet.outcomes db now (c.conclude.ensures.crash now db may)

pub returns-clause-stays_open : goal.returns-clause-stays_open
returns-clause-stays_open g c =
    let was = g.S.Store.view c.args.store.now in
    let trail = trail_in was in
    let mid = g.S.Store.view c.add_line-entered.new.store in
    let new = g.S.Store.view c.conclude.new.store in
    let entered = c.add_line-entered in
    told_open was mid new c.args._starts c.args._starts c.args.names.now (c.args.names.now ++ c.args.name.now ∷ []) c.args.amounts.now (c.args.amounts.now ++ nothing ∷ []) trail trail c.args._tally c.args._tally c.requires.holds c.conclude.ensures.clean (λ now. omega (arith, entered.ensures.quiet.clean, now))
    (g.met.S.Store.broken_if_shut c.args.store.now) entered.result entered.ensures.frame (on_ok_weaker entered.result (λ put now _ h. line_added was mid c.args._starts c.args.names.now c.args.amounts.now trail c.args.name.now (put now) h) entered.ensures.put) (λ counted. counted)
    c.conclude.result c.conclude.ensures.entered c.conclude.ensures.committed

pub returns-clause-cause : goal.returns-clause-cause
returns-clause-cause g c now =
    let was = g.S.Store.view c.args.store.now in
    let mid = g.S.Store.view c.add_line-entered.new.store in
    let entered = c.add_line-entered in
    let late = c.conclude.ensures.clean now in
    because_ended was mid _ _ _ _ _ entered.result c.conclude.result entered.ensures.quiet.counts c.conclude.ensures.counts (record { no_account = λ h. h; too_much = λ h. h; too_little = λ h. h; taken = λ h. absurd h; bad_name = λ h. h })
    (on_ok_weaker entered.result (λ (frame : IsClean mid → OnlyWrites was mid). ap (λ (v : View). v.is_broken) (frame late)) entered.ensures.frame)
    (entered.ensures.cause late) (c.conclude.ensures.cause now)
