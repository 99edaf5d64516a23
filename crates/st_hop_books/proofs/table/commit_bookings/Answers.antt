use Rattle.std.proofs.Common.{arith, ap, subst}
use Rattle.std.proofs.lemmas.Result.{on_ok_weaker, on_err_weaker}
use Rattle.sqlite_trees.specs.View.{View, IsClean, OnlyWrites}
use Rattle.st_hop_books.specs.Sums.{booked}
use Rattle.st_hop_books.specs.Table.{AreBooks}
use Rattle.st_hop_books.specs.declared.balance.Tally.{Tally}
use Rattle.st_hop_books.specs.Trail.{later_tally, with_bookings}
use Rattle.st_hop_books.specs.Standing.{trail_in}
use Rattle.st_hop_books.proofs.Steps.{clean_open, held_undone, told_holds, told_open, told_crash, on_ok_both, at_ok}
use Rattle.st_hop_books.proofs.ProofLemmas.{later_is}
use Rattle.st_hop_books.proofs.Causes.{because_ended, same_excuses}
use Rattle.st_hop_books.proofs.table.commit_bookings.Goals as goal

pub returns-clause-holds : goal.returns-clause-holds
returns-clause-holds g c =
    let was = g.S.Store.view c.args.store.now in
    let trail = trail_in was in
    let names = c.args.names.now in
    let bookings = c.args.bookings.now in
    let count = c.args.tally.now in
    let mid = g.S.Store.view c.enter_all-entered.new.store in
    let new = g.S.Store.view c.conclude.new.store in
    let entered = c.enter_all-entered in
    told_holds was mid new c.args._starts c.args._starts names names c.args.draft.now entered.new.draft trail (with_bookings trail names bookings) count (later_tally count bookings) c.requires.holds c.conclude.ensures.clean (λ now. omega (arith, entered.ensures.quiet.clean, now))
    (g.met.S.Store.broken_if_shut c.args.store.now) entered.result (on_ok_weaker entered.result (λ e now. (e now).frame) entered.ensures.entered) (on_ok_weaker entered.result (λ e now counted. (e now).books c.args._starts trail (ap (λ (t : Tally). t.filed) counted)) entered.ensures.entered) (later_is trail names bookings count)
    (clean_open new (g.met.S.Store.shut_if_dirty c.conclude.new.store)) c.conclude.result c.conclude.ensures.entered c.conclude.ensures.committed

pub returns-clause-undone : goal.returns-clause-undone
returns-clause-undone g c =
    let was = g.S.Store.view c.args.store.now in
    let trail = trail_in was in
    let names = c.args.names.now in
    let bookings = c.args.bookings.now in
    let count = c.args.tally.now in
    let mid = g.S.Store.view c.enter_all-entered.new.store in
    let new = g.S.Store.view c.conclude.new.store in
    let entered = c.enter_all-entered in
    on_err_weaker c.conclude.result (λ undone.
    held_undone was mid new c.args._starts names c.args.draft.now trail count c.requires.holds (λ _. entered.ensures.keeps) undone c.conclude.ensures.clean (λ now. omega (arith, entered.ensures.quiet.clean, now))
    (clean_open new (g.met.S.Store.shut_if_dirty c.conclude.new.store))) c.conclude.ensures.undone

pub returns-clause-stays_open : goal.returns-clause-stays_open
returns-clause-stays_open g c =
    let was = g.S.Store.view c.args.store.now in
    let trail = trail_in was in
    let names = c.args.names.now in
    let bookings = c.args.bookings.now in
    let count = c.args.tally.now in
    let mid = g.S.Store.view c.enter_all-entered.new.store in
    let new = g.S.Store.view c.conclude.new.store in
    let entered = c.enter_all-entered in
    told_open was mid new c.args._starts c.args._starts names names c.args.draft.now entered.new.draft trail (with_bookings trail names bookings) count (later_tally count bookings) c.requires.holds c.conclude.ensures.clean (λ now. omega (arith, entered.ensures.quiet.clean, now))
    (g.met.S.Store.broken_if_shut c.args.store.now) entered.result (on_ok_weaker entered.result (λ e now. (e now).frame) entered.ensures.entered) (on_ok_weaker entered.result (λ e now counted. (e now).books c.args._starts trail (ap (λ (t : Tally). t.filed) counted)) entered.ensures.entered) (later_is trail names bookings count)
    c.conclude.result c.conclude.ensures.entered c.conclude.ensures.committed

pub returns-clause-cause : goal.returns-clause-cause
returns-clause-cause g c now =
    let was = g.S.Store.view c.args.store.now in
    let mid = g.S.Store.view c.enter_all-entered.new.store in
    let entered = c.enter_all-entered in
    let late = c.conclude.ensures.clean now in
    because_ended was mid _ _ _ _ _ entered.result c.conclude.result entered.ensures.quiet.counts c.conclude.ensures.counts (same_excuses _)
    (on_ok_weaker entered.result (λ (frame : IsClean mid → OnlyWrites was mid). ap (λ (v : View). v.is_broken) (frame late)) (on_ok_weaker entered.result (λ e now. (e now).frame) entered.ensures.entered))
    (entered.ensures.cause late) (c.conclude.ensures.cause now)

pub returns-clause-any_moment : goal.returns-clause-any_moment
returns-clause-any_moment g c now db may =
    let was = g.S.Store.view c.args.store.now in
    let trail = trail_in was in
    let names = c.args.names.now in
    let bookings = c.args.bookings.now in
    let count = c.args.tally.now in
    let mid = g.S.Store.view c.enter_all-entered.new.store in
    let new = g.S.Store.view c.conclude.new.store in
    let entered = c.enter_all-entered in
    told_crash was mid new c.args._starts c.args._starts names names c.args.draft.now (booked c.args.draft.now c.args.bookings.now) trail (with_bookings trail names bookings) count (later_tally count bookings) c.requires.holds c.conclude.ensures.clean (λ now. omega (arith, entered.ensures.quiet.clean, now))
    (g.met.S.Store.broken_if_shut c.args.store.now) entered.result (on_ok_weaker entered.result (λ e now. (e now).frame) entered.ensures.entered)
    (on_ok_both entered.result (λ e is now counted h. subst (λ k. AreBooks mid.trees c.args._starts names k (with_bookings trail names bookings)) is ((e now).books c.args._starts trail (ap (λ (t : Tally). t.filed) counted) h)) entered.ensures.entered entered.ensures.booked) (later_is trail names bookings count)
    entered.ensures.quiet.outcomes db now (c.conclude.ensures.crash now db may)

pub returns-clause-tally : goal.returns-clause-tally
returns-clause-tally g c =
    let entered = c.enter_all-entered in
    let count = c.args.tally.now in
    on_ok_weaker c.conclude.result (λ ok. ap (λ n. let t : Tally = record { lines = count.lines; latest = count.latest; filed = n } in t) (at_ok entered.result ok entered.ensures.last)) c.conclude.ensures.entered
