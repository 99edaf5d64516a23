use Rattle.std.proofs.Common.{◌+◌, inl, arith, ap}
use Rattle.sqlite_trees.specs.View.{View, IsClean}
use Rattle.st_hop_books.proofs.ProofLemmas.{enters_plain, enters_filed}
use Rattle.st_hop_books.proofs.Causes.{err_told, name_here, because_unfiled}
use Rattle.st_hop_books.proofs.table.enter.Goals as goal

pub returns-in_default-clause-entered : goal.returns-in_default-clause-entered
returns-in_default-clause-entered g c clean =
    enters_plain (g.S.Store.view c.args.store.now) (g.S.Store.view c.enter_sums.new.store) c.args.names.now c.args.draft.now c.enter_sums.new.draft c.args.last.now c.args.booking c.in_default.is (c.in_ok-enter_sums.ensures.drawn clean)

pub bounds-names-payer : goal.bounds-names-payer
bounds-names-payer g c = c.in_ok-enter_sums.ensures.known

pub returns-in_err-last-clause-cause : goal.returns-in_err-last-clause-cause
returns-in_err-last-clause-cause g c clean =
    let was = g.S.Store.view c.args.store.now in
    let mid = g.S.Store.view c.enter_sums.new.store in
    let names = c.args.names.now in
    let b = c.args.booking in
    let name = c.index-names-payer.result in
    let early : IsClean mid = omega (arith, c.file_proof.ensures.quiet.clean, clean) in
    let e = c.in_err-last.field-0.0 in
    err_told _ c.from_residual-in_err-last.result e c.from_residual-in_err-last.ensures.1
    (because_unfiled was mid _ _ _ names c.args.draft.now b c.in-Some.proof (c.args.last.now + 1) name e c.enter_sums.ensures.quiet.counts (ap (λ (v : View). v.is_broken) (c.in_ok-enter_sums.ensures.drawn early).frame) c.in_ok-enter_sums.ensures.keeps.schema.reals
    c.in-Some.is (name_here names b.payer name c.in_ok-enter_sums.ensures.known c.index-names-payer.is) (λ h. inl (inl (omega (arith, h)))) (c.in_err-last.ensures.cause clean))

pub returns-clause-entered : goal.returns-clause-entered
returns-clause-entered g c clean =
    let was = g.S.Store.view c.args.store.now in
    let mid = g.S.Store.view c.enter_sums.new.store in
    let new = g.S.Store.view c.file_proof.new.store in
    let names = c.args.names.now in
    let b = c.args.booking in
    let name = c.index-names-payer.result in
    let early : IsClean mid = omega (arith, c.file_proof.ensures.quiet.clean, clean) in
    enters_filed was mid new names c.args.draft.now c.enter_sums.new.draft c.args.last.now b c.in-Some.proof name _ c.in-Some.is (name_here names b.payer name c.in_ok-enter_sums.ensures.known c.index-names-payer.is) (c.in_ok-enter_sums.ensures.drawn early)
    (c.in_ok-last.ensures.frame clean) (c.in_ok-last.ensures.put clean) (c.in_ok-last.ensures.behind clean)
