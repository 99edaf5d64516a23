use Rattle.std.proofs.lemmas.Grind.{common_steps}
use Rattle.std.proofs.Common.{arith, sym, ◌∙◌}
use Rattle.sqlite_trees.specs.Objects.{catalog_tree}
use Rattle.st_hop_books.proofs.Listed.{lists_tables, lists_own}
use Rattle.st_hop_books.proofs.laying.lists_books.Goals as goal

pub returns-clause-listed : goal.returns-clause-listed
returns-clause-listed g c both clean sound loads =
    let v = g.S.Store.view c.args.store.now in
    let it = c.in_ok-is_listed.ensures c.if-not-branch.false in
    (lists_tables (v.trees catalog_tree) c.deref.result.now v.shape v.reals (c.deref.ensures.value ∙ c.in_ok-objects.ensures clean) it.0 it.1 it.2 it.3 it.4 it.5 it.6 it.7 it.8.0 (g.met.S.Alter.listed c.args.store.now sound)
    (sym c.shape.ensures ∙ c.is_table.ensures c.if-not-is_table.false) (sym c.shape-4.ensures ∙ c.is_table-3.ensures both) (sym c.shape-2.ensures ∙ c.is_table-2.ensures c.if-not-is_table-2.false) (sym c.shape-3.ensures ∙ c.is_pageless.ensures c.if-not-is_pageless.false)
    (omega (arith, c.reals-account_reals.ensures, c.if-account_reals-ne0.false)) (omega (arith, c.reals-payment_reals.ensures, c.if-payment_reals-ne0.false)) (omega (arith, c.reals-proof_reals.ensures, c.if-proof_reals-ne0.false)) (omega (arith, c.reals-stamp_reals.ensures, c.if-stamp_reals-ne0.false)) loads).0

pub returns-clause-own : goal.returns-clause-own
returns-clause-own g c both clean sound loads =
    let v = g.S.Store.view c.args.store.now in
    let it = c.in_ok-is_listed.ensures c.if-not-branch.false in
    lists_own (v.trees catalog_tree) c.deref.result.now v.shape v.reals (c.deref.ensures.value ∙ c.in_ok-objects.ensures clean) it.0 it.1 it.2 it.3 it.4 it.5 it.6 it.7 it.8.0 (g.met.S.Alter.listed c.args.store.now sound)
    (sym c.shape.ensures ∙ c.is_table.ensures c.if-not-is_table.false) (sym c.shape-4.ensures ∙ c.is_table-3.ensures both) (sym c.shape-2.ensures ∙ c.is_table-2.ensures c.if-not-is_table-2.false) (sym c.shape-3.ensures ∙ c.is_pageless.ensures c.if-not-is_pageless.false)
    (omega (arith, c.reals-account_reals.ensures, c.if-account_reals-ne0.false)) (omega (arith, c.reals-payment_reals.ensures, c.if-payment_reals-ne0.false)) (omega (arith, c.reals-proof_reals.ensures, c.if-proof_reals-ne0.false)) (omega (arith, c.reals-stamp_reals.ensures, c.if-stamp_reals-ne0.false)) loads c.args.own it.8.1

pub returns-in_err-objects-clause-table : goal.returns-in_err-objects-clause-table
returns-in_err-objects-clause-table g c = grind (arith, common_steps)

pub returns-in_err-objects-clause-audit : goal.returns-in_err-objects-clause-audit
returns-in_err-objects-clause-audit g c = grind (arith, common_steps)

pub returns-in_err-objects-clause-filed : goal.returns-in_err-objects-clause-filed
returns-in_err-objects-clause-filed g c = grind (arith, common_steps)

pub returns-in_err-objects-clause-listed : goal.returns-in_err-objects-clause-listed
returns-in_err-objects-clause-listed g c = grind (arith, common_steps)

pub returns-in_err-objects-clause-own : goal.returns-in_err-objects-clause-own
returns-in_err-objects-clause-own g c = grind (arith, common_steps)

pub returns-in_err-is_listed-clause-table : goal.returns-in_err-is_listed-clause-table
returns-in_err-is_listed-clause-table g c = grind (arith, common_steps)

pub returns-in_err-is_listed-clause-audit : goal.returns-in_err-is_listed-clause-audit
returns-in_err-is_listed-clause-audit g c = grind (arith, common_steps)

pub returns-in_err-is_listed-clause-filed : goal.returns-in_err-is_listed-clause-filed
returns-in_err-is_listed-clause-filed g c = grind (arith, common_steps)

pub returns-in_err-is_listed-clause-listed : goal.returns-in_err-is_listed-clause-listed
returns-in_err-is_listed-clause-listed g c = grind (arith, common_steps)

pub returns-in_err-is_listed-clause-own : goal.returns-in_err-is_listed-clause-own
returns-in_err-is_listed-clause-own g c = grind (arith, common_steps)

pub returns-then-not-branch-clause-table : goal.returns-then-not-branch-clause-table
returns-then-not-branch-clause-table g c = grind (arith, common_steps)

pub returns-then-not-branch-clause-audit : goal.returns-then-not-branch-clause-audit
returns-then-not-branch-clause-audit g c = grind (arith, common_steps)

pub returns-then-not-branch-clause-filed : goal.returns-then-not-branch-clause-filed
returns-then-not-branch-clause-filed g c = grind (arith, common_steps)

pub returns-then-not-branch-clause-listed : goal.returns-then-not-branch-clause-listed
returns-then-not-branch-clause-listed g c = grind (arith, common_steps)

pub returns-then-not-branch-clause-own : goal.returns-then-not-branch-clause-own
returns-then-not-branch-clause-own g c = grind (arith, common_steps)

pub returns-then-account_reals-ne0-clause-table : goal.returns-then-account_reals-ne0-clause-table
returns-then-account_reals-ne0-clause-table g c = grind (arith, common_steps)

pub returns-then-account_reals-ne0-clause-audit : goal.returns-then-account_reals-ne0-clause-audit
returns-then-account_reals-ne0-clause-audit g c = grind (arith, common_steps)

pub returns-then-account_reals-ne0-clause-filed : goal.returns-then-account_reals-ne0-clause-filed
returns-then-account_reals-ne0-clause-filed g c = grind (arith, common_steps)

pub returns-then-account_reals-ne0-clause-own : goal.returns-then-account_reals-ne0-clause-own
returns-then-account_reals-ne0-clause-own g c = grind (arith, common_steps)

pub returns-then-payment_reals-ne0-clause-table : goal.returns-then-payment_reals-ne0-clause-table
returns-then-payment_reals-ne0-clause-table g c = grind (arith, common_steps)

pub returns-then-payment_reals-ne0-clause-audit : goal.returns-then-payment_reals-ne0-clause-audit
returns-then-payment_reals-ne0-clause-audit g c = grind (arith, common_steps)

pub returns-then-payment_reals-ne0-clause-filed : goal.returns-then-payment_reals-ne0-clause-filed
returns-then-payment_reals-ne0-clause-filed g c = grind (arith, common_steps)

pub returns-then-payment_reals-ne0-clause-own : goal.returns-then-payment_reals-ne0-clause-own
returns-then-payment_reals-ne0-clause-own g c = grind (arith, common_steps)

pub returns-then-stamp_reals-ne0-clause-table : goal.returns-then-stamp_reals-ne0-clause-table
returns-then-stamp_reals-ne0-clause-table g c = grind (arith, common_steps)

pub returns-then-stamp_reals-ne0-clause-audit : goal.returns-then-stamp_reals-ne0-clause-audit
returns-then-stamp_reals-ne0-clause-audit g c = grind (arith, common_steps)

pub returns-then-stamp_reals-ne0-clause-filed : goal.returns-then-stamp_reals-ne0-clause-filed
returns-then-stamp_reals-ne0-clause-filed g c = grind (arith, common_steps)

pub returns-then-stamp_reals-ne0-clause-listed : goal.returns-then-stamp_reals-ne0-clause-listed
returns-then-stamp_reals-ne0-clause-listed g c = grind (arith, common_steps)

pub returns-then-stamp_reals-ne0-clause-own : goal.returns-then-stamp_reals-ne0-clause-own
returns-then-stamp_reals-ne0-clause-own g c = grind (arith, common_steps)

pub returns-then-proof_reals-ne0-clause-table : goal.returns-then-proof_reals-ne0-clause-table
returns-then-proof_reals-ne0-clause-table g c = grind (arith, common_steps)

pub returns-then-proof_reals-ne0-clause-audit : goal.returns-then-proof_reals-ne0-clause-audit
returns-then-proof_reals-ne0-clause-audit g c = grind (arith, common_steps)

pub returns-then-proof_reals-ne0-clause-filed : goal.returns-then-proof_reals-ne0-clause-filed
returns-then-proof_reals-ne0-clause-filed g c = grind (arith, common_steps)

pub returns-then-proof_reals-ne0-clause-listed : goal.returns-then-proof_reals-ne0-clause-listed
returns-then-proof_reals-ne0-clause-listed g c = grind (arith, common_steps)

pub returns-then-proof_reals-ne0-clause-own : goal.returns-then-proof_reals-ne0-clause-own
returns-then-proof_reals-ne0-clause-own g c = grind (arith, common_steps)

pub returns-then-not-is_table-clause-table : goal.returns-then-not-is_table-clause-table
returns-then-not-is_table-clause-table g c = grind (arith, common_steps)

pub returns-then-not-is_table-clause-audit : goal.returns-then-not-is_table-clause-audit
returns-then-not-is_table-clause-audit g c = grind (arith, common_steps)

pub returns-then-not-is_table-clause-filed : goal.returns-then-not-is_table-clause-filed
returns-then-not-is_table-clause-filed g c = grind (arith, common_steps)

pub returns-then-not-is_table-clause-listed : goal.returns-then-not-is_table-clause-listed
returns-then-not-is_table-clause-listed g c = grind (arith, common_steps)

pub returns-then-not-is_table-clause-own : goal.returns-then-not-is_table-clause-own
returns-then-not-is_table-clause-own g c = grind (arith, common_steps)

pub returns-then-not-is_table-2-clause-table : goal.returns-then-not-is_table-2-clause-table
returns-then-not-is_table-2-clause-table g c = grind (arith, common_steps)

pub returns-then-not-is_table-2-clause-audit : goal.returns-then-not-is_table-2-clause-audit
returns-then-not-is_table-2-clause-audit g c = grind (arith, common_steps)

pub returns-then-not-is_table-2-clause-filed : goal.returns-then-not-is_table-2-clause-filed
returns-then-not-is_table-2-clause-filed g c = grind (arith, common_steps)

pub returns-then-not-is_table-2-clause-listed : goal.returns-then-not-is_table-2-clause-listed
returns-then-not-is_table-2-clause-listed g c = grind (arith, common_steps)

pub returns-then-not-is_table-2-clause-own : goal.returns-then-not-is_table-2-clause-own
returns-then-not-is_table-2-clause-own g c = grind (arith, common_steps)

pub returns-then-not-is_pageless-clause-table : goal.returns-then-not-is_pageless-clause-table
returns-then-not-is_pageless-clause-table g c = grind (arith, common_steps)

pub returns-then-not-is_pageless-clause-audit : goal.returns-then-not-is_pageless-clause-audit
returns-then-not-is_pageless-clause-audit g c = grind (arith, common_steps)

pub returns-then-not-is_pageless-clause-filed : goal.returns-then-not-is_pageless-clause-filed
returns-then-not-is_pageless-clause-filed g c = grind (arith, common_steps)

pub returns-then-not-is_pageless-clause-listed : goal.returns-then-not-is_pageless-clause-listed
returns-then-not-is_pageless-clause-listed g c = grind (arith, common_steps)

pub returns-then-not-is_pageless-clause-own : goal.returns-then-not-is_pageless-clause-own
returns-then-not-is_pageless-clause-own g c = grind (arith, common_steps)

pub returns-clause-table : goal.returns-clause-table
returns-clause-table g c = grind (arith, common_steps)

pub returns-clause-audit : goal.returns-clause-audit
returns-clause-audit g c = grind (arith, common_steps)

pub returns-clause-filed : goal.returns-clause-filed
returns-clause-filed g c = grind (arith, common_steps)
