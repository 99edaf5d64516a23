use Rattle.std.proofs.Common.{◌≡◌, false, ◌∙◌, sym, subst}
use Rattle.sqlite_trees.specs.Tree.{Trees}
use Rattle.sqlite_trees.specs.View.{IsClean}
use Rattle.sqlite.specs.Held.{state}
use Rattle.sqlite_trees.specs.Objects.{catalog_tree}
use Rattle.st_hop_books.specs.Table.{ListsTables}
use Rattle.st_hop_books.specs.Standing.{Kept, Takes}
use Rattle.st_hop_books.proofs.Steps.{open_sound, ok_both}
use Rattle.st_hop_books.proofs.opening.books_of.Goals as goal

pub new_books-requires-clause-fresh : goal.new_books-requires-clause-fresh
new_books-requires-clause-fresh g c clean =
    c.let_go-store.ensures.fresh clean (open_sound (g.S.Store.view c.let_go-store.result) (g.met.S.Store.broken_if_shut c.let_go-store.result) (sym (c.is_broken.ensures clean) ∙ c.if-is_broken.false))

pub returns-then-is_absent-clause-taken : goal.returns-then-is_absent-clause-taken
returns-then-is_absent-clause-taken g c =
    let store = c.let_go-store.result in
    let v = g.S.Store.view store in
    let target : Trees = (state g.S.Store c.args.conn).committed.trees in
    ok_both c.new_books.result _ _ (λ (b : Kept g.row.S.Denot). IsClean (g.S.Store.view b.store) → Takes g.S.Store target b) (λ b taken early now.
    let clean : IsClean v = early now in
    let is_open = open_sound v (g.met.S.Store.broken_if_shut store) (sym (c.is_broken.ensures clean) ∙ c.if-is_broken.false) in
    subst (λ (db : Trees). Takes g.S.Store db b) (c.let_go-store.ensures.same is_open) (taken now is_open)) c.new_books.ensures.taken c.new_books.ensures.clean

pub returns-else-may_make-clause-taken : goal.returns-else-may_make-clause-taken
returns-else-may_make-clause-taken g c =
    let store = c.let_go-store.result in
    let v = g.S.Store.view store in
    let target : Trees = (state g.S.Store c.args.conn).committed.trees in
    ok_both c.books_in.result _ _ (λ (b : Kept g.row.S.Denot). IsClean (g.S.Store.view b.store) → Takes g.S.Store target b) (λ b taken early now.
    let clean : IsClean v = early now in
    let is_open = open_sound v (g.met.S.Store.broken_if_shut store) (sym (c.is_broken.ensures clean) ∙ c.if-is_broken.false) in
    subst (λ (db : Trees). Takes g.S.Store db b) (c.let_go-store.ensures.same is_open) (taken now)) c.books_in.ensures.taken c.books_in.ensures.clean

pub returns-else-may_make-clause-listed : goal.returns-else-may_make-clause-listed
returns-else-may_make-clause-listed g c =
    let store = c.let_go-store.result in
    let v = g.S.Store.view store in
    let target : Trees = (state g.S.Store c.args.conn).committed.trees in
    ok_both c.books_in.result _ _ (λ (b : Kept g.row.S.Denot). c.args.may_make ≡ false → IsClean (g.S.Store.view b.store) → ListsTables (target catalog_tree)) (λ b listed early no now.
    let clean : IsClean v = early now in
    let is_open = open_sound v (g.met.S.Store.broken_if_shut store) (sym (c.is_broken.ensures clean) ∙ c.if-is_broken.false) in
    subst (λ (db : Trees). ListsTables (db catalog_tree)) (c.let_go-store.ensures.same is_open) (listed now)) c.books_in.ensures.listed c.books_in.ensures.clean
