use Rattle.std.proofs.Common.{◌+◌, slice_set, length-set, arith, ap, subst, sym, ◌∙◌}
use Rattle.sqlite_trees.specs.View.{View, IsStorableRow}
use Rattle.sqlite_trees.specs.Tree.{put_row}
use Rattle.st_hop_books.specs.Table.{AreBooks, line}
use Rattle.st_hop_books.proofs.LineLemmas.{put_at}
use Rattle.st_hop_books.proofs.Steps.{clean_open, keeps_written, lines_written}
use Rattle.st_hop_books.specs.Errors.{told}
use Rattle.st_hop_books.proofs.Causes.{err_told, because_stored, bad_line}
use Rattle.st_hop_books.proofs.table.set_line.Goals as goal

pub returns-clause-drawn : goal.returns-clause-drawn
returns-clause-drawn g c clean = record {
  frame = c.in_ok-put.ensures.frame clean;
  books = λ starts trail h.
      let was = (g.S.Store.view c.args.store.now).trees in
      let name = c.index-names-at.result in
      let names = c.args.names.now in
      let draft = c.args.draft.now in
      let at = c.args.at in
      let a = c.args.amounts in
      subst (λ db. AreBooks db starts names (slice_set draft at a) trail) (sym (ap (λ (v : View). v.trees) (c.in_ok-put.ensures.ok clean).is))
      (lines_written was (put_row c.write_line.new.row (was 0)) starts names names draft (slice_set draft at a) trail h
      (ap (λ r. put_row r (was 0)) c.in_ok-write_line.ensures.line
      ∙ (ap (put_row (line (at + 1) name a)) h.rows ∙ put_at names draft at name a c.requires.place c.requires.named c.index-names-at.is))
      (omega (arith, c.requires.named, length-set draft at a)));
}

pub returns-clause-keeps : goal.returns-clause-keeps
returns-clause-keeps g c = keeps_written _ _ c.in_ok-put.ensures.schema c.in_ok-put.ensures.frame (clean_open (g.S.Store.view c.put.new.self) (g.met.S.Store.shut_if_dirty c.put.new.self))

pub returns-in_err-put-clause-cause : goal.returns-in_err-put-clause-cause
returns-in_err-put-clause-cause g c clean =
    let was = g.S.Store.view c.args.store.now in
    let e = c.in_err-put.field-0.0 in
    let row = c.write_line.new.row in
    err_told _ c.from_residual-in_err-put.result (told e) c.from_residual-in_err-put.ensures.1
    (because_stored was _ (¬ IsStorableRow (was.reals 0) row) _ e
    (bad_line was c.args.names.now c.args.at c.index-names-at.result c.args.amounts row (omega (arith, c.requires.place, c.requires.named)) c.index-names-at.is c.in_ok-write_line.ensures.line)
    (c.in_err-put.ensures.cause clean))
