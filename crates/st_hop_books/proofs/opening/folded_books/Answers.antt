use Rattle.std.proofs.Common.{sym, subst}
use Rattle.std.specs.Prelude.{IfSome}
use Rattle.sqlite_trees.specs.Objects.{catalog_tree}
use Rattle.sqlite_trees.specs.View.{View}
use Rattle.st_hop_books.specs.Table.{IsOf}
use Rattle.st_hop_books.proofs.Folding.{takes_folded}
use Rattle.st_hop_books.proofs.Steps.{ok_both, ok_four, ok_then}
use Rattle.st_hop_books.proofs.opening.folded_books.Goals as goal

pub returns-clause-clean : goal.returns-clause-clean
returns-clause-clean g c = ok_then c.folded.result _ _ (λ b clean now. c.in_ok-books_of.ensures.clean (clean now)) c.folded.ensures.clean

pub returns-clause-taken : goal.returns-clause-taken
returns-clause-taken g c =
    ok_four c.folded.result _ _ _ _ _ (λ b sums clean shown crash now. takes_folded _ _ b sums (shown now) crash (c.in_ok-books_of.ensures.taken (clean now)))
    c.folded.ensures.sums c.folded.ensures.clean c.folded.ensures.same c.folded.ensures.crash

pub returns-clause-listed : goal.returns-clause-listed
returns-clause-listed g c = ok_then c.folded.result _ _ (λ b clean made now. c.in_ok-books_of.ensures.listed made (clean now)) c.folded.ensures.clean

pub returns-clause-own : goal.returns-clause-own
returns-clause-own g c =
    ok_both c.folded.result _ _ _ (λ b clean shown now. subst (λ (v : View). IfSome c.args.own (λ a. IsOf a.now (v.committed catalog_tree))) (sym (shown now).1) (c.in_ok-books_of.ensures.own (clean now)))
    c.folded.ensures.clean c.folded.ensures.same
