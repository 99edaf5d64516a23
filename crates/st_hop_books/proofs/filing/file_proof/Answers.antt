use Rattle.std.proofs.Common.{◌∙◌, ap, arith}
use Rattle.sqlite_trees.specs.View.{View, IsClean}
use Rattle.st_hop_books.specs.Fulfillments.{proof_tree}
use Rattle.st_hop_books.proofs.ProofLemmas.{ordered_table, put_proof}
use Rattle.st_hop_books.proofs.Steps.{clean_open, keeps_written, same_tree}
use Rattle.st_hop_books.proofs.filing.file_proof.Goals as goal

pub returns-clause-keeps : goal.returns-clause-keeps
returns-clause-keeps g c = keeps_written _ _ c.in_ok-put.ensures.schema c.in_ok-put.ensures.frame (clean_open (g.S.Store.view c.put.new.self) (g.met.S.Store.shut_if_dirty c.put.new.self))

pub returns-clause-behind : goal.returns-clause-behind
returns-clause-behind g c clean all is =
    let was = g.S.Store.view c.args.store.now in
    let p = c.args.proof in
    let sets = c.in_ok-put.ensures.ok clean in
    let early : IsClean was = omega (arith, c.put.ensures.quiet.clean, clean) in
    let table = ordered_table (was.shape proof_tree) (was.trees proof_tree) (c.requires early) (g.met.S.Store.ordered c.args.store.now sets.sound proof_tree) in
    ap (λ (v : View). v.trees proof_tree) sets.is ∙ (same_tree was.trees proof_tree _ ∙ (rw c.in_ok-id.ensures.line (put_proof (was.trees proof_tree) c.args.last c.args.name.now p.condition p.fulfillment c.args.amount p.moment all table is)))
