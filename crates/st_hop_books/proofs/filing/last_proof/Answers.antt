use Rattle.std.proofs.lemmas.Option.{same_Some}
use Rattle.std.proofs.Common.{◌≡◌, ◌++◌, ◌∷◌, [], rules, arith, refl, sym, ap, ◌∙◌}
use Rattle.sqlite_trees.specs.View.{View}
use Rattle.st_hop_books.specs.Payments.{count_of}
use Rattle.st_hop_books.specs.Fulfillments.{proof_tree, IsProofLine}
use Rattle.st_hop_books.proofs.LineLemmas.{from_no_key, snoc_append}
use Rattle.st_hop_books.proofs.PaymentLemmas.{none_more}
use Rattle.st_hop_books.proofs.ProofLemmas.{last_of_push}
use Rattle.st_hop_books.proofs.filing.last_proof.Goals as goal

pub rows-init : goal.rows-init
rows-init g c =
    let all = (g.S.Store.view c.args.store.now).trees proof_tree in
    let placed = rw (c.clear.ensures, from_no_key) at c.in_ok-seek.ensures.ok in (
      λ clean. ([], all, ap (λ (v : View). v.cursors 0) (placed clean), refl, refl, tt),
      c.in_ok-seek.ensures.live,
      λ clean. rw (placed clean),
      search rules,
    )

pub rows-preserved : goal.rows-preserved
rows-preserved g c = (
  λ clean.
      let was = c.rows.invariant.0 (omega (arith, c.next.ensures.quiet.clean)) in
      let step = rw c.if-not-branch.false at (c.in_ok-next.ensures.ok clean) in
      let row = c.next.new.row in
      let left : was.1 ≡ row ∷ step.0 = same_Some _ _ (sym was.2 ∙ step.1) in (
        was.0 ++ row ∷ [],
        step.0,
        ap (λ (v : View). v.cursors 0) step.2,
        (rw left at was.3) ∙ sym (snoc_append was.0 row step.0),
        last_of_push was.0 row ∙ ap count_of c.in-Some.ensures.1,
        none_more IsProofLine was.0 row was.5 c.in-Some.ensures.0,
      ),
  search rules,
  search rules,
  search rules,
)
