use Rattle.std.proofs.lemmas.Option.{same_Some}
use Rattle.std.proofs.Common.{◌≡◌, ◌+◌, ◌++◌, ◌∷◌, [], rules, arith, refl, sym, ap, ◌∙◌}
use Rattle.sqlite_trees.specs.View.{View}
use Rattle.st_hop_books.specs.declared.balance.Tally.{Tally}
use Rattle.st_hop_books.specs.Payments.{IsPaymentLine, moment_in}
use Rattle.st_hop_books.specs.Trail.{paid_alone, tally_of}
use Rattle.st_hop_books.specs.Table.{payment_tree}
use Rattle.st_hop_books.proofs.LineLemmas.{from_no_key}
use Rattle.st_hop_books.proofs.PaymentLemmas.{read_payment, tally_more}
use Rattle.st_hop_books.proofs.opening.count_payments.Goals as goal

pub rows-init : goal.rows-init
rows-init g c =
    let all = (g.S.Store.view c.args.store.now).trees payment_tree in
    let placed = rw (c.clear.ensures, from_no_key) at c.in_ok-seek.ensures.ok in (
      λ clean. ([], all, ap (λ (v : View). v.cursors 0) (placed clean), refl, refl, tt),
      c.in_ok-seek.ensures.live,
      λ clean. rw (placed clean),
      search rules,
    )

pub rows-preserved : goal.rows-preserved
rows-preserved g c = (
  λ clean.
      let was = c.rows.invariant.0 (omega (arith, c.next.ensures.quiet.clean)) in
      let step = rw c.if-not-branch.false at (c.in_ok-next.ensures.ok clean) in
      let row = c.next.new.row in
      let left : was.1 ≡ row ∷ step.0 = same_Some _ _ (sym was.2 ∙ step.1) in
      let p = c.in-Some.line in
      let line : IsPaymentLine (c.rows.lines + 1) row =
      record { name = p.name.now; kind = p.kind; side = p.side; text = p.text.now; text_is = (p.rest.now, c.in-Some.ensures.text); amount = p.amount; moment = p.moment; is = c.in-Some.ensures.line } in
      let so_far = ap (λ (t : Tally). t.lines) was.4 in
      let more = read_payment _ was.0 row step.0 (c.rows.lines + 1) (rw left at was.3) (omega (arith, so_far)) was.5 line in
      let lines = ap (λ n. n + 1) so_far in
      let latest = ap moment_in line.is in
      let counted : tally_of (paid_alone (was.0 ++ row ∷ [])) ≡ record { lines = c.rows.lines + 1; latest = p.moment; filed = 0 } =
      tally_more was.0 row ∙ (λ i. let t : Tally = record { lines = lines i; latest = latest i; filed = 0 } in t) in
      (was.0 ++ row ∷ [], step.0, ap (λ (v : View). v.cursors 0) step.2, more.0, counted, more.1),
  search rules,
  search rules,
  search rules,
)
