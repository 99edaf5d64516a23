use Rattle.std.proofs.lemmas.Option.{same_Some}
use Rattle.std.specs.List.{AllByRecursion}
use Rattle.std.proofs.Common.{◌≡◌, ◌≢◌, subst, ◌+◌, ◌∷◌, [], length, length-append, rules, arith, refl, sym, ap, ◌∙◌}
use Rattle.sqlite_trees.specs.View.{View}
use Rattle.st_hop_books.specs.Table.{line}
use Rattle.st_hop_books.proofs.LineLemmas.{from_no_key, read_more}
use Rattle.st_hop_books.proofs.Distinct.{distinct_push}
use Rattle.st_hop_books.proofs.opening.read_lines.Goals as goal

pub rows-init : goal.rows-init
rows-init g c =
    let all = (g.S.Store.view c.args.store.now).trees 0 in
    let placed = rw (c.clear.ensures, from_no_key) at c.in_ok-seek.ensures.ok in (
      λ clean. (all, ap (λ (v : View). v.cursors 0) (placed clean), rw c.new-names.ensures.items refl),
      c.in_ok-seek.ensures.live,
      λ clean. rw (placed clean),
      search rules,
      rw (c.new-names.ensures.items, c.new-amounts.ensures.items) refl,
      rw (c.new-names.ensures.items) tt,
    )

pub rows-preserved : goal.rows-preserved
rows-preserved g c = (
  λ clean.
      let was = c.rows.invariant.0 (omega (arith, c.next.ensures.quiet.clean)) in
      let step = rw c.if-not-branch.false at (c.in_ok-next.ensures.ok clean) in
      let row = c.next.new.row in
      let left : was.0 ≡ row ∷ step.0 = same_Some _ _ (sym was.1 ∙ step.1) in
      let is : row ≡ line (length c.rows.names.items + 1) c.in_ok-from_slice.field-0 c.in-Some.found = rw (c.len.ensures, c.rows.names.ok.0, ← c.in_ok-from_slice.ensures) at c.in-Some.ensures in (
        step.0,
        ap (λ (v : View). v.cursors 0) step.2,
        rw (c.in_ok-push.ensures.items, c.in_ok-push-2.ensures.items)
            (read_more _ c.rows.names.items c.rows.amounts.items row step.0 c.in_ok-from_slice.field-0 c.in-Some.found c.rows.invariant.4 (rw left at was.2) is),
      ),
  search rules,
  search rules,
  search rules,
  rw (c.in_ok-push.ensures.items, c.in_ok-push-2.ensures.items)
      (omega (arith, length-append c.rows.names.items (c.in_ok-from_slice.field-0 ∷ []), length-append c.rows.amounts.items (c.in-Some.found ∷ []), c.rows.invariant.4)),
  rw (c.in_ok-push.ensures.items) (distinct_push c.rows.names.items c.in_ok-from_slice.field-0 c.rows.invariant.5 (subst (λ n. AllByRecursion (λ other. other ≢ n) c.rows.names.items) (sym c.in_ok-from_slice.ensures) (rw (c.as_slice.ensures.value) at (c.place_of.ensures.missing c.in-None.is)))),
)
