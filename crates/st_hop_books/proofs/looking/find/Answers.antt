use Rattle.std.proofs.lemmas.Grind.{common_steps}
use Rattle.std.proofs.lemmas.Option.{same_Some}
use Rattle.std.proofs.Common.{◌≡◌, ◌++◌, ◌∷◌, [], rules, arith, refl, sym, ap, ◌∙◌}
use Rattle.sqlite_trees.specs.View.{View}
use Rattle.st_hop_books.specs.Payments.{HasText}
use Rattle.st_hop_books.specs.Table.{payment_tree}
use Rattle.st_hop_books.specs.Standing.{ReadsOnly}
use Rattle.st_hop_books.proofs.LineLemmas.{from_no_key, snoc_append}
use Rattle.st_hop_books.proofs.PaymentLemmas.{none_more}
use Rattle.st_hop_books.proofs.Steps.{clean_open, keeps_failed, keeps_then, keeps_written, only_reads}
use Rattle.st_hop_books.proofs.looking.find.Goals as goal

pub rows-init : goal.rows-init
rows-init g c =
    let was = g.S.Store.view c.args.store.now in
    let new = g.S.Store.view c.seek.new.self in
    let all = was.trees payment_tree in
    let placed = rw (c.clear.ensures, from_no_key) at c.in_ok-seek.ensures.ok in (
      λ clean. ([], all, ap (λ (v : View). v.cursors 0) (placed clean), refl, tt),
      c.in_ok-seek.ensures.live,
      c.in_ok-seek.ensures.sound,
      keeps_written was new c.in_ok-seek.ensures.schema (λ clean. let reads : ReadsOnly was new = rw (placed clean) in only_reads was new reads) (clean_open new (g.met.S.Store.shut_if_dirty c.seek.new.self)),
      search rules,
    )

pub rows-preserved : goal.rows-preserved
rows-preserved g c =
    let mid = g.S.Store.view c.rows.store in
    let new = g.S.Store.view c.next.new.self in (
      λ clean.
          let was = c.rows.invariant.0 (omega (arith, c.next.ensures.quiet.clean)) in
          let step = rw c.if-not-branch.false at (c.in_ok-next.ensures.ok clean) in
          let row = c.next.new.row in
          let left : was.1 ≡ row ∷ step.0 = same_Some _ _ (sym was.2 ∙ step.1) in
          (was.0 ++ row ∷ [], step.0, ap (λ (v : View). v.cursors 0) step.2, (rw left at was.3) ∙ sym (snoc_append was.0 row step.0), none_more (λ r. (¬ HasText c.args.name.now c.args.paid.now r) × (¬ HasText c.args.name.now c.args.adjusted.now r)) was.0 row was.4 (c.kind_of.ensures.none (search rules))),
      search rules,
      λ clean. c.rows.invariant.2 (omega (arith, c.next.ensures.quiet.clean, clean)),
      keeps_then _ mid new c.rows.invariant.3 (keeps_written mid new c.in_ok-next.ensures.schema (λ clean. only_reads mid new (c.in_ok-next.ensures.moves clean).same) (clean_open new (g.met.S.Store.shut_if_dirty c.next.new.self))),
      search rules,
    )

pub returns-in_err-next-clause-keeps : goal.returns-in_err-next-clause-keeps
returns-in_err-next-clause-keeps g c =
    let mid = g.S.Store.view c.rows.store in
    keeps_then _ mid (g.S.Store.view c.next.new.self) c.rows.invariant.3 (keeps_failed mid (g.S.Store.view c.next.new.self) c.in_err-next.ensures.err.kept)

pub returns-then-not-branch-clause-keeps : goal.returns-then-not-branch-clause-keeps
returns-then-not-branch-clause-keeps g c =
    let mid = g.S.Store.view c.rows.store in
    let new = g.S.Store.view c.next.new.self in
    keeps_then _ mid new c.rows.invariant.3 (keeps_written mid new c.in_ok-next.ensures.schema (λ clean. only_reads mid new (c.in_ok-next.ensures.moves clean).same) (clean_open new (g.met.S.Store.shut_if_dirty c.next.new.self)))

pub returns-in_default-count_in-clause-keeps : goal.returns-in_default-count_in-clause-keeps
returns-in_default-count_in-clause-keeps g c =
    let mid = g.S.Store.view c.rows.store in
    let new = g.S.Store.view c.next.new.self in
    keeps_then _ mid new c.rows.invariant.3 (keeps_written mid new c.in_ok-next.ensures.schema (λ clean. only_reads mid new (c.in_ok-next.ensures.moves clean).same) (clean_open new (g.met.S.Store.shut_if_dirty c.next.new.self)))

pub returns-in-rows-clause-keeps : goal.returns-in-rows-clause-keeps
returns-in-rows-clause-keeps g c =
    let mid = g.S.Store.view c.rows.store in
    let new = g.S.Store.view c.next.new.self in
    keeps_then _ mid new c.rows.invariant.3 (keeps_written mid new c.in_ok-next.ensures.schema (λ clean. only_reads mid new (c.in_ok-next.ensures.moves clean).same) (clean_open new (g.met.S.Store.shut_if_dirty c.next.new.self)))

pub seek-requires-clause-table : goal.seek-requires-clause-table
seek-requires-clause-table g c = grind (arith, common_steps)

pub seek-requires-clause-frozen : goal.seek-requires-clause-frozen
seek-requires-clause-frozen g c = grind (arith, common_steps)

pub returns-in_err-seek-clause-found : goal.returns-in_err-seek-clause-found
returns-in_err-seek-clause-found g c = grind (arith, common_steps)

pub returns-in_err-seek-clause-sound : goal.returns-in_err-seek-clause-sound
returns-in_err-seek-clause-sound g c = grind (arith, common_steps)

pub returns-in_err-seek-clause-keeps : goal.returns-in_err-seek-clause-keeps
returns-in_err-seek-clause-keeps g c = grind (arith, common_steps)

pub returns-in_err-seek-clause-quiet : goal.returns-in_err-seek-clause-quiet
returns-in_err-seek-clause-quiet g c = grind (arith, common_steps)

pub returns-in_err-seek-clause-cause : goal.returns-in_err-seek-clause-cause
returns-in_err-seek-clause-cause g c = grind (arith, common_steps)

pub next-requires : goal.next-requires
next-requires g c = grind (arith, common_steps)

pub returns-in_err-next-clause-found : goal.returns-in_err-next-clause-found
returns-in_err-next-clause-found g c = grind (arith, common_steps)

pub returns-in_err-next-clause-sound : goal.returns-in_err-next-clause-sound
returns-in_err-next-clause-sound g c = grind (arith, common_steps)

pub returns-in_err-next-clause-quiet : goal.returns-in_err-next-clause-quiet
returns-in_err-next-clause-quiet g c = grind (arith, common_steps)

pub returns-in_err-next-clause-cause : goal.returns-in_err-next-clause-cause
returns-in_err-next-clause-cause g c = grind (arith, common_steps)

pub returns-then-not-branch-clause-found : goal.returns-then-not-branch-clause-found
returns-then-not-branch-clause-found g c = grind (arith, common_steps)

pub returns-then-not-branch-clause-sound : goal.returns-then-not-branch-clause-sound
returns-then-not-branch-clause-sound g c = grind (arith, common_steps)

pub returns-then-not-branch-clause-quiet : goal.returns-then-not-branch-clause-quiet
returns-then-not-branch-clause-quiet g c = grind (arith, common_steps)

pub returns-in_default-count_in-clause-quiet : goal.returns-in_default-count_in-clause-quiet
returns-in_default-count_in-clause-quiet g c = grind (arith, common_steps)

pub returns-in_default-count_in-clause-cause : goal.returns-in_default-count_in-clause-cause
returns-in_default-count_in-clause-cause g c = grind (arith, common_steps)

pub returns-in-rows-clause-found : goal.returns-in-rows-clause-found
returns-in-rows-clause-found g c = grind (arith, common_steps)

pub returns-in-rows-clause-sound : goal.returns-in-rows-clause-sound
returns-in-rows-clause-sound g c = grind (arith, common_steps)

pub returns-in-rows-clause-quiet : goal.returns-in-rows-clause-quiet
returns-in-rows-clause-quiet g c = grind (arith, common_steps)

pub returns-clause-keeps : goal.returns-clause-keeps
returns-clause-keeps g c = grind (arith, common_steps)

pub returns-clause-quiet : goal.returns-clause-quiet
returns-clause-quiet g c = grind (arith, common_steps)

pub returns-clause-cause : goal.returns-clause-cause
returns-clause-cause g c = grind (arith, common_steps)
