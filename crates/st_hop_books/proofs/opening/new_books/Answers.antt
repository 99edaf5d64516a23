use Rattle.std.proofs.Common.{◌≡◌, IsTrue, sym, ◌∙◌}
use Rattle.sqlite_trees.specs.View.{IsClean}
use Rattle.st_hop_books.specs.Fulfillments.{proof_tree}
use Rattle.st_hop_books.specs.Table.{payment_tree}
use Rattle.st_hop_books.specs.Standing.{Kept, Takes, trail_of}
use Rattle.st_hop_books.proofs.Steps.{open_sound, ok_both, absent_empty}
use Rattle.st_hop_books.proofs.opening.new_books.Goals as goal

pub make-requires-clause-unlaid : goal.make-requires-clause-unlaid
make-requires-clause-unlaid g c clean =
    let fresh = c.requires.fresh clean in
    c.in_ok-is_unlaid.ensures c.if-not-branch.false clean (open_sound (g.S.Store.view c.args.store) (g.met.S.Store.broken_if_shut c.args.store) fresh.sound) fresh.numbered

pub returns-clause-taken : goal.returns-clause-taken
returns-clause-taken g c =
    let store = c.args.store in
    let was = g.S.Store.view store in
    ok_both c.books_in.result _ _ (λ (b : Kept g.row.S.Denot). IsClean (g.S.Store.view b.store) → IsTrue was.is_open → Takes g.S.Store was.trees b) (λ b taken clean now is_open.
    let late = clean now in
    let early : IsClean was = c.make.ensures.clean late in
    let fresh = c.requires.fresh early in
    let bare = c.in_ok-is_unlaid.ensures c.if-not-branch.false early is_open fresh.numbered in
    let made = c.in_ok-make.ensures.made late in
    let t = taken now in
    record {
      rows = absent_empty (was.shape 0) (was.trees 0) bare.accounts (g.met.S.Store.ordered store fresh.sound 0) ∙ (sym made.rows ∙ t.rows);
      named = t.named;
      audit =
          let paid = absent_empty (was.shape payment_tree) (was.trees payment_tree) bare.payments (g.met.S.Store.ordered store fresh.sound payment_tree) ∙ sym made.audit in
          let proofs = absent_empty (was.shape proof_tree) (was.trees proof_tree) bare.proofs (g.met.S.Store.ordered store fresh.sound proof_tree) ∙ sym made.filed in
          let same : trail_of was.trees ≡ trail_of (g.S.Store.view c.make.new.store).trees = λ i. record { paid = paid i; proofs = proofs i } in
          same ∙ t.audit;
      starts = bare.unstarted ∙ (sym made.counted ∙ t.starts);
      remains = t.remains;
    }) c.books_in.ensures.taken c.books_in.ensures.clean
