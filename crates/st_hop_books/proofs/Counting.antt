-- A commit that writes the count of starts as it is.
use Rattle.std.proofs.Common.{◌≡◌, ℕ, List, inl, inr, sym, ap, ◌∙◌, ne_eqb, eq-eqb}
use Rattle.std.proofs.lemmas.Bool.{cases_eq}
use Rattle.std.proofs.Math.Path.{fun_ext}
use Rattle.sqlite_value.specs.Order.{Row}
use Rattle.sqlite_trees.specs.Tree.{Trees, with_tree}
use Rattle.sqlite_trees.specs.View.{View, KeepsCommitted, SetsTree}
use Rattle.st_hop_books.specs.Standing.{ReadsOnly}

-- a tree is written as it was
set_same : (db : Trees) (tree : ℕ) (rows : List Row) → db tree ≡ rows → with_tree db tree rows ≡ db
set_same db tree rows is = fun_ext (λ k. elim (cases_eq k tree) [ inl same ↦ rw (eq-eqb k tree same, same) (sym is) | inr other ↦ rw (ne_eqb k tree other) ])

pub set_reads : (old new : View) (tree : ℕ) (rows : List Row) → SetsTree old new tree (λ _. rows) → old.trees tree ≡ rows → ReadsOnly old new
set_reads old new tree rows sets is = sets.is ∙ ap (λ (db : Trees). record old { trees = db; cursors = new.cursors }) (set_same old.trees tree rows is)

pub reads_keep : (old new : View) → ReadsOnly old new → KeepsCommitted old new
reads_keep old new reads = record {
  shape = ap (λ (v : View). v.shape) reads;
  reals = ap (λ (v : View). v.reals) reads;
  committed_shape = ap (λ (v : View). v.committed_shape) reads;
  committed_reals = ap (λ (v : View). v.committed_reals) reads;
  numbered = ap (λ (v : View). v.is_numbered) reads;
  was_open = λ is_open. sym (ap (λ (v : View). v.is_open) reads) ∙ is_open;
  committed = λ _. ap (λ (v : View). v.committed) reads;
  marks = λ _. ap (λ (v : View). v.marks) reads;
}
