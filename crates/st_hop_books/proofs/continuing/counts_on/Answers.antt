use Rattle.std.proofs.Common.{inl, inr, ℕ, ◌+◌, ◌%◌, ◌^◌, sym, ap, ◌∙◌}
use Rattle.st_hop_books.proofs.continuing.counts_on.Goals.{else-there-begun-via-then-there-begun+else-there-ended, else-there-begun-via-else-there-begun}
use Rattle.st_hop_books.proofs.continuing.counts_on.Goals as goal

pub returns : goal.returns
returns c yes' = elim c.else-there-begun.branch [
  | else-there-begun-via-then-there-begun+else-there-ended w ↦ inr (sym c.get_be32-there.ensures ∙ w.if-there-ended.false ∙ c.get_be32-ended.ensures)
  | else-there-begun-via-else-there-begun w ↦ inl (sym c.get_be32-begun.ensures ∙ sym w.if-there-begun.false ∙ ap (λ (n : ℕ). (n + 1) % 2 ^ 32) c.get_be32-there.ensures)
]
