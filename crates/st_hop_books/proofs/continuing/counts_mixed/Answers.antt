use Rattle.std.proofs.Common.{ℕ, subst}
use Rattle.st_hop_books.specs.Continuing.{commits_in, count_before, IsMixed}
use Rattle.st_hop_books.proofs.continuing.counts_mixed.Goals as goal

pub returns : goal.returns
returns c yes' =
    let first = c.args.first.now in
    let last = c.args.last.now in
    let there = c.get_be32-there.result in
    let begun = c.get_be32-begun.result in
    subst (λ (n : ℕ). IsMixed n (count_before (commits_in first)) (commits_in last)) c.get_be32-there.ensures
    (subst (λ (n : ℕ). IsMixed there (count_before n) (commits_in last)) c.get_be32-begun.ensures
    (subst (λ (n : ℕ). IsMixed there (count_before begun) n) c.get_be32-ended.ensures (c.is_mixed.ensures yes')))
