use Rattle.std.proofs.Common.{◌≡◌, ℕ, ◌-◌, take, drop, rules, arith, sym, ap, ◌∙◌}
use Rattle.sqlite_wal.proofs.FormatLemmas.{part_is}
use Rattle.st_hop_books.specs.Continuing.{list_at}
use Rattle.st_hop_books.proofs.continuing.lists_same.Goals as goal

pub returns-then-at-ge-USED : goal.returns-then-at-ge-USED
returns-then-at-ge-USED c yes' =
    let at = list_at c.args.page.now in
    let none : 4088 - at ≡ 0 = omega (arith, c.if-at-ge-USED.true) in
    part_is c.args.file.now at (4088 - at) ∙ ap (λ (n : ℕ). take n (drop at c.args.file.now)) none
    ∙ sym (part_is c.args.last.now at (4088 - at) ∙ ap (λ (n : ℕ). take n (drop at c.args.last.now)) none)

pub returns : goal.returns
returns c yes' =
    let at = list_at c.args.page.now in
    let same : take (4088 - at) (drop at c.args.file.now) ≡ take (4088 - at) (drop at c.args.last.now) = search (rules, yes') in
    part_is c.args.file.now at (4088 - at) ∙ same ∙ sym (part_is c.args.last.now at (4088 - at))
