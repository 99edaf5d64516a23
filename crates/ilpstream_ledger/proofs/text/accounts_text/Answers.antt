use Rattle.std.proofs.Common.{arith}
use Rattle.std.proofs.lemmas.Grind.{common_steps}
use Rattle.st_hop_books.specs.Sums.{nothing}
use Rattle.ilpstream_ledger.specs.Texts.{accounts_text}
use Rattle.ilpstream_ledger.proofs.Lines.{next_line}
use Rattle.ilpstream_ledger.proofs.text.accounts_text.Goals as goal

pub loop-at-init : goal.loop-at-init
unfolding accounts_text
loop-at-init g c = c.new-text.ensures.items

pub loop-at-preserved : goal.loop-at-preserved
loop-at-preserved g c =
    let books = c.args.books.now in
    let text = c.in_ok-extend_from_slice.ensures.items in
    let slice = c.as_slice.ensures.value in
    let line = c.in_ok-line.ensures in
    let before = c.loop-at.invariant in
    let amounts = c.amounts-amounts.ensures.value in
    let next = next_line books.names books.amounts c.loop-at.at c.in-Some.name.now nothing c.amounts-amounts.ensures.named c.in-Some.ensures.named in
    cc

pub unreachable-requires : goal.unreachable-requires
unreachable-requires g c = grind (arith, common_steps)

pub unreachable-unreachable : goal.unreachable-unreachable
unreachable-unreachable g c = grind (arith, common_steps)

pub offset_bounds-amounts-at : goal.offset_bounds-amounts-at
offset_bounds-amounts-at g c = grind (arith, common_steps)

pub bounds-amounts-at : goal.bounds-amounts-at
bounds-amounts-at g c = grind (arith, common_steps)

pub returns-in_err-line : goal.returns-in_err-line
returns-in_err-line g c = grind (arith, common_steps)

pub returns-in_err-extend_from_slice : goal.returns-in_err-extend_from_slice
returns-in_err-extend_from_slice g c = grind (arith, common_steps)

pub returns : goal.returns
returns g c = grind (arith, common_steps)
