use Rattle.std.proofs.Common.{◌≡◌, [], false, map, sym, arith, rules}
use Rattle.std.specs.Str.Lines.{lines}
use Rattle.std.proofs.lemmas.Grind.{common_steps}
use Rattle.std.proofs.lemmas.Iterator.Consumers.{map_from_collect}
use Rattle.std.proofs.lemmas.Iterator.Splits.{YieldsList-from_lines}
use Rattle.ilpstream_settings.specs.Table.{Says}
use Rattle.ilpstream_settings.proofs.Tables.{bad_at, lines_more, lines_whole, passed_on, says_more}
use Rattle.ilpstream_settings.proofs.table.read_table.Goals as goal

pub loop-line-init : goal.loop-line-init
loop-line-init g c = rw (c.new-table.ensures.0, c.new-table.ensures.1) Says.ended

pub returns-in_err-take_line-clause-bad : goal.returns-in_err-take_line-clause-bad
returns-in_err-take_line-clause-bad g c =
    let items = rw c.in_ok-lines.was at (map_from_collect _ c.collect.ensures.ran (YieldsList-from_lines c.args.text.now c.lines.ensures.rest)) in
    let all : map (λ w. w.now) c.deref-line-items.result.now ≡ lines c.args.text.now = rw c.deref-line-items.ensures.value items in
    passed_on c.from_residual-in_err-take_line.result c.in_err-take_line.field-0.0 _ c.from_residual-in_err-take_line.ensures.1
    (λ is. bad_at c.args.text.now c.deref-line-items.result.now c.loop-line.line-index (record { ref_ptr = (0, 0); now = [] }) all c.loop-line-test.true
    (rw (c.deref.ensures.value, c.in_ok-words.ensures) at (c.in_err-take_line.ensures.bad is)))

pub loop-line-preserved : goal.loop-line-preserved
loop-line-preserved g c =
    let taken = rw (c.deref.ensures.value, c.in_ok-words.ensures) at c.in_ok-take_line.ensures.taken in
    rw (lines_more c.deref-line-items.result.now c.loop-line.line-index (record { ref_ptr = (0, 0); now = [] }) c.loop-line-test.true)
    (says_more _ _ _ _ _ _ c.loop-line.invariant taken)

pub returns-clause-said : goal.returns-clause-said
returns-clause-said g c =
    let items = rw c.in_ok-lines.was at (map_from_collect _ c.collect.ensures.ran (YieldsList-from_lines c.args.text.now c.lines.ensures.rest)) in
    let all : map (λ w. w.now) c.deref-line-items.result.now ≡ lines c.args.text.now = rw c.deref-line-items.ensures.value items in
    rw (sym all) (rw (lines_whole c.deref-line-items.result.now c.loop-line.line-index c.loop-line-test.false) at c.loop-line.invariant)

pub returns-then-not-branch-clause-same : goal.returns-then-not-branch-clause-same
returns-then-not-branch-clause-same g c _ =
    let items = rw c.in_ok-lines.was at (map_from_collect _ c.collect.ensures.ran (YieldsList-from_lines c.args.text.now c.lines.ensures.rest)) in
    let all : map (λ w. w.now) c.deref-line-items.result.now ≡ lines c.args.text.now = rw c.deref-line-items.ensures.value items in
    let said : Says (lines c.args.text.now) c.loop-line.table.accounts.items c.loop-line.table.routes.items = rw (sym all) (rw (lines_whole c.deref-line-items.result.now c.loop-line.line-index c.loop-line-test.false) at c.loop-line.invariant) in
    let is : c.in_ok-are_distinct.field-0 ≡ false = first_of (search rules, grind (arith, common_steps)) in
    record {
      accounts = c.loop-line.table.accounts.items;
      routes = c.loop-line.table.routes.items;
      says = said;
      twice = rw (c.deref-2.ensures.value, c.in_ok-names.ensures) at (rw is at c.in_ok-are_distinct.ensures);
    }
