use Rattle.std.proofs.Common.{◌≡◌, true, false, sym, ap, ◌∙◌, Bool, arith, rules}
use Rattle.std.specs.Prelude.{bytes_eq, not}
use Rattle.std.specs.List.{list_any}
use Rattle.std.proofs.lemmas.Grind.{common_steps}
use Rattle.ilpstream_settings.proofs.AccountNames.{found_twice, once_more}
use Rattle.ilpstream_settings.proofs.names.are_distinct.Goals as goal

pub returns-then-not-branch : goal.returns-then-not-branch
returns-then-not-branch g c =
    let there : list_any (λ key. bytes_eq c.as_str.result.now key.now) c.loop-name.seen.keys ≡ true = first_of (search rules, grind (arith, common_steps)) in
    found_twice c.args.names.now c.loop-name.name-index _ c.name-item.result c.loop-name.seen.keys c.as_str.result c.loop-name-test.true c.loop-name.invariant.seen c.name-item.is c.as_str.ensures.value there

pub loop-name-preserved : goal.loop-name-preserved
loop-name-preserved g c =
    let none : list_any (λ key. bytes_eq c.as_str.result.now key.now) c.loop-name.seen.keys ≡ false = first_of (search rules, grind (arith, common_steps)) in
    once_more c.args.names.now c.loop-name.name-index _ c.name-item.result c.loop-name.seen.keys c.as_str.result c.loop-name-test.true c.loop-name.invariant.seen c.name-item.is c.as_str.ensures.value none
    c.insert.new.self.keys (rw none at c.in_ok-insert.ensures.keys) c.loop-name.invariant.distinct
