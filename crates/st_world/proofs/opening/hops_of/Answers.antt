use Rattle.std.proofs.Common.{◌≡◌, take, ap, ◌∙◌, arith, map}
use Rattle.std.proofs.lemmas.List.{take_all}
use Rattle.st_world.specs.Runs.{new_node}
use Rattle.st_world.specs.Chains.{tables_from}
use Rattle.st_world.proofs.Openings.{account_at, hops_more}
use Rattle.st_world.proofs.opening.hops_of.Goals as goal

pub hop_of-requires-clause-account : goal.hop_of-requires-clause-account
hop_of-requires-clause-account g c = account_at c.args.terms.now c.loop-place.place c.index-terms-place.result c.loop-place-test.true c.index-terms-place.is c.requires.lawful

pub loop-place-preserved : goal.loop-place-preserved
loop-place-preserved g c = hops_more c.args.terms.now c.loop-place.place c.index-terms-place.result c.loop-place.hops.items c.push.new.self.items c.in_ok-hop_of.field-0 c.loop-place-test.true c.index-terms-place.is c.loop-place.invariant c.in_ok-hop_of.ensures c.in_ok-push.ensures.items

pub returns : goal.returns
returns g c =
    let whole : take c.loop-place.place c.args.terms.now ≡ c.args.terms.now = take_all c.loop-place.place c.args.terms.now (omega (arith, c.loop-place-test.false)) in
    c.loop-place.invariant ∙ ap (λ (ts : _). map new_node (tables_from 1 ts)) whole
